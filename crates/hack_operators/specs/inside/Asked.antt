-- How the class of an operand is asked for.
use Rattle.std.specs.Prelude.{Bool, false, if◌then◌else◌, Option, Some, None, List, [], ◌∷◌}
use Rattle.hack_types.specs.declared.hack_type.HackType.{HackType, out-HackType}
use Rattle.hack_types.specs.declared.hack_type.HackType.TheOpen.{HackType-F}
use Rattle.hack_types.specs.declared.hack_type.HackType.TheVariants as type
use Rattle.hack_decls.specs.DeclState.{Map}
use Rattle.hack_rules.specs.Operators as rules
use Rattle.hack_sub.specs.IsBelow.{is_below}
use Rattle.hack_sub.specs.Sub.{most_height}
use Rattle.hack_sub.specs.declared.scope.Scope.{Scope}
use Rattle.hack_operators.specs.Seen.{class_seen}
use Rattle.hack_operators.specs.declared.class.OperandClass.{OperandClass}
use Rattle.hack_operators.specs.declared.class.OperandClass.TheVariants as class

-- the class that a type has by its former alone
abbrev pub class_by : {T : Type 0} → HackType-F T → Option OperandClass
class_by HackType-F.Any = Some class.Error
class_by HackType-F.Nothing = Some class.Error
class_by HackType-F.Int = Some class.Int
class_by HackType-F.Float = Some class.Float
class_by HackType-F.Num = Some class.Num
class_by HackType-F.Str = Some class.Str
class_by HackType-F.Bool = Some class.Bool
class_by HackType-F.Arraykey = Some class.Arraykey
class_by _ = None

abbrev pub plain_class : HackType → Option OperandClass
plain_class ty = class_by (out-HackType ty)

-- whether a type is below the one that a class is named by
abbrev pub is_of : Map → Scope → HackType → OperandClass → Bool
is_of map scope ty class.Int = is_below map scope most_height ty type.Int
is_of map scope ty class.Float = is_below map scope most_height ty type.Float
is_of map scope ty class.Num = is_below map scope most_height ty type.Num
is_of map scope ty class.Str = is_below map scope most_height ty type.Str
is_of map scope ty class.Bool = is_below map scope most_height ty type.Bool
is_of map scope ty class.Arraykey = is_below map scope most_height ty type.Arraykey
is_of map scope ty class.Error = false
is_of map scope ty class.Other = false

-- the classes in the order in which they are asked for
abbrev pub asked : List OperandClass
asked = class.Int ∷ class.Float ∷ class.Num ∷ class.Str ∷ class.Bool ∷ class.Arraykey ∷ []

-- the first of these that passes
abbrev pub first_of : (OperandClass → Bool) → List OperandClass → rules.OperandClass
first_of test [] = rules.other
first_of test (c ∷ cs) = if test c then class_seen c else first_of test cs
