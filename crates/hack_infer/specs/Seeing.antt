-- What is seen of a named type: what an alias stands for, whether it is bad, and what it gives a class above it (docs/language.md,
-- Typing expressions, Heads).
use Rattle.std.specs.Prelude.{ℕ, ◌==◌, Bool, if◌then◌else◌, Option, Some, None, List, map, option_and_then, option_map}
use Rattle.hack_types.specs.Substituted.{limited, substitute}
use Rattle.hack_types.specs.declared.hack_type.HackType.{HackType}
use Rattle.hack_decls.specs.DeclState.{Map}
use Rattle.hack_decls.specs.Names.{class_symbol}
use Rattle.hack_sub.specs.Knowing.{ancestor_by, expanded, is_bad, known}
use Rattle.hack_sub.specs.Parts.{arguments_of, name_of}
use Rattle.hack_infer.specs.declared.sight.Sight.{Sight}
use Rattle.hack_infer.specs.declared.sight.Sight.TheVariants as sight

-- how often aliases are looked through
abbrev pub most_steps : ℕ
most_steps = 16

-- what an alias stands for, with its arguments put in, and `_` where that has too many nodes
abbrev pub opened : Map → HackType → Option HackType
opened map ty = option_map limited (expanded map ty)

-- whether a type is an alias, bad, or neither
abbrev pub sight_by : Bool → Option HackType → Sight
sight_by bad (Some next) = sight.Alias next
sight_by bad None = if bad then sight.Bad else sight.Other

abbrev pub sight_of : Map → HackType → Sight
sight_of map ty = sight_by (is_bad (known map ty)) (opened map ty)

-- a type with arguments put in, and `_` where that has too many nodes
abbrev pub put_in : List HackType → HackType → HackType
put_in arguments ty = limited (substitute arguments ty)

-- what a class gives an ancestor of another name
abbrev pub ancestor_given : Map → ℕ → List HackType → ℕ → Option (List HackType)
ancestor_given m class arguments name = option_map (map (put_in arguments)) (ancestor_by name (m (class_symbol class)))

-- the arguments that `C<..>` gives D: its own where D is C, and else those that C gives its ancestor D, with C's put in
abbrev pub given : Map → ℕ → List HackType → ℕ → Option (List HackType)
given m class arguments name = if class == name then Some arguments else ancestor_given m class arguments name

-- the arguments that a class type gives the class of this name, where it is that or stands below it
abbrev pub seen_as : Map → ℕ → HackType → Option (List HackType)
seen_as m name ty = option_and_then (λ class. given m class (arguments_of ty) name) (name_of ty)
