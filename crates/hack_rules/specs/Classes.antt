-- Names of classes before `::` and behind `new`, and the words that stand there (docs/language.md, Typing expressions, Members).
use Rattle.std.specs.Prelude.{ℕ, Bool, true, false, Option, Some, None, List, [], map, find, option_and_then, option_map, codes}
use Rattle.hack_tree.specs.declared.expression.ClassReference.{ClassReference}
use Rattle.hack_tree.specs.declared.expression.ClassReference.TheVariants as reference
use Rattle.hack_types.specs.declared.hack_type.HackType.{HackType}
use Rattle.hack_types.specs.declared.hack_type.HackType.TheVariants as type
use Rattle.hack_types.specs.declared.place.Place.{Place}
use Rattle.hack_types.specs.declared.shallow.Sort.{Sort}
use Rattle.hack_types.specs.declared.shallow.Sort.TheVariants as sort
use Rattle.hack_decls.specs.DeclState.{Map}
use Rattle.hack_decls.specs.Names.{class_symbol}
use Rattle.hack_decls.specs.declared.folded.Ancestor.{Ancestor}
use Rattle.hack_decls.specs.declared.folded.ClassFolded.{ClassFolded}
use Rattle.hack_decls.specs.declared.folded.Folded.{Folded}
use Rattle.hack_decls.specs.declared.folded.Folded.TheVariants as folded
use Rattle.hack_sub.specs.Knowing.{is_trait, parameters_by}
use Rattle.hack_sub.specs.Parts.{name_of}
use Rattle.hack_sub.specs.Scopes.{class_type}
use Rattle.hack_sub.specs.declared.scope.Scope.{Scope}
use Rattle.hack_diag.specs.Messages.{not_allowed, trait_as_type, unbound_type}
use Rattle.hack_rules.specs.Walks.{Walk, ◌>>=◌, ◌>>◌, pure, reads, report}

-- what is declared, where that is a class, an interface or a trait
abbrev pub class_by : Option Folded → Option ClassFolded
class_by (Some (folded.ClassLike class)) = Some class
class_by _ = None

-- the class, interface or trait of this name
abbrev pub class_named : Map → ℕ → Option ClassFolded
class_named map name = class_by (map (class_symbol name))

-- the name of the scope's class
abbrev pub scope_class : Scope → Option ℕ
scope_class scope = option_map (λ class. class.0) scope.class

-- a class, and neither an interface nor a trait
abbrev pub is_class_sort : Sort → Bool
is_class_sort sort.Class = true
is_class_sort _ = false

-- the same of what is declared
abbrev pub is_class_by : Option ClassFolded → Bool
is_class_by None = false
is_class_by (Some class) = is_class_sort class.sort

-- the same of what is declared under a name
abbrev pub is_class : Map → ℕ → Bool
is_class map name = is_class_by (class_named map name)

-- the ancestors, none of what is no class
abbrev pub ancestors_by : Option ClassFolded → List Ancestor
ancestors_by None = []
ancestors_by (Some class) = class.ancestors

-- the first class among the ancestors of the scope's class, with its arguments
unfoldable pub parent_type : Map → Scope → Option HackType
parent_type map scope =
    option_map (λ ancestor. type.Class ancestor.name ancestor.arguments)
    (find (λ ancestor. is_class map ancestor.name) (ancestors_by (option_and_then (class_named map) (scope_class scope))))

-- `this`, inside a class
abbrev pub this_type : Option ℕ → Option HackType
this_type None = None
this_type (Some class) = Some type.This

-- the type that a word stands for, where there is one
abbrev pub word_type : ClassReference → Map → Scope → Option HackType
word_type (reference.Named name) map scope = None
word_type reference.Self_ map scope = class_type scope
word_type reference.Static map scope = this_type (scope_class scope)
word_type reference.Parent map scope = parent_type map scope

-- the word as 4020 shows it
abbrev pub word_text : ClassReference → List ℕ
word_text (reference.Named name) = []
word_text reference.Self_ = codes "self"
word_text reference.Static = codes "static"
word_text reference.Parent = codes "parent"

-- 4020 where a word has no type here
unfoldable pub allowed_by : Place → ClassReference → Option HackType → Walk (Option HackType)
allowed_by at word (Some ty) = pure (Some ty)
allowed_by at word None = do
  report at (not_allowed (word_text word))
  pure None

-- whether it is a trait is told
abbrev pub mentioned_trait : Place → ℕ → Folded → Bool → Walk (Option Folded)
mentioned_trait at name declaration false = pure (Some declaration)
mentioned_trait at name declaration true = do
  report at (trait_as_type name)
  pure None

-- a name is a mention: 3001 where nothing is declared, 3004 for a trait, and nothing goes on from either
abbrev pub mentioned_by : Place → ℕ → Option Folded → Walk (Option Folded)
mentioned_by at name None = do
  report at (unbound_type name)
  pure None
mentioned_by at name (Some (folded.ClassLike class)) = mentioned_trait at name (folded.ClassLike class) (is_trait class.sort)
mentioned_by at name (Some declaration) = pure (Some declaration)

-- the mention of a name before `::` or behind `new`
unfoldable pub mentioned : Place → ℕ → Walk (Option Folded)
mentioned at name = do
  declaration ← reads (λ map scope. map (class_symbol name))
  mentioned_by at name declaration

-- the class of this name with `_` for each of its parameters
abbrev pub class_with_any : ℕ → Folded → HackType
class_with_any name declaration = type.Class name (map (λ param. type.Any) (parameters_by (Some declaration)))

-- the type that stands before `::`; nothing where the expression is `_`
unfoldable pub referred : Place → ClassReference → Walk (Option HackType)
referred at (reference.Named name) = do
  declaration ← mentioned at name
  pure (option_map (class_with_any name) declaration)
referred at word = do
  ty ← reads (word_type word)
  allowed_by at word ty

-- a name, where there is one
abbrev pub name_or : Option ℕ → ℕ
name_or None = 0
name_or (Some name) = name

-- the name that 4008 shows: as it is written, the parent's, or that of the scope's class
abbrev pub shown_name : ClassReference → HackType → Scope → ℕ
shown_name (reference.Named name) ty scope = name
shown_name reference.Parent ty scope = name_or (name_of ty)
shown_name word ty scope = name_or (scope_class scope)
