-- What the calls of the crate say to each other.
use Rattle.std.specs.Prelude.{ℕ, Bool, true, false, not, if◌then◌else◌, Option, Some, None, List, All, filter}
use Rattle.std.specs.BTreeMap.{insert_entry}
use Rattle.std.specs.Ordering.{nat_cmp}
use Rattle.hack_types.specs.SameType.{same_type}
use Rattle.hack_types.specs.UnionOf.{union_of}
use Rattle.hack_types.specs.declared.hack_type.HackType.{HackType, out-HackType}
use Rattle.hack_types.specs.declared.hack_type.HackType.TheOpen.{HackType-F}
use Rattle.hack_types.specs.declared.hack_type.HackType.TheVariants.{Mixed}
use Rattle.hack_decls.specs.DeclState.{Map, Symbols}
use Rattle.hack_decls.specs.Names.{TypeIn}
use Rattle.hack_sub.specs.IsBelow.{is_below}
use Rattle.hack_sub.specs.Named.{Around}
use Rattle.hack_sub.specs.Parts.{union_members}
use Rattle.hack_sub.specs.Sub.{most_height}
use Rattle.hack_sub.specs.declared.scope.Scope.{Scope}
use Rattle.hack_rules.specs.Meanings.{Branches}
use Rattle.hack_rules.specs.Variables.{Variables, type_in, with_variable}
use Rattle.hack_rules.specs.Refining.{where_is, where_is_not}
use Rattle.hack_walk.specs.Checks.{VariablesIn}
use Rattle.hack_walk.specs.declared.branches.Outcome.{Outcome}
use Rattle.hack_walk.specs.declared.branches.Outcome.TheVariants as outcome

-- with one more variable, if there is one
abbrev pub with_joined : Variables → Option (ℕ × HackType) → Variables
with_joined variables None = variables
with_joined variables (Some entry) = insert_entry nat_cmp variables entry.0 entry.1

-- the type of a variable behind a loop, which had this type before, if it was there
abbrev pub widened_type : Option HackType → HackType → HackType
widened_type None ty = ty
widened_type (Some before) ty = if same_type before ty then ty else Mixed

-- ---- what is tested

abbrev pub nonnull_by : {T : Type 0} → HackType-F T → Bool
nonnull_by HackType-F.Nonnull = true
nonnull_by _ = false

abbrev pub is_nonnull : HackType → Bool
is_nonnull ty = nonnull_by (out-HackType ty)

abbrev pub null_by : {T : Type 0} → HackType-F T → Bool
null_by HackType-F.Null = true
null_by _ = false

abbrev pub is_null : HackType → Bool
is_null ty = null_by (out-HackType ty)

-- the members that aren't below the tested type
abbrev pub members_apart : Map → Scope → HackType → List HackType → List HackType
members_apart map scope tested members = filter (λ member. not (is_below map scope most_height member tested)) members

abbrev pub others_in : Map → Scope → HackType → HackType → Option (List HackType) → HackType
others_in map scope own tested None = own
others_in map scope own tested (Some members) = union_of (members_apart map scope tested members)

-- of a union those members
abbrev pub others : Map → Scope → HackType → HackType → HackType
others map scope own tested = others_in map scope own tested (union_members own)

-- these types, the scope and the tested type are among these symbols
pub record ManyIn (symbols : Symbols) (scope : Scope) (types : List HackType) (T : HackType) : Type 0 where
  pub around : Around symbols scope
  pub many : All (TypeIn symbols) types
  pub other : TypeIn symbols T

-- ---- a variable that is tested

-- its type, if there is one and it is there
abbrev pub subject_type : Variables → Option ℕ → Option HackType
subject_type here None = None
subject_type here (Some name) = type_in here name

-- with this type of it
abbrev pub put_at : Variables → Option ℕ → Option HackType → Variables
put_at here None ty = here
put_at here (Some name) None = here
put_at here (Some name) (Some ty) = with_variable here name ty

abbrev pub branches_with : Variables → Variables → Branches
branches_with when_true when_false = record { when_true = when_true; when_false = when_false }

-- the variables, the scope and the tested type are among these symbols
pub record TestIn (symbols : Symbols) (scope : Scope) (here : Variables) (T : HackType) : Type 0 where
  pub around : Around symbols scope
  pub types : VariablesIn symbols here
  pub tested : TypeIn symbols T

-- and the variable's own type
pub record OwnIn (symbols : Symbols) (scope : Scope) (here : Variables) (T was : HackType) : Type 0 where
  pub test : TestIn symbols scope here T
  pub own : TypeIn symbols was

-- what a type becomes by a test with this outcome
abbrev pub where_by : Outcome → Map → Scope → HackType → HackType → HackType
where_by outcome.Holds map scope tested own = where_is map scope tested own
where_by outcome.Fails map scope tested own = where_is_not map scope tested own
