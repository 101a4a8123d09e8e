-- Refinement: what tests say of the type of a variable (docs/language.md, Typing expressions, Refinement).
use Rattle.std.specs.Prelude.{ℕ, not, if◌then◌else◌, Option, Some, filter}
use Rattle.hack_types.specs.UnionOf.{union_of}
use Rattle.hack_types.specs.declared.hack_type.HackType.{HackType, out-HackType}
use Rattle.hack_types.specs.declared.hack_type.HackType.TheOpen.{HackType-F}
use Rattle.hack_types.specs.declared.hack_type.HackType.TheVariants.{Null}
use Rattle.hack_decls.specs.DeclState.{Map}
use Rattle.hack_sub.specs.IsBelow.{is_below}
use Rattle.hack_sub.specs.Sub.{most_height}
use Rattle.hack_sub.specs.declared.scope.Scope.{Scope}
use Rattle.hack_rules.specs.Meanings.{Branches}
use Rattle.hack_rules.specs.Variables.{Variables, refined}
use Rattle.hack_rules.specs.Walks.{Walk, ◌>>=◌, reads, variables}
use Rattle.hack_infer.specs.WithoutNull.{without_null}

-- where a value of its own type is a T: T if that is below its own, its own if that is below T, else T
unfoldable pub narrowed : Map → Scope → HackType → HackType → HackType
narrowed map scope own tested =
    if is_below map scope most_height tested own then tested
    else (if is_below map scope most_height own tested then own else tested)

-- the true branch of `is`: of `is nonnull`, the type without null
abbrev pub is_by : Map → Scope → HackType → HackType → HackType-F HackType → HackType
is_by map scope own tested HackType-F.Nonnull = without_null map own
is_by map scope own tested _ = narrowed map scope own tested

-- what a type becomes where a value of it is a T
unfoldable pub where_is : Map → Scope → HackType → HackType → HackType
where_is map scope tested own = is_by map scope own tested (out-HackType tested)

-- of a union those members that aren't below T
abbrev pub others_by : Map → Scope → HackType → HackType → HackType-F HackType → HackType
others_by map scope own tested (HackType-F.Union members) =
    union_of (filter (λ member. not (is_below map scope most_height member tested)) members)
others_by map scope own tested _ = own

-- the false branch: of `is nonnull` `null`, of `is null` the type without null
abbrev pub is_not_by : Map → Scope → HackType → HackType → HackType-F HackType → HackType
is_not_by map scope own tested HackType-F.Nonnull = Null
is_not_by map scope own tested HackType-F.Null = without_null map own
is_not_by map scope own tested _ = others_by map scope own tested (out-HackType own)

-- what it becomes where the value is none
unfoldable pub where_is_not : Map → Scope → HackType → HackType → HackType
where_is_not map scope tested own = is_not_by map scope own tested (out-HackType tested)

-- both branches of a test of a variable, or of what is none
unfoldable pub tested_branches : Option ℕ → HackType → Walk Branches
tested_branches subject tested = do
  here ← variables
  reads (λ map scope. record {
    when_true = refined here subject (where_is map scope tested);
    when_false = refined here subject (where_is_not map scope tested);
  })

-- the variables behind `x as T`
unfoldable pub behind_as : Option ℕ → HackType → Walk Variables
behind_as subject tested = do
  here ← variables
  reads (λ map scope. refined here subject (where_is map scope tested))

-- both branches of a bare variable
unfoldable pub bare_branches : ℕ → Walk Branches
bare_branches name = do
  here ← variables
  reads (λ map scope. record { when_true = refined here (Some name) (without_null map); when_false = here })

-- where one holds the other doesn't
abbrev pub swapped : Branches → Branches
swapped branches = record { when_true = branches.when_false; when_false = branches.when_true }
