-- Loops that leave the environment of their entry (docs/language.md, Typing statements, Loops).
use Rattle.std.specs.Prelude.{◌≡◌, ◌≤◌, ℕ, Option, Some, None, List, [], ◌∷◌, IfSome}
use Rattle.std.specs.List.{AllByRecursion}
use Rattle.hack_types.specs.Substituted.{most_nodes}
use Rattle.hack_types.specs.TypeNodes.{nodes}
use Rattle.hack_types.specs.UnionOf.{union_of}
use Rattle.hack_types.specs.declared.diag.Diag.{Diag}
use Rattle.hack_types.specs.declared.hack_type.HackType.{HackType}
use Rattle.hack_decls.specs.DeclState.{Map}
use Rattle.hack_rules.specs.Behind.{Rises, state_of}
use Rattle.hack_rules.specs.Ends.{Ends}
use Rattle.hack_rules.specs.Loops.{Turn, three_passes}
use Rattle.hack_rules.specs.Meanings.{Branches, Meaning}
use Rattle.hack_rules.specs.Variables.{Variables, either, joined, type_in, with_variable}
use Rattle.hack_rules.specs.Walks.{Setting, State, Walk, ◌>>=◌, each, pure}

-- a loop that is passed once
unfoldable pub one_pass : Walk Turn → Walk Ends
one_pass turn = do
  only ← turn
  pure (record { normal = either only.behind only.breaks; breaks = None; continues = None })

-- joining an environment with the ends of a turn from it gives the environment again
abbrev pub GoesRound : Setting → Map → Variables → Walk Turn → Type 0
GoesRound setting map entry turn = AllByRecursion (λ end. joined entry end ≡ entry) (turn setting map (state_of entry [])).0.ends

-- the loop ends as if it were passed once, with the same diagnostics
abbrev pub IsPassedOnce : Setting → Map → Variables → Walk Turn → Type 0
IsPassedOnce setting map entry turn = (found : List Diag)
    → ◌≡◌ {A = Ends × State} (three_passes turn setting map (state_of entry found)) (one_pass turn setting map (state_of entry found))

-- an environment of types as unions leave them
pub record IsSettled (entry : Variables) : Type 0 where
  -- each variable stands once, in the order of the ids
  pub rises : Rises entry
  -- each type is its union with itself
  pub unions : AllByRecursion (λ variable. union_of (variable.1 ∷ variable.1 ∷ []) ≡ variable.1) entry
  -- and has no more nodes than a type may have
  pub sizes : AllByRecursion (λ variable. nodes variable.1 ≤ most_nodes) entry

-- a test that neither assigns nor refines
abbrev pub TestKeeps : Setting → Map → Variables → Walk Branches → Type 0
TestKeeps setting map entry branches =
    (found : List Diag) → ◌≡◌ {A = Branches} (branches setting map (state_of entry found)).0 (record { when_true = entry; when_false = entry })

-- a body each end of which is the environment from which it begins
abbrev pub BodyKeeps : Setting → Map → Variables → Walk Ends → Type 0
BodyKeeps setting map entry body = (found : List Diag)
    → IfSome (body setting map (state_of entry found)).0.normal (λ end. end ≡ entry)
    × IfSome (body setting map (state_of entry found)).0.breaks (λ end. end ≡ entry)
    × IfSome (body setting map (state_of entry found)).0.continues (λ end. end ≡ entry)

-- an environment with the key of a `foreach`, where there is one
abbrev pub with_key : Variables → Option ℕ → HackType → Variables
with_key entry None ty = entry
with_key entry (Some name) ty = with_variable entry name ty

-- the environment with which the body of a `foreach` begins
abbrev pub begun : Variables → Option ℕ → ℕ → HackType × HackType → Variables
begun entry key value types = with_variable (with_key entry key types.0) value types.1

-- a variable isn't there
abbrev pub IsNew : Variables → ℕ → Type 0
IsNew entry name = type_in entry name ≡ None

-- steps behind which the environment is as before
abbrev pub StepsKeep : Setting → Map → Variables → List Meaning → Type 0
StepsKeep setting map entry steps =
    (found : List Diag) → (each (λ (step : Meaning). step.walk) steps setting map (state_of entry found)).1.variables ≡ entry

-- behind a loop stands the environment of its entry
abbrev pub LeavesEntry : Setting → Map → Variables → Walk Ends → Type 0
LeavesEntry setting map entry loop = (found : List Diag) → (loop setting map (state_of entry found)).0.normal ≡ Some entry

-- the same where the loop ends at all
abbrev pub MayLeaveEntry : Setting → Map → Variables → Walk Ends → Type 0
MayLeaveEntry setting map entry loop = (found : List Diag) → IfSome (loop setting map (state_of entry found)).0.normal (λ end. end ≡ entry)
