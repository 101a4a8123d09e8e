-- Environments that are replaced, exchanged or joined on the way.
use Rattle.std.proofs.Common.{◌≡◌, ◌∙◌, Result, Ok, Err}
use Rattle.hack_decls.specs.DeclState.{DeclState, Symbols}
use Rattle.hack_decls.specs.declared.stop.DeclStop.{DeclStop}
use Rattle.hack_rules.specs.Meanings.{Branches}
use Rattle.hack_rules.specs.Variables.{Variables, joined}
use Rattle.hack_rules.specs.Walks.{Setting, State, Walk, ◌>>=◌, ◌>>◌, pure, replace, variables}
use Rattle.hack_walk.specs.Checks.{BranchesIn, VariablesIn, Walks}
use Rattle.hack_walk.specs.NamesKept.{in_joined}
use Rattle.hack_walk.specs.WalkLaws.{of_step, refused, step_replace, step_variables, step_walks, walks_next, walks_pure}
use Rattle.hack_chains.proofs.Sides.{branches_are}

module _ {Base Held B : Type 0} {setting : Setting} {Names : Symbols → Type 0} {Gives : Symbols → B → Type 0} {old new : DeclState Base Held} {behind : State} where
  -- the variables are replaced, and then it goes on
  pub replaced : (q : Walk B) (result : Result B DeclStop) (before here : State) (from : Variables) → here.variables ≡ from → here.found ≡ before.found
      → Walks q setting old here result new behind Names Gives → ((symbols : Symbols) → Names symbols → VariablesIn symbols from)
      → Walks (replace from >> q) setting old before result new behind Names Gives
  replaced q result before here from is same walks more =
      walks_next q result (of_step old (step_replace {Names = Names} before here from is same more)) walks (λ symbols n. n) (λ symbols n t. n) (λ symbols b n t h. h)

  -- those up to here are kept, others are put in their place, and then it goes on
  pub exchanged : (f : Variables → Walk B) (result : Result B DeclStop) (before here : State) (kept from : Variables) → kept ≡ before.variables
      → here.variables ≡ from → here.found ≡ before.found → Walks (f kept) setting old here result new behind (λ symbols. Names symbols × VariablesIn symbols kept) Gives
      → ((symbols : Symbols) → Names symbols → VariablesIn symbols from)
      → Walks (variables >>= (λ all. replace from >> f all)) setting old before result new behind Names Gives
  exchanged f result before here kept from are is same walks more =
      step_walks (λ all. replace from >> f all) result (step_variables {Names = Names} before kept are)
      (walks_next (f kept) result (of_step old (step_replace {Names = λ symbols. Names symbols × VariablesIn symbols kept} before here from is same (λ symbols n. more symbols n.0))) walks
      (λ symbols n. n) (λ symbols n t. n) (λ symbols b n t h. h))
      (λ symbols n. n) (λ symbols n all. (n, all)) (λ symbols b n all h. h)

  -- those up to here are joined with others, and then it goes on
  pub rejoined : (q : Walk B) (result : Result B DeclStop) (before here : State) (kept left : Variables) → kept ≡ left → here.variables ≡ joined kept before.variables
      → here.found ≡ before.found → Walks q setting old here result new behind Names Gives → ((symbols : Symbols) → Names symbols → VariablesIn symbols left)
      → Walks (variables >>= (λ all. replace (joined left all) >> q)) setting old before result new behind Names Gives
  rejoined q result before here kept left own is same walks more =
      step_walks (λ all. replace (joined left all) >> q) result (step_variables {Names = Names} before before.variables (λ i. before.variables))
      (walks_next q result (of_step old (step_replace {Names = λ symbols. Names symbols × VariablesIn symbols before.variables} before here (joined left before.variables)
      (is ∙ (λ i. joined (own i) before.variables)) same
      (λ symbols n. in_joined symbols left before.variables (more symbols n.0) n.1))) walks
      (λ symbols n. n) (λ symbols n t. n.0) (λ symbols b n t h. h))
      (λ symbols n. n) (λ symbols n all. (n, all)) (λ symbols b n all h. h)

  -- what is refused behind variables that were replaced
  pub behind_replaced : {next : Walk B} {e : DeclStop} (before here : State) (from : Variables) → here.variables ≡ from → here.found ≡ before.found
      → Walks next setting old here (Err e) new behind Names Gives → ((symbols : Symbols) → Names symbols → VariablesIn symbols from)
      → Walks next setting old before (Err e) new behind Names Gives
  behind_replaced {next = next} {e = e} before here from is same walks more =
      refused (replaced next (Err e) before here from is same walks more) (λ symbols n. n)

-- a condition of which nothing is known: its variables stand in both branches
module _ {Base Held A : Type 0} {setting : Setting} {Names : Symbols → Type 0} {Gives : Symbols → A → Type 0} {old new : DeclState Base Held} {before behind : State} {walk : Walk A} {a : A} where
  pub both_behind : {made : Branches} → Walks walk setting old before (Ok a) new behind Names Gives → made.when_true ≡ behind.variables → made.when_false ≡ behind.variables
      → Walks (walk >> (variables >>= (λ all. pure (record { when_true = all; when_false = all })))) setting old before (Ok made) new behind Names BranchesIn
  both_behind {made = made} check one two =
      let here = behind.variables in let both : Branches = record { when_true = here; when_false = here } in
      rw (branches_are made here here one two)
      (walks_next (variables >>= (λ (all : Variables). pure (record { when_true = all; when_false = all }))) (Ok both) check
      (step_walks {NamesB = λ symbols. VariablesIn symbols here} {NamesC = Names} (λ (all : Variables). pure (record { when_true = all; when_false = all })) (Ok both)
      (step_variables {Names = Names} behind here (λ i. here))
      (walks_pure {Gives = BranchesIn} new behind both (λ symbols n. record { when_true = n; when_false = n }))
      (λ symbols n. n) (λ symbols n all. all) (λ symbols b n all h. h))
      (λ symbols n. n) (λ symbols n t. n) (λ symbols b n t h. h))
