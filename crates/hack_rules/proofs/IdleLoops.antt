-- Loops whose tests and bodies neither assign nor refine leave the environment of their entry.
use Rattle.std.proofs.Common.{◌≡◌, ◌∙◌, ℕ, Option, Some, None, List, [], ◌∷◌, refl, sym, ap, subst}
use Rattle.std.specs.Option.{IfSome}
use Rattle.hack_types.specs.declared.diag.Diag.{Diag}
use Rattle.hack_types.specs.declared.hack_type.HackType.{HackType}
use Rattle.hack_types.specs.declared.place.Place.{Place}
use Rattle.hack_decls.specs.DeclState.{Map}
use Rattle.hack_rules.specs.Behind.{state_of}
use Rattle.hack_rules.specs.Ends.{Doing, Ends, Inside}
use Rattle.hack_rules.specs.Idle.{BodyKeeps, IsNew, IsSettled, LeavesEntry, MayLeaveEntry, StepsKeep, TestKeeps, begun, with_key}
use Rattle.hack_rules.specs.Loops.{Turn, assign_key, behind_test, deeper, do_ends, do_test, do_turn, for_steps, for_test, for_turn, foreach_turn, reached, three_passes, while_ends, while_turn}
use Rattle.hack_rules.specs.Meanings.{Branches, Meaning}
use Rattle.hack_rules.specs.Variables.{Variables, either, joined, with_variable}
use Rattle.hack_rules.specs.Walks.{Setting, State, Walk, ◌>>=◌, ◌>>◌, assign, each, pure, replace, variables}
use Rattle.hack_rules.proofs.Begun.{joins_begun}
use Rattle.hack_rules.proofs.Idle.{Leaves, MayLeave, all_back, both_keep, joined_itself, leaves_entry, may_leave_entry, of_deep}

-- both branches are the environment
abbrev kept : Variables → Branches
kept entry = record { when_true = entry; when_false = entry }

module _ (setting : Setting) (m : Map) (entry : Variables) (settled : IsSettled entry) where
  itself : joined entry entry ≡ entry
  itself = joined_itself entry settled

  module _ (body : Doing) (inside : Inside) (keeps : BodyKeeps setting m entry (body.ends (deeper inside))) where
    abbrev from : Variables → List Diag → Ends × State
    from here found = body.ends (deeper inside) setting m (state_of here found)

    -- ---- while and do

    module _ (condition : Meaning) (test : TestKeeps setting m entry condition.branches) where
      abbrev while_tested : List Diag → Branches → Turn
      while_tested found branches =
          record { ends = reached (from branches.when_true found).0; behind = Some branches.when_false; breaks = (from branches.when_true found).0.breaks }

      while_left : (found : List Diag) → Leaves entry entry itself (while_tested found (kept entry))
      while_left found = let e = keeps found in
          (all_back entry entry itself (from entry found).0.normal (from entry found).0.continues e.0 e.2, refl, e.1)

      while_leaves : (found : List Diag) → Leaves entry entry itself (while_turn condition body inside setting m (state_of entry found)).0
      unfolding while_turn ◌>>=◌ ◌>>◌ pure replace
      while_leaves found =
          subst (λ branches. Leaves entry entry itself (while_tested (condition.branches setting m (state_of entry found)).1.found branches)) (sym (test found))
          (while_left (condition.branches setting m (state_of entry found)).1.found)

      pub while_keeps : (at : Place) → LeavesEntry setting m entry (while_ends at condition body inside)
      unfolding while_ends
      while_keeps at found = of_deep setting m entry (λ o. o ≡ Some entry) refl at (three_passes (while_turn condition body inside))
          (leaves_entry entry entry itself setting m settled.rises (while_turn condition body inside) while_leaves) inside found

      abbrev do_tested : Option Variables → Branches → Turn
      do_tested breaks branches = record { ends = branches.when_true ∷ []; behind = Some branches.when_false; breaks = breaks }

      test_at : (here : Variables) → here ≡ entry → (found : List Diag) → ◌≡◌ {A = Branches} (condition.branches setting m (state_of here found)).0 (kept entry)
      test_at here is found = ap (λ v. (condition.branches setting m (state_of v found)).0) is ∙ test found

      test_leaves : (ends : Ends) (here : Option Variables) → IfSome here (λ end. end ≡ entry) → IfSome ends.breaks (λ end. end ≡ entry) → (now : Variables) (found : List Diag)
          → MayLeave entry itself (do_test condition ends here setting m (state_of now found)).0
      unfolding ◌>>=◌ ◌>>◌ pure replace
      test_leaves ends None h b now found = (tt, tt, b)
      test_leaves ends (Some here) h b now found =
          subst (λ branches. MayLeave entry itself (do_tested ends.breaks branches)) (sym (test_at here h found)) ((itself, tt), refl, b)

      do_leaves : (found : List Diag) → MayLeave entry itself (do_turn body condition inside setting m (state_of entry found)).0
      unfolding do_turn ◌>>=◌
      do_leaves found = let e = keeps found in
          test_leaves (from entry found).0 (either (from entry found).0.normal (from entry found).0.continues)
          (both_keep entry itself (from entry found).0.normal (from entry found).0.continues e.0 e.2) e.1 (from entry found).1.variables (from entry found).1.found

      pub do_keeps : (at : Place) → MayLeaveEntry setting m entry (do_ends at body condition inside)
      unfolding do_ends
      do_keeps at found = of_deep setting m entry (λ o. IfSome o (λ end. end ≡ entry)) refl at (three_passes (do_turn body condition inside))
          (may_leave_entry entry itself setting m settled.rises (do_turn body condition inside) do_leaves) inside found

    -- ---- for

    module _ (condition : Option Meaning) (test : TestKeeps setting m entry (for_test condition)) (steps : List Meaning) (stepped : StepsKeep setting m entry steps) where
      abbrev all_steps : Walk (List HackType)
      all_steps = each (λ (step : Meaning). step.walk) steps

      steps_at : (here : Variables) → here ≡ entry → (found : List Diag) → (all_steps setting m (state_of here found)).1.variables ≡ entry
      steps_at here is found = ap (λ v. (all_steps setting m (state_of v found)).1.variables) is ∙ stepped found

      steps_leave : (behind breaks here : Option Variables) → IfSome behind (λ end. end ≡ entry) → IfSome breaks (λ end. end ≡ entry) → IfSome here (λ end. end ≡ entry)
          → (now : Variables) (found : List Diag) → MayLeave entry itself (for_steps steps behind breaks here setting m (state_of now found)).0
      unfolding ◌>>=◌ ◌>>◌ pure replace variables
      steps_leave behind breaks None b r h now found = (tt, b, r)
      steps_leave behind breaks (Some here) b r h now found = ((ap (λ end. joined entry end) (steps_at here h found) ∙ itself, tt), b, r)

      behind_keeps : (condition : Option Meaning) → IfSome (behind_test condition entry) (λ end. end ≡ entry)
      behind_keeps None = tt
      behind_keeps (Some condition) = refl

      abbrev for_tested : List Diag → Branches → Turn
      for_tested found branches = (for_steps steps (behind_test condition branches.when_false) (from branches.when_true found).0.breaks
          (either (from branches.when_true found).0.normal (from branches.when_true found).0.continues) setting m (from branches.when_true found).1).0

      for_left : (found : List Diag) → MayLeave entry itself (for_tested found (kept entry))
      for_left found = let e = keeps found in
          steps_leave (behind_test condition entry) (from entry found).0.breaks (either (from entry found).0.normal (from entry found).0.continues) (behind_keeps condition) e.1
          (both_keep entry itself (from entry found).0.normal (from entry found).0.continues e.0 e.2) (from entry found).1.variables (from entry found).1.found

      for_leaves : (found : List Diag) → MayLeave entry itself (for_turn condition steps body inside setting m (state_of entry found)).0
      unfolding for_turn ◌>>=◌ ◌>>◌ replace
      for_leaves found = subst (λ branches. MayLeave entry itself (for_tested (for_test condition setting m (state_of entry found)).1.found branches)) (sym (test found))
          (for_left (for_test condition setting m (state_of entry found)).1.found)

      pub for_keeps : MayLeaveEntry setting m entry (three_passes (for_turn condition steps body inside))
      for_keeps = may_leave_entry entry itself setting m settled.rises (for_turn condition steps body inside) for_leaves

  -- ---- foreach

  module _ (types : HackType × HackType) (key : Option ℕ) (value : ℕ) (key_new : IfSome key (IsNew entry)) (value_new : IsNew entry value) (body : Doing) (inside : Inside)
      (keeps : BodyKeeps setting m (begun entry key value types) (body.ends (deeper inside))) where
    abbrev start : Variables
    start = begun entry key value types

    joins : joined entry start ≡ entry
    joins = joins_begun entry settled types key value key_new value_new

    keyed : (diags : List Diag) (k : Option ℕ) → ◌≡◌ {A = State} (assign_key k types.0 setting m (state_of entry diags)).1 (state_of (with_key entry k types.0) diags)
    unfolding pure assign
    keyed diags None = refl
    keyed diags (Some name) = refl

    abbrev run_from : State → Ends × State
    run_from state = body.ends (deeper inside) setting m (state_of (with_variable state.variables value types.1) state.found)

    abbrev turned : State → Turn
    turned state = record { ends = reached (run_from state).0; behind = Some entry; breaks = (run_from state).0.breaks }

    foreach_left : (found : List Diag) → Leaves entry start joins (turned (state_of (with_key entry key types.0) found))
    foreach_left found = let e = keeps found in (
      all_back entry start joins (run_from (state_of (with_key entry key types.0) found)).0.normal (run_from (state_of (with_key entry key types.0) found)).0.continues e.0 e.2,
      refl,
      e.1,
    )

    foreach_leaves : (found : List Diag) → Leaves entry start joins (foreach_turn types key value body inside setting m (state_of entry found)).0
    unfolding foreach_turn ◌>>=◌ ◌>>◌ pure variables assign
    foreach_leaves found = subst (λ state. Leaves entry start joins (turned state)) (sym (keyed found key)) (foreach_left found)

    pub foreach_keeps : LeavesEntry setting m entry (three_passes (foreach_turn types key value body inside))
    foreach_keeps = leaves_entry entry start joins setting m settled.rises (foreach_turn types key value body inside) foreach_leaves
