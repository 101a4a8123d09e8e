-- Ends that are here, and what they name.
use Rattle.std.proofs.Common.{◌≡◌, ◌∙◌, ◌++◌, Bool, true, false, Result, Ok, Option, Some, None, IfSome, [], ◌∷◌, All, option_to_list, refl, sym, ap, subst, arith}
use Rattle.std.proofs.lemmas.List.Elements.{All-cons}
use Rattle.hack_decls.specs.DeclState.{DeclState, Map, Symbols}
use Rattle.hack_decls.specs.declared.stop.DeclStop.{DeclStop}
use Rattle.hack_diag.specs.Messages.{diag_of, too_many_loops}
use Rattle.hack_rules.specs.Ends.{Doing, Ends, Inside, ends_here}
use Rattle.hack_rules.specs.Loops.{Turn, do_test, refuse_loop, while_turn}
use Rattle.hack_rules.specs.Meanings.{Branches, Meaning}
use Rattle.hack_rules.specs.Variables.{Variables, either}
use Rattle.hack_rules.specs.Walks.{Setting, State, Walk, ◌>>=◌, ◌>>◌, pure, replace, report, variables}
use Rattle.hack_types.specs.declared.place.Place.{Place}
use Rattle.hack_walk.specs.Checks.{BranchesIn, Steps, VariablesIn, Walks}
use Rattle.hack_walk.specs.NamesKept.{in_either, no_variables}
use Rattle.hack_flow.specs.Settled.{ExitsIn, emptied, ends_of, exits_of, normal_of, settled, variables_of}
use Rattle.hack_walk.specs.WalkLaws.{of_step, step_replace, step_variables, step_walks, walks_as, walks_next}
use Rattle.hack_flow.specs.SettledLaws.{Forgets, emptied_pure_forgets, emptied_replace_forgets}
use Rattle.hack_flow.specs.declared.exits.Exits.{Exits}
use Rattle.hack_flow.specs.inside.Rows.{TurnIn, behind_loop, body_turn, only_end, round, test_from, test_here}

module _ (symbols : Symbols) where
  In : Variables → Type 0
  In = VariablesIn symbols

  pub in_variables_of : (normal : Option Variables) → IfSome normal (VariablesIn symbols) → VariablesIn symbols (variables_of normal)
  in_variables_of None all = no_variables symbols
  in_variables_of (Some here) all = all

  pub in_normal_of : (reached : Bool) (here : Variables) → VariablesIn symbols here → IfSome (normal_of reached here) (VariablesIn symbols)
  in_normal_of false here all = tt
  in_normal_of true here all = all

  no_ends : All (VariablesIn symbols) []
  no_ends = λ k d lt. absurd (omega (arith, lt))

  in_one : (end : Option Variables) → IfSome end (VariablesIn symbols) → All (VariablesIn symbols) (option_to_list end)
  in_one None all = no_ends
  in_one (Some here) all = All-cons (VariablesIn symbols) here [] all no_ends

  pub in_both : (one other : Option Variables) → IfSome one (VariablesIn symbols) → IfSome other (VariablesIn symbols) → All (VariablesIn symbols) (option_to_list one ++ option_to_list other)
  in_both None other all others = in_one other others
  in_both (Some here) other all others = All-cons (VariablesIn symbols) here (option_to_list other) all (in_one other others)

  pub in_round : (behind here : Variables) (exits : Exits) → VariablesIn symbols behind → VariablesIn symbols here → ExitsIn symbols exits
      → TurnIn symbols (round behind (ends_of exits here))
  in_round behind here exits behind_all all left = record {
    ends = in_both (normal_of exits.reached here) exits.continues (in_normal_of exits.reached here all) left.continues;
    behind = behind_all;
    breaks = left.breaks;
  }

module _ {setting : Setting} {Names : Symbols → Type 0} where
  pub step_here : (here : State) → Steps (settled ends_here) setting here (Ok (record { reached = true; breaks = None; continues = None })) here Names ExitsIn
  unfolding settled ends_here variables ◌>>=◌ ◌>>◌ replace pure
  step_here here = record { is = λ map. refl; named = λ symbols body n. (body.types, record { breaks = tt; continues = tt }) }

  pub step_deep : (before behind : State) (at : Place) → behind.variables ≡ before.variables → behind.found ≡ before.found ++ diag_of setting.names at too_many_loops ∷ []
      → Steps (settled (refuse_loop at)) setting before (Ok (record { reached = true; breaks = None; continues = None })) behind Names ExitsIn
  unfolding settled refuse_loop ends_here report variables ◌>>=◌ ◌>>◌ replace pure
  step_deep before behind at same is = record {
    is = λ map. λ i. (record { reached = true; breaks = None; continues = None }, record { variables = sym same i; found = sym is i });
    named = λ symbols body n. (subst (VariablesIn symbols) (sym same) body.types, record { breaks = tt; continues = tt });
  }

  pub step_emptied : {A : Type 0} {Gives : Symbols → A → Type 0} (before behind : State) (a b : A) → b ≡ a → behind.variables ≡ [] → behind.found ≡ before.found
      → ((symbols : Symbols) → VariablesIn symbols before.variables → Names symbols → Gives symbols a) → Steps (emptied (pure a)) setting before (Ok b) behind Names Gives
  unfolding emptied ◌>>=◌ ◌>>◌ replace pure
  step_emptied {Gives = Gives} before behind a b is none same gives = record {
    is = λ map. λ i. (sym is i, record { variables = sym none i; found = sym same i });
    named = λ symbols body n. (subst (VariablesIn symbols) (sym none) (no_variables symbols), subst (Gives symbols) (sym is) (gives symbols body.types n));
  }

module _ {setting : Setting} where
  pub step_behind : (before behind : State) (last : Turn) (normal : Option Variables) (exits : Exits) → normal ≡ either last.behind last.breaks → exits ≡ exits_of (only_end normal)
      → behind.variables ≡ variables_of normal → behind.found ≡ before.found
      → Steps (settled (pure (behind_loop last))) setting before (Ok exits) behind (λ symbols. TurnIn symbols last) ExitsIn
  unfolding settled ◌>>=◌ ◌>>◌ replace pure
  step_behind before behind last normal exits is so same found =
      let normals = is in let left = so ∙ ap (λ (n : Option Variables). exits_of (only_end n)) is in let here = same ∙ ap variables_of is in
      record {
        is = λ map. λ i. (sym left i, record { variables = sym here i; found = sym found i });
        named = λ symbols body n. (
          subst (VariablesIn symbols) (sym here) (in_variables_of symbols (either last.behind last.breaks) (in_either symbols last.behind last.breaks n.behind n.breaks)),
          subst (ExitsIn symbols) (sym left) (record { breaks = tt; continues = tt }),
        );
      }

-- the turn of a `while` in pieces
pub while_pieces : (condition : Meaning) (body : Doing) (inside : Inside) (setting : Setting) (map : Map) (state : State)
    → emptied (while_turn condition body inside) setting map state
    ≡ (condition.branches >>= (λ (branches : Branches). replace branches.when_true >> emptied (body_turn body inside branches.when_false))) setting map state
unfolding emptied while_turn body_turn ◌>>=◌ ◌>>◌ replace pure
while_pieces condition body inside setting map state = refl

emptied_first : {B : Type 0} (walk : Walk B) → Forgets walk → (setting : Setting) (map : Map) (state : State)
    → walk setting map state ≡ (variables >>= (λ (all : Variables). replace [] >> walk)) setting map state
unfolding ◌>>=◌ ◌>>◌ replace variables
emptied_first walk forgets setting map state = forgets setting map state []

-- a check that began with no variables is one that began with some, where it is all one which they were
module _ {Base Held B : Type 0} {setting : Setting} {NamesB Names : Symbols → Type 0} {Gives : Symbols → B → Type 0} {old new : DeclState Base Held} {behind : State} where
  pub walks_forget : (walk : Walk B) (result : Result B DeclStop) (before here : State) → Forgets walk → here.variables ≡ [] → here.found ≡ before.found
      → Walks walk setting old here result new behind NamesB Gives → ((symbols : Symbols) → Names symbols → VariablesIn symbols before.variables → NamesB symbols)
      → Walks walk setting old before result new behind Names Gives
  walks_forget walk result before here forgets none same walks more =
      walks_as walk result
      (step_walks (λ (all : Variables). replace [] >> walk) result (step_variables {Names = Names} before before.variables refl)
      (walks_next {NamesC = λ symbols. Names symbols × VariablesIn symbols before.variables} walk result
      (of_step old (step_replace {Names = λ symbols. Unit {0}} before here [] none same (λ symbols n. no_variables symbols))) walks
      (λ symbols n. tt) (λ symbols n t. more symbols n.0 n.1) (λ symbols b n t h. h))
      (λ symbols n. n) (λ symbols n all. (n, all)) (λ symbols b n all h. h))
      (λ map. emptied_first walk forgets setting map before)

-- the turn of a `do` forgets where it begins behind its body
pub test_forgets : (condition : Meaning) (ends : Ends) (end : Option Variables) → Forgets (emptied (do_test condition ends end))
test_forgets condition ends None = emptied_pure_forgets (record { ends = []; behind = None; breaks = ends.breaks })
test_forgets condition ends (Some here) =
    emptied_replace_forgets here (condition.branches >>= (λ (branches : Branches). pure (record { ends = branches.when_true ∷ []; behind = Some branches.when_false; breaks = ends.breaks })))

-- the same, by the breaks alone
pub test_is : (condition : Meaning) (ends : Ends) (end : Option Variables) → do_test condition ends end ≡ test_from condition ends.breaks end
test_is condition ends None = refl
test_is condition ends (Some here) = refl

pub in_tested : (symbols : Symbols) (branches : Branches) (breaks : Option Variables) → BranchesIn symbols branches → IfSome breaks (VariablesIn symbols)
    → TurnIn symbols (record { ends = branches.when_true ∷ []; behind = Some branches.when_false; breaks = breaks })
in_tested symbols branches breaks both left = record {
  ends = All-cons (VariablesIn symbols) branches.when_true [] both.when_true (λ k d lt. absurd (omega (arith, lt)));
  behind = both.when_false;
  breaks = left;
}

pub test_pieces : (condition : Meaning) (breaks : Option Variables) (here : Variables) (setting : Setting) (map : Map) (state : State)
    → emptied (test_from condition breaks (Some here)) setting map state ≡ (replace here >> emptied (test_here condition breaks)) setting map state
unfolding emptied test_here ◌>>=◌ ◌>>◌ replace pure
test_pieces condition breaks here setting map state = refl

pub in_nowhere : (symbols : Symbols) (breaks : Option Variables) → IfSome breaks (VariablesIn symbols) → TurnIn symbols (record { ends = []; behind = None; breaks = breaks })
in_nowhere symbols breaks left = record { ends = λ k d lt. absurd (omega (arith, lt)); behind = tt; breaks = left }
