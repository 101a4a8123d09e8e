-- The turns of a `for`.
use Rattle.std.proofs.Common.{◌≡◌, ◌∙◌, Ok, Option, Some, None, IfSome, List, [], ◌∷◌, refl, sym, ap, subst, arith}
use Rattle.std.proofs.lemmas.List.Elements.{All-cons}
use Rattle.hack_decls.specs.DeclState.{Map, Symbols}
use Rattle.hack_rules.specs.Ends.{Doing, Inside}
use Rattle.hack_rules.specs.Expressions.{judged}
use Rattle.hack_rules.specs.Loops.{Turn, for_loop, for_steps, for_turn, three_passes}
use Rattle.hack_rules.specs.Meanings.{Branches, Meaning}
use Rattle.hack_rules.specs.Statements.{meanings_of}
use Rattle.hack_rules.specs.Variables.{Variables}
use Rattle.hack_rules.specs.Walks.{Setting, State, Walk, ◌>>=◌, ◌>>◌, each, for_each, pure, replace, variables}
use Rattle.hack_tree.specs.declared.expression.Expr.{Expr}
use Rattle.hack_walk.specs.Checks.{Steps, VariablesIn}
use Rattle.hack_walk.specs.NamesKept.{no_variables}
use Rattle.hack_flow.specs.Settled.{emptied, settled}
use Rattle.hack_flow.specs.SettledLaws.{Forgets}
use Rattle.hack_flow.specs.inside.Rows.{TurnIn, all_done, for_body, steps_here}

-- an expression of which no type is kept
abbrev pub done_of : Expr → Walk (Unit {0})
done_of e = judged e >> pure tt

-- one after another, or all of them and then nothing kept
pub in_row : (es : List Expr) (setting : Setting) (m : Map) (state : State) → all_done (meanings_of es) setting m state ≡ for_each done_of es setting m state
unfolding each for_each judged ◌>>=◌ ◌>>◌ pure
in_row [] setting m state = refl
in_row (e ∷ es) setting m state = in_row es setting m (judged e setting m state).1

-- the end of a turn
abbrev pub end_here : Option Variables → Option Variables → Walk Turn
end_here behind breaks = do
  end ← variables
  replace []
  pure (record { ends = end ∷ []; behind = behind; breaks = breaks })

pub in_stepped : (symbols : Symbols) (end : Variables) (behind breaks : Option Variables) → VariablesIn symbols end → IfSome behind (VariablesIn symbols) → IfSome breaks (VariablesIn symbols)
    → TurnIn symbols (record { ends = end ∷ []; behind = behind; breaks = breaks })
in_stepped symbols end behind breaks all gone left = record { ends = All-cons (VariablesIn symbols) end [] all (λ k d lt. absurd (omega (arith, lt))); behind = gone; breaks = left }

pub in_no_step : (symbols : Symbols) (behind breaks : Option Variables) → IfSome behind (VariablesIn symbols) → IfSome breaks (VariablesIn symbols)
    → TurnIn symbols (record { ends = []; behind = behind; breaks = breaks })
in_no_step symbols behind breaks gone left = record { ends = λ k d lt. absurd (omega (arith, lt)); behind = gone; breaks = left }

module _ {setting : Setting} where
  pub step_end : (before here : State) (behind breaks : Option Variables) (end : Variables) (turn : Turn) → turn ≡ record { ends = end ∷ []; behind = behind; breaks = breaks }
      → end ≡ before.variables → here.variables ≡ [] → here.found ≡ before.found
      → Steps (end_here behind breaks) setting before (Ok turn) here (λ symbols. IfSome behind (VariablesIn symbols) × IfSome breaks (VariablesIn symbols)) TurnIn
  unfolding ◌>>=◌ ◌>>◌ replace pure variables
  step_end before here behind breaks end turn is taken none same =
      let so = is ∙ ap (λ (vs : Variables). record { ends = vs ∷ []; behind = behind; breaks = breaks }) taken in
      record {
        is = λ m. λ i. (sym so i, record { variables = sym none i; found = sym same i });
        named = λ symbols body n. (
          subst (VariablesIn symbols) (sym none) (no_variables symbols),
          subst (TurnIn symbols) (sym so) (in_stepped symbols before.variables behind breaks body.types n.0 n.1),
        );
      }

-- the steps in pieces
pub steps_pieces : (steps : List Meaning) (behind breaks : Option Variables) (setting : Setting) (m : Map) (state : State)
    → emptied (steps_here steps behind breaks) setting m state ≡ (all_done steps >> end_here behind breaks) setting m state
unfolding emptied steps_here ◌>>=◌ ◌>>◌ pure replace variables
steps_pieces steps behind breaks setting m state = refl

pub from_pieces : (steps : List Meaning) (behind breaks : Option Variables) (here : Variables) (setting : Setting) (m : Map) (state : State)
    → emptied (for_steps steps behind breaks (Some here)) setting m state ≡ (replace here >> emptied (steps_here steps behind breaks)) setting m state
unfolding emptied steps_here ◌>>=◌ ◌>>◌ replace pure
from_pieces steps behind breaks here setting m state = refl

-- the steps forget where they begin behind the body
pub steps_forget : (steps : List Meaning) (behind breaks end : Option Variables) → Forgets (emptied (for_steps steps behind breaks end))
unfolding emptied ◌>>=◌ ◌>>◌ replace pure
steps_forget steps behind breaks None setting m state here = refl
steps_forget steps behind breaks (Some there) setting m state here = refl

-- the turn in pieces, with a test and without one
pub tested_pieces : (condition : Meaning) (steps : List Meaning) (body : Doing) (inside : Inside) (setting : Setting) (m : Map) (state : State)
    → emptied (for_turn (Some condition) steps body inside) setting m state
    ≡ (condition.branches >>= (λ (branches : Branches). replace branches.when_true >> emptied (for_body steps body inside (Some branches.when_false)))) setting m state
unfolding emptied for_turn for_body ◌>>=◌ ◌>>◌ replace pure
tested_pieces condition steps body inside setting m state = refl

pub untested : (steps : List Meaning) (body : Doing) (inside : Inside) (setting : Setting) (m : Map) (state : State)
    → emptied (for_turn None steps body inside) setting m state ≡ emptied (for_body steps body inside None) setting m state
unfolding emptied for_turn for_body ◌>>=◌ ◌>>◌ replace pure variables
untested steps body inside setting m state = refl

-- the start, and then the passes
pub loop_pieces : (start : List Meaning) (condition : Option Meaning) (steps : List Meaning) (body : Doing) (inside : Inside) (setting : Setting) (m : Map) (state : State)
    → settled (for_loop start condition steps body inside) setting m state ≡ (all_done start >> settled (three_passes (for_turn condition steps body inside))) setting m state
unfolding settled for_loop ◌>>=◌ ◌>>◌ pure
loop_pieces start condition steps body inside setting m state = refl
