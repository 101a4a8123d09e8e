-- A call solves its parameters, and goes on with them: only the answer of the matching counts, so it may come first.
use Rattle.std.proofs.Common.{◌≡◌, List, refl}
use Rattle.hack_types.specs.declared.hack_type.HackType.{HackType}
use Rattle.hack_types.specs.declared.place.Place.{Place}
use Rattle.hack_decls.specs.DeclState.{Map}
use Rattle.hack_rules.specs.Calls.{Callee, call_with, solved_types}
use Rattle.hack_rules.specs.Walks.{Setting, State, ◌>>=◌, ◌>>◌, reads}
use Rattle.hack_rules.specs.WrittenTypes.{Argument}
use Rattle.hack_calls.specs.Solved.{call_filled, call_solved}

pub call_is_solved : (at : Place) (callee : Callee) (given : List Argument) (setting : Setting) (m : Map) (s : State)
    → call_with at callee given setting m s
    ≡ (solved_types callee.signature given >>= (λ (solved : List HackType). call_solved at callee.signature callee.class (callee.this solved) solved given)) setting m s
unfolding call_with call_filled solved_types ◌>>=◌ ◌>>◌ reads
call_is_solved at callee given setting m s = refl
