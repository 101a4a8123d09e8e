use Rattle.std.proofs.Common.{◌≡◌, Bool, false, subst}
use Rattle.std.specs.Bool.{MatchBool}
use Rattle.check_state.specs.Stands.{Stands}
use Rattle.check_state.proofs.Standing.{is_named}
use Rattle.check_state.proofs.Sums.{remove-nothing}
use Rattle.check_state.proofs.state.State.remove.Goals as goal

on_false : (b : Bool) (P Q : Type 0) → b ≡ false → MatchBool b P Q → Q
on_false b P Q e h = subst (λ a. MatchBool a P Q) e h

pub returns-else-take-clause-kept : goal.returns-else-take-clause-kept
returns-else-take-clause-kept c =
    let name = c.args.name.now in
    λ other files stands.
    subst (Stands c.take.new.self) (remove-nothing files name (on_false c.take.result _ _ c.if-take.false (c.take.ensures.there files stands)))
    (c.take.ensures.taken files stands (is_named name c.requires.limits))
