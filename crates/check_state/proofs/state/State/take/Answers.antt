use Rattle.std.proofs.Common.{◌-◌, ap, ◌∙◌, arith}
use Rattle.std.specs.Prelude.{is_some}
use Rattle.std.specs.FinMap as finite
use Rattle.check_state.specs.declared.file.File.{File}
use Rattle.check_state.proofs.Standing.{stands_removed, others_of, one_if}
use Rattle.check_state.proofs.Sums.{of_found, get-gone}
use Rattle.check_state.proofs.state.State.take.Goals as goal

pub returns-in-Some-clause-gone : goal.returns-in-Some-clause-gone
returns-in-Some-clause-gone c =
    let own = c.args.self.now in
    ap (λ t. finite.get t c.args.name.now) (c.remove_file.ensures ∙ ap (finite.remove own.table) c.as_slice.ensures) ∙ get-gone own.table c.args.name.now

pub returns-in-None-clause-gone : goal.returns-in-None-clause-gone
returns-in-None-clause-gone c =
    let own = c.args.self.now in
    ap (λ t. finite.get t c.args.name.now) (c.remove_file.ensures ∙ ap (finite.remove own.table) c.as_slice.ensures) ∙ get-gone own.table c.args.name.now

pub returns-in-Some-clause-taken : goal.returns-in-Some-clause-taken
returns-in-Some-clause-taken c =
    let own = c.args.self.now in
    λ files stands named.
    stands_removed own files c.args.name.now _ _ _ _ stands named (c.remove_file.ensures ∙ ap (finite.remove own.table) c.as_slice.ensures)
    c.remove.ensures.updates.0 c.remove.ensures.entries c.remove.ensures.ordered
    (omega (arith, c.remove.ensures.len, ap (λ o. one_if (is_some o)) c.remove.ensures.value))
    (c.saturating_sub-self.ensures ∙ ap (λ o. own.text - of_found (λ (file : File). file.len) o) c.in-Some.ensures.value)
    (c.saturating_sub-self-in-Some.ensures ∙ ap (λ n. own.others - n) c.others.ensures ∙ ap (λ o. own.others - of_found others_of o) c.in-Some.ensures.value)

pub returns-in-None-clause-taken : goal.returns-in-None-clause-taken
returns-in-None-clause-taken c =
    let own = c.args.self.now in
    λ files stands named.
    stands_removed own files c.args.name.now _ _ _ _ stands named (c.remove_file.ensures ∙ ap (finite.remove own.table) c.as_slice.ensures)
    c.remove.ensures.updates.0 c.remove.ensures.entries c.remove.ensures.ordered
    (omega (arith, c.remove.ensures.len, ap (λ o. one_if (is_some o)) c.remove.ensures.value))
    (omega (arith, ap (of_found (λ (file : File). file.len)) c.in-None.ensures.value))
    (omega (arith, ap (of_found others_of) c.in-None.ensures.value))
