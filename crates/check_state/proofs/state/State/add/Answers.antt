use Rattle.std.proofs.Common.{◌+◌, ◌-◌, ◌^◌, ap, ◌∙◌, arith}
use Rattle.std.specs.Prelude.{is_some, min}
use Rattle.check_state.specs.Stands.{with_file}
use Rattle.check_state.proofs.Standing.{stands_added, not_kept, one_unless}
use Rattle.check_state.proofs.state.State.add.Goals as goal

pub returns-clause-added : goal.returns-clause-added
returns-clause-added c =
    let own = c.args.self.now in
    let file = c.args.file in
    λ files body stands named new is few short.
    stands_added own files c.args.name body file _ _ _ _ stands named new is
    (c.in_ok-enter.ensures ∙ ap (λ name. with_file own.table name file.parsed) c.as_slice.ensures)
    c.in_ok-insert.ensures.updates.0 c.in_ok-insert.ensures.entries c.insert.ensures.ordered c.saturating_add-self.ensures
    (c.saturating_add-self-2.ensures ∙ ap (λ n. min (own.others + n) (2 ^ 64 - 1)) c.others.ensures) few short
    (omega (arith, c.in_ok-insert.ensures.len, ap (λ o. one_unless (is_some o)) (c.in_ok-insert.ensures.old ∙ not_kept own files c.args.name stands new)))
