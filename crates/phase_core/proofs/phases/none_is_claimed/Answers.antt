use Rattle.std.proofs.Common.{sym, ◌∙◌}
use Rattle.phase_core.proofs.Sharing.{none_claimed}
use Rattle.phase_core.proofs.phases.none_is_claimed.Goals as goal

pub returns : goal.returns
returns c =
    let both = none_claimed c.args.state.now c.in_ok-claimed.field-0 c.in_ok-claims.claims.items c.in_ok-claimed.ensures c.in_ok-claims.ensures in
    (λ h. both.0 (sym c.from_vec.ensures ∙ c.is_empty-2.ensures.0 h), λ none. c.is_empty-2.ensures.1 (c.from_vec.ensures ∙ both.1 none))
