use Rattle.std.proofs.Common.{sym, ◌∙◌}
use Rattle.std.proofs.lemmas.Bool.{true≢false}
use Rattle.hack_types.proofs.UnionLemmas.{found, none_more}
use Rattle.hack_types.proofs.type_union.stands_in.Goals as goal

pub returns-then-same : goal.returns-then-same
returns-then-same c = found c.args.types.now c.loop-other.other-index c.other-item.result c.loop-other-test.true c.other-item.is c.args.ty.now (c.same.ensures.0 c.if-same.true)

pub loop-other-preserved : goal.loop-other-preserved
loop-other-preserved c = none_more c.args.types.now c.loop-other.other-index c.other-item.result c.loop-other-test.true c.other-item.is c.args.ty.now
    (λ e. true≢false (sym (c.same.ensures.1 e) ∙ c.if-same.false)) c.loop-other.invariant
