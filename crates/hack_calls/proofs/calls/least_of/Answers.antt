use Rattle.std.proofs.Common.{◌<◌, ◌∙◌, length, refl, ap}
use Rattle.hack_rules.specs.Calls.{least_of}
use Rattle.hack_types.specs.declared.signature.Param.{Param}
use Rattle.hack_calls.proofs.Least.{passed, reached}
use Rattle.hack_calls.proofs.calls.least_of.Goals.{then-not-params-index, else-not-params-index}
use Rattle.hack_calls.proofs.calls.least_of.Goals as goal

pub loop-index-init : goal.loop-index-init
unfolding least_of
loop-index-init c = refl

pub loop-index-preserved : goal.loop-index-preserved
loop-index-preserved c =
    let ps = c.args.params.now in let i = c.loop-index.index in let p = c.index-params-index.result in
    let lt : i < length ps = c.loop-index-test.true in
    let optional = ap (λ (x : Param). x.optional) c.index-params-index.is in
    elim c.if-not-params-index.branch [
      | then-not-params-index w ↦ w.least-is ∙ reached ps i p lt c.index-params-index.is (optional ∙ w.if-not-params-index.true)
      | else-not-params-index w ↦ w.least-is ∙ passed ps i p lt c.index-params-index.is c.loop-index.least (optional ∙ w.if-not-params-index.false) c.loop-index.invariant
    ]
