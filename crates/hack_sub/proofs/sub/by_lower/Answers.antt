use Rattle.std.proofs.Common.{ap}
use Rattle.hack_sub.specs.IsBelow.{by_known, is_below}
use Rattle.hack_sub.specs.Knowing.{known}
use Rattle.hack_sub.specs.declared.known.Known.{Known}
use Rattle.hack_sub.proofs.Tells.{gone_on}
use Rattle.hack_sub.proofs.sub.by_lower.Goals as goal

pub returns : goal.returns
returns g c = let S = c.args.lower.now in let T = c.args.upper.now in
    gone_on (λ map. by_known map c.args.level.now.scope.now (known map S) (known map T) (is_below map c.args.level.now.scope.now c.args.level.now.height) S T) c.by_upper.result c.in_ok-lower_is.ensures c.by_upper.ensures
    (λ map e. ap (λ (k : Known). by_known map c.args.level.now.scope.now k (known map T) (is_below map c.args.level.now.scope.now c.args.level.now.height) S T) e)
    (λ symbols n. n.lower) (λ symbols n given. n)
