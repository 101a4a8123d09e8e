use Rattle.std.proofs.Common.{◌-◌, false, arith}
use Rattle.hack_sub.proofs.Heights.{at_more, at_zero}
use Rattle.hack_sub.proofs.Tells.{answered, told}
use Rattle.hack_sub.specs.IsBelow.{is_below}
use Rattle.hack_sub.proofs.sub.+related.Goals as goal

pub returns-then-height-eq0 : goal.returns-then-height-eq0
returns-then-height-eq0 g t c =
    answered _ false (λ map. is_below map c.args.scope.now c.args.height c.args.lower.now c.args.upper.now)
    (λ map. at_zero map c.args.scope.now c.args.lower.now c.args.upper.now c.args.height (omega arith))

-- the relation one lower is told of by the call of itself
pub by_rules-requires : goal.by_rules-requires
by_rules-requires g t c = record {
  callable = λ alloc decls scope lower upper. (omega (arith, c.decreases), λ lifetime lives. lives);
  tells = λ alloc decls scope lower upper result after post. post.1;
}

pub returns : goal.returns
returns g t c =
    told (λ map. is_below map c.args.scope.now c.args.height c.args.lower.now c.args.upper.now) c.by_rules.result c.by_rules.ensures
    (λ map. at_more map c.args.scope.now c.args.lower.now c.args.upper.now c.args.height (c.args.height - 1) (omega arith))
    (λ symbols n. n)
