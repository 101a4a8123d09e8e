use Rattle.std.proofs.Common.{rules, ◌≡◌, ◌↔◌, IsTrue, refl, subst}
use Rattle.hack_shallow.specs.Resolved.{type_of}
use Rattle.hack_shallow.specs.Shallow.{no_scope, IsBounded}
use Rattle.hack_shallow.proofs.shallow.enumeration.Goals as goal

pub returns : goal.returns
returns c =
    let base : c.in_ok-base.base ≡ type_of no_scope c.args.base.now = search rules in (
      record { base = c.in_ok-base.base; bounded = c.in_ok-bounded.bounded; cases = c.in_ok-cases.cases },
      refl,
      record {
        base = base;
        bounded = subst (λ t. IsTrue c.in_ok-bounded.bounded ↔ IsBounded t c.args.bound.now) base c.in_ok-bounded.ensures;
        cases = c.in_ok-cases.ensures;
      },
    )
