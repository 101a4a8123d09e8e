use Rattle.std.proofs.Common.{◌≡◌, ◌∙◌, ℕ, sym, ap, arith}
use Rattle.hack_rules.specs.Expressions.{meaning_of}
use Rattle.hack_chains.specs.inside.Chaining.{compared_at}
use Rattle.hack_chains.proofs.LeftGroups.{compared_later}
use Rattle.hack_chains.proofs.from_left.compared_at.Goals as goal

pub returns-then-i-gt0 : goal.returns-then-i-gt0
returns-then-i-gt0 c = sym (compared_later c.args.i (meaning_of c.args.first.now) (meaning_of c.args.right.now) (omega arith))

pub returns : goal.returns
returns c =
    let none : 0 ≡ c.args.i = omega arith in
    c.compared.ensures ∙ ap (λ (i : ℕ). compared_at i (meaning_of c.args.first.now) (meaning_of c.args.right.now)) none
