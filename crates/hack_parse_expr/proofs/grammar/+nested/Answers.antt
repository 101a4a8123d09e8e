use Rattle.std.proofs.Common.{◌≡◌, rules, ap, arith}
use Rattle.std.proofs.lemmas.Grind.{common_steps}
use Rattle.hack_parse_expr.specs.Expressions.{nests}
use Rattle.hack_parse_expr.proofs.Turns.{deeper}
use Rattle.hack_parse_expr.proofs.grammar.+nested.Goals as goal

pub returns-then-depth-eq0 : goal.returns-then-depth-eq0
unfolding nests
returns-then-depth-eq0 t c memory =
    let none : c.args.depth ≡ 0 = omega arith in
    let at_none = ap (λ n. nests n c.args.what c.args.cursor.now) none in
    first_of (search rules, grind (arith, common_steps))

pub returns-in-Expression : goal.returns-in-Expression
unfolding nests
returns-in-Expression t c =
    let e = deeper (λ n. nests n c.args.what c.args.cursor.now) c.args.depth (omega arith) in
    rw e (rw c.in-Expression.is c.whole.ensures)

pub returns-in-Operated : goal.returns-in-Operated
unfolding nests
returns-in-Operated t c =
    let e = deeper (λ n. nests n c.args.what c.args.cursor.now) c.args.depth (omega arith) in
    rw e (rw c.in-Operated.is c.operated.ensures)
