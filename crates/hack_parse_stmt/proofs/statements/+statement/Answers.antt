use Rattle.std.proofs.Common.{◌≡◌, rules, ap, arith}
use Rattle.std.proofs.lemmas.Grind.{common_steps}
use Rattle.hack_parse_stmt.specs.Statements.{statement}
use Rattle.hack_parse_expr.proofs.Turns.{deeper}
use Rattle.hack_parse_stmt.proofs.statements.+statement.Goals as goal

pub returns-then-depth-eq0 : goal.returns-then-depth-eq0
unfolding statement
returns-then-depth-eq0 t c memory =
    let none : c.args.depth ≡ 0 = omega arith in
    let at_none = ap (λ n. statement n c.args.cursor.now) none in
    first_of (search rules, grind (arith, common_steps))

pub returns : goal.returns
unfolding statement
returns t c = rw (deeper (λ n. statement n c.args.cursor.now) c.args.depth (omega arith)) c.statement_read.ensures
