use Rattle.std.proofs.Common.{rules, arith}
use Rattle.std.proofs.lemmas.Grind.{common_steps}
use Rattle.hack_parse_expr.specs.Parsers.{many_from, many_of}
use Rattle.hack_parse_stmt.specs.Statements.{cases, case, statement, begins_case}
use Rattle.hack_parse_expr.proofs.Turns.{one_more, no_more}
use Rattle.hack_parse_stmt.proofs.statements.StatementGrammar.cases.Goals as goal

pub loop-turn-init : goal.loop-turn-init
unfolding cases many_of
loop-turn-init g c = first_of (search rules, grind (arith, common_steps))

pub returns-then-not-begins_case : goal.returns-then-not-begins_case
unfolding many_from
returns-then-not-begins_case g c =
    let e = one_more (λ n. many_from begins_case (case c.args.self.now.depth (statement c.args.self.now.depth)) n c.loop-turn.found c.loop-turn.cursor) _ c.loop-turn._turn c.loop-turn-test.true c.loop-turn.invariant in
    first_of (search rules, grind (arith, common_steps))

pub returns-in_err-case : goal.returns-in_err-case
unfolding many_from
returns-in_err-case g c =
    let e = one_more (λ n. many_from begins_case (case c.args.self.now.depth (statement c.args.self.now.depth)) n c.loop-turn.found c.loop-turn.cursor) _ c.loop-turn._turn c.loop-turn-test.true c.loop-turn.invariant in
    first_of (search rules, grind (arith, common_steps))

pub loop-turn-preserved : goal.loop-turn-preserved
unfolding many_from
loop-turn-preserved g c =
    let e = one_more (λ n. many_from begins_case (case c.args.self.now.depth (statement c.args.self.now.depth)) n c.loop-turn.found c.loop-turn.cursor) _ c.loop-turn._turn c.loop-turn-test.true c.loop-turn.invariant in
    first_of (search rules, grind (arith, common_steps))

pub returns : goal.returns
unfolding many_from
returns g c =
    let e = no_more (λ n. many_from begins_case (case c.args.self.now.depth (statement c.args.self.now.depth)) n c.loop-turn.found c.loop-turn.cursor) _ c.loop-turn._turn c.loop-turn-test.false c.loop-turn.invariant in
    first_of (search rules, grind (arith, common_steps))
