use Rattle.std.proofs.Common.{rules, arith}
use Rattle.std.proofs.lemmas.Grind.{common_steps}
use Rattle.hack_parse_expr.specs.Parsers.{many_of, many_from}
use Rattle.hack_parse_expr.specs.Expressions.{at_level, operations, operand, further, begins_operator, nests}
use Rattle.hack_parse_expr.proofs.Levels.{level_is}
use Rattle.hack_parse_expr.proofs.Turns.{one_more, no_more}
use Rattle.hack_parse_expr.proofs.grammar.Grammar.+levels.Goals as goal

pub level-returns-in_err-at : goal.level-returns-in_err-at
unfolding at_level
level-returns-in_err-at g t c =
    let e = level_is c.args.self.now.depth (nests c.args.self.now.depth) c.args.level in
    first_of (search rules, grind (arith, common_steps))

pub level-returns-in_err-first : goal.level-returns-in_err-first
unfolding at_level
level-returns-in_err-first g t c =
    let e = level_is c.args.self.now.depth (nests c.args.self.now.depth) c.args.level in
    first_of (search rules, grind (arith, common_steps))

pub level-returns-in_err-others : goal.level-returns-in_err-others
unfolding at_level
level-returns-in_err-others g t c =
    let e = level_is c.args.self.now.depth (nests c.args.self.now.depth) c.args.level in
    first_of (search rules, grind (arith, common_steps))

pub level-returns : goal.level-returns
unfolding at_level
level-returns g t c =
    let e = level_is c.args.self.now.depth (nests c.args.self.now.depth) c.args.level in
    first_of (search rules, grind (arith, common_steps))

pub operations-loop-turn-init : goal.operations-loop-turn-init
unfolding operations many_of
operations-loop-turn-init g t c = first_of (search rules, grind (arith, common_steps))

pub operations-returns-in_default : goal.operations-returns-in_default
unfolding many_from further
operations-returns-in_default g t c =
    let e = one_more (λ n. many_from (begins_operator c.args.level) (further c.args.self.now.depth (nests c.args.self.now.depth) c.args.level (operand c.args.self.now.depth (nests c.args.self.now.depth) c.args.level)) n c.loop-turn.found c.loop-turn.cursor) _ c.loop-turn._turn c.loop-turn-test.true c.loop-turn.invariant in
    first_of (search rules, grind (arith, common_steps))

pub operations-returns-in_err-token : goal.operations-returns-in_err-token
unfolding many_from further
operations-returns-in_err-token g t c =
    let e = one_more (λ n. many_from (begins_operator c.args.level) (further c.args.self.now.depth (nests c.args.self.now.depth) c.args.level (operand c.args.self.now.depth (nests c.args.self.now.depth) c.args.level)) n c.loop-turn.found c.loop-turn.cursor) _ c.loop-turn._turn c.loop-turn-test.true c.loop-turn.invariant in
    first_of (search rules, grind (arith, common_steps))

pub operations-returns-in_err-operand : goal.operations-returns-in_err-operand
unfolding many_from further
operations-returns-in_err-operand g t c =
    let e = one_more (λ n. many_from (begins_operator c.args.level) (further c.args.self.now.depth (nests c.args.self.now.depth) c.args.level (operand c.args.self.now.depth (nests c.args.self.now.depth) c.args.level)) n c.loop-turn.found c.loop-turn.cursor) _ c.loop-turn._turn c.loop-turn-test.true c.loop-turn.invariant in
    first_of (search rules, grind (arith, common_steps))

pub operations-loop-turn-preserved : goal.operations-loop-turn-preserved
unfolding many_from further
operations-loop-turn-preserved g t c =
    let e = one_more (λ n. many_from (begins_operator c.args.level) (further c.args.self.now.depth (nests c.args.self.now.depth) c.args.level (operand c.args.self.now.depth (nests c.args.self.now.depth) c.args.level)) n c.loop-turn.found c.loop-turn.cursor) _ c.loop-turn._turn c.loop-turn-test.true c.loop-turn.invariant in
    first_of (search rules, grind (arith, common_steps))

pub operations-returns : goal.operations-returns
unfolding many_from
operations-returns g t c =
    let e = no_more (λ n. many_from (begins_operator c.args.level) (further c.args.self.now.depth (nests c.args.self.now.depth) c.args.level (operand c.args.self.now.depth (nests c.args.self.now.depth) c.args.level)) n c.loop-turn.found c.loop-turn.cursor) _ c.loop-turn._turn c.loop-turn-test.false c.loop-turn.invariant in
    first_of (search rules, grind (arith, common_steps))
