use Rattle.std.proofs.Common.{rules, arith}
use Rattle.std.proofs.lemmas.Grind.{common_steps}
use Rattle.hack_parse_expr.specs.Parsers.{many_of, many_from}
use Rattle.hack_parse_expr.specs.Expressions.{type_tests, begins_test, type_test, nests}
use Rattle.hack_parse_expr.proofs.Turns.{one_more, no_more}
use Rattle.hack_parse_expr.proofs.grammar.Grammar.type_tests.Goals as goal

pub loop-turn-init : goal.loop-turn-init
unfolding type_tests many_of
loop-turn-init g c = first_of (search rules, grind (arith, common_steps))

pub returns-in_default : goal.returns-in_default
unfolding many_from type_test
returns-in_default g c =
    let e = one_more (λ n. many_from begins_test (type_test c.args.self.now.depth (nests c.args.self.now.depth)) n c.loop-turn.found c.loop-turn.cursor) _ c.loop-turn._turn c.loop-turn-test.true c.loop-turn.invariant in
    first_of (search rules, grind (arith, common_steps))

pub returns-in_err-token : goal.returns-in_err-token
unfolding many_from type_test
returns-in_err-token g c =
    let e = one_more (λ n. many_from begins_test (type_test c.args.self.now.depth (nests c.args.self.now.depth)) n c.loop-turn.found c.loop-turn.cursor) _ c.loop-turn._turn c.loop-turn-test.true c.loop-turn.invariant in
    first_of (search rules, grind (arith, common_steps))

pub returns-in_err-tested : goal.returns-in_err-tested
unfolding many_from type_test
returns-in_err-tested g c =
    let e = one_more (λ n. many_from begins_test (type_test c.args.self.now.depth (nests c.args.self.now.depth)) n c.loop-turn.found c.loop-turn.cursor) _ c.loop-turn._turn c.loop-turn-test.true c.loop-turn.invariant in
    first_of (search rules, grind (arith, common_steps))

pub loop-turn-preserved : goal.loop-turn-preserved
unfolding many_from type_test
loop-turn-preserved g c =
    let e = one_more (λ n. many_from begins_test (type_test c.args.self.now.depth (nests c.args.self.now.depth)) n c.loop-turn.found c.loop-turn.cursor) _ c.loop-turn._turn c.loop-turn-test.true c.loop-turn.invariant in
    first_of (search rules, grind (arith, common_steps))

pub returns : goal.returns
unfolding many_from
returns g c =
    let e = no_more (λ n. many_from begins_test (type_test c.args.self.now.depth (nests c.args.self.now.depth)) n c.loop-turn.found c.loop-turn.cursor) _ c.loop-turn._turn c.loop-turn-test.false c.loop-turn.invariant in
    first_of (search rules, grind (arith, common_steps))
