use Rattle.std.proofs.Common.{rules, arith}
use Rattle.std.proofs.lemmas.Grind.{common_steps}
use Rattle.hack_parse_expr.specs.Rows.{begins_expression}
use Rattle.hack_parse_expr.specs.declared.rows.Nested.TheVariants as nested
use Rattle.hack_parse_expr.specs.Parsers.{list_from, list_of}
use Rattle.hack_parse_expr.specs.Expressions.{expressions, nests}
use Rattle.hack_parse_expr.proofs.Turns.{one_more, no_more}
use Rattle.hack_parse_expr.proofs.grammar.Grammar.expressions.Goals as goal

pub loop-turn-init : goal.loop-turn-init
unfolding expressions list_of
loop-turn-init g c = first_of (search rules, grind (arith, common_steps))

pub returns-then-not-begins_expression : goal.returns-then-not-begins_expression
unfolding list_from
returns-then-not-begins_expression g c =
    let e = one_more (λ n. list_from begins_expression (nests c.args.self.now.depth nested.Expression) n c.loop-turn.found c.loop-turn.cursor) _ c.loop-turn._turn c.loop-turn-test.true c.loop-turn.invariant in
    first_of (search rules, grind (arith, common_steps))

pub returns-in_err-expression : goal.returns-in_err-expression
unfolding list_from
returns-in_err-expression g c =
    let e = one_more (λ n. list_from begins_expression (nests c.args.self.now.depth nested.Expression) n c.loop-turn.found c.loop-turn.cursor) _ c.loop-turn._turn c.loop-turn-test.true c.loop-turn.invariant in
    first_of (search rules, grind (arith, common_steps))

pub returns-then-not-eat : goal.returns-then-not-eat
unfolding list_from
returns-then-not-eat g c =
    let e = one_more (λ n. list_from begins_expression (nests c.args.self.now.depth nested.Expression) n c.loop-turn.found c.loop-turn.cursor) _ c.loop-turn._turn c.loop-turn-test.true c.loop-turn.invariant in
    first_of (search rules, grind (arith, common_steps))

pub loop-turn-preserved : goal.loop-turn-preserved
unfolding list_from
loop-turn-preserved g c =
    let e = one_more (λ n. list_from begins_expression (nests c.args.self.now.depth nested.Expression) n c.loop-turn.found c.loop-turn.cursor) _ c.loop-turn._turn c.loop-turn-test.true c.loop-turn.invariant in
    first_of (search rules, grind (arith, common_steps))

pub returns : goal.returns
unfolding list_from
returns g c =
    let e = no_more (λ n. list_from begins_expression (nests c.args.self.now.depth nested.Expression) n c.loop-turn.found c.loop-turn.cursor) _ c.loop-turn._turn c.loop-turn-test.false c.loop-turn.invariant in
    first_of (search rules, grind (arith, common_steps))
