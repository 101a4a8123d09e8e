use Rattle.std.proofs.Common.{rules, arith}
use Rattle.std.proofs.lemmas.Grind.{common_steps}
use Rattle.hack_parse_expr.specs.Rows.{begins_parameter}
use Rattle.hack_parse_expr.specs.Parsers.{list_from, list_of}
use Rattle.hack_parse_decl.specs.Declarations.{parameter_list, parameter}
use Rattle.hack_parse_expr.proofs.Turns.{one_more, no_more}
use Rattle.hack_parse_decl.proofs.signature.parameter_list.Goals as goal

pub loop-turn-init : goal.loop-turn-init
unfolding parameter_list list_of
loop-turn-init c = first_of (search rules, grind (arith, common_steps))

pub returns-then-not-begins_parameter : goal.returns-then-not-begins_parameter
unfolding list_from
returns-then-not-begins_parameter c =
    let e = one_more (λ n. list_from begins_parameter parameter n c.loop-turn.found c.loop-turn.cursor) _ c.loop-turn._turn c.loop-turn-test.true c.loop-turn.invariant in
    first_of (search rules, grind (arith, common_steps))

pub returns-in_err-parameter : goal.returns-in_err-parameter
unfolding list_from
returns-in_err-parameter c =
    let e = one_more (λ n. list_from begins_parameter parameter n c.loop-turn.found c.loop-turn.cursor) _ c.loop-turn._turn c.loop-turn-test.true c.loop-turn.invariant in
    first_of (search rules, grind (arith, common_steps))

pub returns-then-not-eat : goal.returns-then-not-eat
unfolding list_from
returns-then-not-eat c =
    let e = one_more (λ n. list_from begins_parameter parameter n c.loop-turn.found c.loop-turn.cursor) _ c.loop-turn._turn c.loop-turn-test.true c.loop-turn.invariant in
    first_of (search rules, grind (arith, common_steps))

pub loop-turn-preserved : goal.loop-turn-preserved
unfolding list_from
loop-turn-preserved c =
    let e = one_more (λ n. list_from begins_parameter parameter n c.loop-turn.found c.loop-turn.cursor) _ c.loop-turn._turn c.loop-turn-test.true c.loop-turn.invariant in
    first_of (search rules, grind (arith, common_steps))

pub returns : goal.returns
unfolding list_from
returns c =
    let e = no_more (λ n. list_from begins_parameter parameter n c.loop-turn.found c.loop-turn.cursor) _ c.loop-turn._turn c.loop-turn-test.false c.loop-turn.invariant in
    first_of (search rules, grind (arith, common_steps))
