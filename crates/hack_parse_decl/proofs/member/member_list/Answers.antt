use Rattle.std.proofs.Common.{rules, arith}
use Rattle.std.proofs.lemmas.Grind.{common_steps}
use Rattle.hack_parse_expr.specs.Rows.{begins_member}
use Rattle.hack_parse_expr.specs.Parsers.{many_from, many_of}
use Rattle.hack_parse_decl.specs.Declarations.{member_list, member}
use Rattle.hack_parse_expr.proofs.Turns.{one_more, no_more}
use Rattle.hack_parse_decl.proofs.member.member_list.Goals as goal

pub loop-turn-init : goal.loop-turn-init
unfolding member_list many_of
loop-turn-init c = first_of (search rules, grind (arith, common_steps))

pub returns-then-not-begins_member : goal.returns-then-not-begins_member
unfolding many_from
returns-then-not-begins_member c =
    let e = one_more (λ n. many_from begins_member member n c.loop-turn.found c.loop-turn.cursor) _ c.loop-turn._turn c.loop-turn-test.true c.loop-turn.invariant in
    first_of (search rules, grind (arith, common_steps))

pub returns-in_err-member : goal.returns-in_err-member
unfolding many_from
returns-in_err-member c =
    let e = one_more (λ n. many_from begins_member member n c.loop-turn.found c.loop-turn.cursor) _ c.loop-turn._turn c.loop-turn-test.true c.loop-turn.invariant in
    first_of (search rules, grind (arith, common_steps))

pub loop-turn-preserved : goal.loop-turn-preserved
unfolding many_from
loop-turn-preserved c =
    let e = one_more (λ n. many_from begins_member member n c.loop-turn.found c.loop-turn.cursor) _ c.loop-turn._turn c.loop-turn-test.true c.loop-turn.invariant in
    first_of (search rules, grind (arith, common_steps))

pub returns : goal.returns
unfolding many_from
returns c =
    let e = no_more (λ n. many_from begins_member member n c.loop-turn.found c.loop-turn.cursor) _ c.loop-turn._turn c.loop-turn-test.false c.loop-turn.invariant in
    first_of (search rules, grind (arith, common_steps))
