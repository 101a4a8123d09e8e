use Rattle.std.proofs.Common.{rules, arith}
use Rattle.std.proofs.lemmas.Grind.{common_steps}
use Rattle.hack_parse_expr.specs.Rows.{sees}
use Rattle.hack_parse_expr.specs.Symbols.{Name}
use Rattle.hack_parse_expr.specs.Parsers.{list_from}
use Rattle.hack_parse_decl.specs.Declarations.{class_type}
use Rattle.hack_parse_expr.proofs.Turns.{one_more, no_more}
use Rattle.hack_parse_decl.proofs.member.class_types.Goals as goal

pub returns-then-not-sees_name : goal.returns-then-not-sees_name
unfolding list_from
returns-then-not-sees_name c =
    let e = one_more (λ n. list_from (sees Name) class_type n c.loop-turn.found c.loop-turn.cursor) _ c.loop-turn._turn c.loop-turn-test.true c.loop-turn.invariant in
    first_of (search rules, grind (arith, common_steps))

pub returns-in_err-class_read-2 : goal.returns-in_err-class_read-2
unfolding list_from
returns-in_err-class_read-2 c =
    let e = one_more (λ n. list_from (sees Name) class_type n c.loop-turn.found c.loop-turn.cursor) _ c.loop-turn._turn c.loop-turn-test.true c.loop-turn.invariant in
    first_of (search rules, grind (arith, common_steps))

pub returns-then-not-eat-2 : goal.returns-then-not-eat-2
unfolding list_from
returns-then-not-eat-2 c =
    let e = one_more (λ n. list_from (sees Name) class_type n c.loop-turn.found c.loop-turn.cursor) _ c.loop-turn._turn c.loop-turn-test.true c.loop-turn.invariant in
    first_of (search rules, grind (arith, common_steps))

pub loop-turn-preserved : goal.loop-turn-preserved
unfolding list_from
loop-turn-preserved c =
    let e = one_more (λ n. list_from (sees Name) class_type n c.loop-turn.found c.loop-turn.cursor) _ c.loop-turn._turn c.loop-turn-test.true c.loop-turn.invariant in
    first_of (search rules, grind (arith, common_steps))

pub returns : goal.returns
unfolding list_from
returns c =
    let e = no_more (λ n. list_from (sees Name) class_type n c.loop-turn.found c.loop-turn.cursor) _ c.loop-turn._turn c.loop-turn-test.false c.loop-turn.invariant in
    first_of (search rules, grind (arith, common_steps))
