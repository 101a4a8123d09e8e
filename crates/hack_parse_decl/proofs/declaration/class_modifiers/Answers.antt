use Rattle.std.proofs.Common.{rules, arith}
use Rattle.std.proofs.lemmas.Grind.{common_steps}
use Rattle.hack_parse_expr.specs.Parsers.{many_from, many_of}
use Rattle.hack_parse_decl.specs.Declarations.{class_modifiers, class_modifier_read, begins_class_modifier}
use Rattle.hack_parse_expr.proofs.Turns.{one_more, no_more}
use Rattle.hack_parse_decl.proofs.declaration.class_modifiers.Goals as goal

pub loop-turn-init : goal.loop-turn-init
unfolding class_modifiers many_of
loop-turn-init c = first_of (search rules, grind (arith, common_steps))

pub returns-then-not-begins_class_modifier : goal.returns-then-not-begins_class_modifier
unfolding many_from
returns-then-not-begins_class_modifier c =
    let e = one_more (λ n. many_from begins_class_modifier class_modifier_read n c.loop-turn.found c.loop-turn.cursor) _ c.loop-turn._turn c.loop-turn-test.true c.loop-turn.invariant in
    first_of (search rules, grind (arith, common_steps))

pub returns-in_err-class_modifier_read : goal.returns-in_err-class_modifier_read
unfolding many_from
returns-in_err-class_modifier_read c =
    let e = one_more (λ n. many_from begins_class_modifier class_modifier_read n c.loop-turn.found c.loop-turn.cursor) _ c.loop-turn._turn c.loop-turn-test.true c.loop-turn.invariant in
    first_of (search rules, grind (arith, common_steps))

pub loop-turn-preserved : goal.loop-turn-preserved
unfolding many_from
loop-turn-preserved c =
    let e = one_more (λ n. many_from begins_class_modifier class_modifier_read n c.loop-turn.found c.loop-turn.cursor) _ c.loop-turn._turn c.loop-turn-test.true c.loop-turn.invariant in
    first_of (search rules, grind (arith, common_steps))

pub returns : goal.returns
unfolding many_from
returns c =
    let e = no_more (λ n. many_from begins_class_modifier class_modifier_read n c.loop-turn.found c.loop-turn.cursor) _ c.loop-turn._turn c.loop-turn-test.false c.loop-turn.invariant in
    first_of (search rules, grind (arith, common_steps))
