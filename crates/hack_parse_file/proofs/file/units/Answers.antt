use Rattle.std.proofs.Common.{rules, arith}
use Rattle.std.proofs.lemmas.Grind.{common_steps}
use Rattle.hack_parse_expr.specs.Rows.{begins_declaration}
use Rattle.hack_parse_expr.specs.Parsers.{many_from, many_of}
use Rattle.hack_parse_file.specs.Files.{units, unit_read}
use Rattle.hack_parse_expr.proofs.Turns.{one_more, no_more}
use Rattle.hack_parse_file.proofs.file.units.Goals as goal

pub loop-turn-init : goal.loop-turn-init
unfolding units many_of
loop-turn-init c = first_of (search rules, grind (arith, common_steps))

pub returns-then-not-begins_declaration : goal.returns-then-not-begins_declaration
unfolding many_from
returns-then-not-begins_declaration c =
    let e = one_more (λ n. many_from begins_declaration (unit_read c.args.bytes.now) n c.loop-turn.found c.loop-turn.cursor) _ c.loop-turn._turn c.loop-turn-test.true c.loop-turn.invariant in
    first_of (search rules, grind (arith, common_steps))

pub returns-in_err-unit : goal.returns-in_err-unit
unfolding many_from
returns-in_err-unit c =
    let e = one_more (λ n. many_from begins_declaration (unit_read c.args.bytes.now) n c.loop-turn.found c.loop-turn.cursor) _ c.loop-turn._turn c.loop-turn-test.true c.loop-turn.invariant in
    first_of (search rules, grind (arith, common_steps))

pub loop-turn-preserved : goal.loop-turn-preserved
unfolding many_from
loop-turn-preserved c =
    let e = one_more (λ n. many_from begins_declaration (unit_read c.args.bytes.now) n c.loop-turn.found c.loop-turn.cursor) _ c.loop-turn._turn c.loop-turn-test.true c.loop-turn.invariant in
    first_of (search rules, grind (arith, common_steps))

pub returns : goal.returns
unfolding many_from
returns c =
    let e = no_more (λ n. many_from begins_declaration (unit_read c.args.bytes.now) n c.loop-turn.found c.loop-turn.cursor) _ c.loop-turn._turn c.loop-turn-test.false c.loop-turn.invariant in
    first_of (search rules, grind (arith, common_steps))
