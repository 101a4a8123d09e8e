use Rattle.std.proofs.Common.{rules, arith}
use Rattle.std.proofs.lemmas.Grind.{common_steps}
use Rattle.hack_parse_expr.specs.Parsers.{token, after, next}
use Rattle.hack_parse_expr.specs.Types.{fields, fields_from, written_type}
use Rattle.hack_parse_expr.proofs.Turns.{one_more, no_more}
use Rattle.hack_parse_expr.proofs.types.TypeGrammar.fields.Goals as goal

pub loop-turn-init : goal.loop-turn-init
unfolding fields
loop-turn-init g c = first_of (search rules, grind (arith, common_steps))

pub returns-then-eat : goal.returns-then-eat
unfolding fields_from after next token
returns-then-eat g c =
    let e = one_more (λ n. fields_from (written_type c.args.self.now.depth) n c.loop-turn.found c.loop-turn.cursor) _ c.loop-turn._turn c.loop-turn-test.true c.loop-turn.invariant in
    first_of (search rules, grind (arith, common_steps))

pub returns-then-not-begins_field : goal.returns-then-not-begins_field
unfolding fields_from after next token
returns-then-not-begins_field g c =
    let e = one_more (λ n. fields_from (written_type c.args.self.now.depth) n c.loop-turn.found c.loop-turn.cursor) _ c.loop-turn._turn c.loop-turn-test.true c.loop-turn.invariant in
    first_of (search rules, grind (arith, common_steps))

pub returns-in_err-field : goal.returns-in_err-field
unfolding fields_from after next token
returns-in_err-field g c =
    let e = one_more (λ n. fields_from (written_type c.args.self.now.depth) n c.loop-turn.found c.loop-turn.cursor) _ c.loop-turn._turn c.loop-turn-test.true c.loop-turn.invariant in
    first_of (search rules, grind (arith, common_steps))

pub returns-then-not-eat : goal.returns-then-not-eat
unfolding fields_from after next token
returns-then-not-eat g c =
    let e = one_more (λ n. fields_from (written_type c.args.self.now.depth) n c.loop-turn.found c.loop-turn.cursor) _ c.loop-turn._turn c.loop-turn-test.true c.loop-turn.invariant in
    first_of (search rules, grind (arith, common_steps))

pub loop-turn-preserved : goal.loop-turn-preserved
unfolding fields_from after next token
loop-turn-preserved g c =
    let e = one_more (λ n. fields_from (written_type c.args.self.now.depth) n c.loop-turn.found c.loop-turn.cursor) _ c.loop-turn._turn c.loop-turn-test.true c.loop-turn.invariant in
    first_of (search rules, grind (arith, common_steps))

pub returns : goal.returns
unfolding fields_from
returns g c =
    let e = no_more (λ n. fields_from (written_type c.args.self.now.depth) n c.loop-turn.found c.loop-turn.cursor) _ c.loop-turn._turn c.loop-turn-test.false c.loop-turn.invariant in
    first_of (search rules, grind (arith, common_steps))
