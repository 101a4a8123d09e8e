use Rattle.std.proofs.Common.{rules, arith}
use Rattle.std.proofs.lemmas.Grind.{common_steps}
use Rattle.hack_parse_expr.specs.Expressions.{powers, powers_from, nests}
use Rattle.hack_parse_expr.specs.Parsers.{after}
use Rattle.hack_parse_expr.proofs.Turns.{one_more, no_more}
use Rattle.hack_parse_expr.proofs.grammar.Grammar.powers.Goals as goal

pub loop-turn-init : goal.loop-turn-init
unfolding powers
loop-turn-init g c = first_of (search rules, grind (arith, common_steps))

pub returns-then-not-eat : goal.returns-then-not-eat
unfolding powers_from after
returns-then-not-eat g c =
    let e = one_more (λ n. powers_from c.args.self.now.depth (nests c.args.self.now.depth) n c.loop-turn.found c.loop-turn.cursor) _ c.loop-turn._turn c.loop-turn-test.true c.loop-turn.invariant in
    first_of (search rules, grind (arith, common_steps))

pub returns-in_err-operated_deeper : goal.returns-in_err-operated_deeper
unfolding powers_from after
returns-in_err-operated_deeper g c =
    let e = one_more (λ n. powers_from c.args.self.now.depth (nests c.args.self.now.depth) n c.loop-turn.found c.loop-turn.cursor) _ c.loop-turn._turn c.loop-turn-test.true c.loop-turn.invariant in
    first_of (search rules, grind (arith, common_steps))

pub returns-then-begins_operated : goal.returns-then-begins_operated
unfolding powers_from after
returns-then-begins_operated g c =
    let e = one_more (λ n. powers_from c.args.self.now.depth (nests c.args.self.now.depth) n c.loop-turn.found c.loop-turn.cursor) _ c.loop-turn._turn c.loop-turn-test.true c.loop-turn.invariant in
    first_of (search rules, grind (arith, common_steps))

pub returns-in_err-tested : goal.returns-in_err-tested
unfolding powers_from after
returns-in_err-tested g c =
    let e = one_more (λ n. powers_from c.args.self.now.depth (nests c.args.self.now.depth) n c.loop-turn.found c.loop-turn.cursor) _ c.loop-turn._turn c.loop-turn-test.true c.loop-turn.invariant in
    first_of (search rules, grind (arith, common_steps))

pub loop-turn-preserved : goal.loop-turn-preserved
unfolding powers_from after
loop-turn-preserved g c =
    let e = one_more (λ n. powers_from c.args.self.now.depth (nests c.args.self.now.depth) n c.loop-turn.found c.loop-turn.cursor) _ c.loop-turn._turn c.loop-turn-test.true c.loop-turn.invariant in
    first_of (search rules, grind (arith, common_steps))

pub returns : goal.returns
unfolding powers_from after
returns g c =
    let e = no_more (λ n. powers_from c.args.self.now.depth (nests c.args.self.now.depth) n c.loop-turn.found c.loop-turn.cursor) _ c.loop-turn._turn c.loop-turn-test.false c.loop-turn.invariant in
    first_of (search rules, grind (arith, common_steps))
