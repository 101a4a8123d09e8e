use Rattle.std.proofs.Common.{arith, ◌∙◌, refl}
use Rattle.hack_lexer.proofs.Cuts.{so_far_blank, so_far_taken, so_far_all}
use Rattle.hack_lexer.proofs.Sorts.{sorts_of_tokens}
use Rattle.hack_lexer.proofs.cut.tokens.Goals as goal

pub loop-at-preserved-in-Blank : goal.loop-at-preserved-in-Blank
loop-at-preserved-in-Blank c = record {
  inside = c.in-Blank.ensures.2;
  so_far = so_far_blank c.args.bytes.now c.loop-at.at c.in-Blank.len c.loop-at.tokens.items c.loop-at.invariant.so_far c.in-Blank.ensures.0;
}

pub loop-at-preserved : goal.loop-at-preserved
loop-at-preserved c =
    let t = c.in-Taken.token in
    let longest = c.in-Taken.ensures.2 in
    let ok = c.if-is_err.ensures.negation in
    record {
      inside = omega (arith, longest.inside, c.in-Taken.ensures.0);
      so_far = so_far_taken c.args.bytes.now c.loop-at.at t c.loop-at.tokens.items c.push.new.self.items c.loop-at.invariant.so_far c.in-Taken.ensures.0 longest c.in-Taken.ensures.3 (c.push.ensures.items ∙ rw ok refl);
    }

pub returns-clause-kinds : goal.returns-clause-kinds
returns-clause-kinds c = sorts_of_tokens c.args.bytes.now c.loop-at.tokens.items (so_far_all c.args.bytes.now c.loop-at.at c.loop-at.tokens.items c.loop-at.invariant.so_far (omega (arith, c.loop-at-test.false)))
