use Rattle.std.proofs.Common.{◌≡◌, ◌+◌, ◌-◌, ◌/◌, ℕ, arith, sym, ◌∙◌}
use Rattle.std.specs.Ordering.{nat_cmp}
use Rattle.std.specs.Cmp.Lexicographic.{slice_cmp}
use Rattle.std.specs.declared.cmp.Ordering.TheVariants.{Equal}
use Rattle.case_table.specs.Cases.{words}
use Rattle.case_table.proofs.Words.{none_up_to, none_from, same_bytes}
use Rattle.case_table.proofs.cases.find.Goals as goal

pub loop-low-preserved-in-Less : goal.loop-low-preserved-in-Less
loop-low-preserved-in-Less c =
    let ws = words c.args.bytes.now in
    let m : ℕ = c.loop-low.low + (c.loop-low.high - c.loop-low.low) / 2 in
    record {
      order = omega arith;
      inside = omega arith;
      below = λ k h e. none_up_to ws c.args.key.now m k c.requires.rising (omega (arith, c.requires.placed.count)) (cc) (omega arith) e;
      above = c.loop-low.invariant.above;
    }

pub returns-in-Equal-clause-found : goal.returns-in-Equal-clause-found
returns-in-Equal-clause-found c =
    let same : slice_cmp nat_cmp c.word.result.now c.args.key.now ≡ Equal = cc in
    (omega arith, sym c.word.ensures ∙ same_bytes c.word.result.now c.args.key.now same)

pub loop-low-preserved : goal.loop-low-preserved
loop-low-preserved c =
    let ws = words c.args.bytes.now in
    let m : ℕ = c.loop-low.low + (c.loop-low.high - c.loop-low.low) / 2 in
    record {
      order = omega arith;
      inside = omega arith;
      below = c.loop-low.invariant.below;
      above = λ k h l e. none_from ws c.args.key.now m k c.requires.rising (omega (arith, c.requires.placed.count)) (cc) (omega arith) e;
    }
