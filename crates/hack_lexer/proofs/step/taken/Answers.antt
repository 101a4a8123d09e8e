use Rattle.std.proofs.Common.{◌<◌, ◌≤◌, ◌^◌, refl, ap, subst, inr, drop}
use Rattle.hack_lexer.specs.Forms.{value_of_int}
use Rattle.hack_lexer.proofs.Cuts.{longest_from, too_large, same_slice}
use Rattle.hack_lexer.proofs.step.taken.Goals as goal

pub returns-then-not-is_in_range : goal.returns-then-not-is_in_range
returns-then-not-is_in_range c =
    let rest = drop c.args.index c.args.bytes.now in
    let same = ap value_of_int (same_slice rest c.args.index c.args.found.len) in
    inr (
      refl,
      record {
        int = record { sort = c.args.found.sort; at = c.args.index; len = c.args.found.len };
        at = refl;
        longest = longest_from c.args.bytes.now c.args.index c.args.found c.requires.inside c.requires.here c.requires.found;
        sort = c.if-found-eq3.true;
        above = subst (λ v. 2 ^ 63 ≤ v) same (too_large _ c.is_in_range.result c.is_in_range.ensures c.if-not-is_in_range.true);
      },
    )

pub returns-else-not-is_in_range : goal.returns-else-not-is_in_range
returns-else-not-is_in_range c =
    let rest = drop c.args.index c.args.bytes.now in
    let same = ap value_of_int (same_slice rest c.args.index c.args.found.len) in (
      refl,
      c.requires.found.not_empty,
      longest_from c.args.bytes.now c.args.index c.args.found c.requires.inside c.requires.here c.requires.found,
      λ three. subst (λ v. v < 2 ^ 63) same (c.is_in_range.ensures.0 c.if-not-is_in_range.false),
    )
