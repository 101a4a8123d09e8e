use Rattle.std.proofs.Common.{◌≡◌, ◌+◌, ◌++◌, fold, length, reverse}
use Rattle.hack_types.specs.MembersRise.{MembersRise}
use Rattle.hack_fold.specs.inside.Merging.{both_of}
use Rattle.hack_fold.specs.Walked.{with_member}
use Rattle.hack_fold.proofs.merge.merged.Given as goal

abbrev pub invariant-loop-member : goal.invariant-loop-member
invariant-loop-member l = record {
  so_far : l.both.items ++ both_of l.first.items l.second.items ≡ fold with_member l.fn.first.items l.fn.second.items;
  first_rises : MembersRise (reverse l.first.items);
  second_rises : MembersRise (reverse l.second.items);
}

abbrev pub decreases-loop-member : goal.decreases-loop-member
decreases-loop-member l = length l.first.items + length l.second.items
