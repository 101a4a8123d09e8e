use Rattle.std.proofs.lemmas.List.{length-map}
use Rattle.std.proofs.lemmas.List.FromFn.{length-map-range_with_len}
use Rattle.hack_infer.specs.Matching.{match_pair, nothing_taken, pairs, types_at}
use Rattle.hack_infer.specs.Solving.{solved_by}
use Rattle.hack_infer.proofs.laws.counts.Goals as goal

pub returns : goal.returns
returns c = record {
  taken = λ map wanted given count. length-map-range_with_len (types_at (pairs (match_pair map) wanted given nothing_taken).found) 0 count;
  solved = λ found. length-map found solved_by;
}
