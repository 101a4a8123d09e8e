use Rattle.std.proofs.Common.{refl}
use Rattle.hack_infer.proofs.Takes.{takes_from}
use Rattle.hack_infer.proofs.matching.match_pair.Goals as goal

pub returns : goal.returns
returns g c = takes_from _ c.match_in.result c.match_in.ensures (λ map. refl) (λ symbols n. n) (λ symbols was. record { found = was.found })
