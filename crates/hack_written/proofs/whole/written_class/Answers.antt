use Rattle.std.proofs.Common.{refl}
use Rattle.hack_rules.specs.Walks.{◌>>=◌, reads}
use Rattle.hack_rules.specs.WrittenTypes.{written_class}
use Rattle.hack_written.proofs.Walking.{walks_as}
use Rattle.hack_written.proofs.whole.written_class.Goals as goal

pub returns : goal.returns
unfolding written_class ◌>>=◌ reads
returns g c = walks_as _ c.named_class.result c.named_class.ensures (λ m. refl) (λ symbols n. n) (λ symbols a n v. v)
