use Rattle.std.proofs.Common.{refl}
use Rattle.hack_rules.specs.Walks.{◌>>=◌, reads}
use Rattle.hack_rules.specs.WrittenTypes.{used_trait}
use Rattle.hack_written.proofs.Walking.{walks_as}
use Rattle.hack_written.proofs.whole.used_trait.Goals as goal

pub returns : goal.returns
unfolding used_trait ◌>>=◌ reads
returns g c = walks_as _ c.named_class.result c.named_class.ensures (λ m. refl) (λ symbols n. n) (λ symbols a n v. v)
