-- Types that are put in, and types of more than 256 nodes.
use Rattle.std.proofs.Common.{◌≡◌, ◌∙◌, ◌<◌, ◌≤◌, cond, sym, ap}
use Rattle.std.proofs.lemmas.Bool.{le-leb}
use borrow.Author.Tests.{lt-leb}
use Rattle.hack_types.specs.Substituted.{limited, most_nodes}
use Rattle.hack_types.specs.TypeNodes.{nodes}
use Rattle.hack_types.specs.declared.hack_type.HackType.{HackType}
use Rattle.hack_types.specs.declared.hack_type.HackType.TheVariants.{Any}

pub whole : (ty put : HackType) → (put ≡ ty) × (nodes ty ≤ most_nodes) → put ≡ limited ty
whole ty put is = is.0 ∙ sym (ap (λ b. cond b ty Any) (le-leb (nodes ty) most_nodes is.1))

pub too_large : (ty : HackType) → most_nodes < nodes ty → Any ≡ limited ty
too_large ty large = sym (ap (λ b. cond b ty Any) (lt-leb (nodes ty) most_nodes large))
