use Rattle.std.proofs.Common.{◌∙◌, nat_le, ap}
use Rattle.hack_types.specs.Substituted.{most_nodes}
use Rattle.hack_types.specs.TypeNodes.{nodes}
use Rattle.hack_types.specs.declared.hack_type.HackType.{HackType}
use Rattle.hack_shallow.specs.Scopes.{scope_of}
use Rattle.hack_written.proofs.Resolving.{same_type}
use Rattle.hack_written.proofs.whole.is_small_type.Goals as goal

pub returns : goal.returns
returns c = c.is_small.ensures ∙ ap (λ (t : HackType). nat_le (nodes t) most_nodes) (c.in_ok-ty.ensures ∙ same_type (scope_of c.args.names.now) c.args.ty.now)
