use Rattle.std.proofs.Common.{◌∙◌, ap, length, List, sym}
use Rattle.hack_types.specs.declared.hack_type.HackType.{HackType}
use Rattle.hack_values.proofs.Elements.{container_walks, same_count}
use Rattle.hack_values.proofs.containers.container.Goals as goal

pub contained-answer-requires : goal.contained-answer-requires
contained-answer-requires g c = same_count c.args.elements.now c.in_ok-types.ensures ∙ sym (ap (λ (types : List HackType). length types) c.as_slice.ensures)

pub returns : goal.returns
returns g c = container_walks c.args.elements.now c.args.container c.as_slice.result.now c.contained-answer.result c.as_slice.ensures c.in_ok-types.ensures c.contained-answer.ensures
