use Rattle.hack_decls.specs.DeclState.{Map}
use Rattle.hack_rules.specs.Heads.{head_of}
use Rattle.hack_rules.specs.Indices.{with_element, with_element_by}
use Rattle.hack_sub.specs.declared.scope.Scope.{Scope}
use Rattle.hack_types.specs.declared.hack_type.HackType.{HackType, out-HackType}
use Rattle.hack_walk.specs.WalkLaws.{reads_walks}
use Rattle.hack_targets.proofs.bases.with_element.Goals as goal

pub returns : goal.returns
unfolding with_element
returns g c =
    let base = c.args.base in let index = c.args.index in let new = c.args.new in
    reads_walks (λ (map : Map) (scope : Scope). head_of map scope base) (λ (head : HackType). with_element_by c.args.at c.args.value_at head new index (out-HackType head)) c.with_head.result
    c.in_ok-head.ensures c.with_head.ensures (λ symbols around n. (around, n.0)) (λ symbols n given. ((given, n.1), n.2)) (λ symbols b n given h. h)
