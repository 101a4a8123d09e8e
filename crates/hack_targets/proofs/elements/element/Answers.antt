use Rattle.std.proofs.Common.{◌∙◌, subst, sym}
use Rattle.hack_decls.specs.AskLaws.{said}
use Rattle.hack_decls.specs.DeclState.{Map}
use Rattle.hack_decls.specs.Names.{TypeIn}
use Rattle.hack_rules.specs.Heads.{head_of}
use Rattle.hack_rules.specs.Indices.{element, element_by}
use Rattle.hack_sub.specs.declared.scope.Scope.{Scope}
use Rattle.hack_types.specs.declared.hack_type.HackType.{HackType, out-HackType}
use Rattle.hack_walk.specs.WalkLaws.{reads_walks}
use Rattle.hack_targets.proofs.elements.element.Goals as goal

pub returns : goal.returns
unfolding element
returns g c =
    let base = c.args.base.now in let at = c.args.at in let left = c.args.left in let index = c.args.index.now in
    reads_walks {Gives = TypeIn} (λ (map : Map) (scope : Scope). head_of map scope base) (λ (head : HackType). element_by at left head index (out-HackType head)) c.element_by-found.result
    (said c.or_self.result.now c.in_ok-head.ensures (λ map is. c.or_self.ensures ∙ is) (λ symbols n. n) (λ symbols n given. subst (TypeIn symbols) (sym c.or_self.ensures) given))
    c.element_by-found.ensures (λ symbols around n. (around, n.0)) (λ symbols n given. (given, n.1)) (λ symbols b n given h. h)
