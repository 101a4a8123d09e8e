use Rattle.std.proofs.Common.{◌≡◌, ◌∙◌, All, List, map, ap, subst, sym}
use Rattle.hack_types.specs.declared.hack_type.HackType.{HackType}
use Rattle.hack_types.specs.declared.signature.Param.{Param}
use Rattle.hack_decls.specs.Names.{TypeIn}
use Rattle.hack_rules.specs.WrittenTypes.{Argument}
use Rattle.hack_walk.specs.WalkLaws.{restated}
use Rattle.hack_calls.proofs.Naming.{in_given_types, in_param_types}
use Rattle.hack_calls.proofs.Solving.{same_solved}
use Rattle.hack_calls.proofs.matching.matched.Goals as goal

pub returns : goal.returns
returns g c =
    let signature = c.args.signature.now in let given = c.args.given.now in
    let params : c.as_slice.result.now ≡ signature.params = c.as_slice.ensures in
    let wanted : c.as_slice-2.result.now ≡ map (λ (param : Param). param.ty) signature.params =
    c.as_slice-2.ensures.value ∙ c.in_ok-wanted.ensures ∙ ap (map (λ (param : Param). param.ty)) params in
    let found : c.as_slice-3.result.now ≡ map (λ (a : Argument). a.ty) given = c.as_slice-3.ensures.value ∙ c.in_ok-given.ensures in
    restated c.solved_in.result c.solved_in.ensures
    (λ m a e. e ∙ same_solved m signature given c.as_slice-2.result.now c.as_slice-3.result.now c.in_ok-count.count wanted found (c.in_ok-count.ensures ∙ c.len.ensures))
    (λ symbols n. record {
      keyed = n.0.keyed;
      wanted = subst (λ (types : List HackType). All (TypeIn symbols) types) (sym wanted) (in_param_types symbols signature n.1);
      given = subst (λ (types : List HackType). All (TypeIn symbols) types) (sym found) (in_given_types symbols given n.2);
    })
    (λ symbols a n g. g)
