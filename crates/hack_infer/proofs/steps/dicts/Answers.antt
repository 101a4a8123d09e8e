use Rattle.std.proofs.Common.{◌∙◌, Some, ap}
use Rattle.hack_types.specs.declared.hack_type.HackType.{HackType}
use Rattle.hack_decls.specs.DeclState.{Map}
use Rattle.hack_sub.specs.Parts.{dict_parts}
use Rattle.hack_sub.specs.NamesOf.{in_dict}
use Rattle.hack_infer.proofs.Takes.{takes_as}
use Rattle.hack_infer.specs.Matching.{match_in, both_or, class_types, dict_types}
use Rattle.hack_infer.proofs.steps.dicts.Goals as goal

pub returns-in-Some-Some : goal.returns-in-Some-Some
returns-in-Some-Some g c =
    let W = c.args.wanted.now in let G = c.args.given.now in let t = c.args.taken.now in
    let r = λ (map : Map). match_in c.args.deeper.now.depth map in
    let U : HackType × HackType = (c.in-Some-Some.key.now, c.in-Some-Some.value.now) in let V : HackType × HackType = (c.in-Some-Some.other_key.now, c.in-Some-Some.other_value.now) in
    takes_as _ c.both.result c.both.ensures
    (λ map. ap (λ o. both_or (dict_types (r map)) (class_types (r map) map W G) o (Some V) t) c.in-Some-Some.ensures ∙ ap (λ o. both_or (dict_types (r map)) (class_types (r map) map W G) (dict_parts W) o t) c.in-Some-Some.ensures')
    (λ symbols n. let own = in_dict symbols W U c.in-Some-Some.ensures n.wanted in let its = in_dict symbols G V c.in-Some-Some.ensures' n.given in
    record {
      keys = record { keyed = n.keyed; wanted = own.0; given = its.0 };
      values = record { keyed = n.keyed; wanted = own.1; given = its.1 };
    })
