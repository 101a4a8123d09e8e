use Rattle.std.proofs.Common.{◌&&◌}
use Rattle.hack_types.specs.declared.hack_type.HackType.{HackType}
use Rattle.hack_decls.specs.DeclState.{Map}
use Rattle.hack_sub.specs.NamesOf.{in_dict}
use Rattle.hack_sub.proofs.Tells.{told_under}
use Rattle.hack_sub.specs.IsBelow.{is_below, some_and}
use Rattle.hack_sub.specs.Parts.{dict_parts}
use Rattle.hack_sub.proofs.containers.dicts.Goals as goal

pub returns-in-Some-Some : goal.returns-in-Some-Some
returns-in-Some-Some g c =
    let S = c.args.lower.now in let T = c.args.upper.now in
    let s : HackType × HackType = (c.in-Some-Some.key.now, c.in-Some-Some.value.now) in
    let t : HackType × HackType = (c.in-Some-Some.other_key.now, c.in-Some-Some.other_value.now) in
    told_under (λ (map : Map) (s : HackType × HackType). some_and (dict_parts T) (λ t. is_below map c.args.level.now.scope.now c.args.level.now.height s.0 t.0 && is_below map c.args.level.now.scope.now c.args.level.now.height s.1 t.1)) (dict_parts S) s c.in-Some-Some.ensures c.both.result
    (told_under (λ (map : Map) (t : HackType × HackType). is_below map c.args.level.now.scope.now c.args.level.now.height s.0 t.0 && is_below map c.args.level.now.scope.now c.args.level.now.height s.1 t.1) (dict_parts T) t c.in-Some-Some.ensures' c.both.result c.both.ensures (λ symbols n. n))
    (λ symbols n. let own = in_dict symbols S s c.in-Some-Some.ensures n.lower in let its = in_dict symbols T t c.in-Some-Some.ensures' n.upper in
    record { around = n.around; lower = own.0; upper = its.0; next_lower = own.1; next_upper = its.1 })
