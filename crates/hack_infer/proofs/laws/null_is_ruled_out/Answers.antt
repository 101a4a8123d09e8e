use Rattle.std.proofs.Common.{◌≡◌, ◌∙◌, refl, sym, ap}
use Rattle.hack_types.specs.Substituted.{most_nodes}
use Rattle.hack_types.specs.declared.hack_type.HackType.{HackType, out-HackType}
use Rattle.hack_types.specs.declared.hack_type.HackType.TheOpen.{HackType-F}
use Rattle.hack_types.specs.declared.hack_type.HackType.TheVariants as type
use Rattle.hack_types.specs.declared.hack_type.HackType.TheViews.{out-roll-HackType}
use Rattle.hack_decls.specs.DeclState.{Map}
use Rattle.hack_sub.specs.Parts as parts
use Rattle.hack_infer.proofs.Turns.{one_turn}
use Rattle.hack_infer.specs.WithoutNull.{members_by, named_by, option_by, plain_by, without_null, without_null_in}
use Rattle.hack_infer.proofs.laws.null_is_ruled_out.Goals as goal

of_option : (map : Map) (U : HackType) → without_null map (type.Option U) ≡ U
of_option map U =
    let T = type.Option U in
    let is : out-HackType T ≡ HackType-F.Option U = ap out-HackType (sym (type.rolls-Option U)) ∙ out-roll-HackType (HackType-F.Option U) in
    sym (one_turn map T most_nodes 255 refl) ∙ ap (λ (layer : HackType-F HackType). option_by (without_null_in 255 map) map T (parts.option_by layer)) is

plain : (map : Map) (T : HackType) (layer : HackType-F HackType) → out-HackType T ≡ layer
    → option_by (without_null_in 255 map) map T (parts.option_by layer) ≡ members_by (without_null_in 255 map) map T (parts.members_by (out-HackType T))
    → members_by (without_null_in 255 map) map T (parts.members_by layer) ≡ named_by (without_null_in 255 map) map T (parts.name_by (out-HackType T))
    → named_by (without_null_in 255 map) map T (parts.name_by layer) ≡ plain_by T (out-HackType T)
    → without_null map T ≡ plain_by T layer
plain map T layer is one two three =
    sym (one_turn map T most_nodes 255 refl)
    ∙ ap (λ (x : HackType-F HackType). option_by (without_null_in 255 map) map T (parts.option_by x)) is ∙ one
    ∙ ap (λ (x : HackType-F HackType). members_by (without_null_in 255 map) map T (parts.members_by x)) is ∙ two
    ∙ ap (λ (x : HackType-F HackType). named_by (without_null_in 255 map) map T (parts.name_by x)) is ∙ three
    ∙ ap (λ (x : HackType-F HackType). plain_by T x) is

pub returns : goal.returns
returns c = record {
  option = of_option;
  mixed = λ map. plain map type.Mixed HackType-F.Mixed (ap out-HackType (sym type.rolls-Mixed) ∙ out-roll-HackType HackType-F.Mixed) refl refl refl;
  null = λ map. plain map type.Null HackType-F.Null (ap out-HackType (sym type.rolls-Null) ∙ out-roll-HackType HackType-F.Null) refl refl refl;
}
