-- What a heading says of a name, as the definitions read it off the declaration, and what it names.
use Rattle.std.proofs.Common.{◌≡◌, Bool, Option, Some, None, List, [], ◌∷◌, All, refl, arith}
use Rattle.std.proofs.lemmas.List.Elements.{All-cons}
use Rattle.std.specs.List.{flat_map}
use Rattle.hack_tree.specs.declared.written_type.ClassType.{ClassType}
use Rattle.hack_types.specs.declared.signature.TypeParam.{TypeParam}
use Rattle.hack_shallow.specs.Scope.{Scope as Names}
use Rattle.hack_decls.specs.DeclState.{Symbols}
use Rattle.hack_decls.specs.NameLaws.{back, front}
use Rattle.hack_decls.specs.Names.{TypeIn, types_of_param}
use Rattle.hack_decls.specs.Picks.{heading_answer}
use Rattle.hack_decls.specs.declared.answers.HeadingAnswer.{HeadingAnswer}
use Rattle.hack_decls.specs.declared.answers.HeadingAnswer.TheVariants as heading
use Rattle.hack_decls.specs.declared.folded.Folded.{Folded}
use Rattle.hack_decls.specs.declared.folded.Folded.TheVariants as folded
use Rattle.hack_rules.specs.WrittenTypes.{declared_by}
use Rattle.hack_written.specs.Within.{ParamsIn}
use Rattle.hack_written.specs.inside.Rows.{HeadingIn, expect_heading, mentions, params_of}

pub heading_law : (names : Names) (bounds : Bool) (class : ClassType) (traits : Bool) (entry : Option Folded)
    → expect_heading names bounds class traits (heading_answer entry) ≡ declared_by traits bounds class.at class.name (mentions names class.arguments) entry
unfolding declared_by
heading_law names bounds class traits None = refl
heading_law names bounds class traits (Some (folded.ClassLike c)) = refl
heading_law names bounds class traits (Some (folded.Enum sig)) = refl
heading_law names bounds class traits (Some (folded.Alias sig)) = refl
heading_law names bounds class traits (Some (folded.Function sig)) = refl
heading_law names bounds class traits (Some (folded.Constant ty)) = refl

module _ (symbols : Symbols) where
  none : ParamsIn symbols []
  none = λ k d lt. absurd (omega (arith, lt))

  each : (params : List TypeParam) → All (TypeIn symbols) (flat_map types_of_param params) → ParamsIn symbols params
  each [] all = none
  each (p ∷ ps) all =
      All-cons (λ param. All (TypeIn symbols) (types_of_param param)) p ps (front (TypeIn symbols) (types_of_param p) (flat_map types_of_param ps) all)
      (each ps (back (TypeIn symbols) (types_of_param p) (flat_map types_of_param ps) all))

  pub in_params : (answer : HeadingAnswer) → HeadingIn symbols answer → ParamsIn symbols (params_of answer)
  in_params heading.Absent all = none
  in_params (heading.ClassLike class) all = each class.type_params all
  in_params (heading.Enum sig) all = none
  in_params (heading.Alias sig) all = each sig.type_params (front (TypeIn symbols) (flat_map types_of_param sig.type_params) (sig.body ∷ []) all)
  in_params (heading.Function sig) all = none
  in_params (heading.Constant ty) all = none
