-- The lines of a call, over the signature itself.
use Rattle.std.proofs.Common.{◌≡◌, ◌∙◌, ℕ, Result, Ok, List, All, length, ap, subst, sym}
use Rattle.hack_types.specs.declared.hack_type.HackType.{HackType}
use Rattle.hack_types.specs.declared.place.Place.{Place}
use Rattle.hack_types.specs.declared.signature.Param.{Param}
use Rattle.hack_types.specs.declared.signature.Signature.{Signature}
use Rattle.hack_types.specs.declared.signature.TypeParam.{TypeParam}
use Rattle.hack_decls.specs.Asks.{Nothing}
use Rattle.hack_decls.specs.DeclState.{DeclState, Symbols}
use Rattle.hack_decls.specs.Names.{TypeIn}
use Rattle.hack_decls.specs.declared.stop.DeclStop.{DeclStop}
use Rattle.hack_infer.specs.Filling.{Filling}
use Rattle.hack_rules.specs.Calls.{expect_all, expect_count, least_of}
use Rattle.hack_rules.specs.Walks.{Setting, State, Walk}
use Rattle.hack_rules.specs.WrittenTypes.{Argument}
use Rattle.hack_walk.specs.Checks.{Steps, Walks}
use Rattle.hack_walk.specs.WalkLaws.{of_step, weaker}
use Rattle.hack_written.specs.NamesFilled.{FillingIn}
use Rattle.hack_written.specs.Within.{ParamsIn}
use Rattle.hack_calls.specs.Named.{GivenIn, SignatureIn}
use Rattle.hack_calls.specs.inside.Rows.{expect_bounds}
use Rattle.hack_calls.proofs.Naming.{in_params, in_type_params}
use Rattle.hack_calls.proofs.Stepping.{steps_as, steps_more, walks_same}

module _ (signature : Signature) (filling : Filling) (solved : List HackType) (given : List Argument) where
  -- what a call is given
  abbrev pub CallIn : Symbols → Type 0
  CallIn symbols = SignatureIn symbols signature × FillingIn symbols filling × All (TypeIn symbols) solved × GivenIn symbols given

  abbrev pub counted : Place → Walk (Unit {0})
  counted at = expect_count at (least_of 0 signature.params) (length signature.params) given

  module _ {Base Held : Type 0} {setting : Setting} where
    pub counted_as : {before behind : State} (at : Place) (state : DeclState Base Held) (params : List Param) (least most : ℕ)
        → params ≡ signature.params → least ≡ least_of 0 params → most ≡ length params
        → Steps (expect_count at least most given) setting before (Ok tt) behind (λ symbols. Unit {0}) Nothing
        → Walks (counted at) setting state before (Ok tt) state behind CallIn Nothing
    counted_as {before = before} at state params least most is l n steps =
        let ls : least_of 0 signature.params ≡ least = sym (l ∙ ap (least_of 0) is) in
        let ns : length signature.params ≡ most = sym (n ∙ ap (λ (ps : List Param). length ps) is) in
        of_step state (steps_more (Ok tt) (steps_as (counted at) (Ok tt) steps (λ map. λ i. expect_count at (ls i) (ns i) given setting map before)) (λ symbols n. tt))

    module _ {old new : DeclState Base Held} {before behind : State} (result : Result (Unit {0}) DeclStop) where
      pub all_as : (params : List Param) → params ≡ signature.params
          → Walks (expect_all filling params given) setting old before result new behind
          (λ symbols. All (λ (param : Param). TypeIn symbols param.ty) params × FillingIn symbols filling × GivenIn symbols given) Nothing
          → Walks (expect_all filling signature.params given) setting old before result new behind CallIn Nothing
      all_as params is walks =
          weaker result (walks_same (expect_all filling signature.params given) result (ap (λ (ps : List Param). expect_all filling ps given) (sym is)) walks)
          (λ symbols n. (subst (λ (ps : List Param). All (λ (param : Param). TypeIn symbols param.ty) ps) (sym is) (in_params symbols signature n.0), n.1, n.3)) (λ symbols a n g. g)

      pub bounds_as : (at : Place) (params : List TypeParam) → params ≡ signature.type_params
          → Walks (expect_bounds filling at params solved) setting old before result new behind
          (λ symbols. ParamsIn symbols params × FillingIn symbols filling × All (TypeIn symbols) solved) Nothing
          → Walks (expect_bounds filling at signature.type_params solved) setting old before result new behind CallIn Nothing
      bounds_as at params is walks =
          weaker result (walks_same (expect_bounds filling at signature.type_params solved) result (ap (λ (ps : List TypeParam). expect_bounds filling at ps solved) (sym is)) walks)
          (λ symbols n. (subst (ParamsIn symbols) (sym is) (in_type_params symbols signature n.0), n.1, n.2)) (λ symbols a n g. g)
