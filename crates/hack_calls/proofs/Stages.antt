-- One step of a head, by what is seen of the type.
use Rattle.std.proofs.Common.{◌≡◌, ◌∙◌, ℕ, zero, suc, Bool, true, false, cond, Option, Some, None, refl, sym, ap}
use Rattle.hack_types.specs.declared.hack_type.HackType.{HackType, out-HackType}
use Rattle.hack_types.specs.declared.hack_type.HackType.TheOpen.{HackType-F}
use Rattle.hack_types.specs.declared.hack_type.HackType.TheVariants.{Any}
use Rattle.hack_decls.specs.DeclState.{Map}
use Rattle.hack_infer.specs.Seeing.{opened, sight_by}
use Rattle.hack_sub.specs.Knowing.{is_bad, known}
use Rattle.hack_sub.specs.Parts.{name_by}
use Rattle.hack_sub.specs.declared.scope.Scope.{Scope}
use Rattle.hack_rules.specs.Heads.{head_by, head_within, is_class_of, settled, settled_by, step, step_by}
use Rattle.hack_calls.specs.declared.heads.Stage.{Stage}
use Rattle.hack_calls.specs.declared.heads.Stage.TheVariants as stage
use Rattle.hack_calls.specs.inside.Rows.{plain_by, sight_stage, stage_of}

-- what goes on from a stage
abbrev pub behind : (HackType → HackType) → HackType → Stage → HackType
behind go_on ty (stage.Next next) = go_on next
behind go_on ty (stage.Settled head) = head
behind go_on ty stage.Own = ty

-- the same as `head_by`, but for what is settled
abbrev by_step : (HackType → HackType) → HackType → Option HackType → HackType
by_step go_on last None = last
by_step go_on last (Some next) = go_on next

by_steps : (go_on : HackType → HackType) (map : Map) (scope : Scope) (ty : HackType) (next : Option HackType) → head_by go_on map scope ty next ≡ by_step go_on (settled map scope ty) next
by_steps go_on map scope ty None = refl
by_steps go_on map scope ty (Some next) = refl

module _ (go_on : HackType → HackType) (scope : Scope) (ty : HackType) where
  bad : (is own : Bool) → cond is (cond own ty Any) ty ≡ behind go_on ty (sight_stage own (sight_by is None))
  bad true true = refl
  bad true false = refl
  bad false own = refl

  seen : (is own : Bool) (next : Option HackType) → by_step go_on (cond is (cond own ty Any) ty) next ≡ behind go_on ty (sight_stage own (sight_by is next))
  seen is own (Some next) = refl
  seen is own None = bad is own

  -- by the layer of the type
  abbrev stage_in : Map → HackType-F HackType → Option ℕ → Stage
  stage_in map layer (Some name) = sight_stage (is_class_of scope name) (sight_by (is_bad (known map ty)) (opened map ty))
  stage_in map layer None = plain_by scope ty layer

  layer_is : (map : Map) (layer : HackType-F HackType)
      → by_step go_on (settled_by map scope ty layer) (step_by map scope ty layer) ≡ behind go_on ty (stage_in map layer (name_by layer))
  layer_is map (HackType-F.Class name arguments) = seen (is_bad (known map ty)) (is_class_of scope name) (opened map ty)
  layer_is map (HackType-F.ClassParam position name) = refl
  layer_is map (HackType-F.FunParam position name) = refl
  layer_is map HackType-F.This = refl
  layer_is map HackType-F.Any = refl
  layer_is map HackType-F.Mixed = refl
  layer_is map HackType-F.Nonnull = refl
  layer_is map HackType-F.Nothing = refl
  layer_is map HackType-F.Null = refl
  layer_is map HackType-F.Void = refl
  layer_is map HackType-F.Noreturn = refl
  layer_is map HackType-F.Bool = refl
  layer_is map HackType-F.Int = refl
  layer_is map HackType-F.Float = refl
  layer_is map HackType-F.Num = refl
  layer_is map HackType-F.Str = refl
  layer_is map HackType-F.Arraykey = refl
  layer_is map (HackType-F.Option inside) = refl
  layer_is map (HackType-F.Vector item) = refl
  layer_is map (HackType-F.Dict key value) = refl
  layer_is map (HackType-F.Keyset item) = refl
  layer_is map (HackType-F.Shape fields rest) = refl
  layer_is map (HackType-F.Union members) = refl

  stage_is : (map : Map) → head_by go_on map scope ty (step map scope ty) ≡ behind go_on ty (stage_of map scope ty)
  stage_is map = by_steps go_on map scope ty (step map scope ty) ∙ layer_is map (out-HackType ty)

-- what a further step gives, after so many are left
abbrev pub further : ℕ → Map → Scope → HackType → HackType
further zero map scope next = Any
further (suc steps) map scope next = head_within steps map scope next

pub head_is : (steps : ℕ) (map : Map) (scope : Scope) (ty : HackType) (here : Stage) → here ≡ stage_of map scope ty
    → behind (further steps map scope) ty here ≡ head_within steps map scope ty
unfolding head_within
head_is zero map scope ty here is = ap (behind (λ next. Any) ty) is ∙ sym (stage_is (λ next. Any) scope ty map)
head_is (suc steps) map scope ty here is = ap (behind (head_within steps map scope) ty) is ∙ sym (stage_is (head_within steps map scope) scope ty map)

-- with one step fewer
pub one_fewer : (steps fewer : ℕ) (map : Map) (scope : Scope) (next : HackType) → steps ≡ suc fewer → further steps map scope next ≡ head_within fewer map scope next
one_fewer steps fewer map scope next is = ap (λ (n : ℕ). further n map scope next) is
