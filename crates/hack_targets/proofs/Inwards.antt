-- What is stored from the last step to the first.
use Rattle.std.proofs.Common.{◌≡◌, ◌∙◌, ◌++◌, ◌∷◌, [], Bool, false, Result, Ok, Err, List, refl, sym, ap, subst}
use Rattle.std.proofs.lemmas.List.Sums.{fold-append}
use Rattle.hack_types.specs.declared.hack_type.HackType.{HackType}
use Rattle.hack_types.specs.declared.place.Place.{Place}
use Rattle.hack_decls.specs.Asks.{Nothing}
use Rattle.hack_decls.specs.DeclState.{DeclState}
use Rattle.hack_decls.specs.Names.{TypeIn}
use Rattle.hack_decls.specs.declared.stop.DeclStop.{DeclStop}
use Rattle.hack_rules.specs.Indices.{with_element}
use Rattle.hack_rules.specs.Meanings.{Aim}
use Rattle.hack_rules.specs.Targets.{read, store}
use Rattle.hack_rules.specs.Walks.{Setting, State}
use Rattle.hack_walk.specs.Checks.{Walks}
use Rattle.hack_walk.specs.WalkLaws.{refused, walks_then}
use Rattle.hack_targets.specs.AimIn.{AimIn}
use Rattle.hack_targets.specs.declared.steps.Root.{Root}
use Rattle.hack_targets.specs.declared.steps.Root.TheVariants as innermost
use Rattle.hack_targets.specs.declared.steps.Step.{Step}
use Rattle.hack_targets.specs.inside.Aims.{aim_of, element_of, root_aim}
use Rattle.hack_targets.specs.inside.Pieces.{StepIn}

-- the last step is the outermost element
step_behind : (root : Root) (steps : List Step) (step : Step) → aim_of root (steps ++ step ∷ []) ≡ element_of (aim_of root steps) step
step_behind root steps step = fold-append element_of (root_aim root) steps (step ∷ [])

pub last_is : (root : Root) (left : List Step) (step : Step) (all : List Step) → all ≡ left ++ step ∷ [] → aim_of root all ≡ element_of (aim_of root left) step
last_is root left step all is = ap (aim_of root) is ∙ step_behind root left step

-- what stands innermost is the same in either reading
pub root_read : (left : Bool) (root : Root) → read left (root_aim root) ≡ read false (root_aim root)
unfolding read
root_read left (innermost.Variable at name) = refl
root_read left (innermost.Property ty) = refl
root_read left (innermost.Other at ty) = refl

-- what is stored to the whole goes on as what is stored here
pub record GoesOn {Base Held : Type 0} (setting : Setting) (value_at : Place) (whole : Aim) (new : HackType) (old : DeclState Base Held) (start : State)
    (here : Aim) (made : HackType) (mid : DeclState Base Held) (between : State) : Type 0 where
  pub goes : (result : Result (Unit {0}) DeclStop) (last : DeclState Base Held) (behind : State)
      → Walks (store value_at here made) setting mid between result last behind (λ symbols. AimIn symbols here × TypeIn symbols made) Nothing
      → Walks (store value_at whole new) setting old start result last behind (λ symbols. AimIn symbols whole × TypeIn symbols new) Nothing

module _ {Base Held : Type 0} {setting : Setting} {value_at : Place} {whole : Aim} {new : HackType} {old : DeclState Base Held} {start : State} where
  pub goes_first : GoesOn setting value_at whole new old start whole new old start
  goes_first = record { goes = λ result last behind rest. rest }

  module _ {made : HackType} {mid : DeclState Base Held} {between : State} (root : Root) (left : List Step) (step : Step) (all : List Step) (is : all ≡ left ++ step ∷ [])
      (so_far : GoesOn setting value_at whole new old start (aim_of root all) made mid between) where
    moved : (result : Result (Unit {0}) DeclStop) (final : DeclState Base Held) (there : State)
        → Walks (store value_at (element_of (aim_of root left) step) made) setting mid between result final there
        (λ symbols. AimIn symbols (element_of (aim_of root left) step) × TypeIn symbols made) Nothing
        → Walks (store value_at (aim_of root all) made) setting mid between result final there (λ symbols. AimIn symbols (aim_of root all) × TypeIn symbols made) Nothing
    moved result final there walks =
        subst (λ (aim : Aim). Walks (store value_at aim made) setting mid between result final there (λ symbols. AimIn symbols aim × TypeIn symbols made) Nothing)
        (sym (last_is root left step all is)) walks

    -- one step further inwards
    pub goes_next : {base : HackType} {last : DeclState Base Held} {behind : State}
        → Walks (with_element step.at value_at step.ty step.index made) setting mid between (Ok base) last behind (λ symbols. StepIn symbols step × TypeIn symbols made) TypeIn
        → GoesOn setting value_at whole new old start (aim_of root left) base last behind
    unfolding store
    goes_next check = record {
      goes = λ result final there rest. so_far.goes result final there (moved result final there
          (walks_then (λ (m : HackType). store value_at (aim_of root left) m) result check rest (λ symbols n. ((n.0.1, n.0.2), n.1)) (λ symbols n g. (n.0.0, g)) (λ symbols b n g h. h)));
    }

    -- a base can't become what it has to
    pub goes_refused : {e : DeclStop} {last : DeclState Base Held} {behind : State}
        → Walks (with_element step.at value_at step.ty step.index made) setting mid between (Err e) last behind (λ symbols. StepIn symbols step × TypeIn symbols made) TypeIn
        → Walks (store value_at whole new) setting old start (Err e) last behind (λ symbols. AimIn symbols whole × TypeIn symbols new) Nothing
    goes_refused {e = e} {last = last} {behind = behind} check =
        so_far.goes (Err e) last behind (moved (Err e) last behind (refused check (λ symbols n. ((n.0.1, n.0.2), n.1))))

  -- what stands innermost is left
  pub goes_last : {made : HackType} {mid last : DeclState Base Held} {between behind : State} (root : Root) (left : List Step) (result : Result (Unit {0}) DeclStop) → left ≡ []
      → GoesOn setting value_at whole new old start (aim_of root left) made mid between
      → Walks (store value_at (root_aim root) made) setting mid between result last behind (λ symbols. AimIn symbols (root_aim root) × TypeIn symbols made) Nothing
      → Walks (store value_at whole new) setting old start result last behind (λ symbols. AimIn symbols whole × TypeIn symbols new) Nothing
  goes_last {made = made} {mid = mid} {last = last} {between = between} {behind = behind} root left result none so_far walks =
      so_far.goes result last behind
      (subst (λ (steps : List Step). Walks (store value_at (aim_of root steps) made) setting mid between result last behind (λ symbols. AimIn symbols (aim_of root steps) × TypeIn symbols made) Nothing) (sym none) walks)
