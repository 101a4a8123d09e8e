-- What holds in every state that events lead to.
use Rattle.std.specs.Prelude.{◌≡◌, ◌⊎◌, ℕ, true, None, Some, IsSome}
use Rattle.std.specs.FinMap as finite
use Rattle.std.specs.FinSet as set
use Rattle.hack_types.specs.declared.ids.SymbolId.{SymbolId}
use Rattle.phase_core.specs.declared.state.CoreState.{CoreState}
use Rattle.phase_core.specs.declared.state.CoreVerdict.{CoreVerdict}
use Rattle.phase_core.specs.declared.state.CoreRecord.TheVariants.{Held}
use Rattle.phase_core.specs.World.{IsDeclared, told_at}
use Rattle.phase_core.specs.Images.{Image, IsImage}
use Rattle.phase_core.specs.Edges.{HasCheck}
use Rattle.phase_core.specs.States.{AtWork}

pub record Sound (state : CoreState) : Type 0 where
  -- every held record is the image in the present world
  pub held : (s : SymbolId) (image : Image) → finite.get state.records s ≡ Some (Held image) → IsImage state.world s image
  -- so is every image that a worker knows
  pub known : (worker : ℕ) (s : SymbolId) (image : Image) → AtWork state worker (λ _ _ known. finite.get known s ≡ Some image) → IsImage state.world s image
  -- and every image that a verdict has
  pub judged : (u : SymbolId) (v : CoreVerdict) (s : SymbolId) (image : Image) → finite.get state.verdicts u ≡ Some v → finite.get v.known s ≡ Some image
      → IsImage state.world s image
  -- every verdict has the present text and names of its unit
  pub told : (u : SymbolId) (v : CoreVerdict) → finite.get state.verdicts u ≡ Some v → told_at state.world u ≡ Some (v.text, v.names)
  -- each symbol that a verdict knows has a check edge from its unit
  pub noted : (u : SymbolId) (v : CoreVerdict) (s : SymbolId) → finite.get state.verdicts u ≡ Some v → IsSome (finite.get v.known s) → HasCheck state.edges u s
  -- every declared symbol is stale or has a verdict
  pub either : (u : SymbolId) → IsDeclared state.world u → (set.contains state.stale u ≡ true) ⊎ IsSome (finite.get state.verdicts u)
  -- and never both
  pub never_both : (u : SymbolId) → IsDeclared state.world u → set.contains state.stale u ≡ true → finite.get state.verdicts u ≡ None
