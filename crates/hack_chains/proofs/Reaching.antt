-- What is reached in the form in which it is asked for.
use Rattle.std.proofs.Common.{Ok}
use Rattle.hack_types.specs.declared.hack_type.HackType.{HackType}
use Rattle.hack_decls.specs.DeclState.{DeclState, Symbols}
use Rattle.hack_decls.specs.Names.{TypeIn}
use Rattle.hack_rules.specs.Meanings.{Branches}
use Rattle.hack_rules.specs.Walks.{Setting, State, Walk, ◌>>=◌, pure}
use Rattle.hack_walk.specs.Checks.{BranchesIn, Walks}
use Rattle.hack_walk.specs.WalkLaws.{walks_pure, walks_then}
use Rattle.hack_chains.specs.declared.so_far.SoFar.TheVariants as so
use Rattle.hack_chains.specs.inside.Chaining.{SoFarIn}

module _ {Base Held : Type 0} {setting : Setting} {Names : Symbols → Type 0} {old new : DeclState Base Held} {before behind : State} where
  pub value_reached : {walk : Walk HackType} {ty : HackType} → Walks walk setting old before (Ok ty) new behind Names TypeIn
      → Walks (walk >>= (λ t. pure (so.Value t))) setting old before (Ok (so.Value ty)) new behind Names SoFarIn
  value_reached {ty = ty} check =
      walks_then {NamesB = λ symbols. TypeIn symbols ty} (λ (t : HackType). pure (so.Value t)) (Ok (so.Value ty)) check
      (walks_pure {Gives = SoFarIn} new behind (so.Value ty) (λ symbols n. n)) (λ symbols n. n) (λ symbols n t. t) (λ symbols b n t h. h)

  pub branches_reached : {walk : Walk Branches} {branches : Branches} → Walks walk setting old before (Ok branches) new behind Names BranchesIn
      → Walks (walk >>= (λ b. pure (so.Branches b))) setting old before (Ok (so.Branches branches)) new behind Names SoFarIn
  branches_reached {branches = branches} check =
      walks_then {NamesB = λ symbols. BranchesIn symbols branches} (λ (b : Branches). pure (so.Branches b)) (Ok (so.Branches branches)) check
      (walks_pure {Gives = SoFarIn} new behind (so.Branches branches) (λ symbols n. n)) (λ symbols n. n) (λ symbols n b. b) (λ symbols b n t h. h)
