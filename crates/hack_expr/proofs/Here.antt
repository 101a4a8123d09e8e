-- A condition that says nothing of variables leaves those behind it in both branches.
use Rattle.std.proofs.Common.{◌≡◌, Ok, sym, subst}
use Rattle.hack_decls.specs.DeclState.{DeclState, Symbols}
use Rattle.hack_decls.specs.Names.{TypeIn}
use Rattle.hack_rules.specs.Meanings.{Branches, plain_branches}
use Rattle.hack_rules.specs.Walks.{Setting, State, Walk, ◌>>=◌, pure, variables}
use Rattle.hack_types.specs.declared.hack_type.HackType.{HackType}
use Rattle.hack_walk.specs.Checks.{BranchesIn, Steps, VariablesIn, Walks}
use Rattle.hack_walk.specs.WalkLaws.{of_step, walks_next}

module _ {setting : Setting} where
  here_twice : (here : State) (both : Branches) → both.when_true ≡ here.variables → both.when_false ≡ here.variables
      → Steps (variables >>= (λ behind. pure (record { when_true = behind; when_false = behind }))) setting here (Ok both) here (λ symbols. Unit {0}) BranchesIn
  unfolding ◌>>=◌ variables pure
  here_twice here both one other = record {
    is = λ map. (λ i. (record { when_true = sym one i; when_false = sym other i }, here));
    named = λ symbols body n.
        (body.types, record { when_true = subst (VariablesIn symbols) (sym one) body.types; when_false = subst (VariablesIn symbols) (sym other) body.types });
  }

  pub both_behind : {Base Held : Type 0} {walk : Walk HackType} {old new : DeclState Base Held} {before behind : State} {ty : HackType} {Names : Symbols → Type 0} (both : Branches)
      → Walks walk setting old before (Ok ty) new behind Names TypeIn → both.when_true ≡ behind.variables → both.when_false ≡ behind.variables
      → Walks (plain_branches walk) setting old before (Ok both) new behind Names BranchesIn
  unfolding plain_branches
  both_behind both check one other = walks_next _ (Ok both) check (of_step _ (here_twice _ both one other)) (λ symbols n. n) (λ symbols n g. tt) (λ symbols b n g h. h)
