-- What the values of the code stand for that gather a class's ancestors and members.
use Rattle.std.specs.Prelude.{◌≡◌, ◌==◌, ℕ}
use Rattle.std.specs.BTreeSet as sorted
use Rattle.std.specs.List.{list_any}
use Rattle.std.specs.Ordering.{nat_cmp}
use Rattle.hack_types.specs.MembersRise.{MembersRise}
use Rattle.hack_fold.specs.declared.ancestors.Ancestors.{Ancestors}
use Rattle.hack_fold.specs.declared.inherit.Inherited.{Inherited}
use Rattle.hack_fold.specs.inside.OneByOne.{SoFar}

-- the set has the names of the ancestors
abbrev pub AreNamed : Ancestors → Type 0
AreNamed ancestors = (name : ℕ) → sorted.contains nat_cmp ancestors.names name ≡ list_any (λ ancestor. ancestor.name == name) ancestors.list.items

abbrev pub so_far : Inherited → SoFar
so_far inherited = record { ancestors = inherited.ancestors.list.items; members = inherited.members.items; partial = inherited.partial }

pub record IsSound (inherited : Inherited) : Type 0 where
  pub named : AreNamed inherited.ancestors
  pub rise : MembersRise inherited.members.items
