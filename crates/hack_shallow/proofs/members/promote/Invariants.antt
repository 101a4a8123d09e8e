use Rattle.std.proofs.Common.{◌≡◌, List, drop}
use Rattle.std.specs.List.{flat_map}
use Rattle.hack_types.specs.declared.shallow.Member.{Member}
use Rattle.hack_shallow.specs.Members.{promoted_by, with_members}
use Rattle.hack_shallow.specs.MemberTables.{entries_of, owner_of}
use Rattle.hack_shallow.specs.Scopes.{scope_of}
use Rattle.hack_shallow.proofs.members.promote.Given as goal

-- what is still to be put leads to the same members
abbrev pub invariant-loop-parameter : goal.invariant-loop-parameter
invariant-loop-parameter l = (own : List Member) → l.initial.table.entries ≡ entries_of own
    → (now : List Member) × (l.table.entries ≡ entries_of now)
    × (with_members now (flat_map (promoted_by (owner_of l.owner) (scope_of l.scope)) (drop l.parameter-index l.parameter-items))
    ≡ with_members own (flat_map (promoted_by (owner_of l.owner) (scope_of l.scope)) l.parameter-items))
