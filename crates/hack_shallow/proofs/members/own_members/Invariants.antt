use Rattle.std.proofs.Common.{◌≡◌, List, map, drop}
use Rattle.std.specs.List.{flat_map}
use Rattle.hack_types.specs.declared.shallow.Member.{Member}
use Rattle.hack_shallow.specs.Members.{declared, own_members, with_members}
use Rattle.hack_shallow.specs.MemberTables.{entries_of, owner_of}
use Rattle.hack_shallow.proofs.members.own_members.Given as goal

-- what is still to be declared leads from the members so far to all
abbrev pub invariant-loop-tree : goal.invariant-loop-tree
invariant-loop-tree l = (own : List Member) × (l.table.entries ≡ entries_of own)
    × (with_members own (flat_map (declared (owner_of l.owner)) (drop l.tree-index l.trees)) ≡ own_members (owner_of l.owner) l.trees)

abbrev pub invariant-loop-member : goal.invariant-loop-member
invariant-loop-member l = l.members.items ≡ map (λ e. e.1) l.yielded
