use Rattle.std.proofs.Common.{◌+◌, ◌*◌, Ok, All, take}
use Rattle.hack_decls.specs.Names.{TypeIn}
use Rattle.hack_members.specs.Wanting.{SoughtIn, wanted_of}
use Rattle.hack_rules.specs.Members.{members_within}
use Rattle.hack_rules.specs.Walks.{each}
use Rattle.hack_walk.specs.Checks.{Walks, setting_of}
use Rattle.hack_members.proofs.heads.+members.Given as goal

abbrev pub decreases-members_within : goal.decreases-members_within
decreases-members_within g l = 8 * l.turns

abbrev pub decreases-by_head : goal.decreases-by_head
decreases-by_head g l = 8 * l.turns + 5

abbrev pub decreases-each_member : goal.decreases-each_member
decreases-each_member g l = 8 * l.turns + 4

abbrev pub decreases-types_of_members : goal.decreases-types_of_members
decreases-types_of_members g l = 8 * l.turns + 3

abbrev pub decreases-of_option : goal.decreases-of_option
decreases-of_option g l = 8 * l.turns + 4

abbrev pub decreases-inside_option : goal.decreases-inside_option
decreases-inside_option g l = 8 * l.turns + 3

abbrev pub invariant-types_of_members-loop-member : goal.invariant-types_of_members-loop-member
invariant-types_of_members-loop-member g l =
    Walks (each (members_within l.turns l.at (wanted_of l.at l.wanted) l.options) (take l.member-index l.members)) (setting_of l.setting) (g.D.Decls.state l.initial.decls) l.initial.state (Ok l.types)
    (g.D.Decls.state l.decls) l.state (λ symbols. All (TypeIn symbols) l.members × SoughtIn symbols l.wanted) (λ symbols types. All (TypeIn symbols) types)
