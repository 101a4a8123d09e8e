use Rattle.std.proofs.Common.{Ok}
use Rattle.hack_rules.specs.Members.{member_of_head}
use Rattle.hack_sub.specs.NamesOf.{in_class}
use Rattle.hack_walk.specs.WalkLaws.{of_step, walks_as, weaker}
use Rattle.hack_members.proofs.Seen.{head_law, nameless_law}
use Rattle.hack_members.specs.Wanting.{wanted_of}
use Rattle.hack_walk.specs.Checks.{setting_of}
use Rattle.hack_members.proofs.found.member_of_head.Goals as goal

pub returns-in-Some : goal.returns-in-Some
returns-in-Some g c =
    let at = c.args.at in let wanted = c.args.wanted.now in let receiver = c.args.receiver.now in let head = c.args.head.now in let name = c.in-Some.name in
    walks_as (member_of_head at (wanted_of at wanted) receiver head) c.member_of_name.result
    (weaker c.member_of_name.result c.member_of_name.ensures
    (λ symbols n. let named = in_class symbols head name c.in-Some.ensures n.1 in record { named = named.0; before = n.0; itself = n.1; arguments = named.1; given = n.2 }) (λ symbols b n t. t))
    (λ m. head_law at wanted receiver head name (setting_of c.args.setting.now) m c.args.state.now c.in-Some.ensures)

pub returns-in_ok-missing-in-None : goal.returns-in_ok-missing-in-None
returns-in_ok-missing-in-None g c =
    let at = c.args.at in let wanted = wanted_of at c.args.wanted.now in let receiver = c.args.receiver.now in let head = c.args.head.now in
    walks_as (member_of_head at wanted receiver head) (Ok _) (weaker (Ok _) (of_step _ c.in_ok-missing-in-None.ensures) (λ symbols n. tt) (λ symbols b n t. t))
    (λ m. nameless_law at wanted receiver head (setting_of c.args.setting.now) m c.args.state.now c.in-None.ensures)
