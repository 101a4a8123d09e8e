use Rattle.std.proofs.Common.{◌≡◌, map, take, sym, ap, subst, ◌∙◌, arith}
use Rattle.std.proofs.lemmas.List.{take_all}
use Rattle.hack_types.specs.MembersRise.{MembersRise}
use Rattle.hack_fold.specs.inside.FromParents.{member_in}
use Rattle.hack_fold.proofs.MemberLaws.{given_rise}
use Rattle.hack_fold.proofs.inherit.members_of.Goals as goal

pub returns-clause-rise : goal.returns-clause-rise
returns-clause-rise c =
    let own = c.as_slice-own.result.now in
    let class = c.args.class.now in
    let whole : take c.loop-member.member-index own ≡ class.members = take_all c.loop-member.member-index own (omega (arith, c.loop-member-test.false)) ∙ c.as_slice-own.ensures.items in
    subst MembersRise (sym (c.loop-member.invariant ∙ ap (map (member_in c.args.child c.args.arguments.now class.sort)) whole))
    (given_rise c.args.child c.args.arguments.now class.sort class.members c.as_slice-own.ensures.rise)
