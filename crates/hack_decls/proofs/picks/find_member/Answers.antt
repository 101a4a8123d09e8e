use Rattle.std.proofs.Common.{rules}
use Rattle.std.proofs.lemmas.Fn.{always_returns_same}
use Rattle.hack_decls.proofs.MemberSearch.{at_found, at_none, place}
use Rattle.hack_decls.proofs.picks.find_member.Goals as goal

pub returns-in-Ok : goal.returns-in-Ok
returns-in-Ok c =
    let found = c.in-Ok.ensures.position (place c.args.tag c.args.name) (always_returns_same _ _ _ (λ a r g k. search rules)) in
    at_found c.args.tag c.args.name c.as_slice-members.result.now c.args.class.now.members c.as_slice-members.ensures.items c.as_slice-members.ensures.rise
    c.in-Ok.index c.index-members-index.result c.in-Ok.ensures.bound c.index-members-index.is found

pub returns-in-Err : goal.returns-in-Err
returns-in-Err c =
    let parts = c.in-Err.ensures.position (place c.args.tag c.args.name) (always_returns_same _ _ _ (λ a r g k. search rules)) in
    at_none c.args.tag c.args.name c.as_slice-members.result.now c.args.class.now.members c.as_slice-members.ensures.items c.as_slice-members.ensures.rise
    c.in-Err.field-0 parts
