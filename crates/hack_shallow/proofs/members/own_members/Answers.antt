use Rattle.std.proofs.Common.{rules, ◌≡◌, ◌∷◌, ◌+◌, map, drop, sym, subst, ap, ◌∙◌}
use Rattle.std.specs.List.{flat_map}
use Rattle.std.specs.List.Sorted.{IsStrictlySortedBy}
use Rattle.std.specs.Map.{keys_of}
use Rattle.std.proofs.lemmas.List.{drop_more, drop_all, map-id}
use Rattle.std.proofs.lemmas.Map.Iter.{iter_end}
use Rattle.hack_types.specs.MembersRise.{MembersRise}
use Rattle.hack_shallow.specs.contracts.members.MemberKeyOrd.TheImpl.{cmp-value}
use Rattle.hack_shallow.specs.Members.{declared, with_members}
use Rattle.hack_shallow.specs.MemberTables.{owner_of}
use Rattle.hack_shallow.proofs.MembersRise.{rise, members_of}
use Rattle.hack_shallow.proofs.PutMembers.{with_members_append}
use Rattle.hack_shallow.proofs.members.own_members.Goals as goal

pub loop-tree-preserved : goal.loop-tree-preserved
loop-tree-preserved c =
    let owner = owner_of c.args.owner.now in
    let own = c.loop-tree.invariant.0 in
    let declares = declared owner c.tree-item.result in
    let rest = flat_map (declared owner) (drop (c.loop-tree.tree-index + 1) c.args.trees.now) in
    let more : drop c.loop-tree.tree-index c.args.trees.now ≡ c.tree-item.result ∷ drop (c.loop-tree.tree-index + 1) c.args.trees.now =
    drop_more c.args.trees.now c.loop-tree.tree-index c.tree-item.result c.loop-tree-test.true ∙ ap (λ t. t ∷ drop (c.loop-tree.tree-index + 1) c.args.trees.now) (sym c.tree-item.is) in (
      with_members own declares,
      c.in_ok-declare.ensures own c.loop-tree.invariant.1,
      sym (with_members_append own declares rest) ∙ ap (λ trees. with_members own (flat_map (declared owner) trees)) (sym more) ∙ c.loop-tree.invariant.2,
    )

pub from_vec-requires : goal.from_vec-requires
from_vec-requires c =
    let own = c.loop-tree.invariant.0 in
    let all : map (λ x. x) c.loop-member.yielded ≡ c.loop-tree.table.entries = search (rules, iter_end) in
    let members : c.loop-member.members.items ≡ own = c.loop-member.invariant ∙ ap (map (λ e. e.1)) (sym (map-id c.loop-member.yielded) ∙ all ∙ c.loop-tree.invariant.1) ∙ members_of own in
    subst MembersRise (sym members) (rise own (subst (λ entries. IsStrictlySortedBy cmp-value.it (keys_of entries)) c.loop-tree.invariant.1 c.len.ensures.ordered))

pub returns : goal.returns
returns c =
    let owner = owner_of c.args.owner.now in
    let own = c.loop-tree.invariant.0 in
    let all : map (λ x. x) c.loop-member.yielded ≡ c.loop-tree.table.entries = search (rules, iter_end) in
    let members : c.loop-member.members.items ≡ own = c.loop-member.invariant ∙ ap (map (λ e. e.1)) (sym (map-id c.loop-member.yielded) ∙ all ∙ c.loop-tree.invariant.1) ∙ members_of own in
    c.from_vec.ensures ∙ members ∙ ap (λ trees. with_members own (flat_map (declared owner) trees)) (sym (drop_all c.loop-tree.tree-index c.args.trees.now c.loop-tree-test.false)) ∙ c.loop-tree.invariant.2
