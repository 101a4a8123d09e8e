use Rattle.std.proofs.Common.{map, nat_cmp}
use Rattle.std.specs.BTreeSet as sorted
use Rattle.hack_fold.specs.Paths.{put_in}
use Rattle.hack_fold.proofs.AncestorLemmas.{add_known, add_new, ancestor, pushed}
use Rattle.hack_fold.proofs.ancestors.Ancestors.add_above.Goals as goal

pub returns-then-not-branch-clause-added : goal.returns-then-not-branch-clause-added
returns-then-not-branch-clause-added c =
    let was = sorted.contains nat_cmp c.args.self.now.names c.args.ancestor.now.name in
    add_known c.args.self.now.list.items (ancestor c.args.ancestor.now.name (map (put_in c.args.given.now) c.args.ancestor.now.arguments)) was c.in_ok-insert.field-0 c.in_ok-insert.ensures.added (c.requires c.args.ancestor.now.name) c.if-not-branch.true

pub returns-clause-added : goal.returns-clause-added
returns-clause-added c =
    let list = c.args.self.now.list.items in
    let was = sorted.contains nat_cmp c.args.self.now.names c.args.ancestor.now.name in
    pushed list c.push.new.self.items c.args.ancestor.now.name c.in_ok-arguments.arguments (map (put_in c.args.given.now) c.args.ancestor.now.arguments) c.in_ok-push.ensures.items c.in_ok-arguments.ensures
    (add_new list (ancestor c.args.ancestor.now.name (map (put_in c.args.given.now) c.args.ancestor.now.arguments)) was c.in_ok-insert.field-0 c.in_ok-insert.ensures.added (c.requires c.args.ancestor.now.name) c.if-not-branch.false)
