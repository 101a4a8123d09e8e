use Rattle.std.proofs.Common.{subst, ◌<◌, ◌≤◌, length, arith}
use Rattle.phase_core.specs.Reached.{Added}
use Rattle.phase_core.proofs.Reached.{reach_begins, reach_goes, reach_ends}
use Rattle.phase_core.proofs.closure.reach.Goals as goal

pub loop-at-init : goal.loop-at-init
loop-at-init g c =
    reach_begins (g.L.Links.leads c.args.links.now) c.args.starts.now (record { symbols = c.new.result; set = c.new-2.result }) c.add.new.self c.new.ensures.items c.new-2.ensures c.in_ok-add.ensures

pub loop-at-preserved : goal.loop-at-preserved
loop-at-preserved g c =
    let l : c.loop-at.at < length c.loop-at.reached.symbols.items = omega arith in
    reach_goes (g.L.Links.leads c.args.links.now) c.args.starts.now c.loop-at.at c.loop-at.reached c.add-in-loop-at.new.self c.index.result.now c.in_ok-next.next.items l c.index.ensures
    c.in_ok-next.ensures c.loop-at.invariant
    (subst (λ xs. Added c.loop-at.reached xs c.add-in-loop-at.new.self) c.deref.ensures.value c.in_ok-add-2.ensures)

pub returns : goal.returns
returns g c =
    let l : length c.loop-at.reached.symbols.items ≤ c.loop-at.at = omega arith in
    reach_ends (g.L.Links.leads c.args.links.now) c.args.starts.now c.loop-at.at c.loop-at.reached l c.loop-at.invariant
