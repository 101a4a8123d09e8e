use Rattle.std.proofs.Common.{sym, ◌∙◌, subst, take, ◌+◌}
use Rattle.phase_core.specs.Reached.{Added}
use Rattle.phase_core.proofs.Reached.{added_none, added_skip, added_one}
use Rattle.phase_core.proofs.closure.Reached.add.Goals as goal
use Rattle.phase_core.proofs.closure.Reached.add.Goals.{then-not-contains+in_ok-insert+in_ok-push, else-not-contains}

pub loop-symbol-init : goal.loop-symbol-init
loop-symbol-init c = added_none c.args.self.now c.args.symbols.now

pub loop-symbol-preserved : goal.loop-symbol-preserved
loop-symbol-preserved c =
    elim c.if-not-contains.branch [
      | then-not-contains+in_ok-insert+in_ok-push w ↦
          subst (Added c.args.self.now (take (c.loop-symbol.symbol-index + 1) c.args.symbols.now)) (sym w.self-is)
          (added_one c.args.self.now c.args.symbols.now c.loop-symbol.symbol-index c.symbol-item.result c.loop-symbol.self c.loop-symbol-test.true c.symbol-item.is c.loop-symbol.invariant
          (record { symbols = w.push.new.self; set = w.insert.new.self }) w.in_ok-insert.ensures.ok w.in_ok-push.ensures.items)
      | else-not-contains w ↦
          subst (Added c.args.self.now (take (c.loop-symbol.symbol-index + 1) c.args.symbols.now)) (sym w.self-is)
          (added_skip c.args.self.now c.args.symbols.now c.loop-symbol.symbol-index c.symbol-item.result c.loop-symbol.self c.loop-symbol-test.true c.symbol-item.is c.loop-symbol.invariant
          (sym c.contains.ensures ∙ w.if-not-contains.false))
    ]
