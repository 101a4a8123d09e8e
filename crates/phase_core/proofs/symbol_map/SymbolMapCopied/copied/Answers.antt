use Rattle.std.proofs.Common.{ap, ◌∙◌, cond, None}
use Rattle.std.proofs.lemmas.Result.{IfOk-weaker}
use Rattle.std.specs.FinMap as finite
use Rattle.std.specs.FinMap.{same_map}
use Rattle.std.specs.FinSet as set
use Rattle.std.specs.FinSet.{contains-empty}
use Rattle.phase_core.specs.Orders.{symbol_order}
use Rattle.phase_core.proofs.Orders.{symbol_total, symbol_same}
use Rattle.phase_core.proofs.symbol_map.SymbolMapCopied.copied.Goals as goal

pub returns : goal.returns
returns g c =
    IfOk-weaker c.without-2.result _ _
    (λ rest h. same_map symbol_total symbol_same rest c.args.self.now
    (λ q. h q ∙ ap (λ b. cond b None (finite.get c.args.self.now q)) (ap (λ s. set.contains s q) c.new.ensures ∙ contains-empty symbol_order q)))
    c.without-2.ensures
