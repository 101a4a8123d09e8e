use Rattle.hack_names.proofs.Indexed.{is_first, none_of_other, none_of_end, eq_true, eq_false}
use Rattle.hack_names.proofs.index.Index.first.Goals as goal
use Rattle.hack_names.proofs.index.Index.first.Goals.{in_default-via-in-Some+else-eq, in_default-via-in_default}

pub returns-in-Some-clause-found : goal.returns-in-Some-clause-found
returns-in-Some-clause-found c =
    is_first c.args.self.now.declared c.args.symbol c.from_symbol.result _ c.in-Some.key.now c.in-Some.head.now c.from_symbol.ensures.ordered c.from_symbol.ensures.entries c.in-Some.ensures.steps (eq_true _ _ c.eq.result c.eq.ensures c.if-eq.true)

pub returns-in_default-clause-none : goal.returns-in_default-clause-none
returns-in_default-clause-none c = elim c.in_default.branch [
  | in_default-via-in-Some+else-eq w ↦ none_of_other c.args.self.now.declared c.args.symbol c.from_symbol.result _ (w.in-Some.key.now, w.in-Some.head.now) c.from_symbol.ensures.ordered c.from_symbol.ensures.entries w.in-Some.ensures.steps
      (eq_false _ _ w.eq.result w.eq.ensures w.if-eq.false)
  | in_default-via-in_default w ↦ none_of_end c.args.self.now.declared c.args.symbol c.from_symbol.result c.from_symbol.ensures.entries w.in_default.ensures.steps.0
]
