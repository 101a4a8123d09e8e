use Rattle.std.proofs.Common.{inl}
use Rattle.hack_names.proofs.Indexed.{noted_without, kept_without}
use Rattle.hack_names.proofs.index.Index.remove.Goals as goal

pub returns-then-not-has_two-clause-noted : goal.returns-then-not-has_two-clause-noted
returns-then-not-has_two-clause-noted c =
    noted_without c.args.self.now.declared c.remove.new.self c.args.self.now.contested c.remove-then-not-has_two.new.self c.args.key.now c.requires c.remove.ensures.updates.0
    (kept_without c.args.self.now.contested c.remove-then-not-has_two.new.self c.args.key.now.symbol c.remove.new.self (c.has_two.ensures c.if-not-has_two.true) c.remove-then-not-has_two.ensures.updates.0)

pub returns-else-not-has_two-clause-noted : goal.returns-else-not-has_two-clause-noted
returns-else-not-has_two-clause-noted c =
    noted_without c.args.self.now.declared c.remove.new.self c.args.self.now.contested c.args.self.now.contested c.args.key.now c.requires c.remove.ensures.updates.0 (λ s has. inl has)
