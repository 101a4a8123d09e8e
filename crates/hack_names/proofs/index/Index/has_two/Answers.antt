use Rattle.std.proofs.Common.{Some, None}
use Rattle.hack_names.proofs.Indexed.{no_two_after, eq_false}
use Rattle.hack_names.proofs.index.Index.has_two.Goals as goal

pub returns-in-Some : goal.returns-in-Some
returns-in-Some c = λ e.
    no_two_after c.args.self.now.declared c.args.symbol c.from_symbol-entries.result c.next-first.new.self c.next.new.self c.next-first.result (Some (c.in-Some.key, c.in-Some.field-0-1)) c.from_symbol-entries.ensures.ordered
    c.from_symbol-entries.ensures.entries c.next-first.ensures.steps c.in-Some.ensures.steps (eq_false c.in-Some.key.now.symbol c.args.symbol c.eq.result c.eq.ensures e)

pub returns-in-None : goal.returns-in-None
returns-in-None c = λ e.
    no_two_after c.args.self.now.declared c.args.symbol c.from_symbol-entries.result c.next-first.new.self c.next.new.self c.next-first.result None c.from_symbol-entries.ensures.ordered c.from_symbol-entries.ensures.entries
    c.next-first.ensures.steps c.in-None.ensures.steps (tt {0})
