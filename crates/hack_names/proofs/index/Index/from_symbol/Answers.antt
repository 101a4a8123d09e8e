use Rattle.std.proofs.Common.{◌∙◌}
use Rattle.hack_names.proofs.Indexed.{from_least}
use Rattle.hack_names.proofs.index.Index.from_symbol.Goals as goal

pub returns-clause-entries : goal.returns-clause-entries
returns-clause-entries c = c.range.ensures.between tt ∙ from_least c.args.symbol c.from_vec-file.result c.args.self.now.declared.entries (c.from_vec-file.ensures ∙ c.new.ensures.items)
