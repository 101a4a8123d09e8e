use Rattle.std.proofs.Common.{◌+◌, ap, sym, ◌∙◌, length}
use Rattle.hack_types.proofs.NameLemmas.{length-texts}
use Rattle.hack_types.proofs.names.Names.count.Goals as goal

pub returns : goal.returns
returns c = sym (ap length (sym c.self.view_is) ∙ length-texts c.self.inside.added.keys ∙ ap (λ n. 7 + n) (sym c.len.ensures.len))
