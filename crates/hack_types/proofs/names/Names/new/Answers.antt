use Rattle.std.proofs.Common.{ap, sym, ◌∙◌, subst}
use Rattle.hack_types.specs.NamesInside.{IsNames, texts}
use Rattle.hack_types.proofs.NameLemmas.{IsNames-new, texts-none}
use Rattle.hack_types.proofs.names.Names.new.Goals as goal

pub invariant_of-result : goal.invariant_of-result
invariant_of-result c = subst IsNames (sym c.new.ensures.empty) IsNames-new

pub returns : goal.returns
returns c = ap texts c.new.ensures.empty ∙ texts-none
