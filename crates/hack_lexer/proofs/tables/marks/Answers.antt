use Rattle.std.proofs.Common.{refl}
use Rattle.case_table.proofs.CallerLemmas.{is_made, value_of-made}
use Rattle.hack_lexer.specs.Forms.{marks}
use Rattle.hack_lexer.proofs.tables.marks.Goals as goal

pub unwrap-requires : goal.unwrap-requires
unwrap-requires c = is_made c.cases-table.result _ 55 c.cases-table.ensures.none refl

pub returns : goal.returns
unfolding marks
returns c = value_of-made c.cases-table.result c.unwrap.result _ 7 marks c.cases-table.ensures.entries c.unwrap.ensures refl
