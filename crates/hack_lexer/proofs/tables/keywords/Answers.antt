use Rattle.std.proofs.Common.{refl}
use Rattle.case_table.proofs.CallerLemmas.{is_made, value_of-made}
use Rattle.hack_lexer.specs.Forms.{keywords}
use Rattle.hack_lexer.proofs.tables.keywords.Goals as goal

pub unwrap-requires : goal.unwrap-requires
unwrap-requires c = is_made c.cases-table.result _ 59 c.cases-table.ensures.none refl

pub returns : goal.returns
unfolding keywords
returns c = value_of-made c.cases-table.result c.unwrap.result _ 62 keywords c.cases-table.ensures.entries c.unwrap.ensures refl
