use Rattle.hack_rules.proofs.Ended.{adds_body, adds_value}
use Rattle.hack_rules.proofs.Ends.{GoodEnds}
use Rattle.hack_rules.proofs.Expressions.{goes_judged}
use Rattle.hack_rules.proofs.Mentions.{goes_used_trait, goes_written, goes_written_class}
use Rattle.hack_rules.proofs.Statements.{goes_statement}
use Rattle.hack_rules.proofs.Steps.{Free, adds_of}
use Rattle.hack_rules.proofs.laws.diagnostics_are_added.Goals as goal

pub returns : goal.returns
returns c = record {
  expression = λ e. adds_of (λ base. Free) (λ base. goes_judged e);
  statement = λ s inside. adds_of GoodEnds (λ base. goes_statement s inside);
  written_type = λ ty. adds_of (λ base. Free) (λ base. goes_written ty);
  class_type = λ class. adds_of (λ base. Free) (λ base. goes_written_class class);
  used_type = λ class. adds_of (λ base. Free) (λ base. goes_used_trait class);
  body = λ name_at parameters statements. adds_body name_at parameters statements;
  value = λ ty value. adds_value ty value;
}
