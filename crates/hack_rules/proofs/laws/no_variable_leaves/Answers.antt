use Rattle.hack_rules.specs.Behind.{Stays}
use Rattle.hack_rules.proofs.Ended.{ends_of}
use Rattle.hack_rules.proofs.Ends.{GoodEnds}
use Rattle.hack_rules.proofs.Environments.{stays_of}
use Rattle.hack_rules.proofs.Expressions.{goes_judged}
use Rattle.hack_rules.proofs.Statements.{goes_statement}
use Rattle.hack_rules.proofs.Steps.{Free, behind_of}
use Rattle.hack_rules.proofs.laws.no_variable_leaves.Goals as goal

pub returns : goal.returns
returns c = record {
  expression = λ e. behind_of (λ base. Free) Stays (λ base behind f. stays_of f) (λ base. goes_judged e);
  statement = λ s inside. behind_of GoodEnds Stays (λ base behind f. stays_of f) (λ base. goes_statement s inside);
  ends = λ s inside. ends_of Stays (λ base behind f. stays_of f) (λ base. goes_statement s inside);
}
