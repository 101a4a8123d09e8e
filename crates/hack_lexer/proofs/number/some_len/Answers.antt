use Rattle.std.proofs.Common.{arith, sym, ◌∙◌, subst}
use Rattle.hack_lexer.specs.Scan.{is_in}
use Rattle.hack_lexer.specs.Forms.{are_some}
use Rattle.hack_lexer.specs.Scan.{IsLongestPass}
use Rattle.hack_lexer.proofs.Passes.{longest_some, none_some}
use Rattle.hack_lexer.proofs.number.some_len.Goals as goal

pub returns-else-run-eq0 : goal.returns-else-run-eq0
returns-else-run-eq0 c =
    subst (λ n. IsLongestPass (are_some (is_in c.args.class)) c.args.rest.now n) (sym c.run_len-run.ensures.run) (longest_some (is_in c.args.class) c.args.rest.now (omega (arith, c.run_len-run.ensures.run, c.if-run-eq0.false)))

pub returns-then-run-eq0 : goal.returns-then-run-eq0
returns-then-run-eq0 c = none_some (is_in c.args.class) c.args.rest.now (sym c.run_len-run.ensures.run ∙ c.if-run-eq0.true)
