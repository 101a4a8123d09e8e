use Rattle.std.proofs.Common.{Some, None}
use Rattle.hack_lexer.proofs.Numbers.{longest_end}
use Rattle.hack_lexer.proofs.number.end_len.Goals as goal

pub returns-in-Some : goal.returns-in-Some
returns-in-Some c = longest_end c.args.rest.now (Some c.in-Some.len) c.in-Some.ensures

pub returns-in-None : goal.returns-in-None
returns-in-None c = longest_end c.args.rest.now None c.in-None.ensures
