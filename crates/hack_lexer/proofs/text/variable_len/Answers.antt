use Rattle.std.proofs.Common.{Some, subst}
use Rattle.std.proofs.lemmas.List.{take_rest}
use Rattle.hack_lexer.specs.Forms.{is_word}
use Rattle.hack_lexer.specs.Scan.{HasLongest}
use Rattle.hack_lexer.proofs.Numbers.{filled}
use Rattle.hack_lexer.proofs.Texts.{variable_started}
use Rattle.hack_lexer.proofs.text.variable_len.Goals as goal

pub returns-in-Some : goal.returns-in-Some
returns-in-Some c = variable_started c.args.rest.now (filled c.args.rest.now c.is_empty.result c.is_empty.ensures c.if-is_empty.false) c.if-rest-ne36.false (Some c.in-Some.len) (subst (λ xs. HasLongest is_word xs (Some c.in-Some.len)) (take_rest c.args.rest.now 1) c.in-Some.ensures)
