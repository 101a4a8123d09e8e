use Rattle.std.proofs.Common.{◌∙◌}
use Rattle.hack_lexer.proofs.KindNumbers.{same_mark}
use Rattle.hack_lexer.proofs.kind.TokenKind.is_mark.Goals as goal

pub returns-in-Mark : goal.returns-in-Mark
returns-in-Mark c = rw c.in-Mark.is (c.eq.ensures ∙ same_mark c.in-Mark.found c.args.mark)
