use Rattle.std.proofs.Common.{◌∙◌}
use Rattle.hack_lexer.proofs.KindNumbers.{same_keyword}
use Rattle.hack_lexer.proofs.kind.TokenKind.is_keyword.Goals as goal

pub returns-in-Keyword : goal.returns-in-Keyword
returns-in-Keyword c = rw c.in-Keyword.is (c.eq.ensures ∙ same_keyword c.in-Keyword.found c.args.keyword)
