-- What stands behind what was read already.
use Rattle.hack_parse_expr.specs.Symbols.{Terminal}
use Rattle.hack_parse_expr.specs.Parsers.{Parser, ◌>>=◌, ◌>>◌, pure, expect}

-- this, with a token behind it
abbrev pub closed : {A : Type 0} → Terminal → A → Parser A
closed terminal read = do
  expect terminal
  pure read
