-- What a parser reads from.
use Rattle.std.specs.Prelude.{◌-◌, ◌==◌, if◌then◌else◌, ℕ, List, [], ◌∷◌}
use Rattle.hack_codes.specs.Numbers.{number}
use Rattle.hack_codes.specs.declared.code.Code.TheVariants as code
use Rattle.hack_types.specs.declared.place.Place.{Place}
use Rattle.hack_parse_expr.specs.declared.lexeme.Lexeme.{Lexeme}
use Rattle.hack_parse_expr.specs.declared.stop.ParseStop.{ParseStop}
use Rattle.hack_parse_expr.specs.declared.stop.ParseStop.TheVariants.{Fault}

pub record Input : Type 0 where
  -- the tokens that are left
  pub left : List Lexeme
  -- the place of the declaration's first token
  pub start : Place
  -- the index of the byte behind the last token that was taken
  pub behind : ℕ
  -- the place behind the last byte of the file
  pub end : Place

-- a place of the file as the trees of the declaration have it: the distance in lines, and on line 0 in columns, from its
-- first token
abbrev pub relative : Place → Place → Place
relative start at =
    if at.line == start.line then record { line = 0; column = at.column - start.column }
    else record { line = at.line - start.line; column = at.column }

-- a token as the trees of the declaration have it
abbrev pub shown : Input → Lexeme → Lexeme
shown i t = record t { at = relative i.start t.at }

-- the input behind its next token
abbrev pub past : Input → Lexeme → List Lexeme → Input
past i t left = record i { left = left; behind = t.behind }

-- this code at the next token, and that of the end at the end of the file
abbrev pub fault_at : Place → ℕ → List Lexeme → ParseStop
fault_at end found [] = Fault end (number code.UnexpectedEnd)
fault_at end found (t ∷ ts) = Fault t.at found

-- no row reads the next token
abbrev pub refusal : Input → ParseStop
refusal i = fault_at i.end (number code.UnexpectedToken) i.left

-- the next token stands in more than 128 rows that count as nesting
abbrev pub too_deep : Input → ParseStop
too_deep i = fault_at i.end (number code.TooDeep) i.left
