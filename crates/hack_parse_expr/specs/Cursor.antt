-- What a `Cursor` shows.
use Rattle.hack_parse_expr.specs.declared.cursor.Cursor.TheInside.{Inside}
use Rattle.hack_parse_expr.specs.Input.{Input}

abbrev pub input_of : Inside → Input
input_of cursor = record { left = cursor.left.now; start = cursor.start; behind = cursor.behind; end = cursor.end }
