use Rattle.std.proofs.Common.{◌≤◌, length, subst}
use Rattle.hack_parse_file.specs.Lexemes.{with_spelled, option_bytes}
use Rattle.hack_parse_file.specs.Room.{most_names}
use Rattle.hack_parse_file.proofs.Room.{room_to_intern}
use Rattle.hack_parse_file.proofs.lexemes.named.Goals as goal

pub intern-requires : goal.intern-requires
intern-requires c =
    room_to_intern c.args.names.now c.in-Some.text.now
    (subst (λ text. length (with_spelled c.args.names.now (option_bytes text)) ≤ most_names) c.in-Some.is c.requires.room)
