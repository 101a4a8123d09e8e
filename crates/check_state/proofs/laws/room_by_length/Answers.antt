use Rattle.std.proofs.Common.{◌≤◌, ◌+◌, ◌*◌, arith}
use Rattle.hack_base.specs.Files.{Edit, Put, Remove}
use Rattle.hack_parse_file.specs.Room.{most_names}
use Rattle.hack_parse_file.proofs.Room as names
use Rattle.check_state.specs.declared.state.State.{State}
use Rattle.check_state.specs.Edits.{twice_names}
use Rattle.check_state.specs.Stands.{names_of, name_count, HasRoomFor}
use Rattle.check_state.proofs.laws.room_by_length.Goals as goal

has_room : (state : State) (edit : Edit) → 2 * name_count state + twice_names edit ≤ 2 * most_names + 1 → HasRoomFor state edit
has_room state (Put name bytes) few = names.room_by_length (names_of state) bytes (omega (arith, few))
has_room state (Remove name) few = tt

pub returns : goal.returns
returns c = has_room
