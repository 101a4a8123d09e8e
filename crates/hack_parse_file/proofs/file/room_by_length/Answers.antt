use Rattle.hack_parse_file.proofs.Room as laws
use Rattle.hack_parse_file.proofs.file.room_by_length.Goals as goal

pub returns : goal.returns
returns c = laws.room_by_length
