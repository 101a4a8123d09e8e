use Rattle.phase_core.proofs.Always.{always_sound}
use Rattle.phase_core.proofs.laws.sound.Goals as goal

pub returns : goal.returns
returns c = always_sound
