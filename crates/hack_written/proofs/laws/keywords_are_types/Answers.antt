use Rattle.hack_written.proofs.SmallTypes.{keyword_is}
use Rattle.hack_written.proofs.laws.keywords_are_types.Goals as goal

pub returns : goal.returns
returns c = keyword_is
