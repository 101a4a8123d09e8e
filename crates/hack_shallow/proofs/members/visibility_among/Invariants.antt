use Rattle.std.proofs.Common.{◌≡◌, drop}
use Rattle.hack_shallow.specs.Members.{visibility_among}
use Rattle.hack_shallow.proofs.members.visibility_among.Given as goal

abbrev pub invariant-loop-modifier : goal.invariant-loop-modifier
invariant-loop-modifier l = visibility_among (drop l.modifier-index l.modifiers) ≡ visibility_among l.modifiers
