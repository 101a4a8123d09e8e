use Rattle.std.proofs.Common.{◌≡◌, [], drop}
use Rattle.hack_shallow.specs.Shallow.{case_names}
use Rattle.hack_shallow.proofs.shallow.case_names.Given as goal

abbrev pub invariant-loop-case : goal.invariant-loop-case
invariant-loop-case l = case_names l.by_id.keys (drop l.case-index l.cases) ≡ case_names [] l.cases
