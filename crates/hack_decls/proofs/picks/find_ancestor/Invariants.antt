use Rattle.std.proofs.Common.{◌≡◌, ◌==◌, drop}
use Rattle.std.specs.List.{find}
use Rattle.hack_decls.proofs.picks.find_ancestor.Given as goal

abbrev pub invariant-loop-ancestor : goal.invariant-loop-ancestor
invariant-loop-ancestor l = find (λ ancestor. ancestor.name == l.name) (drop l.ancestor-index l.ancestor-items) ≡ find (λ ancestor. ancestor.name == l.name) l.ancestor-items
