use Rattle.std.proofs.Common.{rules, ◌≡◌, map, sym, subst, ap, ◌∙◌}
use Rattle.std.proofs.lemmas.List.{map-id}
use Rattle.std.proofs.lemmas.Map.Iter.{iter_end}
use Rattle.std.specs.List.Sorted.{IsStrictlySortedBy}
use Rattle.std.specs.Ordering.{nat_cmp}
use Rattle.hack_shallow.specs.Resolved.{in_order}
use Rattle.hack_shallow.proofs.KeysRise.{keys-in_order}
use Rattle.hack_shallow.proofs.resolve.in_order.Goals as goal

pub from_vec-requires : goal.from_vec-requires
from_vec-requires c =
    let all : map (λ x. x) c.loop-key.yielded ≡ c.args.by_key.entries = search (rules, iter_end) in
    let keys = ap (map (λ field. field.key)) (c.loop-key.invariant ∙ ap in_order (sym (map-id c.loop-key.yielded) ∙ all)) ∙ keys-in_order c.args.by_key.entries in
    subst (IsStrictlySortedBy nat_cmp) (sym keys) c.len.ensures.ordered
