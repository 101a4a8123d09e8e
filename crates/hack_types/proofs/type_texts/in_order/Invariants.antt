use Rattle.std.proofs.Common.{◌≡◌, map, take}
use Rattle.hack_types.specs.TypeText.{placed}
use Rattle.hack_types.proofs.type_texts.in_order.Given as goal

abbrev pub invariant-loop-field : goal.invariant-loop-field
invariant-loop-field l = map (λ entry. (entry.0.now, entry.1.now)) l.placed.entries ≡ placed l.names (take l.field-index l.field-items)
