use Rattle.std.proofs.Common.{◌≡◌, ◌++◌, codes, map, drop}
use Rattle.hack_types.specs.TypeText.{joined, type_text}
use Rattle.hack_types.proofs.TextLemmas.{pieces, spread}
use Rattle.hack_types.proofs.type_texts.+text.Given as goal

abbrev pub invariant-write_all-loop-ty : goal.invariant-write_all-loop-ty
invariant-write_all-loop-ty l =
    l.text.items ++ spread l.ahead l.between (map (type_text l.names) (drop l.ty-index l.ty-items))
    ≡ l.initial.text.items ++ joined l.between (map (type_text l.names) l.ty-items)

abbrev pub invariant-write_shape-loop-field : goal.invariant-write_shape-loop-field
invariant-write_shape-loop-field l =
    l.text.items ++ spread l.ahead (codes ", ") (pieces l.names (drop l.field-index l.field-items) l.rest)
    ≡ l.initial.text.items ++ joined (codes ", ") (pieces l.names l.field-items l.rest)
