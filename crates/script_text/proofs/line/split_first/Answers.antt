use Rattle.std.proofs.Common.{◌+◌, Some, take, sym, ap, ◌∙◌}
use Rattle.std.proofs.lemmas.List.{take_rest}
use Rattle.std.specs.Option.{option_map}
use Rattle.script_text.proofs.Splits.{parts_at, split_first-position}
use Rattle.script_text.proofs.line.split_first.Goals as goal

pub returns-in-Some : goal.returns-in-Some
returns-in-Some c =
    let bytes = c.args.bytes.now in
    let at = c.in-Some.at in
    ap (λ rest. Some (take at bytes, rest)) (take_rest bytes (at + 1))
    ∙ ap (option_map (parts_at bytes)) c.in-Some.ensures.value ∙ sym (split_first-position c.args.byte bytes)

pub returns-in-None : goal.returns-in-None
returns-in-None c =
    ap (option_map (parts_at c.args.bytes.now)) c.in-None.ensures.value ∙ sym (split_first-position c.args.byte c.args.bytes.now)
