use Rattle.std.proofs.Common.{◌≡◌, ◌++◌, drop, option_to_list}
use Rattle.std.specs.List.{flat_map}
use Rattle.hack_assigned.specs.inside.Parts.{in_each, in_entry, in_field, in_operand}
use Rattle.hack_assigned.specs.inside.Suffixes.{added_behind}
use Rattle.hack_assigned.proofs.expressions.+assigned.Given as goal

abbrev pub invariant-assigned_in_each-loop-part : goal.invariant-assigned_in_each-loop-part
invariant-assigned_in_each-loop-part l = l.names.items ++ in_each (drop l.part-index l.parts) ≡ l.initial.names.items ++ in_each l.parts

abbrev pub invariant-in_operands-loop-operand : goal.invariant-in_operands-loop-operand
invariant-in_operands-loop-operand l = l.names.items ++ flat_map in_operand (drop l.operand-index l.operands) ≡ l.initial.names.items ++ flat_map in_operand l.operands

abbrev pub invariant-in_entries-loop-entry : goal.invariant-in_entries-loop-entry
invariant-in_entries-loop-entry l = l.names.items ++ flat_map in_entry (drop l.entry-index l.entries) ≡ l.initial.names.items ++ flat_map in_entry l.entries

abbrev pub invariant-in_fields-loop-field : goal.invariant-in_fields-loop-field
invariant-in_fields-loop-field l = l.names.items ++ flat_map in_field (drop l.field-index l.fields) ≡ l.initial.names.items ++ flat_map in_field l.fields

abbrev pub invariant-in_suffixes-loop-suffix : goal.invariant-in_suffixes-loop-suffix
invariant-in_suffixes-loop-suffix l =
    added_behind l.names.items (option_to_list l.behind) (drop l.suffix-index l.suffixes) ≡ added_behind l.initial.names.items (option_to_list l.fn.root) l.suffixes
