use Rattle.std.proofs.Common.{◌≡◌, ℕ, Ok, All, [], is_some, map, take}
use Rattle.std.specs.BTreeMap.{get}
use Rattle.std.specs.Ordering.{nat_cmp}
use Rattle.hack_decls.specs.Names.{TypeIn}
use Rattle.hack_shallow.specs.Resolved.{with_fields}
use Rattle.hack_rules.specs.WrittenTypes.{field_type, fields_checks, is_key_of}
use Rattle.hack_walk.specs.Checks.{Walks}
use Rattle.hack_written.specs.WrittenIn.{FieldIn, WrittenIn}
use Rattle.hack_written.specs.inside.Rows.{arguments, field_mentions, names_in, setting_in}
use Rattle.hack_written.proofs.Lists.{keys_after}
use Rattle.hack_written.proofs.Named.{EntriesIn}
use Rattle.hack_written.proofs.parts.+checked.Given as goal

abbrev pub invariant-shape-loop-field : goal.invariant-shape-loop-field
invariant-shape-loop-field g l = record {
  walked : Walks (fields_checks [] (field_mentions (names_in l.around) (take l.field-index l.fields)) l.around.bounds) (setting_in l.around) (g.D.Decls.state l.initial.decls) l.initial.state
      (Ok tt) (g.D.Decls.state l.decls) l.state (λ symbols. All (FieldIn (names_in l.around) symbols) l.fields) (λ symbols (done : Unit {0}). EntriesIn symbols l.by_key.entries);
  entries : l.by_key.entries ≡ with_fields [] (map field_type (field_mentions (names_in l.around) (take l.field-index l.fields)));
  keys : (query : ℕ) → is_key_of query (keys_after [] (field_mentions (names_in l.around) (take l.field-index l.fields))) ≡ is_some (get nat_cmp l.by_key query);
}

abbrev pub invariant-arguments-loop-argument : goal.invariant-arguments-loop-argument
invariant-arguments-loop-argument g l =
    Walks (arguments (names_in l.around) l.around.bounds (take l.argument-index l.written)) (setting_in l.around) (g.D.Decls.state l.initial.decls) l.initial.state
    (Ok l.types) (g.D.Decls.state l.decls) l.state (λ symbols. All (WrittenIn (names_in l.around) symbols) l.written) (λ symbols. All (TypeIn symbols))
