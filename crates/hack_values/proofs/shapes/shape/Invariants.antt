use Rattle.std.proofs.Common.{◌≡◌, ℕ, Ok, All, [], is_some, take}
use Rattle.std.specs.BTreeMap.{get}
use Rattle.std.specs.Ordering.{nat_cmp}
use Rattle.hack_parts.specs.ExprIn.{FieldIn}
use Rattle.hack_rules.specs.WrittenTypes.{is_key_of}
use Rattle.hack_walk.specs.Checks.{Walks, setting_of}
use Rattle.hack_values.proofs.Fields.{table_of}
use Rattle.hack_values.proofs.Keys.{keys_after}
use Rattle.hack_values.proofs.Naming.{EntriesIn}
use Rattle.hack_values.proofs.shapes.shape.Given as goal

abbrev pub invariant-loop-field : goal.invariant-loop-field
invariant-loop-field g l = record {
  walked : Walks (table_of (take l.field-index l.fields)) (setting_of l.setting) (g.D.Decls.state l.initial.decls) l.initial.state (Ok l.by_key.entries) (g.D.Decls.state l.decls) l.state
      (λ symbols. All (FieldIn l.setting.scope.now symbols) l.fields) EntriesIn;
  keys : (query : ℕ) → is_key_of query (keys_after [] (take l.field-index l.fields)) ≡ is_some (get nat_cmp l.by_key query);
}
