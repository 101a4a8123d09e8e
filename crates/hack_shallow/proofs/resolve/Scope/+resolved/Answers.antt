use Rattle.std.proofs.Common.{◌∙◌}
use Rattle.hack_shallow.proofs.FieldsNext.{fields_next}
use Rattle.hack_shallow.specs.Scopes.{scope_of}
use Rattle.hack_shallow.proofs.resolve.Scope.+resolved.Goals as goal

pub last_fields-loop-field-preserved : goal.last_fields-loop-field-preserved
last_fields-loop-field-preserved t c =
    fields_next (scope_of c.args.self.now) c.loop-field.by_key.entries c.insert.new.self.entries c.args.written.now c.loop-field.field-index c.field-item.result c.in_ok-ty.ty
    c.loop-field-test.true c.field-item.is c.in_ok-ty.ensures c.in_ok-insert.ensures.entries
    ∙ c.loop-field.invariant
