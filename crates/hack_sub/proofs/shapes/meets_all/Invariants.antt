use Rattle.std.proofs.Common.{drop}
use Rattle.std.specs.List.{list_all}
use Rattle.hack_sub.specs.inside.Calls.{FieldsIn, SoFar}
use Rattle.hack_sub.specs.IsBelow.{is_below, meets_field}
use Rattle.hack_sub.proofs.shapes.meets_all.Given as goal

abbrev pub invariant-loop-field : goal.invariant-loop-field
invariant-loop-field g l = SoFar (g.D.Decls.state l.initial.decls) (g.D.Decls.state l.decls)
    (λ map. list_all (meets_field (is_below map l.fn.level.scope.now l.fn.level.height) l.fn.further l.fn.fields) l.fn.others)
    (λ map. list_all (meets_field (is_below map l.fn.level.scope.now l.fn.level.height) l.fn.further l.fn.fields) (drop l.field-index l.fn.others))
    (λ symbols. FieldsIn symbols l.fn.level.scope.now l.fn.fields l.fn.others)
