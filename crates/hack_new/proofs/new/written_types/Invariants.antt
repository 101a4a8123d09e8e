use Rattle.std.proofs.Common.{Ok, All, take}
use Rattle.hack_decls.specs.Names.{TypeIn}
use Rattle.hack_rules.specs.WrittenTypes.{names_of}
use Rattle.hack_walk.specs.Checks.{Walks, setting_of}
use Rattle.hack_written.specs.WrittenIn.{WrittenIn}
use Rattle.hack_new.specs.inside.Rows.{types_row}
use Rattle.hack_new.proofs.new.written_types.Given as goal

abbrev pub invariant-loop-ty : goal.invariant-loop-ty
invariant-loop-ty g l =
    Walks (types_row (take l.ty-index l.types)) (setting_of l.setting) (g.D.Decls.state l.initial.decls) l.initial.state (Ok l.own) (g.D.Decls.state l.decls) l.state
    (λ symbols. All (WrittenIn (names_of l.setting.scope.now) symbols) l.types) (λ symbols own. All (TypeIn symbols) own)
