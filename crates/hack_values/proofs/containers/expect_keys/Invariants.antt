use Rattle.std.proofs.Common.{Ok, All, take}
use Rattle.hack_decls.specs.Asks.{Nothing}
use Rattle.hack_decls.specs.Names.{TypeIn}
use Rattle.hack_rules.specs.Walks.{for_pairs}
use Rattle.hack_walk.specs.Checks.{Walks, setting_of}
use Rattle.hack_values.specs.inside.Rows.{expect_key}
use Rattle.hack_values.proofs.containers.expect_keys.Given as goal

abbrev pub invariant-loop-index : goal.invariant-loop-index
invariant-loop-index g l =
    Walks (for_pairs expect_key (take l.index l.fn.elements) (take l.index l.fn.types)) (setting_of l.fn.setting) (g.D.Decls.state l.initial.decls) l.initial.state (Ok tt)
    (g.D.Decls.state l.decls) l.state (λ symbols. All (TypeIn symbols) l.fn.types) Nothing
