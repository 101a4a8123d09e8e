use Rattle.std.proofs.Common.{All, Ok, take}
use Rattle.hack_decls.specs.Asks.{Nothing}
use Rattle.hack_decls.specs.Names.{TypeIn}
use Rattle.hack_infer.specs.Filling.{filling_of}
use Rattle.hack_walk.specs.Checks.{Walks, setting_of}
use Rattle.hack_written.specs.NamesFilled.{FillingIn}
use Rattle.hack_written.specs.Within.{ParamsIn}
use Rattle.hack_calls.specs.inside.Rows.{expect_bounds}
use Rattle.hack_calls.proofs.calls.expect_bounds.Given as goal

abbrev pub invariant-loop-index : goal.invariant-loop-index
invariant-loop-index g l =
    Walks (expect_bounds (filling_of l.fn.filling) l.fn.at (take l.index l.fn.params) (take l.index l.fn.solved))
    (setting_of l.fn.setting) (g.D.Decls.state l.initial.decls) l.initial.state (Ok tt) (g.D.Decls.state l.decls) l.state
    (λ symbols. ParamsIn symbols l.fn.params × FillingIn symbols (filling_of l.fn.filling) × All (TypeIn symbols) l.fn.solved) Nothing
