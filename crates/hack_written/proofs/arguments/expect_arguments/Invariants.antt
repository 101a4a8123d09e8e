use Rattle.std.proofs.Common.{Ok, All, take}
use Rattle.hack_decls.specs.Names.{TypeIn}
use Rattle.hack_rules.specs.Walks.{for_pairs}
use Rattle.hack_walk.specs.Checks.{Walks, setting_of}
use Rattle.hack_decls.specs.Asks.{Nothing}
use Rattle.hack_written.specs.Within.{ParamsIn, arguments_of}
use Rattle.hack_written.proofs.Pairs.{expect_one}
use Rattle.hack_written.proofs.arguments.expect_arguments.Given as goal

abbrev pub invariant-loop-index : goal.invariant-loop-index
invariant-loop-index g l =
    Walks (for_pairs (expect_one (arguments_of l.fn.written l.fn.types)) (take l.index l.fn.params) (take l.index (arguments_of l.fn.written l.fn.types)))
    (setting_of l.fn.setting) (g.D.Decls.state l.initial.decls) l.initial.state (Ok tt) (g.D.Decls.state l.decls) l.state
    (λ symbols. All (TypeIn symbols) l.fn.types × ParamsIn symbols l.fn.params) Nothing
