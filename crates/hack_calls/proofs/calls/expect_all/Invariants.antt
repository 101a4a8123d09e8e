use Rattle.std.proofs.Common.{All, Ok, take}
use Rattle.hack_decls.specs.Asks.{Nothing}
use Rattle.hack_decls.specs.Names.{TypeIn}
use Rattle.hack_infer.specs.Filling.{filling_of}
use Rattle.hack_rules.specs.Walks.{for_pairs}
use Rattle.hack_walk.specs.Checks.{Walks, setting_of}
use Rattle.hack_written.specs.NamesFilled.{FillingIn}
use Rattle.hack_calls.specs.Named.{GivenIn}
use Rattle.hack_calls.specs.inside.Rows.{expect_one}
use Rattle.hack_calls.proofs.calls.expect_all.Given as goal

abbrev pub invariant-loop-index : goal.invariant-loop-index
invariant-loop-index g l =
    Walks (for_pairs (expect_one (filling_of l.fn.filling)) (take l.index l.fn.params) (take l.index l.fn.given))
    (setting_of l.fn.setting) (g.D.Decls.state l.initial.decls) l.initial.state (Ok tt) (g.D.Decls.state l.decls) l.state
    (λ symbols. All (λ param. TypeIn symbols param.ty) l.fn.params × FillingIn symbols (filling_of l.fn.filling) × GivenIn symbols l.fn.given) Nothing
