use Rattle.std.proofs.Common.{Option, sym, subst}
use Rattle.hack_decls.specs.Asks.{Nothing}
use Rattle.hack_decls.specs.Names.{TypeIn}
use Rattle.hack_walk.specs.Checks.{Steps, setting_of}
use Rattle.hack_walk.specs.WalkLaws.{step_pure}
use Rattle.std.proofs.Common.{Ok, ℕ}
use Rattle.hack_rules.specs.Loops.{assign_key}
use Rattle.hack_flow.proofs.foreach_turns.assign_key.Goals as goal

pub returns-in-None : goal.returns-in-None
returns-in-None c =
    let ty = c.args.ty.now in
    subst (λ (key : Option ℕ). Steps (assign_key key ty) (setting_of c.args.setting.now) c.args.state.now (Ok tt) c.args.state.now (λ symbols. TypeIn symbols ty) Nothing) (sym c.in-None.is)
    (step_pure c.args.state.now tt (λ symbols n. tt))
