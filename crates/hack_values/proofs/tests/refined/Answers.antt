use Rattle.std.proofs.Common.{Ok}
use Rattle.hack_decls.specs.Names.{TypeIn}
use Rattle.hack_rules.specs.Variables.{Variables}
use Rattle.hack_rules.specs.Walks.{◌>>◌, pure, replace}
use Rattle.hack_walk.specs.Checks.{VariablesIn}
use Rattle.hack_walk.specs.WalkLaws.{of_step, step_pure, step_replace, walks_next, walks_on}
use Rattle.hack_values.proofs.tests.refined.Goals as goal

pub returns : goal.returns
returns g c =
    let tested = c.args.tested in let behind = c.in_ok-behind.behind in
    walks_on (λ (vs : Variables). replace vs >> pure tested) (Ok tested) c.in_ok-behind.ensures
    (walks_next {NamesC = λ symbols. TypeIn symbols tested × VariablesIn symbols behind} (pure tested) (Ok tested)
    (of_step _ (step_replace {Names = λ symbols. VariablesIn symbols behind} c.args.state.now c.replace.new.self behind c.replace.ensures.variables c.replace.ensures.found (λ symbols n. n)))
    (of_step _ (step_pure {Names = λ symbols. TypeIn symbols tested} {Gives = TypeIn} c.replace.new.self tested (λ symbols n. n)))
    (λ symbols n. n.1) (λ symbols n g. n.0) (λ symbols b n g h. h))
    (λ symbols n. n)
