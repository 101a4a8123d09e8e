use Rattle.hack_decls.specs.DeclState.{Map}
use Rattle.hack_rules.specs.Refining.{tested_branches, where_is, where_is_not}
use Rattle.hack_rules.specs.Variables.{Variables, refined}
use Rattle.hack_sub.specs.declared.scope.Scope.{Scope}
use Rattle.hack_walk.specs.WalkLaws.{step_reads, step_variables}
use Rattle.hack_walk.specs.inside.Calls.{branches_with}
use Rattle.hack_walk.proofs.branches.tested_branches.Goals as goal

pub returns : goal.returns
unfolding tested_branches
returns g c =
    let subject = c.args.subject in let T = c.args.tested.now in
    step_reads
    (λ (here : Variables) (map : Map) (scope : Scope). branches_with (refined here subject (where_is map scope T)) (refined here subject (where_is_not map scope T)))
    c.both.result (step_variables c.args.state.now c.variables.result.now c.variables.ensures) c.both.ensures
    (λ symbols n. n) (λ symbols around n types. record { around = around; types = types; tested = n }) (λ symbols here n given all. all)
