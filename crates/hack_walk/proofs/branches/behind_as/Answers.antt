use Rattle.hack_decls.specs.DeclState.{Map}
use Rattle.hack_rules.specs.Refining.{behind_as, where_is}
use Rattle.hack_rules.specs.Variables.{Variables, refined}
use Rattle.hack_sub.specs.declared.scope.Scope.{Scope}
use Rattle.hack_walk.specs.WalkLaws.{step_reads, step_variables}
use Rattle.hack_walk.proofs.branches.behind_as.Goals as goal

pub returns : goal.returns
unfolding behind_as
returns g c =
    step_reads (λ (here : Variables) (map : Map) (scope : Scope). refined here c.args.subject (where_is map scope c.args.tested.now)) c.refined_by.result
    (step_variables c.args.state.now c.variables.result.now c.variables.ensures) c.refined_by.ensures
    (λ symbols n. n) (λ symbols around n types. record { around = around; types = types; tested = n }) (λ symbols here n given all. all)
