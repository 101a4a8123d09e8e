use Rattle.std.proofs.Common.{Some}
use Rattle.hack_decls.specs.DeclState.{Map}
use Rattle.hack_infer.specs.WithoutNull.{without_null}
use Rattle.hack_rules.specs.Refining.{bare_branches}
use Rattle.hack_rules.specs.Variables.{Variables, refined}
use Rattle.hack_sub.specs.declared.scope.Scope.{Scope}
use Rattle.hack_walk.specs.WalkLaws.{step_reads, step_variables}
use Rattle.hack_walk.specs.inside.Calls.{branches_with}
use Rattle.hack_walk.proofs.branches.bare_branches.Goals as goal

pub returns : goal.returns
unfolding bare_branches
returns g c =
    step_reads (λ (here : Variables) (map : Map) (scope : Scope). branches_with (refined here (Some c.args.name) (without_null map)) here) c.present_or_not.result
    (step_variables c.args.state.now c.variables.result.now c.variables.ensures) c.present_or_not.ensures
    (λ symbols n. n) (λ symbols around n types. types) (λ symbols here n given all. all)
