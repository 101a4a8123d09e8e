use Rattle.std.proofs.Common.{Ok}
use Rattle.hack_decls.specs.DeclState.{Map}
use Rattle.hack_decls.specs.Names.{class_symbol}
use Rattle.hack_diag.specs.Messages.{not_instantiable}
use Rattle.hack_rules.specs.Classes.{class_by}
use Rattle.hack_rules.specs.News.{expect_instance, instance_by}
use Rattle.hack_rules.specs.Walks.{unless}
use Rattle.hack_sub.specs.declared.scope.Scope.{Scope}
use Rattle.hack_walk.specs.WalkLaws.{of_step, reads_walks}
use Rattle.hack_new.proofs.instances.expect_instance.Goals as goal

pub returns : goal.returns
unfolding expect_instance
returns g c =
    let at = c.args.at in let name = c.args.name in
    reads_walks (λ (map : Map) (scope : Scope). instance_by (class_by (map (class_symbol name)))) (λ fits. unless fits at (not_instantiable name)) (Ok tt)
    c.in_ok-fits.ensures (of_step _ c.in_ok-report_unless.ensures) (λ symbols around n. n) (λ symbols n g. tt) (λ symbols b n g h. h)
