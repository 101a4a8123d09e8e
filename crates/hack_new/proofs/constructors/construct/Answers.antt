use Rattle.hack_decls.specs.DeclState.{Map}
use Rattle.hack_decls.specs.Names.{class_symbol}
use Rattle.hack_sub.specs.declared.scope.Scope.{Scope}
use Rattle.hack_walk.specs.WalkLaws.{reads_walks}
use Rattle.hack_new.specs.inside.Rows.{construct_by, construct_row, constructor_in}
use Rattle.hack_new.proofs.constructors.construct.Goals as goal

pub returns : goal.returns
unfolding construct_row
returns g c =
    let name = c.args.name in
    reads_walks (λ (map : Map) (scope : Scope). constructor_in (map (class_symbol name))) (construct_by c.args.at c.args.arguments.now c.args.made.now c.args.given.now)
    c.construct_by-done.result c.in_ok-found.ensures c.construct_by-done.ensures (λ symbols around n. n.0) (λ symbols n g. (g, n.1, n.2, n.3)) (λ symbols b n g h. h)
