use Rattle.std.proofs.Common.{Ok, ap}
use Rattle.hack_types.specs.declared.hack_type.HackType.{HackType}
use Rattle.hack_types.specs.declared.ids.Kind.TheVariants.{Const}
use Rattle.hack_decls.specs.DeclState.{Map}
use Rattle.hack_rules.specs.Values.{constant_row}
use Rattle.hack_rules.specs.Walks.{Walk, ◌>>=◌, reads}
use Rattle.hack_sub.specs.declared.scope.Scope.{Scope}
use Rattle.hack_walk.specs.Checks.{setting_of}
use Rattle.hack_walk.specs.WalkLaws.{of_step, reads_walks, walks_as}
use Rattle.hack_values.specs.inside.Rows.{constant_by, declared_or}
use Rattle.hack_values.proofs.Declared.{constant_law}
use Rattle.hack_values.proofs.constants.constant.Goals as goal

pub returns : goal.returns
unfolding constant_row ◌>>=◌ reads
returns g c =
    let s = c.args.state.now in let at = c.args.at in let name = c.args.name in
    walks_as (constant_row at name) (Ok _)
    (reads_walks (λ (map : Map) (scope : Scope). constant_by (map (record { kind = Const; name = name }))) (declared_or at name) (Ok _)
    c.in_ok-found.ensures (of_step _ c.in_ok-declared_or.ensures)
    (λ symbols around n. n) (λ symbols n g. g) (λ symbols b n g h. h))
    (λ map. ap (λ (walk : Walk HackType). walk (setting_of c.args.setting.now) map s) (constant_law at name (map (record { kind = Const; name = name }))))
