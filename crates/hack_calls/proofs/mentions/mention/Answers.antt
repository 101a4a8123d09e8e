use Rattle.std.proofs.Common.{Ok, IfSome}
use Rattle.std.proofs.lemmas.Result.{err_from_is_err_and}
use Rattle.hack_decls.specs.DeclState.{Map}
use Rattle.hack_decls.specs.Names.{class_symbol}
use Rattle.hack_rules.specs.Walks.{◌>>=◌, pure}
use Rattle.hack_sub.specs.declared.scope.Scope.{Scope}
use Rattle.hack_walk.specs.Checks.{setting_of}
use Rattle.hack_walk.specs.WalkLaws.{of_reads, of_step, out_of_memory, reads_walks, step_pure, step_step, walks_as}
use Rattle.hack_written.specs.Within.{ParamsIn}
use Rattle.hack_calls.specs.Named.{declared_as, mention}
use Rattle.hack_calls.specs.declared.mentions.Declared.{Declared}
use Rattle.hack_calls.specs.inside.Rows.{expect_declared}
use Rattle.hack_calls.proofs.Mentioning.{mention_law}
use Rattle.hack_calls.proofs.mentions.mention.Goals as goal

pub returns : goal.returns
returns g c =
    let at = c.args.at in let name = c.args.name in let s = c.args.state.now in let d = c.in_ok-declared.declared in
    walks_as (mention at name) (Ok d)
    (reads_walks {NamesB = λ symbols. IfSome d (λ (declared : Declared). ParamsIn symbols declared.type_params)}
    (λ (map : Map) (scope : Scope). declared_as (map (class_symbol name))) (λ declared. expect_declared at name declared >>= (λ done. pure declared)) (Ok d)
    c.in_ok-declared.ensures
    (of_step _ (step_step {GivesB = λ symbols o. IfSome o (λ (declared : Declared). ParamsIn symbols declared.type_params)} (λ done. pure d) c.in_ok-expect_declared.ensures (step_pure c.expect_declared.new.state d (λ symbols n. n.0)) (λ symbols n. tt) (λ symbols n g h. h)))
    (λ symbols around n. n) (λ symbols n g. g) (λ symbols b n g h. h))
    (λ map. mention_law at name (setting_of c.args.setting.now) map s)

pub returns-in_err-expect_declared : goal.returns-in_err-expect_declared
returns-in_err-expect_declared g c =
    let name = c.args.name in
    let p = err_from_is_err_and c.from_residual-in_err-expect_declared.result c.from_residual-in_err-expect_declared.ensures.1 in
    rw (p.1, p.2) (out_of_memory (of_reads (λ (map : Map) (scope : Scope). declared_as (map (class_symbol name))) c.args.state.now (Ok c.in_ok-declared.declared) c.in_ok-declared.ensures (λ symbols around n. n))
    (λ symbols n. n))
