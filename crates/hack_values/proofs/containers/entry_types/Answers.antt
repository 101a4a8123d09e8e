use Rattle.std.proofs.Common.{Ok, Err, refl}
use Rattle.std.proofs.lemmas.Result.{err_from_is_err_and}
use Rattle.hack_parts.specs.PartLaws.{value_walks}
use Rattle.hack_parts.specs.PartNames.{in_entry_value, in_key}
use Rattle.hack_rules.specs.Expressions.{meaning_of}
use Rattle.hack_rules.specs.Walks.{◌>>=◌, pure}
use Rattle.hack_walk.specs.WalkLaws.{refused, step_pure, then_refused, walks_on, walks_step}
use Rattle.hack_values.specs.inside.Rows.{TypesIn, entry_types}
use Rattle.hack_values.proofs.containers.entry_types.Goals as goal

pub returns : goal.returns
unfolding entry_types
returns g c =
    let entry = c.args.entry.now in let key = c.in_ok-key.key in let ty = c.in_ok-ty.ty in
    walks_on (λ k. (meaning_of entry.value).walk >>= (λ v. pure (k, v))) (Ok (key, ty)) c.in_ok-key.ensures
    (walks_step (λ v. pure (key, v)) (value_walks c.requires.value {result = Ok ty} refl c.in_ok-ty.ensures)
    (step_pure {Gives = TypesIn} _ (key, ty) (λ symbols n. record { key = n.0.1; value = n.1 })) (λ symbols n. in_entry_value c.args.setting.now.scope.now symbols entry n.0) (λ symbols b n g h. h))
    (λ symbols n. in_key c.args.setting.now.scope.now symbols entry n)

pub returns-in_err-key : goal.returns-in_err-key
returns-in_err-key g c =
    let p = err_from_is_err_and c.from_residual.result c.from_residual.ensures.1 in
    rw (p.1, p.2) (refused c.in_err-key.ensures (λ symbols n. in_key c.args.setting.now.scope.now symbols c.args.entry.now n))

pub returns-in_err-ty : goal.returns-in_err-ty
returns-in_err-ty g c =
    let entry = c.args.entry.now in
    let p = err_from_is_err_and c.from_residual-in_err-ty.result c.from_residual-in_err-ty.ensures.1 in
    rw (p.1, p.2) (then_refused c.in_ok-key.ensures (value_walks c.requires.value {result = Err _} refl c.in_err-ty.ensures) (λ symbols n. in_key c.args.setting.now.scope.now symbols entry n)
    (λ symbols n g. in_entry_value c.args.setting.now.scope.now symbols entry n))
