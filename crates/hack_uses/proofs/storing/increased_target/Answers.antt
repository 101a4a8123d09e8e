use Rattle.std.proofs.Common.{Err}
use Rattle.std.proofs.lemmas.Result.{err_from_is_err_and}
use Rattle.hack_operators.specs.Seen.{operation_seen}
use Rattle.hack_rules.specs.Operators.{operate}
use Rattle.hack_rules.specs.Walks.{◌>>=◌}
use Rattle.hack_sub.specs.NamesOf.{of_int}
use Rattle.hack_types.specs.declared.hack_type.HackType.TheVariants.{Int}
use Rattle.hack_walk.specs.WalkLaws.{refused, walks_on, walks_then}
use Rattle.hack_uses.specs.inside.Steps.{increased, stored}
use Rattle.hack_uses.proofs.storing.increased_target.Goals as goal

pub returns : goal.returns
unfolding increased
returns g c =
    let at = c.args.at in let by = operation_seen c.args.operation in let aim = c.args.target in
    walks_on (λ before. operate at by before Int >>= (λ ty. stored at aim ty)) c.stored.result c.in_ok-before.ensures
    (walks_then (λ ty. stored at aim ty) c.stored.result c.in_ok-ty.ensures c.stored.ensures (λ symbols n. record { left = n.1; right = of_int symbols }) (λ symbols n t. (n.0, t)) (λ symbols b n t h. h))
    (λ symbols n. n)

pub returns-in_err-ty : goal.returns-in_err-ty
unfolding increased
returns-in_err-ty g c =
    let at = c.args.at in let by = operation_seen c.args.operation in let aim = c.args.target in
    let p = err_from_is_err_and c.from_residual-in_err-ty.result c.from_residual-in_err-ty.ensures.1 in
    rw (p.1, p.2) (walks_on (λ before. operate at by before Int >>= (λ ty. stored at aim ty)) (Err _) c.in_ok-before.ensures
    (refused c.in_err-ty.ensures (λ symbols n. record { left = n.1; right = of_int symbols })) (λ symbols n. n))
