use Rattle.std.proofs.Common.{Err, Ok, false, refl}
use Rattle.std.proofs.lemmas.Result.{err_from_is_err_and}
use Rattle.hack_rules.specs.Expressions.{meaning_of}
use Rattle.hack_rules.specs.Walks.{◌>>=◌}
use Rattle.hack_parts.specs.PartLaws.{value_walks}
use Rattle.hack_uses.proofs.AimLaws.{target_walks}
use Rattle.hack_operators.specs.Seen.{operation_seen}
use Rattle.hack_rules.specs.Operators.{operate}
use Rattle.hack_rules.specs.Targets.{assign_with, read}
use Rattle.hack_walk.specs.WalkLaws.{refused, walks_on, walks_then}
use Rattle.hack_uses.specs.inside.Steps.{stored}
use Rattle.hack_uses.proofs.assigning.operated.Goals as goal

pub returns : goal.returns
unfolding assign_with stored
returns g c =
    let value = meaning_of c.args.e.now in let at = c.args.at in let by = operation_seen c.args.operation in let aim = c.in_ok-aim.aim in let before = c.in_ok-before.before in
    walks_on (λ a. read false a >>= (λ b. value.walk >>= (λ o. operate at by b o >>= (λ ty. stored at a ty)))) c.stored.result
    (target_walks c.requires.target {result = Ok aim} refl c.in_ok-aim.ensures)
    (walks_on (λ b. value.walk >>= (λ o. operate at by b o >>= (λ ty. stored at aim ty))) c.stored.result c.in_ok-before.ensures
    (walks_on (λ o. operate at by before o >>= (λ ty. stored at aim ty)) c.stored.result (value_walks c.requires.value {result = Ok c.in_ok-other.other} refl c.in_ok-other.ensures)
    (walks_then (λ ty. stored at aim ty) c.stored.result c.in_ok-ty.ensures c.stored.ensures (λ symbols n. record { left = n.0.1; right = n.1 }) (λ symbols n t. (n.0.0.1, t)) (λ symbols b n t h. h))
    (λ symbols n. n.0.0.1))
    (λ symbols n. n.1))
    (λ symbols n. n.0)

pub returns-in_err-other : goal.returns-in_err-other
unfolding assign_with stored
returns-in_err-other g c =
    let value = meaning_of c.args.e.now in let at = c.args.at in let by = operation_seen c.args.operation in let aim = c.in_ok-aim.aim in
    let p = err_from_is_err_and c.from_residual-in_err-other.result c.from_residual-in_err-other.ensures.1 in
    rw (p.1, p.2) (walks_on (λ a. read false a >>= (λ b. value.walk >>= (λ o. operate at by b o >>= (λ ty. stored at a ty)))) (Err _)
    (target_walks c.requires.target {result = Ok aim} refl c.in_ok-aim.ensures)
    (walks_on (λ b. value.walk >>= (λ o. operate at by b o >>= (λ ty. stored at aim ty))) (Err _) c.in_ok-before.ensures
    (refused (value_walks c.requires.value {result = Err _} refl c.in_err-other.ensures) (λ symbols n. n.0.0.1))
    (λ symbols n. n.1))
    (λ symbols n. n.0))

pub returns-in_err-ty : goal.returns-in_err-ty
unfolding assign_with stored
returns-in_err-ty g c =
    let value = meaning_of c.args.e.now in let at = c.args.at in let by = operation_seen c.args.operation in let aim = c.in_ok-aim.aim in let before = c.in_ok-before.before in
    let p = err_from_is_err_and c.from_residual-in_err-ty.result c.from_residual-in_err-ty.ensures.1 in
    rw (p.1, p.2) (walks_on (λ a. read false a >>= (λ b. value.walk >>= (λ o. operate at by b o >>= (λ ty. stored at a ty)))) (Err _)
    (target_walks c.requires.target {result = Ok aim} refl c.in_ok-aim.ensures)
    (walks_on (λ b. value.walk >>= (λ o. operate at by b o >>= (λ ty. stored at aim ty))) (Err _) c.in_ok-before.ensures
    (walks_on (λ o. operate at by before o >>= (λ ty. stored at aim ty)) (Err _) (value_walks c.requires.value {result = Ok c.in_ok-other.other} refl c.in_ok-other.ensures)
    (refused c.in_err-ty.ensures (λ symbols n. record { left = n.0.1; right = n.1 }))
    (λ symbols n. n.0.0.1))
    (λ symbols n. n.1))
    (λ symbols n. n.0))
