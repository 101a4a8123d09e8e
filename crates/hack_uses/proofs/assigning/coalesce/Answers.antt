use Rattle.std.proofs.Common.{Err, Ok, true, refl}
use Rattle.std.proofs.lemmas.Result.{err_from_is_err_and}
use Rattle.hack_rules.specs.Expressions.{meaning_of}
use Rattle.hack_decls.specs.DeclState.{Map}
use Rattle.hack_decls.specs.Names.{TypeIn}
use Rattle.hack_sub.specs.declared.scope.Scope.{Scope}
use Rattle.hack_rules.specs.Walks.{◌>>=◌}
use Rattle.hack_parts.specs.PartLaws.{value_walks}
use Rattle.hack_uses.proofs.AimLaws.{target_walks}
use Rattle.hack_infer.specs.WithoutNull.{without_null}
use Rattle.hack_rules.specs.Targets.{assign_with, coalesced, read}
use Rattle.hack_rules.specs.Variables.{union_of_two}
use Rattle.hack_walk.specs.WalkLaws.{of_reads, reads_walks, refused, walks_on}
use Rattle.hack_uses.specs.inside.Steps.{stored}
use Rattle.hack_uses.proofs.assigning.coalesce.Goals as goal

pub returns : goal.returns
unfolding assign_with coalesced stored
returns g c =
    let value = meaning_of c.args.e.now in let at = c.args.at in let aim = c.in_ok-aim.aim in let before = c.in_ok-before.before in
    walks_on (λ a. read true a >>= (λ b. value.walk >>= (λ o. coalesced b o >>= (λ ty. stored at a ty)))) c.stored.result
    (target_walks c.requires.target {result = Ok aim} refl c.in_ok-aim.ensures)
    (walks_on (λ b. value.walk >>= (λ o. coalesced b o >>= (λ ty. stored at aim ty))) c.stored.result c.in_ok-before.ensures
    (walks_on (λ o. coalesced before o >>= (λ ty. stored at aim ty)) c.stored.result (value_walks c.requires.value {result = Ok c.in_ok-other.other} refl c.in_ok-other.ensures)
    (reads_walks (λ map scope. union_of_two (without_null map before) c.in_ok-other.other) (λ ty. stored at aim ty) c.stored.result c.in_ok-ty.ensures c.stored.ensures (λ symbols around n. (n.0.1, n.1))
    (λ symbols n t. (n.0.0.1, t)) (λ symbols b n t h. h))
    (λ symbols n. n.0.0.1))
    (λ symbols n. n.1))
    (λ symbols n. n.0)

pub returns-in_err-other : goal.returns-in_err-other
unfolding assign_with coalesced stored
returns-in_err-other g c =
    let value = meaning_of c.args.e.now in let at = c.args.at in let aim = c.in_ok-aim.aim in
    let p = err_from_is_err_and c.from_residual-in_err-other.result c.from_residual-in_err-other.ensures.1 in
    rw (p.1, p.2) (walks_on (λ a. read true a >>= (λ b. value.walk >>= (λ o. coalesced b o >>= (λ ty. stored at a ty)))) (Err _)
    (target_walks c.requires.target {result = Ok aim} refl c.in_ok-aim.ensures)
    (walks_on (λ b. value.walk >>= (λ o. coalesced b o >>= (λ ty. stored at aim ty))) (Err _) c.in_ok-before.ensures
    (refused (value_walks c.requires.value {result = Err _} refl c.in_err-other.ensures) (λ symbols n. n.0.0.1))
    (λ symbols n. n.1))
    (λ symbols n. n.0))

pub returns-in_err-ty : goal.returns-in_err-ty
unfolding assign_with coalesced stored
returns-in_err-ty g c =
    let value = meaning_of c.args.e.now in let at = c.args.at in let aim = c.in_ok-aim.aim in let before = c.in_ok-before.before in let other = c.in_ok-other.other in
    let p = err_from_is_err_and c.from_residual-in_err-ty.result c.from_residual-in_err-ty.ensures.1 in
    rw (p.1, p.2) (walks_on (λ a. read true a >>= (λ b. value.walk >>= (λ o. coalesced b o >>= (λ ty. stored at a ty)))) (Err _)
    (target_walks c.requires.target {result = Ok aim} refl c.in_ok-aim.ensures)
    (walks_on (λ b. value.walk >>= (λ o. coalesced b o >>= (λ ty. stored at aim ty))) (Err _) c.in_ok-before.ensures
    (walks_on (λ o. coalesced before o >>= (λ ty. stored at aim ty)) (Err _) (value_walks c.requires.value {result = Ok other} refl c.in_ok-other.ensures)
    (refused (of_reads {NamesB = λ symbols. TypeIn symbols before × TypeIn symbols other} (λ (map : Map) (scope : Scope). union_of_two (without_null map before) other) _ (Err _) c.in_err-ty.ensures (λ symbols around n. n))
    (λ symbols n. (n.0.1, n.1)))
    (λ symbols n. n.0.0.1))
    (λ symbols n. n.1))
    (λ symbols n. n.0))
