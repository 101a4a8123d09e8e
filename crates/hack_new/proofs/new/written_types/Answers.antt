use Rattle.std.proofs.Common.{◌<◌, length, sym, subst, arith}
use Rattle.std.proofs.lemmas.Result.{err_from_is_err_and}
use Rattle.hack_rules.specs.WrittenTypes.{names_of}
use Rattle.hack_walk.specs.WalkLaws.{then_refused}
use Rattle.hack_written.specs.WrittenIn.{WrittenIn}
use Rattle.hack_new.proofs.Naming.{none_yet, types_all, types_next}
use Rattle.hack_new.proofs.new.written_types.Goals as goal

pub loop-ty-init : goal.loop-ty-init
loop-ty-init g c = rw c.new-own.ensures (none_yet _ _)

pub loop-ty-preserved : goal.loop-ty-preserved
loop-ty-preserved g c =
    let types = c.args.types.now in let i = c.loop-ty.ty-index in let ty = c.ty-item.result in
    let lt : i < length types = c.loop-ty-test.true in
    rw c.in_ok-push.ensures (types_next types i ty lt c.ty-item.is c.loop-ty.invariant c.in_ok-one.ensures
    (λ symbols n. subst (WrittenIn (names_of c.args.setting.now.scope.now) symbols) (sym c.ty-item.is) (n i ty lt)))

pub returns : goal.returns
returns g c = types_all c.args.types.now c.loop-ty.ty-index (omega arith) c.loop-ty.invariant

pub returns-in_err-one : goal.returns-in_err-one
returns-in_err-one g c =
    let types = c.args.types.now in let i = c.loop-ty.ty-index in let ty = c.ty-item.result in
    let lt : i < length types = c.loop-ty-test.true in
    let p = err_from_is_err_and c.from_residual.result c.from_residual.ensures.1 in
    rw (p.1, p.2) (then_refused c.loop-ty.invariant c.in_err-one.ensures (λ symbols n. n)
    (λ symbols n g. subst (WrittenIn (names_of c.args.setting.now.scope.now) symbols) (sym c.ty-item.is) (n i ty lt)))
