use Rattle.std.proofs.Common.{◌<◌, ◌+◌, Ok, length, take, refl, sym, subst, arith}
use Rattle.std.proofs.lemmas.List.{take_all}
use Rattle.std.proofs.lemmas.Result.{err_from_is_err_and}
use Rattle.hack_parts.specs.ExprIn.{SuffixIn}
use Rattle.hack_rules.specs.Expressions.{meaning_of}
use Rattle.hack_walk.specs.WalkLaws.{then_refused, weaker}
use Rattle.hack_uses.proofs.AimLaws.{target_walks}
use Rattle.hack_uses.proofs.Behind.{one_behind}
use Rattle.hack_uses.proofs.Readable.{readable}
use Rattle.hack_uses.proofs.postfixes.with_suffixes.Goals as goal

pub loop-suffix-init : goal.loop-suffix-init
loop-suffix-init g c =
    weaker (Ok c.in_ok-so_far.so_far) (target_walks c.requires.operand {result = Ok c.in_ok-so_far.so_far} refl c.in_ok-so_far.ensures) (λ symbols n. n.0) (λ symbols b n t. t)

pub loop-suffix-preserved : goal.loop-suffix-preserved
loop-suffix-preserved g c =
    let xs = c.args.suffixes.now in let i = c.loop-suffix.suffix-index in let e = c.args.operand.now in
    let lt : i < length xs = c.loop-suffix-test.true in
    one_behind (meaning_of e) (readable e) c.place_of-at.result c.place_of-at.ensures xs i _ lt c.suffix-item.is c.loop-suffix.invariant c.in_ok-so_far-2.ensures
    (λ symbols n t. (t, subst (SuffixIn c.args.setting.now.scope.now symbols) (sym c.suffix-item.is) (n.1 i _ lt)))

pub returns-in_err-so_far-2 : goal.returns-in_err-so_far-2
returns-in_err-so_far-2 g c =
    let xs = c.args.suffixes.now in let i = c.loop-suffix.suffix-index in
    let lt : i < length xs = c.loop-suffix-test.true in
    let p = err_from_is_err_and c.from_residual-in_err-so_far-2.result c.from_residual-in_err-so_far-2.ensures.1 in
    rw (p.1, p.2) (then_refused c.loop-suffix.invariant c.in_err-so_far-2.ensures (λ symbols n. n)
    (λ symbols n t. (t, subst (SuffixIn c.args.setting.now.scope.now symbols) (sym c.suffix-item.is) (n.1 i _ lt))))
