use Rattle.std.proofs.Common.{◌<◌, Ok, Err, length, refl, sym, subst, arith}
use Rattle.std.proofs.lemmas.Bool.{not-false, not-true}
use Rattle.std.proofs.lemmas.List.{drop_all}
use Rattle.std.proofs.lemmas.Result.{err_from_is_err_and}
use Rattle.hack_walk.specs.WalkLaws.{out_of_memory, refused}
use Rattle.hack_flow.specs.Settled.{inside_of}
use Rattle.hack_flow.specs.SettledLaws.{doing_at, doing_walks}
use Rattle.hack_flow.specs.StmtIn.{StmtIn}
use Rattle.hack_flow.proofs.Following.{goes_on, goes_out, goes_through, starts}
use Rattle.hack_flow.proofs.blocks.block.Goals as goal

pub loop-next-init : goal.loop-next-init
loop-next-init g c = record { reached = refl; goes = starts (inside_of c.args.inside) c.args.statements.now _ c.args.state.now }

pub loop-next-preserved : goal.loop-next-preserved
loop-next-preserved g c =
    let ss = c.args.statements.now in let i = c.loop-next.next-index in let s = c.next-item.result in
    let lt : i < length ss = c.loop-next-test.true in
    record {
      reached = not-false c.in_ok-so_far.so_far.reached c.if-not-so_far.false;
      goes = goes_on (inside_of c.args.inside) ss c.loop-next.so_far c.in_ok-so_far.so_far i s lt c.next-item.is c.loop-next.invariant.goes
          (doing_walks (doing_at ss i s lt c.next-item.is c.requires) {result = Ok _} refl c.in_ok-exits.ensures)
          (λ symbols n. subst (StmtIn c.args.setting.now.scope.now symbols) (sym c.next-item.is) (n i s lt)) c.in_ok-so_far.ensures (not-false c.in_ok-so_far.so_far.reached c.if-not-so_far.false);
    }

pub returns-in_err-exits : goal.returns-in_err-exits
returns-in_err-exits g c =
    let ss = c.args.statements.now in let i = c.loop-next.next-index in let s = c.next-item.result in
    let lt : i < length ss = c.loop-next-test.true in
    let p = err_from_is_err_and c.from_residual.result c.from_residual.ensures.1 in
    rw (p.1, p.2) (c.loop-next.invariant.goes.onward (Err _) _ _
    (refused (doing_walks (doing_at ss i s lt c.next-item.is c.requires) {result = Err _} refl c.in_err-exits.ensures)
    (λ symbols n. subst (StmtIn c.args.setting.now.scope.now symbols) (sym c.next-item.is) (n.0 i s lt))))

pub returns-in_err-so_far : goal.returns-in_err-so_far
returns-in_err-so_far g c =
    let ss = c.args.statements.now in let i = c.loop-next.next-index in let s = c.next-item.result in
    let lt : i < length ss = c.loop-next-test.true in
    let p = err_from_is_err_and c.from_residual-in_err-so_far.result c.from_residual-in_err-so_far.ensures.1 in
    rw (p.1, p.2) (c.loop-next.invariant.goes.onward (Err _) _ _
    (out_of_memory (doing_walks (doing_at ss i s lt c.next-item.is c.requires) {result = Ok _} refl c.in_ok-exits.ensures)
    (λ symbols n. subst (StmtIn c.args.setting.now.scope.now symbols) (sym c.next-item.is) (n.0 i s lt))))

pub returns-then-not-so_far : goal.returns-then-not-so_far
returns-then-not-so_far g c =
    let ss = c.args.statements.now in let i = c.loop-next.next-index in let s = c.next-item.result in
    let lt : i < length ss = c.loop-next-test.true in
    goes_out (inside_of c.args.inside) ss c.loop-next.so_far c.in_ok-so_far.so_far i s lt c.next-item.is c.loop-next.invariant.goes
    (doing_walks (doing_at ss i s lt c.next-item.is c.requires) {result = Ok _} refl c.in_ok-exits.ensures)
    (λ symbols n. subst (StmtIn c.args.setting.now.scope.now symbols) (sym c.next-item.is) (n i s lt)) c.in_ok-so_far.ensures
    (not-true c.in_ok-so_far.so_far.reached c.if-not-so_far.true)

pub returns : goal.returns
returns g c =
    let ss = c.args.statements.now in let i = c.loop-next.next-index in
    goes_through (inside_of c.args.inside) ss c.loop-next.so_far i (drop_all i ss (omega arith)) c.loop-next.invariant.reached c.loop-next.invariant.goes
