use Rattle.std.proofs.Common.{◌-◌, arith}
use Rattle.hack_infer.proofs.Takes.{takes_as, takes_none}
use Rattle.hack_infer.proofs.Turns.{no_depth, one_deeper}
use Rattle.hack_infer.proofs.matching.+match_in.Goals as goal

pub returns-then-depth-eq0 : goal.returns-then-depth-eq0
returns-then-depth-eq0 g t c =
    takes_none _ c.args.taken.now _ (λ map. no_depth map c.args.wanted.now c.args.given.now c.args.taken.now c.args.depth (omega arith))

-- pairs inside are matched by the call of itself
pub by_wanted-requires : goal.by_wanted-requires
by_wanted-requires g t c = record {
  callable = λ alloc decls wanted given taken. (omega (arith, c.decreases), λ lifetime lives. lives);
  takes = λ alloc decls wanted given taken result after last post. post.1;
}

pub returns : goal.returns
returns g t c =
    takes_as _ c.by_wanted.result c.by_wanted.ensures
    (λ map. one_deeper map c.args.wanted.now c.args.given.now c.args.taken.now c.args.depth (c.args.depth - 1) (omega arith)) (λ symbols n. n)
