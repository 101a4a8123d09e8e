use Rattle.std.proofs.Common.{◌≡◌, ◌∙◌, sym, ap, subst}
use Rattle.hack_infer.specs.Filling.{filled_limited, filling_of}
use Rattle.hack_sub.specs.IsBelow.{is_below}
use Rattle.hack_sub.specs.Named.{PairIn}
use Rattle.hack_sub.specs.Sub.{most_height}
use Rattle.hack_written.proofs.Loops.{restated}
use Rattle.hack_written.proofs.bounds.is_above_one.Goals as goal

pub returns : goal.returns
returns g c =
    let is : c.in_ok-bound.bound ≡ filled_limited (filling_of c.args.filling.now) c.args.bound.now = c.in_ok-bound.ensures in
    restated c.is_below-fits.result c.is_below-fits.ensures
    (λ m b e. e ∙ ap (λ bound. is_below m c.args.scope.now most_height bound c.args.ty.now) is)
    (λ symbols n. subst (λ bound. PairIn symbols c.args.scope.now bound c.args.ty.now) (sym is) n) (λ symbols b n w. tt)
