use Rattle.std.proofs.Common.{◌≡◌, ◌∙◌, ◌&&◌, false, List, All, sym, ap, subst}
use Rattle.std.specs.List.{list_all}
use Rattle.hack_decls.specs.AskLaws.{said, then}
use Rattle.hack_decls.specs.DeclState.{Map}
use Rattle.hack_decls.specs.Names.{TypeIn}
use Rattle.hack_infer.specs.Filling.{filled_limited, filling_of}
use Rattle.hack_rules.specs.WrittenTypes.{is_within}
use Rattle.hack_sub.specs.IsBelow.{is_below}
use Rattle.hack_sub.specs.Sub.{most_height}
use Rattle.hack_types.specs.declared.hack_type.HackType.{HackType}
use Rattle.hack_written.proofs.bounds.is_within.Goals as goal

pub returns-then-not-fits : goal.returns-then-not-fits
unfolding is_within
returns-then-not-fits g c =
    let put = filled_limited (filling_of c.args.filling.now) in let T = c.args.ty.now in let scope = c.args.scope.now in
    let param = c.args.param.now in
    let us : c.as_slice-upper.result.now ≡ param.upper = c.as_slice-upper.ensures in
    let below = λ (m : Map) (bounds : List HackType). list_all (λ bound. is_below m scope most_height T (put bound)) bounds in
    let above = λ (m : Map) (bounds : List HackType). list_all (λ bound. is_below m scope most_height (put bound) T) bounds in
    said false c.in_ok-fits.ensures
    (λ m e. ap (λ b. b && above m param.lower) (sym c.if-not-fits.true ∙ e ∙ ap (below m) us))
    (λ symbols n. record { around = n.around; given = n.bounds.given; put_in = subst (λ (bs : List HackType). All (λ bound. TypeIn symbols (put bound)) bs) (sym us) n.bounds.upper })
    (λ symbols n w. tt)

pub returns : goal.returns
unfolding is_within
returns g c =
    let put = filled_limited (filling_of c.args.filling.now) in let T = c.args.ty.now in let scope = c.args.scope.now in
    let param = c.args.param.now in
    let us : c.as_slice-upper.result.now ≡ param.upper = c.as_slice-upper.ensures in
    let ls : c.as_slice-lower.result.now ≡ param.lower = c.as_slice-lower.ensures in
    let below = λ (m : Map) (bounds : List HackType). list_all (λ bound. is_below m scope most_height T (put bound)) bounds in
    let above = λ (m : Map) (bounds : List HackType). list_all (λ bound. is_below m scope most_height (put bound) T) bounds in
    then c.is_above_all.result c.in_ok-fits.ensures c.is_above_all.ensures
    (λ m b e there. there ∙ ap (above m) ls ∙ ap (λ b. b && above m param.lower) (sym c.if-not-fits.false ∙ e ∙ ap (below m) us))
    (λ symbols n. record { around = n.around; given = n.bounds.given; put_in = subst (λ (bs : List HackType). All (λ bound. TypeIn symbols (put bound)) bs) (sym us) n.bounds.upper })
    (λ symbols n w. record { around = n.around; given = n.bounds.given; put_in = subst (λ (bs : List HackType). All (λ bound. TypeIn symbols (put bound)) bs) (sym ls) n.bounds.lower })
    (λ symbols b n w v. tt)
