use Rattle.std.proofs.Common.{arith}
use Rattle.hack_decls.specs.DeclState.{Map}
use Rattle.hack_infer.proofs.ExpandLaws.{no_more, one_more}
use Rattle.hack_infer.proofs.Takes.{takes_from, takes_none}
use Rattle.hack_infer.specs.Matching.{match_in}
use Rattle.hack_infer.proofs.steps.expanding.Goals as goal

pub returns-then-taken-eq0 : goal.returns-then-taken-eq0
returns-then-taken-eq0 g c =
    let W = c.args.wanted.now in let G = c.args.given.now in let t = c.args.taken.now in
    let r = λ (map : Map). match_in c.args.deeper.now.depth map in
    takes_none _ t _ (λ map. no_more (r map) W G t (omega arith))

pub returns : goal.returns
returns g c =
    let W = c.args.wanted.now in let G = c.args.given.now in let t = c.args.taken.now in
    let r = λ (map : Map). match_in c.args.deeper.now.depth map in
    takes_from _ c.matched.result c.matched.ensures (λ map. one_more (r map) W G t (λ none. omega (arith, none, c.if-taken-eq0.false))) (λ symbols n. n) (λ symbols was. record { found = was.found })
