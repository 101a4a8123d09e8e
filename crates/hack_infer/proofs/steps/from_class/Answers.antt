use Rattle.std.proofs.Common.{◌∙◌, Bool, cond, Some, sym, ap}
use Rattle.hack_decls.specs.DeclState.{Map}
use Rattle.hack_infer.proofs.Takes.{takes_as}
use Rattle.hack_infer.specs.Matching.{match_in, given_by}
use Rattle.hack_infer.specs.Seeing.{ancestor_given}
use Rattle.hack_infer.proofs.steps.from_class.Goals as goal

pub returns-then-eq : goal.returns-then-eq
returns-then-eq g c =
    let us = c.args.arguments.now in let G = c.args.types.now in let t = c.args.taken.now in let name = c.args.name in
    let r = λ (map : Map). match_in c.args.deeper.now.depth map in
    takes_as _ c.pairs.result c.pairs.ensures
    (λ map. ap (λ (b : Bool). given_by (r map) us (cond b (Some G) (ancestor_given map c.args.class G name)) t) (sym (sym c.eq.ensures ∙ c.if-eq.true)))
    (λ symbols n. n.pairs)

pub returns-else-eq : goal.returns-else-eq
returns-else-eq g c =
    let us = c.args.arguments.now in let G = c.args.types.now in let t = c.args.taken.now in let name = c.args.name in
    let r = λ (map : Map). match_in c.args.deeper.now.depth map in
    takes_as _ c.from_ancestor.result c.from_ancestor.ensures
    (λ map. ap (λ (b : Bool). given_by (r map) us (cond b (Some G) (ancestor_given map c.args.class G name)) t) (sym (sym c.eq.ensures ∙ c.if-eq.false)))
    (λ symbols n. n)
