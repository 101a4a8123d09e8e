use Rattle.std.proofs.Common.{◌∙◌, All, List, ap, subst, sym}
use Rattle.hack_types.specs.declared.hack_type.HackType.{HackType}
use Rattle.hack_decls.specs.AskLaws.{said}
use Rattle.hack_decls.specs.Names.{TypeIn}
use Rattle.hack_infer.specs.Named.{lists_of}
use Rattle.hack_infer.specs.Solving.{solve}
use Rattle.hack_calls.proofs.Naming.{in_solved}
use Rattle.hack_calls.proofs.matching.solved_in.Goals as goal

pub returns : goal.returns
returns g c =
    let lists = lists_of c.in_ok-lists.lists.items in
    let is = c.in_ok-solve.ensures ∙ ap (λ all. solve (lists_of all)) c.as_slice.ensures.value in
    said c.in_ok-solve.field-0 c.in_ok-lists.ensures (λ map e. is ∙ ap solve e) (λ symbols n. n)
    (λ symbols n g. subst (λ (types : List HackType). All (TypeIn symbols) types) (sym is) (in_solved symbols lists g))
