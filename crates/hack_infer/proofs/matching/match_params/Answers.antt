use Rattle.std.proofs.Common.{◌∙◌, List, sym, ap, subst}
use Rattle.hack_decls.specs.AskLaws.{said}
use Rattle.hack_types.specs.declared.hack_type.HackType.{HackType}
use Rattle.hack_infer.proofs.TakenLaws.{in_lists, none_taken}
use Rattle.hack_infer.specs.Named.{ListsIn}
use Rattle.hack_infer.specs.inside.Calls.{TakenIn}
use Rattle.hack_infer.specs.Matching.{lists, match_pair, pairs}
use Rattle.hack_infer.specs.declared.taken.Taken.{Taken}
use Rattle.hack_infer.specs.declared.taken.Took.{Took}
use Rattle.hack_infer.proofs.matching.match_params.Goals as goal

pub returns : goal.returns
returns g c =
    let ws = c.args.wanted.now in let gs = c.args.given.now in let count = c.args.count in
    let t = c.match_all.new.taken in
    let is = c.in_ok-lists.ensures ∙ ap (λ (found : List Took). lists found count) c.as_slice.ensures in
    said c.in_ok-lists.field-0 c.in_ok-match_all.ensures
    (λ map e. is ∙ ap (λ (taken : Taken). lists taken.found count) (e ∙ ap (λ before. pairs (match_pair map) ws gs before) c.new-taken.ensures))
    (λ symbols n. (n, subst (λ taken. TakenIn symbols taken) (sym c.new-taken.ensures) (none_taken symbols)))
    (λ symbols n given. subst (λ (all : List (List HackType)). ListsIn symbols all) (sym is) (in_lists symbols t count given))
