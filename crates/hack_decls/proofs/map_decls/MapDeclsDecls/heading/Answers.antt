use Rattle.std.proofs.Common.{refl}
use Rattle.std.proofs.lemmas.Result.{err_from_is_err_and}
use Rattle.hack_decls.specs.AskLaws.{look_without_memory}
use Rattle.hack_decls.specs.PlainMap.{map_state}
use Rattle.hack_decls.specs.Picks.{heading_answer}
use Rattle.hack_decls.proofs.PlainLemmas.{answered}
use Rattle.hack_decls.proofs.map_decls.MapDeclsDecls.heading.Goals as goal

pub returns-in_err-pick_heading-in-Some : goal.returns-in_err-pick_heading-in-Some
returns-in_err-pick_heading-in-Some c =
    let e = err_from_is_err_and c.from_residual-in_err-pick_heading-in-Some.result c.from_residual-in_err-pick_heading-in-Some.ensures.1 in
    rw (e.1, e.2) (look_without_memory c.in_ok-note.ensures)

pub returns-in_ok-pick_heading-in-Some : goal.returns-in_ok-pick_heading-in-Some
returns-in_ok-pick_heading-in-Some c =
    answered (heading_answer) (map_state c.args.self.now) (map_state c.note.new.self) c.args.s _ _ c.in_ok-note.ensures c.in-Some.ensures.value c.in_ok-pick_heading-in-Some.ensures

pub returns-in-None : goal.returns-in-None
returns-in-None c =
    answered (heading_answer) (map_state c.args.self.now) (map_state c.note.new.self) c.args.s _ _ c.in_ok-note.ensures c.in-None.ensures.value refl
