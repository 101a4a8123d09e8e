use Rattle.std.proofs.Common.{Err, sym, ap, subst, ◌∙◌}
use Rattle.std.proofs.lemmas.Result.{err_from_is_err_and}
use Rattle.hack_decls.specs.AskLaws.{kept_failed, kept_said}
use Rattle.hack_decls.specs.Looks.{Keeps}
use Rattle.hack_fold.specs.declared.inherit.Inherited.{Inherited}
use Rattle.hack_fold.proofs.inherit.inherit.Goals as goal

pub returns-in_err-take_parents-clause-keeps : goal.returns-in_err-take_parents-clause-keeps
returns-in_err-take_parents-clause-keeps g c =
    let refused = err_from_is_err_and c.from_residual-in_err-take_parents.result c.from_residual-in_err-take_parents.ensures.1 in
    subst (λ result. Keeps {A = Inherited} (g.D.Decls.state c.args.decls.now) result (g.D.Decls.state c.take_parents.new.decls)) (sym (refused.1 ∙ ap Err refused.2))
    (kept_failed c.in_err-take_parents.ensures.keeps)

pub returns-clause-keeps : goal.returns-clause-keeps
returns-clause-keeps g c = kept_said c.take_parents.new.self c.in_ok-take_parents.ensures.keeps
