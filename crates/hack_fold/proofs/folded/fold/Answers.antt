use Rattle.std.proofs.Common.{sym, subst}
use Rattle.hack_decls.specs.declared.folded.Folded.TheVariants as folded
use Rattle.hack_fold.specs.Walked.{FoldsTo}
use Rattle.hack_fold.proofs.Folding.{class_answer}
use Rattle.hack_fold.proofs.folded.fold.Goals as goal

pub returns-in_ok-fold_class-in-ClassLike-clause-folds :
    goal.returns-in_ok-fold_class-in-ClassLike-clause-folds
returns-in_ok-fold_class-in-ClassLike-clause-folds g c =
    let declared = (g.D.Decls.state c.args.decls.now).map in
    let class = c.in_ok-fold_class-in-ClassLike.field-0 in
    subst (λ shallow. FoldsTo declared c.args.s shallow c.args.cyclic (folded.ClassLike class)) (sym c.in-ClassLike.is)
    (class_answer declared c.args.s c.in-ClassLike.sig c.args.cyclic class c.in_ok-fold_class-in-ClassLike.ensures.folds c.in_ok-fold_class-in-ClassLike.ensures.own_rise)
