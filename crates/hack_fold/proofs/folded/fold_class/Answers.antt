use Rattle.hack_fold.proofs.InheritLemmas.{class_made}
use Rattle.hack_fold.proofs.folded.fold_class.Goals as goal

pub returns-clause-folds : goal.returns-clause-folds
returns-clause-folds g c =
    let all = c.in_ok-ancestors.field-0 in
    class_made (g.D.Decls.state c.args.decls.now).map c.args.name c.args.cyclic c.args.sig.now all.partial c.in_ok-type_params.type_params
    c.into_items.result all.ancestors.list.items c.from_vec.result all.members.items c.in_ok-type_params.ensures c.into_items.ensures c.from_vec.ensures c.in_ok-ancestors.ensures.inherits
