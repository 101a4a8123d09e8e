-- What the code makes of the folded declarations of the parents is what the walk over all paths says.
use Rattle.std.proofs.Common.{◌≡◌, Bool, Some, sym, ap, subst, ◌∙◌}
use Rattle.hack_types.specs.MembersRise.{MembersRise}
use Rattle.hack_types.specs.declared.ids.SymbolId.{SymbolId}
use Rattle.hack_types.specs.declared.shallow.ClassSig.{ClassSig}
use Rattle.hack_types.specs.declared.shallow.Shallow.{Shallow}
use Rattle.hack_types.specs.declared.shallow.Shallow.TheVariants as shallow
use Rattle.hack_decls.specs.DeclState.{Map}
use Rattle.hack_decls.specs.declared.folded.ClassFolded.{ClassFolded}
use Rattle.hack_decls.specs.declared.folded.Folded.{Folded}
use Rattle.hack_decls.specs.declared.folded.Folded.TheVariants as folded
use Rattle.hack_decls.specs.Names.{class_symbol}
use Rattle.hack_fold.specs.Parents.{parents}
use Rattle.hack_fold.specs.Line.{is_cyclic}
use Rattle.hack_fold.specs.Walked.{FoldsTo, IsFolded}
use Rattle.hack_fold.specs.inside.FromParents.{from_parents}
use Rattle.hack_fold.proofs.FoldLaw.{all_enough, class_folds}

pub class_answer : (declared : Map) (s : SymbolId) (sig : ClassSig) (cyclic : Bool) (class : ClassFolded) → class ≡ from_parents declared s.name cyclic sig → MembersRise sig.members
    → FoldsTo declared s (shallow.ClassLike sig) cyclic (folded.ClassLike class)
class_answer declared s sig cyclic class is rise = λ shallows here kind same above.
    let at : shallows (class_symbol s.name) ≡ Some (shallow.ClassLike sig) = ap shallows (sym kind) ∙ here in
    let walked = class_folds shallows declared s.name sig at rise (λ acyclic. all_enough shallows declared (parents sig) (above (same ∙ ap (is_cyclic shallows) kind ∙ acyclic))) in
    let answer : from_parents declared s.name (is_cyclic shallows (class_symbol s.name)) sig ≡ class = ap (λ b. from_parents declared s.name b sig) (ap (is_cyclic shallows) (sym kind) ∙ sym same) ∙ sym is in
    subst (λ t. IsFolded shallows t (Some (folded.ClassLike class))) (sym kind) (subst (λ c. IsFolded shallows (class_symbol s.name) (Some (folded.ClassLike c))) answer walked)
