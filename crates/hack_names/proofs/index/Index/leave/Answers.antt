use Rattle.std.proofs.Common.{◌≡◌, None, Some, List, ℕ, slice_get, refl, subst, sym, ◌∙◌, ap}
use Rattle.std.proofs.lemmas.Option.{slice_get-get_or}
use Rattle.hack_names.specs.Inside.{IsSet, key_of}
use Rattle.hack_names.proofs.Filed.{only_without, lacks_with, others_with, others_on}
use Rattle.hack_names.proofs.index.Index.leave.Goals as goal

pub loop-position-preserved : goal.loop-position-preserved
loop-position-preserved c =
    let old = c.loop-position.self.declared in
    let new = c.remove.new.self.declared in
    let file = c.args.file in
    let units = c.args.units.now in
    let i = c.loop-position.position in
    let head = c.index-units-position.result in
    let at : slice_get units i ≡ Some head = slice_get-get_or units i head c.loop-position-test.true ∙ sym (ap Some c.index-units-position.is) in
    let set : IsSet old (key_of file i head) None new = subst (λ (f : List ℕ). IsSet old (key_of f i head) None new) c.loop-position.invariant.same c.remove.ensures.removed in
    record {
      same = c.loop-position.invariant.same;
      lacks = lacks_with old new file units i _ head refl at set c.loop-position.invariant.lacks;
      only = only_without old new file units (key_of file i head) set c.loop-position.invariant.only;
      others = others_on file c.args.self.now.declared old new c.loop-position.invariant.others (others_with old new file (key_of file i head) None refl set);
      noted = c.remove.ensures.noted;
    }
