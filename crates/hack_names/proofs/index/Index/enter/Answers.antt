use Rattle.std.proofs.Common.{◌≡◌, Some, List, ℕ, slice_get, refl, subst, sym, ◌∙◌, ap}
use Rattle.std.proofs.lemmas.Option.{slice_get-get_or}
use Rattle.hack_names.specs.Inside.{IsSet, key_of}
use Rattle.hack_names.proofs.Filed.{only_with, first_with, others_with, others_on}
use Rattle.hack_names.proofs.index.Index.enter.Goals as goal

pub loop-position-preserved : goal.loop-position-preserved
loop-position-preserved c =
    let old = c.loop-position.self.declared in
    let new = c.add.new.self.declared in
    let file = c.args.file.now in
    let units = c.args.units.now in
    let i = c.loop-position.position in
    let head = c.index-units-position.result in
    let at : slice_get units i ≡ Some head = slice_get-get_or units i head c.loop-position-test.true ∙ sym (ap Some c.index-units-position.is) in
    let set : IsSet old (key_of file i head) (Some head) new = subst (λ (f : List ℕ). IsSet old (key_of f i head) (Some head) new) c.in_ok-file.ensures c.in_ok-add.ensures.added in
    record {
      first = first_with old new file units i _ head refl at set c.loop-position.invariant.first;
      only = only_with old new file units i head at set c.loop-position.invariant.only;
      others = others_on file c.args.self.now.declared old new c.loop-position.invariant.others (others_with old new file (key_of file i head) (Some head) refl set);
      noted = c.add.ensures.noted;
    }
