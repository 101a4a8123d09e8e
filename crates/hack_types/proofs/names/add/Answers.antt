use Rattle.std.proofs.Common.{◌≡◌, ◌++◌, ◌∷◌, [], arith, ap, sym, ◌∙◌, Some}
use Rattle.std.proofs.lemmas.Slice.Eq.{bytes_eq-Decides}
use Rattle.std.proofs.lemmas.Option.{slice_get_within}
use Rattle.hack_types.specs.NamesInside.{texts}
use Rattle.hack_types.proofs.NameLemmas.{texts-insert, texts-added, IsNames-push, length-texts}
use Rattle.hack_types.proofs.names.add.Goals as goal

pub new-requires : goal.new-requires
new-requires c =
    let last : texts c.insert_full.new.self.keys ≡ texts c.args.added.now.keys ++ c.args.text.now ∷ [] =
    texts-insert c.args.added.now.keys c.insert_full.new.self.keys c.in_ok-owned.owned c.args.text.now c.requires.absent c.in_ok-owned.ensures.items c.in_ok-index.ensures.keys in
    let names = IsNames-push c.args.added.now.keys c.insert_full.new.self.keys c.args.text.now c.requires.names c.requires.room c.requires.absent last in
    let stored = c.in_ok-index.ensures.stored in
    let inside = slice_get_within c.insert_full.new.self.keys c.in_ok-index.index stored.0 stored.1 in
    omega (arith, names.few, inside, length-texts c.insert_full.new.self.keys)

pub returns-clause-last : goal.returns-clause-last
returns-clause-last c =
    texts-insert c.args.added.now.keys c.insert_full.new.self.keys c.in_ok-owned.owned c.args.text.now c.requires.absent c.in_ok-owned.ensures.items c.in_ok-index.ensures.keys

pub returns-clause-id : goal.returns-clause-id
returns-clause-id c =
    let stored = c.in_ok-index.ensures.stored in
    let same = (bytes_eq-Decides c.in_ok-owned.owned.items stored.0.items).0 stored.2 in
    texts-added c.insert_full.new.self.keys c.new.result c.in_ok-index.index stored.0 c.new.ensures stored.1
    ∙ ap Some (sym same ∙ c.in_ok-owned.ensures.items)

pub returns-clause-names : goal.returns-clause-names
returns-clause-names c = IsNames-push c.args.added.now.keys c.insert_full.new.self.keys c.args.text.now c.requires.names c.requires.room c.requires.absent (returns-clause-last c)
