use Rattle.std.proofs.Common.{arith, sym}
use Rattle.hack_types.proofs.NameLemmas.{texts-fixed, texts-absent, added_at, length-texts}
use Rattle.hack_types.proofs.names.find.Goals as goal

pub new-requires-in-Some-get_index_of : goal.new-requires-in-Some-get_index_of
new-requires-in-Some-get_index_of c =
    let at = added_at c.args.added.now.keys c.args.text.now c.in-Some-get_index_of.index (sym c.in-Some-get_index_of.ensures.index) in
    omega (arith, at.0, length-texts c.args.added.now.keys, c.requires.few)

pub returns-in-Some-clause-found : goal.returns-in-Some-clause-found
returns-in-Some-clause-found c = rw c.new.ensures (texts-fixed c.args.added.now.keys c.in-Some.index c.args.text.now c.in-Some.ensures.found.1)

pub returns-in-Some-get_index_of-clause-found : goal.returns-in-Some-get_index_of-clause-found
returns-in-Some-get_index_of-clause-found c =
    (added_at c.args.added.now.keys c.args.text.now c.in-Some-get_index_of.index (sym c.in-Some-get_index_of.ensures.index)).1 _ c.new-in-Some-get_index_of.ensures

pub returns-in-None-get_index_of-clause-none : goal.returns-in-None-get_index_of-clause-none
returns-in-None-get_index_of-clause-none c = texts-absent c.args.added.now.keys c.args.text.now c.in-None.ensures.none (sym c.in-None-get_index_of.ensures.found)
