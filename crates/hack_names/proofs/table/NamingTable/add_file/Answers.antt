use Rattle.std.proofs.Common.{◌≡◌, sym, subst, ◌∙◌}
use Rattle.std.specs.FinMap.{insert}
use Rattle.hack_names.specs.Declarations.{Table}
use Rattle.hack_names.specs.Inside.{IsTable, table_of}
use Rattle.hack_names.proofs.FilesMap.{is_table_put, table_insert, on_ok_from}
use Rattle.hack_names.proofs.table.NamingTable.add_file.Goals as goal

pub invariant_of-self-in-Ok : goal.invariant_of-self-in-Ok
invariant_of-self-in-Ok c =
    let old = c.self.inside in
    let table = table_of old.files.entries in
    let file = c.args.file.now in
    let units = c.args.units.now in
    let inserted = table_insert old.files c.insert.new.self c.in_ok-name.name.items c.in_ok-kept.kept c.in-Ok.ensures.updates in
    let same : table_of c.insert.new.self.entries ≡ insert table file units = inserted ∙ (λ i. insert table (c.in_ok-name.ensures.items i) (c.in_ok-kept.ensures.items i)) in
    subst (λ (t : Table). IsTable t c.enter.new.self) (sym same)
    (is_table_put old.index c.enter.new.self file c.enter.ensures.others table units c.self.invariant c.enter.ensures.only
    (on_ok_from c.enter.result _ c.enter.ensures.all (sym c.is_err.ensures.value ∙ c.if-is_err.false)) c.enter.ensures.noted)

pub returns-in-Ok-clause-added : goal.returns-in-Ok-clause-added
returns-in-Ok-clause-added c =
    let old = c.self.inside in
    let table = table_of old.files.entries in
    let file = c.args.file.now in
    let units = c.args.units.now in
    let inserted = table_insert old.files c.insert.new.self c.in_ok-name.name.items c.in_ok-kept.kept c.in-Ok.ensures.updates in
    inserted ∙ (λ i. insert (c.self.view_is i) (c.in_ok-name.ensures.items i) (c.in_ok-kept.ensures.items i))
