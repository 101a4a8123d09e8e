use Rattle.std.proofs.Common.{◌≡◌, List, ℕ, Some, sym, ap, subst, ◌∙◌}
use Rattle.std.specs.FinMap as finite
use Rattle.std.specs.Option.{option_map}
use Rattle.hack_names.specs.Inside.{HasOnly, HasNothing, KeepsOtherFiles, IsTable, table_of}
use Rattle.hack_names.specs.Declarations.{Table}
use Rattle.hack_names.proofs.FilesMap.{is_table_gone, table_remove, get_table, names_same}
use Rattle.hack_names.proofs.table.NamingTable.remove_file.Goals as goal

pub leave-requires-clause-only : goal.leave-requires-clause-only
leave-requires-clause-only c =
    let old = c.self.inside in
    let file = c.args.file.now in
    let same : file ≡ c.from_vec.result = names_same file c.in-Some.name.items c.in-Some.ensures.same_key ∙ sym c.from_vec.ensures in
    let there : finite.get (table_of old.files.entries) file ≡ Some c.deref.result.now =
    get_table old.files.entries file ∙ ap (option_map (λ v. v.items)) (sym c.in-Some.ensures.value) ∙ ap Some (sym c.deref.ensures.value) in
    subst (λ (f : List ℕ). HasOnly old.index.declared f c.deref.result.now) same (c.self.invariant.only file c.deref.result.now there)

pub invariant_of-self : goal.invariant_of-self
invariant_of-self c =
    let old = c.self.inside in
    let file = c.args.file.now in
    let same : c.from_vec.result ≡ file = c.from_vec.ensures ∙ sym (names_same file c.in-Some.name.items c.in-Some.ensures.same_key) in
    subst (λ (t : Table). IsTable t c.leave.new.self) (sym (table_remove old.files c.remove_entry.new.self file c.remove_entry.ensures.updates))
    (is_table_gone old.index c.leave.new.self file (subst (λ (f : List ℕ). KeepsOtherFiles f old.index.declared c.leave.new.self.declared) same c.leave.ensures.others) (table_of old.files.entries) c.self.invariant
    (subst (HasNothing c.leave.new.self.declared) same c.leave.ensures.nothing) c.leave.ensures.noted)

pub returns-in-Some : goal.returns-in-Some
returns-in-Some c =
    table_remove c.self.inside.files c.remove_entry.new.self c.args.file.now c.remove_entry.ensures.updates ∙ (λ i. finite.remove (c.self.view_is i) c.args.file.now)

pub returns-in_default : goal.returns-in_default
returns-in_default c =
    table_remove c.self.inside.files c.remove_entry.new.self c.args.file.now c.remove_entry.ensures.updates ∙ (λ i. finite.remove (c.self.view_is i) c.args.file.now)
