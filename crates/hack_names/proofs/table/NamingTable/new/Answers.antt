use Rattle.hack_names.proofs.FilesMap.{is_table_none, table_none}
use Rattle.hack_names.proofs.table.NamingTable.new.Goals as goal

pub invariant_of-result : goal.invariant_of-result
invariant_of-result c = is_table_none c.new.result c.new-2.result c.new.ensures.empty c.new-2.ensures.empty c.new-2.ensures.noted

pub returns : goal.returns
returns c = table_none c.new.result c.new.ensures.empty
