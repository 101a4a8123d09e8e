-- What contracts see of a table.
use Rattle.std.specs.Prelude.{ℕ, List}
use Rattle.std.specs.List.{zip}
use Rattle.case_table.specs.Cases.{words}
use Rattle.case_table.specs.declared.cases.Cases.{Cases}

-- each key beside its value, in order
abbrev pub entries : {N : ℕ} → Cases N → List (List ℕ × ℕ)
entries table = zip (words table.keys.now) table.values
