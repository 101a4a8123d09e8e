-- Tables of numbers by row and column.
use Rattle.std.specs.Prelude.{ℕ, List, [], slice_index, slice_index_or}
use Rattle.case_table.specs.declared.grid.Grid.{Grid}

-- what contracts see of a table
abbrev pub rows : {R C : ℕ} → Grid R C → List (List ℕ)
rows grid = grid.cells

-- the number in a row and column
abbrev pub cell : List (List ℕ) → ℕ → ℕ → ℕ
cell rows row column = slice_index (slice_index_or rows row []) column
