-- What indices, members, `++` and `--` behind an operand assign, by the root of what they stand behind.
use Rattle.std.specs.Prelude.{ℕ, List, [], ◌∷◌, ◌++◌}
use Rattle.hack_tree.specs.declared.expression.Entry.{Entry}
use Rattle.hack_tree.specs.declared.expression.Expr.{Expr}
use Rattle.hack_tree.specs.declared.expression.Expr.TheOpen.{Suffix-F}
use Rattle.hack_tree.specs.declared.expression.FieldValue.{FieldValue}
use Rattle.hack_tree.specs.declared.expression.Operand.{Operand}
use Rattle.hack_tree.specs.declared.expression.ScopedMember.{ScopedMember}
use Rattle.hack_tree.specs.declared.expression.Suffix.{Suffix, out-Suffix}
use Rattle.hack_assigned.specs.inside.Parts.{in_any, in_arguments}

-- only an index leaves the root
abbrev pub kept_by : List ℕ → Suffix-F Expr ScopedMember Suffix Entry FieldValue Operand → List ℕ
kept_by roots (Suffix-F.Index index) = roots
kept_by roots (Suffix-F.Member null_safe name arguments) = []
kept_by roots Suffix-F.Increment = []
kept_by roots Suffix-F.Decrement = []

-- the same
abbrev pub kept : List ℕ → Suffix → List ℕ
kept roots suffix = kept_by roots (out-Suffix suffix)

-- behind all of these
unfoldable pub kept_behind : List ℕ → List Suffix → List ℕ
kept_behind roots [] = roots
kept_behind roots (suffix ∷ suffixes) = kept_behind (kept roots suffix) suffixes

-- what is assigned in its parts, and the root where it is `++` or `--`
abbrev pub added_by : List ℕ → Suffix-F Expr ScopedMember Suffix Entry FieldValue Operand → List ℕ
added_by roots (Suffix-F.Index index) = in_any index
added_by roots (Suffix-F.Member null_safe name arguments) = in_arguments arguments
added_by roots Suffix-F.Increment = roots
added_by roots Suffix-F.Decrement = roots

-- the same
abbrev pub added : List ℕ → Suffix → List ℕ
added roots suffix = added_by roots (out-Suffix suffix)

-- these names, and behind them what all of these assign
unfoldable pub added_behind : List ℕ → List ℕ → List Suffix → List ℕ
added_behind names roots [] = names
added_behind names roots (suffix ∷ suffixes) = added_behind (names ++ added roots suffix) (kept roots suffix) suffixes
