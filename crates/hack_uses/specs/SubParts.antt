-- The expressions that stand in a suffix, and in a member behind `::`.
use Rattle.std.specs.Prelude.{All, IfSome}
use Rattle.hack_tree.specs.declared.expression.Entry.{Entry}
use Rattle.hack_tree.specs.declared.expression.Expr.{Expr}
use Rattle.hack_tree.specs.declared.expression.Expr.TheOpen.{ScopedMember-F, Suffix-F}
use Rattle.hack_tree.specs.declared.expression.FieldValue.{FieldValue}
use Rattle.hack_tree.specs.declared.expression.Operand.{Operand}
use Rattle.hack_tree.specs.declared.expression.ScopedMember.{ScopedMember, out-ScopedMember}
use Rattle.hack_tree.specs.declared.expression.Suffix.{Suffix, out-Suffix}

-- the index, and each argument
abbrev pub all_in_suffix_by : (Expr → Type 0) → Suffix-F Expr ScopedMember Suffix Entry FieldValue Operand → Type 0
all_in_suffix_by P (Suffix-F.Index index) = IfSome index P
all_in_suffix_by P (Suffix-F.Member null_safe name arguments) = IfSome arguments (All P)
all_in_suffix_by P _ = Unit {0}

-- this holds of each expression that stands in a suffix
abbrev pub AllInSuffix : (Expr → Type 0) → Suffix → Type 0
AllInSuffix P suffix = all_in_suffix_by P (out-Suffix suffix)

-- each argument
abbrev pub all_in_member_by : (Expr → Type 0) → ScopedMember-F Expr ScopedMember Suffix Entry FieldValue Operand → Type 0
all_in_member_by P (ScopedMember-F.Word name arguments) = IfSome arguments (All P)
all_in_member_by P _ = Unit {0}

-- this holds of each expression that stands in a member behind `::`
abbrev pub AllInMember : (Expr → Type 0) → ScopedMember → Type 0
AllInMember P member = all_in_member_by P (out-ScopedMember member)
