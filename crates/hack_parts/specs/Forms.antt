-- The parts of expressions that are no expressions themselves, as the judgement sees them, and what rows ask of the form of a part.
use Rattle.std.specs.Prelude.{◌≡◌}
use Rattle.hack_tree.specs.declared.expression.Entry.{Entry}
use Rattle.hack_tree.specs.declared.expression.Expr.TheFolds.{fold-ScopedMember, fold-Suffix, fold-Entry, fold-FieldValue, fold-Operand}
use Rattle.hack_tree.specs.declared.expression.FieldValue.{FieldValue}
use Rattle.hack_tree.specs.declared.expression.Operand.{Operand}
use Rattle.hack_tree.specs.declared.expression.ScopedMember.{ScopedMember}
use Rattle.hack_tree.specs.declared.expression.Suffix.{Suffix}
use Rattle.hack_rules.specs.Chains.{Joined}
use Rattle.hack_rules.specs.Expressions.{ScopedMeaning, SuffixMeaning, entry_by, expression_by, field_by, operand_by, scoped_by, suffix_by}
use Rattle.hack_rules.specs.Meanings.{Meaning}
use Rattle.hack_rules.specs.Values.{Given, Pair}
use Rattle.hack_parts.specs.declared.form.Form.{Form}

-- an entry of a dict
abbrev pub pair_of : Entry → Pair
pair_of = fold-Entry Meaning ScopedMeaning SuffixMeaning Pair Given Joined expression_by scoped_by suffix_by entry_by field_by operand_by

-- a field of a shape
abbrev pub given_of : FieldValue → Given
given_of = fold-FieldValue Meaning ScopedMeaning SuffixMeaning Pair Given Joined expression_by scoped_by suffix_by entry_by field_by operand_by

-- an operand of a chain
abbrev pub joined_of : Operand → Joined
joined_of = fold-Operand Meaning ScopedMeaning SuffixMeaning Pair Given Joined expression_by scoped_by suffix_by entry_by field_by operand_by

-- what stands behind `::`
abbrev pub member_of : ScopedMember → ScopedMeaning
member_of = fold-ScopedMember Meaning ScopedMeaning SuffixMeaning Pair Given Joined expression_by scoped_by suffix_by entry_by field_by operand_by

-- what stands behind an operand
abbrev pub suffix_of : Suffix → SuffixMeaning
suffix_of = fold-Suffix Meaning ScopedMeaning SuffixMeaning Pair Given Joined expression_by scoped_by suffix_by entry_by field_by operand_by

-- this is what rows ask of the form of an expression
pub record IsForm (form : Form) (meaning : Meaning) : Type 0 where
  pub subject : form.subject ≡ meaning.subject
  pub is_null : form.is_null ≡ meaning.is_null
  pub key : form.key ≡ meaning.key
