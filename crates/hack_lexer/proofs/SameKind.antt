-- Kinds of one number are one kind.
use Rattle.std.proofs.Common.{◌≡◌, ℕ, ◌+◌, ◌<◌, eqb, true, refl, ap, ◌∙◌, rules, arith}
use Rattle.std.proofs.lemmas.Bool.Decides.{nat_tests}
use denote.Enum.Bare.{same_true}
use Rattle.hack_lexer.specs.declared.kind.TokenKind.{TokenKind}
use Rattle.hack_lexer.specs.declared.kind.TokenKind.TheVariants as kind
use Rattle.hack_lexer.specs.declared.kind.Mark.{Mark}
use Rattle.hack_lexer.specs.declared.kind.Mark.TheVariants as mark
use Rattle.hack_lexer.specs.declared.kind.Keyword.{Keyword}
use Rattle.hack_lexer.specs.contracts.kind.Mark as the_mark
use Rattle.hack_lexer.specs.contracts.kind.Keyword as the_keyword
use Rattle.hack_lexer.specs.Kinds.{number_of_mark, number_of_keyword, sort_of_kind}
use Rattle.hack_lexer.proofs.KindNumbers.{same_mark, same_keyword}

-- there are 55 marks
few_marks : (m : Mark) → number_of_mark m < 55
few_marks mark.OpenBrace = omega arith
few_marks m = omega arith

-- a test of equal numbers passes
equal_numbers : (n m : ℕ) → n ≡ m → eqb n m ≡ true
equal_numbers n m e = grind (arith, nat_tests)

-- marks of one number are one, and so are keywords
one_mark : (a b : Mark) → 7 + number_of_mark a ≡ 7 + number_of_mark b → a ≡ b
one_mark a b e = same_true the_mark.the_type (search rules) a b (same_mark a b ∙ equal_numbers (7 + number_of_mark a) (7 + number_of_mark b) e)

one_keyword : (a b : Keyword) → 62 + number_of_keyword a ≡ 62 + number_of_keyword b → a ≡ b
one_keyword a b e = same_true the_keyword.the_type (search rules) a b (same_keyword a b ∙ equal_numbers (62 + number_of_keyword a) (62 + number_of_keyword b) e)

-- kinds of one number are one
pub one_kind : (a b : TokenKind) → sort_of_kind a ≡ sort_of_kind b → a ≡ b
one_kind kind.Name kind.Name e = refl
one_kind kind.Variable kind.Variable e = refl
one_kind kind.This kind.This e = refl
one_kind kind.Int kind.Int e = refl
one_kind kind.Float kind.Float e = refl
one_kind kind.Text kind.Text e = refl
one_kind kind.KeyText kind.KeyText e = refl
one_kind (kind.Mark m) (kind.Mark n) e = ap (λ x. kind.Mark x) (one_mark m n e)
one_kind (kind.Keyword k) (kind.Keyword l) e = ap (λ x. kind.Keyword x) (one_keyword k l e)
one_kind (kind.Mark m) (kind.Keyword k) e = absurd (let few = few_marks m in omega arith)
one_kind (kind.Keyword k) (kind.Mark m) e = absurd (let few = few_marks m in omega arith)
one_kind a b e = absurd (omega arith)
