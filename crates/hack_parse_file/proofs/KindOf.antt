-- There is a kind for each sort of a token.
use Rattle.std.proofs.Common.{◌≡◌, ℕ, zero, suc, ◌+◌, ◌-◌, ◌<◌, ◌&&◌, ◌==◌, Bool, true, false, true≢false, List, [], ◌∷◌, length, map, get_or, refl, sym, ap, ◌∙◌, arith, inl, inr}
use Rattle.std.specs.List.{AllByRecursion}
use Rattle.std.proofs.lemmas.Bool.Decides.{eqb_tells, leb_tells}
use Rattle.std.proofs.lemmas.List.{get_or-map}
use Rattle.hack_lexer.specs.declared.token.Token.{Token}
use Rattle.hack_lexer.specs.declared.kind.TokenKind.{TokenKind}
use Rattle.hack_lexer.specs.declared.kind.TokenKind.TheVariants as kind
use Rattle.hack_lexer.specs.declared.kind.Mark.{Mark}
use Rattle.hack_lexer.specs.declared.kind.Mark.TheVariants as mark
use Rattle.hack_lexer.specs.declared.kind.Keyword.{Keyword}
use Rattle.hack_lexer.specs.declared.kind.Keyword.TheVariants as keyword
use Rattle.hack_lexer.specs.Kinds.{number_of_mark, number_of_keyword, sort_of_kind}
use Rattle.hack_lexer.proofs.Classes.{both}

-- the marks and the keywords by their numbers
all_marks : List Mark
all_marks =
    mark.OpenBrace ∷ mark.CloseBrace ∷ mark.OpenParen ∷ mark.CloseParen ∷ mark.OpenBracket ∷ mark.CloseBracket
    ∷ mark.Semicolon ∷ mark.Comma ∷ mark.Less ∷ mark.Greater ∷ mark.LessEqual ∷ mark.GreaterEqual ∷ mark.Spaceship
    ∷ mark.Equal ∷ mark.NotEqual ∷ mark.Identical ∷ mark.NotIdentical ∷ mark.Assign ∷ mark.Plus ∷ mark.Minus
    ∷ mark.Star ∷ mark.Slash ∷ mark.Percent ∷ mark.Power ∷ mark.Dot ∷ mark.Not ∷ mark.AndAnd ∷ mark.OrOr ∷ mark.And
    ∷ mark.Or ∷ mark.Xor ∷ mark.Tilde ∷ mark.Question ∷ mark.Coalesce ∷ mark.NullArrow ∷ mark.NullAs ∷ mark.Arrow
    ∷ mark.FatArrow ∷ mark.ColonColon ∷ mark.Colon ∷ mark.Increment ∷ mark.Decrement ∷ mark.PlusAssign
    ∷ mark.MinusAssign ∷ mark.StarAssign ∷ mark.SlashAssign ∷ mark.PercentAssign ∷ mark.DotAssign ∷ mark.AndAssign
    ∷ mark.OrAssign ∷ mark.XorAssign ∷ mark.PowerAssign ∷ mark.CoalesceAssign ∷ mark.Ellipsis ∷ mark.OpenAttributes ∷ []

all_keywords : List Keyword
all_keywords =
    keyword.Abstract ∷ keyword.Arraykey ∷ keyword.As ∷ keyword.Bool ∷ keyword.Break ∷ keyword.Case ∷ keyword.Catch
    ∷ keyword.Class ∷ keyword.Const ∷ keyword.Continue ∷ keyword.Default ∷ keyword.Dict ∷ keyword.Do ∷ keyword.Echo
    ∷ keyword.Else ∷ keyword.Enum ∷ keyword.Extends ∷ keyword.False ∷ keyword.Final ∷ keyword.Finally ∷ keyword.Float
    ∷ keyword.For ∷ keyword.Foreach ∷ keyword.Function ∷ keyword.If ∷ keyword.Implements ∷ keyword.Int
    ∷ keyword.Interface ∷ keyword.Is ∷ keyword.Keyset ∷ keyword.Mixed ∷ keyword.New ∷ keyword.Newtype
    ∷ keyword.Nonnull ∷ keyword.Noreturn ∷ keyword.Nothing ∷ keyword.Null ∷ keyword.Num ∷ keyword.Parent
    ∷ keyword.Private ∷ keyword.Protected ∷ keyword.Public ∷ keyword.Return ∷ keyword.Self_ ∷ keyword.Shape
    ∷ keyword.Static ∷ keyword.String ∷ keyword.Super ∷ keyword.Switch ∷ keyword.This ∷ keyword.Throw ∷ keyword.Trait
    ∷ keyword.True ∷ keyword.Try ∷ keyword.Type_ ∷ keyword.Use ∷ keyword.Vec ∷ keyword.Void ∷ keyword.While ∷ []

-- a test that these numbers go up one by one from this one
abbrev rise_from : ℕ → List ℕ → Bool
rise_from n [] = true
rise_from n (x ∷ xs) = (x == n) && rise_from (n + 1) xs

-- so the number at an index is known
risen : (n : ℕ) (xs : List ℕ) → rise_from n xs ≡ true → (index : ℕ) (d : ℕ) → index < length xs → get_or xs index d ≡ n + index
risen n [] e index d l = absurd (omega arith)
risen n (x ∷ xs) e zero d l = elim (eqb_tells x n) [ inl h ↦ omega (arith, h.1) | inr h ↦ absurd (true≢false (sym (both (x == n) _ e).0 ∙ h.0)) ]
risen n (x ∷ xs) e (suc index) d l = omega (arith, risen (n + 1) xs (both (x == n) _ e).1 index d (omega arith))

marks_rise : rise_from 0 (map number_of_mark all_marks) ≡ true
unfolding all_marks
marks_rise = refl

count_marks : length all_marks ≡ 55
unfolding all_marks
count_marks = refl

count_mark_numbers : length (map number_of_mark all_marks) ≡ 55
unfolding all_marks
count_mark_numbers = refl

keywords_rise : rise_from 0 (map number_of_keyword all_keywords) ≡ true
unfolding all_keywords
keywords_rise = refl

count_keywords : length all_keywords ≡ 59
unfolding all_keywords
count_keywords = refl

count_keyword_numbers : length (map number_of_keyword all_keywords) ≡ 59
unfolding all_keywords
count_keyword_numbers = refl

-- the mark and the keyword of a number
mark_of : (n : ℕ) → n < 55 → (m : Mark) × (number_of_mark m ≡ n)
mark_of n l = (
  get_or all_marks n mark.OpenBrace,
  sym (get_or-map number_of_mark all_marks n mark.OpenBrace 0 (omega (arith, count_marks)))
      ∙ risen 0 (map number_of_mark all_marks) marks_rise n 0 (omega (arith, count_mark_numbers)) ∙ omega arith,
)

keyword_of : (n : ℕ) → n < 59 → (k : Keyword) × (number_of_keyword k ≡ n)
keyword_of n l = (
  get_or all_keywords n keyword.Abstract,
  sym (get_or-map number_of_keyword all_keywords n keyword.Abstract 0 (omega (arith, count_keywords)))
      ∙ risen 0 (map number_of_keyword all_keywords) keywords_rise n 0 (omega (arith, count_keyword_numbers)) ∙ omega arith,
)

-- the kinds that are no mark and no keyword
plain_of : (s : ℕ) → s < 7 → (k : TokenKind) × (sort_of_kind k ≡ s)
plain_of zero l = (kind.Name, refl)
plain_of (suc zero) l = (kind.Variable, refl)
plain_of (suc (suc zero)) l = (kind.This, refl)
plain_of (suc (suc (suc zero))) l = (kind.Int, refl)
plain_of (suc (suc (suc (suc zero)))) l = (kind.Float, refl)
plain_of (suc (suc (suc (suc (suc zero))))) l = (kind.Text, refl)
plain_of (suc (suc (suc (suc (suc (suc zero)))))) l = (kind.KeyText, refl)
plain_of (suc (suc (suc (suc (suc (suc (suc s))))))) l = absurd (omega arith)

-- the kind of a sort
pub kind_of : (s : ℕ) → s < 121 → (k : TokenKind) × (sort_of_kind k ≡ s)
kind_of s l = elim (leb_tells 62 s) [
  | inl keyword ↦ (let k = keyword_of (s - 62) (omega (arith, keyword.1)) in (kind.Keyword k.0, omega (arith, k.1, keyword.1)))
  | inr below ↦ elim (leb_tells 7 s) [
    | inl mark ↦ (let m = mark_of (s - 7) (omega (arith, below.1, mark.1)) in (kind.Mark m.0, omega (arith, m.1, mark.1)))
    | inr plain ↦ plain_of s plain.1
  ]
]

-- the sort of each of these tokens is one of a kind
pub sort_below : (tokens : List Token) → AllByRecursion (λ t. t.sort < 121) tokens → (index : ℕ) (d : Token) → index < length tokens → (get_or tokens index d).sort < 121
sort_below [] h index d l = absurd (omega arith)
sort_below (t ∷ tokens) h zero d l = h.0
sort_below (t ∷ tokens) h (suc index) d l = sort_below tokens h.1 index d (omega arith)
