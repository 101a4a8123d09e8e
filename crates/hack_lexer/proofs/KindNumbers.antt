-- Equal numbers are equal marks, and equal keywords.
use Rattle.std.proofs.Common.{◌≡◌, ℕ, ◌+◌, eqb, refl, ◌∙◌, arith}
use Rattle.std.proofs.lemmas.Bool.Decides.{nat_tests}
use denote.Enum.Bare.{sameb}
use denote.Enum.Declared.{tag_of}
use Rattle.hack_lexer.specs.declared.kind.Mark.{Mark}
use Rattle.hack_lexer.specs.declared.kind.Mark.TheVariants as marks
use Rattle.hack_lexer.specs.declared.kind.Keyword.{Keyword}
use Rattle.hack_lexer.specs.declared.kind.Keyword.TheVariants as keywords
use Rattle.hack_lexer.specs.contracts.kind.Mark as the_mark
use Rattle.hack_lexer.specs.contracts.kind.Keyword as the_keyword
use Rattle.hack_lexer.specs.Kinds.{number_of_mark, number_of_keyword}

-- a mark's number is its place among the marks
mark_number : (m : Mark) → tag_of the_mark.the_type m ≡ number_of_mark m
mark_number marks.OpenBrace = refl
mark_number marks.CloseBrace = refl
mark_number marks.OpenParen = refl
mark_number marks.CloseParen = refl
mark_number marks.OpenBracket = refl
mark_number marks.CloseBracket = refl
mark_number marks.Semicolon = refl
mark_number marks.Comma = refl
mark_number marks.Less = refl
mark_number marks.Greater = refl
mark_number marks.LessEqual = refl
mark_number marks.GreaterEqual = refl
mark_number marks.Spaceship = refl
mark_number marks.Equal = refl
mark_number marks.NotEqual = refl
mark_number marks.Identical = refl
mark_number marks.NotIdentical = refl
mark_number marks.Assign = refl
mark_number marks.Plus = refl
mark_number marks.Minus = refl
mark_number marks.Star = refl
mark_number marks.Slash = refl
mark_number marks.Percent = refl
mark_number marks.Power = refl
mark_number marks.Dot = refl
mark_number marks.Not = refl
mark_number marks.AndAnd = refl
mark_number marks.OrOr = refl
mark_number marks.And = refl
mark_number marks.Or = refl
mark_number marks.Xor = refl
mark_number marks.Tilde = refl
mark_number marks.Question = refl
mark_number marks.Coalesce = refl
mark_number marks.NullArrow = refl
mark_number marks.NullAs = refl
mark_number marks.Arrow = refl
mark_number marks.FatArrow = refl
mark_number marks.ColonColon = refl
mark_number marks.Colon = refl
mark_number marks.Increment = refl
mark_number marks.Decrement = refl
mark_number marks.PlusAssign = refl
mark_number marks.MinusAssign = refl
mark_number marks.StarAssign = refl
mark_number marks.SlashAssign = refl
mark_number marks.PercentAssign = refl
mark_number marks.DotAssign = refl
mark_number marks.AndAssign = refl
mark_number marks.OrAssign = refl
mark_number marks.XorAssign = refl
mark_number marks.PowerAssign = refl
mark_number marks.CoalesceAssign = refl
mark_number marks.Ellipsis = refl
mark_number marks.OpenAttributes = refl

-- and a keyword's its place among the keywords
keyword_number : (k : Keyword) → tag_of the_keyword.the_type k ≡ number_of_keyword k
keyword_number keywords.Abstract = refl
keyword_number keywords.Arraykey = refl
keyword_number keywords.As = refl
keyword_number keywords.Bool = refl
keyword_number keywords.Break = refl
keyword_number keywords.Case = refl
keyword_number keywords.Catch = refl
keyword_number keywords.Class = refl
keyword_number keywords.Const = refl
keyword_number keywords.Continue = refl
keyword_number keywords.Default = refl
keyword_number keywords.Dict = refl
keyword_number keywords.Do = refl
keyword_number keywords.Echo = refl
keyword_number keywords.Else = refl
keyword_number keywords.Enum = refl
keyword_number keywords.Extends = refl
keyword_number keywords.False = refl
keyword_number keywords.Final = refl
keyword_number keywords.Finally = refl
keyword_number keywords.Float = refl
keyword_number keywords.For = refl
keyword_number keywords.Foreach = refl
keyword_number keywords.Function = refl
keyword_number keywords.If = refl
keyword_number keywords.Implements = refl
keyword_number keywords.Int = refl
keyword_number keywords.Interface = refl
keyword_number keywords.Is = refl
keyword_number keywords.Keyset = refl
keyword_number keywords.Mixed = refl
keyword_number keywords.New = refl
keyword_number keywords.Newtype = refl
keyword_number keywords.Nonnull = refl
keyword_number keywords.Noreturn = refl
keyword_number keywords.Nothing = refl
keyword_number keywords.Null = refl
keyword_number keywords.Num = refl
keyword_number keywords.Parent = refl
keyword_number keywords.Private = refl
keyword_number keywords.Protected = refl
keyword_number keywords.Public = refl
keyword_number keywords.Return = refl
keyword_number keywords.Self_ = refl
keyword_number keywords.Shape = refl
keyword_number keywords.Static = refl
keyword_number keywords.String = refl
keyword_number keywords.Super = refl
keyword_number keywords.Switch = refl
keyword_number keywords.This = refl
keyword_number keywords.Throw = refl
keyword_number keywords.Trait = refl
keyword_number keywords.True = refl
keyword_number keywords.Try = refl
keyword_number keywords.Type_ = refl
keyword_number keywords.Use = refl
keyword_number keywords.Vec = refl
keyword_number keywords.Void = refl
keyword_number keywords.While = refl

shifted : (n a b : ℕ) → eqb a b ≡ eqb (n + a) (n + b)
shifted n a b = grind (arith, nat_tests)

pub same_mark : (a b : Mark) → sameb the_mark.the_type a b ≡ eqb (7 + number_of_mark a) (7 + number_of_mark b)
same_mark a b = (λ i. eqb (mark_number a i) (mark_number b i)) ∙ shifted 7 (number_of_mark a) (number_of_mark b)

pub same_keyword : (a b : Keyword) → sameb the_keyword.the_type a b ≡ eqb (62 + number_of_keyword a) (62 + number_of_keyword b)
same_keyword a b = (λ i. eqb (keyword_number a i) (keyword_number b i)) ∙ shifted 62 (number_of_keyword a) (number_of_keyword b)
