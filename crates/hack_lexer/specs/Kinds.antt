-- What the sort of a token means: which number stands for which kind (docs/language.md, Tokens).
use Rattle.std.specs.Prelude.{◌+◌, ℕ}
use Rattle.hack_lexer.specs.declared.kind.TokenKind.{TokenKind}
use Rattle.hack_lexer.specs.declared.kind.TokenKind.TheVariants as kind
use Rattle.hack_lexer.specs.declared.kind.Mark.{Mark}
use Rattle.hack_lexer.specs.declared.kind.Mark.TheVariants as mark
use Rattle.hack_lexer.specs.declared.kind.Keyword.{Keyword}
use Rattle.hack_lexer.specs.declared.kind.Keyword.TheVariants as keyword

-- the marks in the order of the page
abbrev pub number_of_mark : Mark → ℕ
number_of_mark mark.OpenBrace = 0
number_of_mark mark.CloseBrace = 1
number_of_mark mark.OpenParen = 2
number_of_mark mark.CloseParen = 3
number_of_mark mark.OpenBracket = 4
number_of_mark mark.CloseBracket = 5
number_of_mark mark.Semicolon = 6
number_of_mark mark.Comma = 7
number_of_mark mark.Less = 8
number_of_mark mark.Greater = 9
number_of_mark mark.LessEqual = 10
number_of_mark mark.GreaterEqual = 11
number_of_mark mark.Spaceship = 12
number_of_mark mark.Equal = 13
number_of_mark mark.NotEqual = 14
number_of_mark mark.Identical = 15
number_of_mark mark.NotIdentical = 16
number_of_mark mark.Assign = 17
number_of_mark mark.Plus = 18
number_of_mark mark.Minus = 19
number_of_mark mark.Star = 20
number_of_mark mark.Slash = 21
number_of_mark mark.Percent = 22
number_of_mark mark.Power = 23
number_of_mark mark.Dot = 24
number_of_mark mark.Not = 25
number_of_mark mark.AndAnd = 26
number_of_mark mark.OrOr = 27
number_of_mark mark.And = 28
number_of_mark mark.Or = 29
number_of_mark mark.Xor = 30
number_of_mark mark.Tilde = 31
number_of_mark mark.Question = 32
number_of_mark mark.Coalesce = 33
number_of_mark mark.NullArrow = 34
number_of_mark mark.NullAs = 35
number_of_mark mark.Arrow = 36
number_of_mark mark.FatArrow = 37
number_of_mark mark.ColonColon = 38
number_of_mark mark.Colon = 39
number_of_mark mark.Increment = 40
number_of_mark mark.Decrement = 41
number_of_mark mark.PlusAssign = 42
number_of_mark mark.MinusAssign = 43
number_of_mark mark.StarAssign = 44
number_of_mark mark.SlashAssign = 45
number_of_mark mark.PercentAssign = 46
number_of_mark mark.DotAssign = 47
number_of_mark mark.AndAssign = 48
number_of_mark mark.OrAssign = 49
number_of_mark mark.XorAssign = 50
number_of_mark mark.PowerAssign = 51
number_of_mark mark.CoalesceAssign = 52
number_of_mark mark.Ellipsis = 53
number_of_mark mark.OpenAttributes = 54

-- the keywords in the order of the page
abbrev pub number_of_keyword : Keyword → ℕ
number_of_keyword keyword.Abstract = 0
number_of_keyword keyword.Arraykey = 1
number_of_keyword keyword.As = 2
number_of_keyword keyword.Bool = 3
number_of_keyword keyword.Break = 4
number_of_keyword keyword.Case = 5
number_of_keyword keyword.Catch = 6
number_of_keyword keyword.Class = 7
number_of_keyword keyword.Const = 8
number_of_keyword keyword.Continue = 9
number_of_keyword keyword.Default = 10
number_of_keyword keyword.Dict = 11
number_of_keyword keyword.Do = 12
number_of_keyword keyword.Echo = 13
number_of_keyword keyword.Else = 14
number_of_keyword keyword.Enum = 15
number_of_keyword keyword.Extends = 16
number_of_keyword keyword.False = 17
number_of_keyword keyword.Final = 18
number_of_keyword keyword.Finally = 19
number_of_keyword keyword.Float = 20
number_of_keyword keyword.For = 21
number_of_keyword keyword.Foreach = 22
number_of_keyword keyword.Function = 23
number_of_keyword keyword.If = 24
number_of_keyword keyword.Implements = 25
number_of_keyword keyword.Int = 26
number_of_keyword keyword.Interface = 27
number_of_keyword keyword.Is = 28
number_of_keyword keyword.Keyset = 29
number_of_keyword keyword.Mixed = 30
number_of_keyword keyword.New = 31
number_of_keyword keyword.Newtype = 32
number_of_keyword keyword.Nonnull = 33
number_of_keyword keyword.Noreturn = 34
number_of_keyword keyword.Nothing = 35
number_of_keyword keyword.Null = 36
number_of_keyword keyword.Num = 37
number_of_keyword keyword.Parent = 38
number_of_keyword keyword.Private = 39
number_of_keyword keyword.Protected = 40
number_of_keyword keyword.Public = 41
number_of_keyword keyword.Return = 42
number_of_keyword keyword.Self_ = 43
number_of_keyword keyword.Shape = 44
number_of_keyword keyword.Static = 45
number_of_keyword keyword.String = 46
number_of_keyword keyword.Super = 47
number_of_keyword keyword.Switch = 48
number_of_keyword keyword.This = 49
number_of_keyword keyword.Throw = 50
number_of_keyword keyword.Trait = 51
number_of_keyword keyword.True = 52
number_of_keyword keyword.Try = 53
number_of_keyword keyword.Type_ = 54
number_of_keyword keyword.Use = 55
number_of_keyword keyword.Vec = 56
number_of_keyword keyword.Void = 57
number_of_keyword keyword.While = 58

-- the number that stands for a kind in a token
abbrev pub sort_of_kind : TokenKind → ℕ
sort_of_kind kind.Name = 0
sort_of_kind kind.Variable = 1
sort_of_kind kind.This = 2
sort_of_kind kind.Int = 3
sort_of_kind kind.Float = 4
sort_of_kind kind.Text = 5
sort_of_kind kind.KeyText = 6
sort_of_kind (kind.Mark m) = 7 + number_of_mark m
sort_of_kind (kind.Keyword k) = 62 + number_of_keyword k
