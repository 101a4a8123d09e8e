-- There is room for the names of a text where it is short, and for each of its names where there is for all.
use Rattle.std.proofs.Common.{◌≡◌, ◌⊎◌, inl, inr, ℕ, ◌+◌, ◌-◌, ◌*◌, ◌^◌, ◌<◌, ◌≤◌, Bool, true, false, List, [], ◌∷◌, ◌++◌, length, get_or, Option, refl, ap, subst, arith, if◌then◌else◌, length-append}
use Rattle.std.specs.Prelude.{Contains}
use Rattle.std.specs.List.{AllByRecursion, list_any}
use Rattle.std.specs.Str.{bytes_eq}
use Rattle.std.proofs.lemmas.Map.Views.{Contains-from_any}
use Rattle.std.proofs.lemmas.Slice.Eq.{bytes_eq-Decides}
use Rattle.hack_types.specs.Names.{with_name}
use Rattle.hack_lexer.specs.declared.kind.TokenKind.{TokenKind}
use Rattle.hack_lexer.specs.declared.token.Token.{Token}
use Rattle.hack_lexer.specs.Kinds.{sort_of_kind}
use Rattle.hack_lexer.specs.Tokens.{AreTokens}
use Rattle.hack_parse_expr.specs.declared.lexeme.Lexeme.{Lexeme}
use Rattle.hack_parse_file.specs.Lexemes.{spelled, AreLexemes, with_spelled, with_names, between}
use Rattle.hack_parse_file.specs.Files.{IsInput}
use Rattle.hack_parse_file.specs.Room.{most_names, HasRoom}
use Rattle.hack_parse_file.proofs.FewNames.{names_of, few_names}
use Rattle.hack_parse_file.proofs.Lexed.{AreSoFar, spelled_length}
use Rattle.hack_parse_file.proofs.KindOf.{kind_of, sort_below}
use Rattle.hack_parse_file.proofs.Named.{no_token, HaveKinds, named_next, more_named}

-- ---- by the length of the text

few_added : (names all : List (List ℕ)) (bytes : List ℕ) (ts : List Token) (ls : List Lexeme) → AreLexemes all bytes ts ls → length (with_names names bytes ls) ≤ length names + names_of ts
few_added names all bytes [] [] h = omega arith
few_added names all bytes (t ∷ ts) (l ∷ ls) h =
    let name : Option (List ℕ) = spelled l.kind (between bytes l.first l.behind) in
    omega (arith, few_added (with_spelled names name) all bytes ts ls h.1, spelled_length names l.kind (between bytes l.first l.behind) t.sort h.0.kind)
few_added names all bytes [] (l ∷ ls) h = absurd h
few_added names all bytes (t ∷ ts) [] h = absurd h

pub room_by_length : (names : List (List ℕ)) (bytes : List ℕ) → 2 * length names + length bytes + 3 ≤ 2 * most_names + 1 → HasRoom names bytes
unfolding HasRoom
room_by_length names bytes short lexemes input =
    omega (arith, short, few_names bytes input.tokens input.cut, few_added names (with_names names bytes lexemes) bytes input.tokens lexemes input.lexed)

-- ---- for the next name

have_kinds : (tokens : List Token) → AllByRecursion (λ t. t.sort < 121) tokens → HaveKinds tokens
have_kinds tokens kinds index l = kind_of (get_or tokens index no_token).sort (sort_below tokens kinds index no_token l)

-- the names once the next token's name is one are no more than all names of the text
pub room_for_next : (before far : List (List ℕ)) (bytes : List ℕ) (tokens : List Token) (index : ℕ) (ls : List Lexeme) (k : TokenKind) (name : Option (List ℕ)) →
    HasRoom before bytes → AreTokens bytes tokens → AllByRecursion (λ t. t.sort < 121) tokens → index < length tokens → AreSoFar before far bytes tokens index ls →
    sort_of_kind k ≡ (get_or tokens index no_token).sort →
    name ≡ spelled k (between bytes (get_or tokens index no_token).at ((get_or tokens index no_token).at + (get_or tokens index no_token).len)) →
    length (with_spelled far name) ≤ most_names
unfolding HasRoom
room_for_next before far bytes tokens index ls k name room cut kinds there h kind spells =
    let next = named_next before far bytes tokens index ls k name there kind spells h in
    let all = more_named before bytes tokens cut (have_kinds tokens kinds) (length tokens - (index + 1)) (index + 1) (with_spelled far name) (ls ++ next.lexeme ∷ []) (omega arith) next.so_far in
    let input : IsInput all.names bytes all.lexemes = record { tokens = tokens; cut = cut; lexed = all.lexed.lexed } in
    let few : length (with_names before bytes all.lexemes) ≤ most_names = room all.lexemes (subst (λ names. IsInput names bytes all.lexemes) all.lexed.named input) in
    omega (arith, few, ap length all.lexed.named, ap length all.more.1, length-append (with_spelled far name) all.more.0)

-- what `intern` asks for
pub room_to_intern : (names : List (List ℕ)) (text : List ℕ) → length (with_name names text) ≤ most_names → (length names < 2 ^ 30 - 1) ⊎ Contains names text
room_to_intern names text few = by (list_any (bytes_eq text) names) refl few
  where
    by : (b : Bool) → list_any (bytes_eq text) names ≡ b → length (if b then names else names ++ text ∷ []) ≤ most_names → (length names < 2 ^ 30 - 1) ⊎ Contains names text
    by true e h = inr (Contains-from_any (λ x y. (bytes_eq-Decides x y).0) text names e)
    by false e h = inl (omega (arith, h, length-append names (text ∷ [])))
