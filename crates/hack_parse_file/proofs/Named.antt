-- A text's tokens have names: each name has an id once it is one.
use Rattle.std.proofs.Common.{◌≡◌, ◌<◌, ◌+◌, ◌||◌, ℕ, zero, suc, List, [], ◌∷◌, ◌++◌, length, take, get_or, refl, sym, ap, subst, ◌∙◌, arith, Bool, true, false, true≢false, Option, None, Some, if◌then◌else◌}
use Rattle.std.specs.Prelude.{slice_get}
use Rattle.std.specs.List.{list_any}
use Rattle.std.specs.Str.{bytes_eq}
use Rattle.std.proofs.lemmas.List.{take_all}
use Rattle.std.proofs.lemmas.Slice.Eq.{bytes_eq-Decides}
use Rattle.hack_types.specs.Places.{place_of}
use Rattle.hack_lexer.specs.declared.kind.TokenKind.{TokenKind}
use Rattle.hack_lexer.specs.declared.token.Token.{Token}
use Rattle.hack_lexer.specs.Kinds.{sort_of_kind}
use Rattle.hack_lexer.specs.Tokens.{AreTokens}
use Rattle.hack_parse_expr.specs.declared.lexeme.Lexeme.{Lexeme}
use Rattle.hack_parse_file.specs.Lexemes.{spelled, IsIdOf, IsNamed, AreLexemes, with_spelled, between, Extends}
use Rattle.hack_parse_file.proofs.Lexed.{AreSoFar, next_lexeme, one_more, extends_same, extends_more, extends_spelled}
use Rattle.hack_parse_file.proofs.FilesFollow.{IsLexed}

-- ---- ids

-- another name goes before
behind_first : (text name : List ℕ) (names : List (List ℕ)) (id : ℕ) → bytes_eq text name ≡ false → IsIdOf names text id → (other : ℕ) → other < suc id → slice_get (name ∷ names) other ≡ Some text → ⊥
behind_first text name names id apart h zero l e =
    let same : text ≡ name = cc in true≢false (sym ((bytes_eq-Decides text name).1 same) ∙ apart)
behind_first text name names id apart h (suc other) l e = h.first other (omega arith) e

-- a text that is there has an id
id_there : (text : List ℕ) (names : List (List ℕ)) → list_any (bytes_eq text) names ≡ true → (id : ℕ) × IsIdOf names text id
id_there text [] e = absurd (true≢false (sym e))
id_there text (name ∷ names) e = by (bytes_eq text name) refl e (id_there text names)
  where
    by : (t : Bool) → bytes_eq text name ≡ t → (t || list_any (bytes_eq text) names) ≡ true → (list_any (bytes_eq text) names ≡ true → (id : ℕ) × IsIdOf names text id)
        → (id : ℕ) × IsIdOf (name ∷ names) text id
    by true h k more = (0, record { there = ap Some (sym ((bytes_eq-Decides text name).0 h)); first = λ other l. absurd (omega arith) })
    by false h k more =
        let found = more k in
        (suc found.0, record { there = found.1.there; first = behind_first text name names found.0 h found.1 })

-- a text that isn't there has one once it is put last
id_last : (text : List ℕ) (names : List (List ℕ)) → list_any (bytes_eq text) names ≡ false → IsIdOf (names ++ text ∷ []) text (length names)
id_last text [] e = record { there = refl; first = λ other l. absurd (omega arith) }
id_last text (name ∷ names) e = by (bytes_eq text name) refl e (id_last text names)
  where
    by : (t : Bool) → bytes_eq text name ≡ t → (t || list_any (bytes_eq text) names) ≡ false → (list_any (bytes_eq text) names ≡ false → IsIdOf (names ++ text ∷ []) text (length names))
        → IsIdOf (name ∷ names ++ text ∷ []) text (suc (length names))
    by true h k more = absurd (true≢false k)
    by false h k more =
        let last = more k in
        record { there = last.there; first = behind_first text name (names ++ text ∷ []) (length names) h last }

-- so a name has an id once it is one
pub id_in : (names : List (List ℕ)) (name : Option (List ℕ)) → (id : ℕ) × IsNamed (with_spelled names name) name id
id_in names None = (0, refl)
id_in names (Some text) = by (list_any (bytes_eq text) names) refl
  where
    by : (t : Bool) → list_any (bytes_eq text) names ≡ t → (id : ℕ) × IsIdOf (if t then names else names ++ text ∷ []) text id
    by true h = id_there text names h
    by false h = (length names, id_last text names h)

-- ---- tokens with their names

-- what stands for a token that isn't there
abbrev pub no_token : Token
no_token = record { sort = 0; at = 0; len = 0 }

-- each of these tokens has a kind
abbrev pub HaveKinds : List Token → Type 0
HaveKinds tokens = (index : ℕ) → index < length tokens → (k : TokenKind) × (sort_of_kind k ≡ (get_or tokens index no_token).sort)

-- the tokens with their names, which are those so far and more
pub record AreNamed (before far : List (List ℕ)) (bytes : List ℕ) (tokens : List Token) : Type 0 where
  pub names : List (List ℕ)
  pub lexemes : List Lexeme
  pub lexed : IsLexed before names bytes tokens lexemes
  pub more : Extends far names

all_named : (before far : List (List ℕ)) (bytes : List ℕ) (tokens : List Token) (ls : List Lexeme) (index : ℕ) → AreTokens bytes tokens →
    AreSoFar before far bytes tokens index ls → index ≡ length tokens → AreNamed before far bytes tokens
all_named before far bytes tokens ls index cut h e =
    let all : take index tokens ≡ tokens = take_all index tokens (omega arith) in
    record {
      names = far;
      lexemes = ls;
      lexed = record { cut = cut; lexed = subst (λ ts. AreLexemes far bytes ts ls) all h.made; named = h.named };
      more = extends_same far;
    }

-- the next token, with its name
pub record IsNamedNext (before far : List (List ℕ)) (bytes : List ℕ) (tokens : List Token) (index : ℕ) (ls : List Lexeme) (name : Option (List ℕ)) : Type 0 where
  pub lexeme : Lexeme
  pub so_far : AreSoFar before (with_spelled far name) bytes tokens (index + 1) (ls ++ lexeme ∷ [])

pub named_next : (before far : List (List ℕ)) (bytes : List ℕ) (tokens : List Token) (index : ℕ) (ls : List Lexeme) (k : TokenKind) (name : Option (List ℕ)) → index < length tokens →
    sort_of_kind k ≡ (get_or tokens index no_token).sort →
    name ≡ spelled k (between bytes (get_or tokens index no_token).at ((get_or tokens index no_token).at + (get_or tokens index no_token).len)) →
    AreSoFar before far bytes tokens index ls → IsNamedNext before far bytes tokens index ls name
named_next before far bytes tokens index ls k name there kind spells h =
    let t : Token = get_or tokens index no_token in
    let id = id_in far name in
    let l : Lexeme = record { kind = k; at = place_of bytes t.at; first = t.at; behind = t.at + t.len; name = id.0 } in
    let one = next_lexeme far (with_spelled far name) bytes t l name kind refl refl refl spells id.1 refl in
    record { lexeme = l; so_far = one_more before far (with_spelled far name) bytes tokens index no_token ls l there h one }

-- so many tokens more
pub more_named : (before : List (List ℕ)) (bytes : List ℕ) (tokens : List Token) → AreTokens bytes tokens → HaveKinds tokens →
    (n index : ℕ) (far : List (List ℕ)) (ls : List Lexeme) → n + index ≡ length tokens → AreSoFar before far bytes tokens index ls → AreNamed before far bytes tokens
more_named before bytes tokens cut kinds zero index far ls e h = all_named before far bytes tokens ls index cut h (omega arith)
more_named before bytes tokens cut kinds (suc n) index far ls e h =
    let t : Token = get_or tokens index no_token in
    let there : index < length tokens = omega arith in
    let kind = kinds index there in
    let name : Option (List ℕ) = spelled kind.0 (between bytes t.at (t.at + t.len)) in
    let next = named_next before far bytes tokens index ls kind.0 name there kind.1 refl h in
    let all = more_named before bytes tokens cut kinds n (index + 1) (with_spelled far name) (ls ++ next.lexeme ∷ []) (omega arith) next.so_far in
    record { names = all.names; lexemes = all.lexemes; lexed = all.lexed; more = extends_more far (with_spelled far name) all.names (extends_spelled far name) all.more }
