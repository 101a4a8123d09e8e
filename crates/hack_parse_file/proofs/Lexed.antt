-- Tokens as the grammar sees them: their names stay, and one more is one token more.
use Rattle.std.proofs.Common.{◌≡◌, ℕ, zero, suc, ◌+◌, ◌-◌, ◌*◌, ◌<◌, ◌≤◌, Bool, true, false, List, [], ◌∷◌, ◌++◌, length, get_or, take, drop, Option, None, Some, refl, sym, ap, ◌∙◌, subst, arith, if◌then◌else◌, append_assoc, append-nil, length-append}
use Rattle.std.specs.Prelude.{slice_get}
use Rattle.std.specs.List.{list_any}
use Rattle.std.specs.Str.{bytes_eq}
use Rattle.std.proofs.lemmas.List.{take_more}
use Rattle.std.proofs.lemmas.Option.{slice_get_within, get_or_from_slice_get}
use Rattle.hack_types.specs.Names.{EachOnce}
use Rattle.hack_types.specs.Places.{place_of}
use Rattle.hack_lexer.specs.declared.token.Token.{Token}
use Rattle.hack_lexer.specs.declared.kind.TokenKind.{TokenKind}
use Rattle.hack_lexer.specs.declared.kind.TokenKind.TheVariants as kind
use Rattle.hack_lexer.specs.Forms.{content_of}
use Rattle.hack_lexer.specs.Kinds.{number_of_keyword, sort_of_kind}
use Rattle.hack_lexer.specs.Tokens.{text_of, AreTokens}
use Rattle.hack_parse_expr.specs.declared.lexeme.Lexeme.{Lexeme}
use Rattle.hack_parse_file.proofs.FewNames.{names_of, names_of_sort, one_of_keyword, names_more, few_names, names_first}
use Rattle.hack_parse_file.specs.Lexemes.{spelled, IsIdOf, IsNamed, IsLexeme, AreLexemes, with_spelled, between, with_names, Extends}

-- ---- ids

-- where each name stands once, an id is where its text stands
pub id_where : (names : List (List ℕ)) (text : List ℕ) (id : ℕ) → EachOnce names → slice_get names id ≡ Some text → IsIdOf names text id
id_where names text id once there = record {
  there = there;
  first = λ other lower e. once other id text lower (slice_get_within names id text there) (get_or_from_slice_get names other text text e ∙ sym (get_or_from_slice_get names id text text there));
}

-- what stands in the front of a list
in_front : (names added : List (List ℕ)) (id : ℕ) → id < length names → slice_get (names ++ added) id ≡ slice_get names id
in_front [] added id h = absurd (omega arith)
in_front (text ∷ names) added zero h = refl
in_front (text ∷ names) added (suc id) h = in_front names added id (omega arith)

-- an id stays where names are added
id_stays : (names added : List (List ℕ)) (text : List ℕ) (id : ℕ) → IsIdOf names text id → IsIdOf (names ++ added) text id
id_stays names added text id h =
    let within : id < length names = slice_get_within names id text h.there in
    record {
      there = in_front names added id within ∙ h.there;
      first = λ other lower e. h.first other lower (sym (in_front names added other (omega arith)) ∙ e);
    }

named_stays : (old new : List (List ℕ)) (name : Option (List ℕ)) (id : ℕ) → Extends old new → IsNamed old name id → IsNamed new name id
named_stays old new None id more h = h
named_stays old new (Some text) id more h = subst (λ names. IsIdOf names text id) (sym more.1) (id_stays old more.0 text id h)

-- ---- names are added

pub extends_same : (names : List (List ℕ)) → Extends names names
extends_same names = ([], sym (append-nil names))

pub extends_more : (one two three : List (List ℕ)) → Extends one two → Extends two three → Extends one three
extends_more one two three h k = (h.0 ++ k.0, k.1 ∙ ap (λ names. names ++ k.0) h.1 ∙ append_assoc one h.0 k.0)

-- one name is added or none
added_or_not : (names : List (List ℕ)) (text : List ℕ) (b : Bool) → Extends names (if b then names else names ++ text ∷ [])
added_or_not names text true = extends_same names
added_or_not names text false = (text ∷ [], refl)

pub extends_spelled : (names : List (List ℕ)) (name : Option (List ℕ)) → Extends names (with_spelled names name)
extends_spelled names None = extends_same names
extends_spelled names (Some text) = added_or_not names text (list_any (bytes_eq text) names)

-- so there is one more at most
one_or_none : (names : List (List ℕ)) (text : List ℕ) (b : Bool) → length (if b then names else names ++ text ∷ []) ≤ length names + 1
one_or_none names text true = omega arith
one_or_none names text false = omega (arith, length-append names (text ∷ []))

-- one more name at most
pub one_spelled : (names : List (List ℕ)) (name : Option (List ℕ)) → length (with_spelled names name) ≤ length names + 1
one_spelled names None = omega arith
one_spelled names (Some text) = one_or_none names text (list_any (bytes_eq text) names)

-- a token whose sort has no name spells none
pub spelled_length : (names : List (List ℕ)) (k : TokenKind) (text : List ℕ) (sort : ℕ) → sort_of_kind k ≡ sort → length (with_spelled names (spelled k text)) ≤ length names + names_of_sort sort
spelled_length names k text sort e = subst (λ s. length (with_spelled names (spelled k text)) ≤ length names + names_of_sort s) e (by k)
  where
    one : (name : List ℕ) → length (with_spelled names (Some name)) ≤ length names + 1
    one name = one_spelled names (Some name)

    by : (k : TokenKind) → length (with_spelled names (spelled k text)) ≤ length names + names_of_sort (sort_of_kind k)
    by kind.Name = one text
    by kind.Variable = one (drop 1 text)
    by kind.This = omega arith
    by kind.Int = omega arith
    by kind.Float = omega arith
    by kind.Text = omega arith
    by kind.KeyText = one (content_of text)
    by (kind.Mark m) = omega arith
    by (kind.Keyword w) = omega (arith, one text, one_of_keyword (62 + number_of_keyword w) (omega arith))

-- the name of one token more
pub with_names-push : (names : List (List ℕ)) (bytes : List ℕ) (ls : List Lexeme) (l : Lexeme) →
    with_names names bytes (ls ++ l ∷ []) ≡ with_spelled (with_names names bytes ls) (spelled l.kind (between bytes l.first l.behind))
with_names-push names bytes [] l = refl
with_names-push names bytes (x ∷ ls) l = with_names-push (with_spelled names (spelled x.kind (between bytes x.first x.behind))) bytes ls l

-- ---- tokens

lexeme_stays : (old new : List (List ℕ)) (bytes : List ℕ) (t : Token) (l : Lexeme) → Extends old new → IsLexeme old bytes t l → IsLexeme new bytes t l
lexeme_stays old new bytes t l more h = record {
  kind = h.kind;
  at = h.at;
  first = h.first;
  behind = h.behind;
  name = named_stays old new (spelled l.kind (text_of bytes t)) l.name more h.name;
}

pub lexemes_stay : (old new : List (List ℕ)) (bytes : List ℕ) (ts : List Token) (ls : List Lexeme) → Extends old new → AreLexemes old bytes ts ls → AreLexemes new bytes ts ls
lexemes_stay old new bytes [] [] more h = tt
lexemes_stay old new bytes (t ∷ ts) (l ∷ ls) more h = (lexeme_stays old new bytes t l more h.0, lexemes_stay old new bytes ts ls more h.1)
lexemes_stay old new bytes [] (l ∷ ls) more h = h
lexemes_stay old new bytes (t ∷ ts) [] more h = h

lexemes_push : (names : List (List ℕ)) (bytes : List ℕ) (ts : List Token) (ls : List Lexeme) (t : Token) (l : Lexeme) →
    AreLexemes names bytes ts ls → IsLexeme names bytes t l → AreLexemes names bytes (ts ++ t ∷ []) (ls ++ l ∷ [])
lexemes_push names bytes [] [] t l h one = (one, tt)
lexemes_push names bytes (x ∷ ts) (y ∷ ls) t l h one = (h.0, lexemes_push names bytes ts ls t l h.1 one)
lexemes_push names bytes [] (y ∷ ls) t l h one = absurd h
lexemes_push names bytes (x ∷ ts) [] t l h one = absurd h

-- the text of a token is what stands between its ends
pub between_is : (bytes : List ℕ) (t : Token) → between bytes t.at (t.at + t.len) ≡ text_of bytes t
between_is bytes t = let len : t.at + t.len - t.at ≡ t.len = omega arith in ap (λ n. take n (drop t.at bytes)) len

-- the next token, with its name among the names from now on
pub record IsNextLexeme (names new : List (List ℕ)) (bytes : List ℕ) (t : Token) (l : Lexeme) : Type 0 where
  pub lexeme : IsLexeme new bytes t l
  pub added : new ≡ with_spelled names (spelled l.kind (between bytes l.first l.behind))

-- the tokens so far, with their names
pub record AreSoFar (old names : List (List ℕ)) (bytes : List ℕ) (tokens : List Token) (index : ℕ) (ls : List Lexeme) : Type 0 where
  pub made : AreLexemes names bytes (take index tokens) ls
  pub named : names ≡ with_names old bytes ls
  pub kept : Extends old names
  pub few : length names ≤ length old + names_of (take index tokens)

pub one_more : (old names new : List (List ℕ)) (bytes : List ℕ) (tokens : List Token) (index : ℕ) (d : Token) (ls : List Lexeme) (l : Lexeme) →
    index < length tokens → AreSoFar old names bytes tokens index ls → IsNextLexeme names new bytes (get_or tokens index d) l → AreSoFar old new bytes tokens (index + 1) (ls ++ l ∷ [])
one_more old names new bytes tokens index d ls l lt h one =
    let name : Option (List ℕ) = spelled l.kind (between bytes l.first l.behind) in
    let more : Extends names new = subst (Extends names) (sym one.added) (extends_spelled names name) in
    let long : length new ≤ length names + names_of_sort (get_or tokens index d).sort = subst (λ n. length n ≤ length names + names_of_sort (get_or tokens index d).sort) (sym one.added) (spelled_length names l.kind (between bytes l.first l.behind) (get_or tokens index d).sort one.lexeme.kind) in
    record {
      made = subst (λ ts. AreLexemes new bytes ts (ls ++ l ∷ [])) (sym (take_more tokens index d lt))
          (lexemes_push new bytes (take index tokens) ls (get_or tokens index d) l (lexemes_stay names new bytes (take index tokens) ls more h.made) one.lexeme);
      named = one.added ∙ ap (λ ns. with_spelled ns name) h.named ∙ sym (with_names-push old bytes ls l);
      kept = extends_more old names new h.kept more;
      few = omega (arith, h.few, long, names_more tokens index d lt);
    }

-- no token yet
pub none_yet : (old : List (List ℕ)) (bytes : List ℕ) (tokens : List Token) (ls : List Lexeme) → ls ≡ [] → AreSoFar old old bytes tokens 0 ls
none_yet old bytes tokens ls e = subst (AreSoFar old old bytes tokens 0) (sym e) (record { made = tt; named = refl; kept = extends_same old; few = omega arith })

-- the next token, from its parts
pub next_lexeme : (names new : List (List ℕ)) (bytes : List ℕ) (t : Token) (l : Lexeme) (name : Option (List ℕ)) →
    sort_of_kind l.kind ≡ t.sort → l.at ≡ place_of bytes t.at → l.first ≡ t.at → l.behind ≡ t.at + t.len → name ≡ spelled l.kind (between bytes t.at (t.at + t.len)) →
    IsNamed new name l.name → new ≡ with_spelled names name → IsNextLexeme names new bytes t l
next_lexeme names new bytes t l name kind at first behind spells id added = record {
  lexeme = record {
    kind = kind;
    at = at;
    first = first;
    behind = behind;
    name = subst (λ n. IsNamed new n l.name) (spells ∙ ap (spelled l.kind) (between_is bytes t)) id;
  };
  added = added ∙ ap (with_spelled names) (spells ∙ (λ i. spelled l.kind (between bytes (sym first i) (sym behind i))));
}

-- twice the names so far are few
pub few_so_far : (old names : List (List ℕ)) (bytes : List ℕ) (tokens : List Token) (index : ℕ) (ls : List Lexeme) → AreTokens bytes tokens → AreSoFar old names bytes tokens index ls
    → 2 * length names ≤ 2 * length old + length bytes + 1
few_so_far old names bytes tokens index ls cut h = omega (arith, few_names bytes tokens cut, names_first tokens index, h.few)
