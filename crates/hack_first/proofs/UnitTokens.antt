-- The tokens of a first unit, one by one, and the lexemes that stand for them.
use Rattle.std.proofs.Common.{◌≡◌, ℕ, ◌+◌, ◌≤◌, true, eqb, inl, inr, List, [], ◌∷◌, ◌++◌, map, Some, slice_get, refl, sym, ap, ◌∙◌, subst, arith}
use Rattle.std.proofs.lemmas.Bool.{eq-eqb}
use Rattle.std.proofs.lemmas.Option.{get_or_from_slice_get}
use Rattle.hack_types.specs.declared.place.Place.{Place}
use Rattle.hack_types.specs.Places.{place_of}
use Rattle.hack_lexer.specs.declared.kind.TokenKind.{TokenKind}
use Rattle.hack_lexer.specs.declared.kind.TokenKind.TheVariants as kind
use Rattle.hack_lexer.specs.declared.kind.Mark.TheVariants as marks
use Rattle.hack_lexer.specs.declared.kind.Keyword.TheVariants as keywords
use Rattle.hack_lexer.specs.declared.token.Token.{Token}
use Rattle.hack_lexer.specs.Kinds.{sort_of_kind}
use Rattle.hack_lexer.specs.Tokens.{text_of}
use Rattle.hack_parse_expr.specs.declared.lexeme.Lexeme.{Lexeme}
use Rattle.hack_parse_file.specs.Lexemes.{spelled, IsIdOf, IsNamed, IsLexeme, AreLexemes}
use Rattle.hack_first.specs.declared.unit.Primitive.TheVariants.{Int, Str}
use Rattle.hack_first.specs.Functions.{Function, Value, OfType, OfCall, named}
use Rattle.hack_first.specs.FirstUnits.{Lexeme as Form, counted_text, lexeme, name, mark, keyword, type_keyword, opening, closing, IsSpelled, BeginsAt}
use Rattle.hack_lexer.proofs.InOrder.{StandInOrder}
use Rattle.hack_lexer.proofs.SameKind.{one_kind}
use Rattle.hack_first.proofs.UnitReads.{as_kind, ReadsValue, int_value, text_value, key_text_value, call_value}

-- ---- lists

-- the lexemes of a token and of those behind it
pub record AreMore (names : List (List ℕ)) (bytes : List ℕ) (t : Token) (ts : List Token) (lexemes : List Lexeme) : Type 0 where
  pub first : Lexeme
  pub more : List Lexeme
  pub parts : lexemes ≡ first ∷ more
  pub is : IsLexeme names bytes t first
  pub others : AreLexemes names bytes ts more

-- the lexemes of at least one token
pub more_lexemes : (names : List (List ℕ)) (bytes : List ℕ) (t : Token) (ts : List Token) (lexemes : List Lexeme) → AreLexemes names bytes (t ∷ ts) lexemes → AreMore names bytes t ts lexemes
more_lexemes names bytes t ts [] h = absurd h
more_lexemes names bytes t ts (l ∷ ls) h = record { first = l; more = ls; parts = refl; is = h.0; others = h.1 }

-- no tokens have no lexemes
pub no_lexemes : (names : List (List ℕ)) (bytes : List ℕ) (lexemes : List Lexeme) → AreLexemes names bytes [] lexemes → lexemes ≡ []
no_lexemes names bytes [] h = refl
no_lexemes names bytes (l ∷ ls) h = absurd h

-- the lexemes of two parts
pub record AreParts (names : List (List ℕ)) (bytes : List ℕ) (a b : List Token) (lexemes : List Lexeme) : Type 0 where
  pub front : List Lexeme
  pub back : List Lexeme
  pub parts : lexemes ≡ front ++ back
  pub fronts : AreLexemes names bytes a front
  pub backs : AreLexemes names bytes b back

-- tokens in two parts have lexemes in two parts
pub lexeme_parts : (names : List (List ℕ)) (bytes : List ℕ) (a b : List Token) (lexemes : List Lexeme) → AreLexemes names bytes (a ++ b) lexemes → AreParts names bytes a b lexemes
lexeme_parts names bytes [] b lexemes h = record { front = []; back = lexemes; parts = refl; fronts = tt; backs = h }
lexeme_parts names bytes (t ∷ a) b [] h = absurd h
lexeme_parts names bytes (t ∷ a) b (l ∷ ls) h =
    let rest = lexeme_parts names bytes a b ls h.1 in
    record { front = l ∷ rest.front; back = rest.back; parts = ap (λ x. l ∷ x) rest.parts; fronts = (h.0, rest.fronts); backs = rest.backs }

-- a later token stands later
pub stands_later : (bytes : List ℕ) (from : ℕ) (a : List Token) (t : Token) (b : List Token) → StandInOrder bytes from (a ++ t ∷ b) → from ≤ t.at
stands_later bytes from [] t b h = h.0
stands_later bytes from (u ∷ a) t b h = omega (arith, h.0, stands_later bytes (u.at + u.len) a t b h.3)

-- what stands behind a part stands in order
pub stands_behind : (bytes : List ℕ) (from : ℕ) (a b : List Token) → StandInOrder bytes from (a ++ b) → (to : ℕ) × StandInOrder bytes to b
stands_behind bytes from [] b h = (from, h)
stands_behind bytes from (u ∷ a) b h = stands_behind bytes (u.at + u.len) a b h.3

-- ---- one token

-- the lexeme of a token of this kind
pub of_kind : (names : List (List ℕ)) (bytes : List ℕ) (t : Token) (l : Lexeme) (k : TokenKind) (text : List ℕ) → IsLexeme names bytes t l → ◌≡◌ {A = Form} (lexeme bytes t) (sort_of_kind k, text) → l ≡ as_kind k l
of_kind names bytes t l k text h e =
    let same : l.kind ≡ k = one_kind l.kind k (h.kind ∙ ap (λ (w : Form). w.0) e) in
    λ i. record l { kind = same i }

-- the name that a name token spells
pub of_name : (names : List (List ℕ)) (bytes : List ℕ) (t : Token) (l : Lexeme) (text : List ℕ) → IsLexeme names bytes t l → lexeme bytes t ≡ name text → named names l.name ≡ text
of_name names bytes t l text h e =
    let sort : t.sort ≡ 0 = ap (λ (w : Form). w.0) e in
    let same : l.kind ≡ kind.Name = one_kind l.kind kind.Name (h.kind ∙ sort) in
    let id : IsIdOf names (text_of bytes t) l.name = subst (λ k. IsNamed names (spelled k (text_of bytes t)) l.name) same h.name in
    let found : slice_get names l.name ≡ Some (text_of bytes t) = id.there in
    let test : eqb t.sort 0 ≡ true = eq-eqb _ _ sort in
    let counts : counted_text t.sort (text_of bytes t) ≡ text_of bytes t = rw test refl in
    get_or_from_slice_get names l.name (text_of bytes t) [] found ∙ sym counts ∙ ap (λ (w : Form). w.1) e

-- ---- what opens a unit

-- the tokens of what opens a unit
pub record IsOpening (bytes : List ℕ) (f : Function) (front : List Token) : Type 0 where
  pub t0 : Token
  pub t1 : Token
  pub t2 : Token
  pub t3 : Token
  pub t4 : Token
  pub t5 : Token
  pub t6 : Token
  pub t7 : Token
  pub parts : front ≡ t0 ∷ t1 ∷ t2 ∷ t3 ∷ t4 ∷ t5 ∷ t6 ∷ t7 ∷ []
  pub is0 : lexeme bytes t0 ≡ keyword keywords.Function
  pub is1 : lexeme bytes t1 ≡ name f.name
  pub is2 : lexeme bytes t2 ≡ mark marks.OpenParen
  pub is3 : lexeme bytes t3 ≡ mark marks.CloseParen
  pub is4 : lexeme bytes t4 ≡ mark marks.Colon
  pub is5 : lexeme bytes t5 ≡ keyword (type_keyword f.result)
  pub is6 : lexeme bytes t6 ≡ mark marks.OpenBrace
  pub is7 : lexeme bytes t7 ≡ keyword keywords.Return

-- what opens a unit is eight tokens
pub opened : (bytes : List ℕ) (f : Function) (front : List Token) → map (lexeme bytes) front ≡ opening f → IsOpening bytes f front
opened bytes f (a ∷ b ∷ c ∷ d ∷ e ∷ g ∷ h ∷ i ∷ []) opens = record {
  t0 = a;
  t1 = b;
  t2 = c;
  t3 = d;
  t4 = e;
  t5 = g;
  t6 = h;
  t7 = i;
  parts = refl;
  is0 = cc;
  is1 = cc;
  is2 = cc;
  is3 = cc;
  is4 = cc;
  is5 = cc;
  is6 = cc;
  is7 = cc;
}
opened bytes f front opens = absurd cc

-- the tokens of what closes a unit
pub record IsClosing (bytes : List ℕ) (back : List Token) : Type 0 where
  pub t0 : Token
  pub t1 : Token
  pub parts : back ≡ t0 ∷ t1 ∷ []
  pub is0 : lexeme bytes t0 ≡ mark marks.Semicolon
  pub is1 : lexeme bytes t1 ≡ mark marks.CloseBrace

-- what closes a unit is two tokens
pub closed : (bytes : List ℕ) (back : List Token) → map (lexeme bytes) back ≡ closing → IsClosing bytes back
closed bytes (a ∷ b ∷ []) closes = record { t0 = a; t1 = b; parts = refl; is0 = cc; is1 = cc }
closed bytes back closes = absurd cc

-- the lexemes of what opens a unit
pub record OpeningLexemes (names : List (List ℕ)) (bytes : List ℕ) (f : Function) (first second : Token) (lexemes : List Lexeme) : Type 0 where
  pub l0 : Lexeme
  pub l1 : Lexeme
  pub l2 : Lexeme
  pub l3 : Lexeme
  pub l4 : Lexeme
  pub l5 : Lexeme
  pub l6 : Lexeme
  pub l7 : Lexeme
  pub parts : lexemes ≡ as_kind (kind.Keyword keywords.Function) l0 ∷ as_kind kind.Name l1 ∷ as_kind (kind.Mark marks.OpenParen) l2 ∷ as_kind (kind.Mark marks.CloseParen) l3 ∷ as_kind (kind.Mark marks.Colon) l4
      ∷ as_kind (kind.Keyword (type_keyword f.result)) l5 ∷ as_kind (kind.Mark marks.OpenBrace) l6 ∷ as_kind (kind.Keyword keywords.Return) l7 ∷ []
  pub at : l0.at ≡ place_of bytes first.at
  pub name_at : l1.at ≡ place_of bytes second.at
  pub named_so : named names l1.name ≡ f.name

-- what opens a unit, lexeme by lexeme
pub opening_lexemes : (names : List (List ℕ)) (bytes : List ℕ) (f : Function) (front : List Token) (o : IsOpening bytes f front) (lexemes : List Lexeme) → AreLexemes names bytes front lexemes →
    OpeningLexemes names bytes f o.t0 o.t1 lexemes
opening_lexemes names bytes f front o lexemes lexed =
    let all : AreLexemes names bytes (o.t0 ∷ o.t1 ∷ o.t2 ∷ o.t3 ∷ o.t4 ∷ o.t5 ∷ o.t6 ∷ o.t7 ∷ []) lexemes = subst (λ ts. AreLexemes names bytes ts lexemes) o.parts lexed in
    let m0 = more_lexemes names bytes o.t0 (o.t1 ∷ o.t2 ∷ o.t3 ∷ o.t4 ∷ o.t5 ∷ o.t6 ∷ o.t7 ∷ []) lexemes all in
    let m1 = more_lexemes names bytes o.t1 (o.t2 ∷ o.t3 ∷ o.t4 ∷ o.t5 ∷ o.t6 ∷ o.t7 ∷ []) m0.more m0.others in
    let m2 = more_lexemes names bytes o.t2 (o.t3 ∷ o.t4 ∷ o.t5 ∷ o.t6 ∷ o.t7 ∷ []) m1.more m1.others in
    let m3 = more_lexemes names bytes o.t3 (o.t4 ∷ o.t5 ∷ o.t6 ∷ o.t7 ∷ []) m2.more m2.others in
    let m4 = more_lexemes names bytes o.t4 (o.t5 ∷ o.t6 ∷ o.t7 ∷ []) m3.more m3.others in
    let m5 = more_lexemes names bytes o.t5 (o.t6 ∷ o.t7 ∷ []) m4.more m4.others in
    let m6 = more_lexemes names bytes o.t6 (o.t7 ∷ []) m5.more m5.others in
    let m7 = more_lexemes names bytes o.t7 [] m6.more m6.others in
    let none : m7.more ≡ [] = no_lexemes names bytes m7.more m7.others in
    let k0 = of_kind names bytes o.t0 m0.first (kind.Keyword keywords.Function) _ m0.is o.is0 in
    let k1 = of_kind names bytes o.t1 m1.first kind.Name _ m1.is o.is1 in
    let k2 = of_kind names bytes o.t2 m2.first (kind.Mark marks.OpenParen) _ m2.is o.is2 in
    let k3 = of_kind names bytes o.t3 m3.first (kind.Mark marks.CloseParen) _ m3.is o.is3 in
    let k4 = of_kind names bytes o.t4 m4.first (kind.Mark marks.Colon) _ m4.is o.is4 in
    let k5 = of_kind names bytes o.t5 m5.first (kind.Keyword (type_keyword f.result)) _ m5.is o.is5 in
    let k6 = of_kind names bytes o.t6 m6.first (kind.Mark marks.OpenBrace) _ m6.is o.is6 in
    let k7 = of_kind names bytes o.t7 m7.first (kind.Keyword keywords.Return) _ m7.is o.is7 in
    let p7 = m7.parts ∙ (λ i. k7 i ∷ none i) in
    let p6 = m6.parts ∙ (λ i. k6 i ∷ p7 i) in
    let p5 = m5.parts ∙ (λ i. k5 i ∷ p6 i) in
    let p4 = m4.parts ∙ (λ i. k4 i ∷ p5 i) in
    let p3 = m3.parts ∙ (λ i. k3 i ∷ p4 i) in
    let p2 = m2.parts ∙ (λ i. k2 i ∷ p3 i) in
    let p1 = m1.parts ∙ (λ i. k1 i ∷ p2 i) in
    record {
      l0 = m0.first;
      l1 = m1.first;
      l2 = m2.first;
      l3 = m3.first;
      l4 = m4.first;
      l5 = m5.first;
      l6 = m6.first;
      l7 = m7.first;
      parts = m0.parts ∙ (λ i. k0 i ∷ p1 i);
      at = m0.is.at;
      name_at = m1.is.at;
      named_so = of_name names bytes o.t1 m1.first f.name m1.is o.is1;
    }

-- the lexemes of what closes a unit
pub record ClosingLexemes (lexemes : List Lexeme) : Type 0 where
  pub l0 : Lexeme
  pub l1 : Lexeme
  pub parts : lexemes ≡ as_kind (kind.Mark marks.Semicolon) l0 ∷ as_kind (kind.Mark marks.CloseBrace) l1 ∷ []

-- what closes a unit, lexeme by lexeme
pub closing_lexemes : (names : List (List ℕ)) (bytes : List ℕ) (back : List Token) (lexemes : List Lexeme) → IsClosing bytes back → AreLexemes names bytes back lexemes → ClosingLexemes lexemes
closing_lexemes names bytes back lexemes c lexed =
    let all : AreLexemes names bytes (c.t0 ∷ c.t1 ∷ []) lexemes = subst (λ ts. AreLexemes names bytes ts lexemes) c.parts lexed in
    let m0 = more_lexemes names bytes c.t0 (c.t1 ∷ []) lexemes all in
    let m1 = more_lexemes names bytes c.t1 [] m0.more m0.others in
    let none : m1.more ≡ [] = no_lexemes names bytes m1.more m1.others in
    let k0 = of_kind names bytes c.t0 m0.first (kind.Mark marks.Semicolon) _ m0.is c.is0 in
    let k1 = of_kind names bytes c.t1 m1.first (kind.Mark marks.CloseBrace) _ m1.is c.is1 in
    let p1 = m1.parts ∙ (λ i. k1 i ∷ none i) in
    record { l0 = m0.first; l1 = m1.first; parts = m0.parts ∙ (λ i. k0 i ∷ p1 i) }

-- ---- a value

-- a value of one token
one_value : (names : List (List ℕ)) (bytes : List ℕ) (value : Value) (k : TokenKind) (text : List ℕ) (t : Token) (lexemes : List Lexeme) → AreLexemes names bytes (t ∷ []) lexemes →
    ◌≡◌ {A = Form} (lexeme bytes t) (sort_of_kind k, text) → ((l : Lexeme) → ReadsValue names value (as_kind k l ∷ [])) → ReadsValue names value lexemes
one_value names bytes value k text t lexemes lexed e reads =
    let m = more_lexemes names bytes t [] lexemes lexed in
    let none : m.more ≡ [] = no_lexemes names bytes m.more m.others in
    let same = of_kind names bytes t m.first k text m.is e in
    let whole = m.parts ∙ (λ i. same i ∷ none i) in
    subst (ReadsValue names value) (sym whole) (reads m.first)

-- the tokens of a value are read as that value
pub value_reads : (names : List (List ℕ)) (bytes : List ℕ) (value : Value) (tokens : List Token) (lexemes : List Lexeme) → AreLexemes names bytes tokens lexemes → IsSpelled value (map (lexeme bytes) tokens) →
    ReadsValue names value lexemes
value_reads names bytes (OfType Int) (t ∷ []) lexemes lexed spells =
    let same : ◌≡◌ {A = Form} (lexeme bytes t) (sort_of_kind kind.Int, spells.0) = cc in
    one_value names bytes (OfType Int) kind.Int spells.0 t lexemes lexed same (int_value names)
value_reads names bytes (OfType Str) (t ∷ []) lexemes lexed (inl spells) =
    let same : ◌≡◌ {A = Form} (lexeme bytes t) (sort_of_kind kind.Text, spells.0) = cc in
    one_value names bytes (OfType Str) kind.Text spells.0 t lexemes lexed same (text_value names)
value_reads names bytes (OfType Str) (t ∷ []) lexemes lexed (inr spells) =
    let same : ◌≡◌ {A = Form} (lexeme bytes t) (sort_of_kind kind.KeyText, spells.0) = cc in
    one_value names bytes (OfType Str) kind.KeyText spells.0 t lexemes lexed same (key_text_value names)
value_reads names bytes (OfCall called) (t0 ∷ t1 ∷ t2 ∷ []) lexemes lexed spells =
    let is0 : lexeme bytes t0 ≡ name called = cc in
    let is1 : lexeme bytes t1 ≡ mark marks.OpenParen = cc in
    let is2 : lexeme bytes t2 ≡ mark marks.CloseParen = cc in
    let m0 = more_lexemes names bytes t0 (t1 ∷ t2 ∷ []) lexemes lexed in
    let m1 = more_lexemes names bytes t1 (t2 ∷ []) m0.more m0.others in
    let m2 = more_lexemes names bytes t2 [] m1.more m1.others in
    let none : m2.more ≡ [] = no_lexemes names bytes m2.more m2.others in
    let k0 = of_kind names bytes t0 m0.first kind.Name _ m0.is is0 in
    let k1 = of_kind names bytes t1 m1.first (kind.Mark marks.OpenParen) _ m1.is is1 in
    let k2 = of_kind names bytes t2 m2.first (kind.Mark marks.CloseParen) _ m2.is is2 in
    let p2 = m2.parts ∙ (λ i. k2 i ∷ none i) in
    let p1 = m1.parts ∙ (λ i. k1 i ∷ p2 i) in
    let whole = m0.parts ∙ (λ i. k0 i ∷ p1 i) in
    let called_so = of_name names bytes t0 m0.first called m0.is is0 in
    let all : List Lexeme = as_kind kind.Name m0.first ∷ as_kind (kind.Mark marks.OpenParen) m1.first ∷ as_kind (kind.Mark marks.CloseParen) m2.first ∷ [] in
    subst (ReadsValue names (OfCall called)) (sym whole) (subst (λ text. ReadsValue names (OfCall text) all) called_so (call_value names m0.first m1.first m2.first))
value_reads names bytes (OfType Int) [] lexemes lexed spells = absurd (let e = spells.1 in cc)
value_reads names bytes (OfType Int) (t ∷ u ∷ ts) lexemes lexed spells = absurd (let e = spells.1 in cc)
value_reads names bytes (OfType Str) [] lexemes lexed (inl spells) = absurd (let e = spells.1 in cc)
value_reads names bytes (OfType Str) [] lexemes lexed (inr spells) = absurd (let e = spells.1 in cc)
value_reads names bytes (OfType Str) (t ∷ u ∷ ts) lexemes lexed (inl spells) = absurd (let e = spells.1 in cc)
value_reads names bytes (OfType Str) (t ∷ u ∷ ts) lexemes lexed (inr spells) = absurd (let e = spells.1 in cc)
value_reads names bytes (OfCall called) tokens lexemes lexed spells = absurd cc

-- where a value stands
pub value_at : (names : List (List ℕ)) (bytes : List ℕ) (tokens : List Token) (lexemes : List Lexeme) (first : Lexeme) (more : List Lexeme) (at : Place) → AreLexemes names bytes tokens lexemes → lexemes ≡ first ∷ more →
    BeginsAt bytes tokens at → (t : Token) × (ts : List Token) × (tokens ≡ t ∷ ts) × (first.at ≡ place_of bytes t.at) × (at ≡ place_of bytes t.at)
value_at names bytes [] lexemes first more at lexed parts begins = absurd begins
value_at names bytes (t ∷ ts) lexemes first more at lexed parts begins =
    let m = more_lexemes names bytes t ts lexemes lexed in
    let whole : m.first ∷ m.more ≡ first ∷ more = sym m.parts ∙ parts in
    let same : m.first ≡ first = cc in
    (t, ts, refl, ap (λ (l : Lexeme). l.at) (sym same) ∙ m.is.at, begins)
