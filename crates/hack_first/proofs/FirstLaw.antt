-- Declarations that are all first units are the tokens of first units.
use Rattle.std.proofs.Common.{◌≡◌, ◌≢◌, ◌⊎◌, inl, inr, true, false, append_assoc, length, ℕ, ◌+◌, ◌^◌, ◌<◌, ◌≤◌, eqb, List, [], ◌∷◌, ◌++◌, map, Option, Some, None, Ok, slice_get, refl, sym, ap, ◌∙◌, subst, arith}
use Rattle.std.proofs.lemmas.Option.{get_or_from_slice_get}
use Rattle.std.proofs.lemmas.Bool.Decides.{eqb_tells}
use Rattle.hack_types.specs.declared.place.Place.{Place}
use Rattle.hack_types.specs.Places.{place_of}
use Rattle.hack_lexer.specs.declared.kind.TokenKind.TheVariants as kind
use Rattle.hack_lexer.specs.declared.token.Token.{Token}
use Rattle.hack_lexer.specs.Tokens.{AreTokens, text_of}
use Rattle.hack_parse_expr.specs.declared.lexeme.Lexeme.{Lexeme}
use Rattle.hack_parse_expr.specs.Input.{Input, relative}
use Rattle.hack_parse_expr.specs.Symbols.{Declared}
use Rattle.hack_parse_expr.specs.Rows.{begins_declaration}
use Rattle.hack_parse_expr.specs.Parsers.{at_front}
use Rattle.hack_parse_file.specs.Lexemes.{spelled, IsIdOf, IsNamed, IsLexeme, AreLexemes}
use Rattle.hack_parse_file.specs.Files.{absolute, unit_of}
use Rattle.hack_parse_decl.specs.Declarations.{declaration, declarations}
use Rattle.hack_first.specs.Functions.{Function, named}
use Rattle.hack_first.specs.FirstUnits.{Lexeme as Form, counted_text, lexeme, IsSpelled, BeginsAt, SecondAt, IsUnit, AreUnits}
use Rattle.hack_first.specs.FirstTrees.{and_more}
use Rattle.hack_first.proofs.NamedTrees.{first_of, first_functions, unit_functions}
use Rattle.hack_lexer.proofs.InOrder.{StandInOrder, in_order}
use Rattle.hack_lexer.proofs.SameKind.{one_kind}
use Rattle.hack_first.proofs.PlacesKept.{kept_in}
use Rattle.hack_first.proofs.UnitTokens.{stands_later, stands_behind}
use Rattle.hack_first.proofs.Gives.{same_first, Each, many_each}
use Rattle.hack_first.proofs.RowsBack.{form}
use Rattle.hack_first.proofs.DeclarationsBack.{DeclarationBack, declaration_back}

-- ---- tokens and lexemes

-- a token has the form of its lexeme
form_by : (names : List (List ℕ)) (bytes : List ℕ) (t : Token) (l : Lexeme) → IsLexeme names bytes t l → ((eqb t.sort 0 ≡ true) × (t.sort ≡ 0)) ⊎ ((eqb t.sort 0 ≡ false) × (t.sort ≢ 0)) →
    ◌≡◌ {A = Form} (lexeme bytes t) (t.sort, counted_text t.sort (named names l.name))
form_by names bytes t l h (inl z) =
    let same : l.kind ≡ kind.Name = one_kind l.kind kind.Name (h.kind ∙ z.1) in
    let id : IsIdOf names (text_of bytes t) l.name = subst (λ k. IsNamed names (spelled k (text_of bytes t)) l.name) same h.name in
    let found : slice_get names l.name ≡ Some (text_of bytes t) = id.there in
    let text : named names l.name ≡ text_of bytes t = get_or_from_slice_get names l.name (text_of bytes t) [] found in
    ap (λ (x : List ℕ). (t.sort, counted_text t.sort x)) (sym text)
form_by names bytes t l h (inr z) = rw z.0 refl

-- the same with the number of its kind
form_is : (names : List (List ℕ)) (bytes : List ℕ) (t : Token) (l : Lexeme) → IsLexeme names bytes t l → lexeme bytes t ≡ form names l
form_is names bytes t l h = form_by names bytes t l h (eqb_tells t.sort 0) ∙ ap (λ s. (s, counted_text s (named names l.name))) (sym h.kind)

-- tokens have the forms of their lexemes
forms_are : (names : List (List ℕ)) (bytes : List ℕ) (ts : List Token) (ls : List Lexeme) → AreLexemes names bytes ts ls → map (lexeme bytes) ts ≡ map (form names) ls
forms_are names bytes [] [] h = refl
forms_are names bytes (t ∷ ts) (l ∷ ls) h = let one = form_is names bytes t l h.0 in let others = forms_are names bytes ts ls h.1 in λ k. one k ∷ others k
forms_are names bytes [] (l ∷ ls) h = absurd h
forms_are names bytes (t ∷ ts) [] h = absurd h

-- the tokens of two parts
record TokenParts (names : List (List ℕ)) (bytes : List ℕ) (tokens : List Token) (a b : List Lexeme) : Type 0 where
  front : List Token
  back : List Token
  parts : tokens ≡ front ++ back
  fronts : AreLexemes names bytes front a
  backs : AreLexemes names bytes back b

-- lexemes in two parts stand for tokens in two parts
token_parts : (names : List (List ℕ)) (bytes : List ℕ) (tokens : List Token) (a b : List Lexeme) → AreLexemes names bytes tokens (a ++ b) → TokenParts names bytes tokens a b
token_parts names bytes tokens [] b h = record { front = []; back = tokens; parts = refl; fronts = tt; backs = h }
token_parts names bytes [] (l ∷ a) b h = absurd h
token_parts names bytes (t ∷ tokens) (l ∷ a) b h =
    let rest = token_parts names bytes tokens a b h.1 in
    record { front = t ∷ rest.front; back = rest.back; parts = ap (λ ts. t ∷ ts) rest.parts; fronts = (h.0, rest.fronts); backs = rest.backs }

-- no lexemes stand for no tokens
no_tokens : (names : List (List ℕ)) (bytes : List ℕ) (tokens : List Token) → AreLexemes names bytes tokens [] → tokens ≡ []
no_tokens names bytes [] h = refl
no_tokens names bytes (t ∷ tokens) h = absurd h

-- the first token, and where it stands
record FirstToken (bytes : List ℕ) (tokens : List Token) (l : Lexeme) : Type 0 where
  t : Token
  others : List Token
  parts : tokens ≡ t ∷ others
  at : l.at ≡ place_of bytes t.at

-- the first lexeme stands where the first token does
first_token : (names : List (List ℕ)) (bytes : List ℕ) (tokens : List Token) (ls : List Lexeme) (l : Lexeme) (more : List Lexeme) → AreLexemes names bytes tokens ls → ls ≡ l ∷ more → FirstToken bytes tokens l
first_token names bytes (t ∷ tokens) (x ∷ ls) l more h e = let same = same_first x l ls more e in record { t = t; others = tokens; parts = refl; at = ap (λ (z : Lexeme). z.at) (sym same) ∙ h.0.at }
first_token names bytes [] [] l more h e = absurd cc
first_token names bytes [] (x ∷ ls) l more h e = absurd h
first_token names bytes (t ∷ tokens) [] l more h e = absurd h

-- the first two tokens, and where they stand
record TwoTokens (bytes : List ℕ) (tokens : List Token) (l m : Lexeme) : Type 0 where
  t : Token
  second : Token
  others : List Token
  parts : tokens ≡ t ∷ second ∷ others
  at : l.at ≡ place_of bytes t.at
  second_at : m.at ≡ place_of bytes second.at

-- the first two lexemes stand where the first two tokens do
two_tokens : (names : List (List ℕ)) (bytes : List ℕ) (tokens : List Token) (l m : Lexeme) (more : List Lexeme) → AreLexemes names bytes tokens (l ∷ m ∷ more) → TwoTokens bytes tokens l m
two_tokens names bytes (t ∷ u ∷ tokens) l m more h = record { t = t; second = u; others = tokens; parts = refl; at = h.0.at; second_at = h.1.0.at }
two_tokens names bytes (t ∷ []) l m more h = absurd h.1
two_tokens names bytes [] l m more h = absurd h

-- ---- units

-- the tokens of a unit, and those behind it
record UnitTokens (names : List (List ℕ)) (bytes : List ℕ) (tokens : List Token) (rest : List Lexeme) (f : Function) : Type 0 where
  front : List Token
  others : List Token
  parts : tokens ≡ front ++ others
  is : IsUnit bytes front f
  lexed : AreLexemes names bytes others rest

-- the tokens of a declaration that is a first unit are a unit
unit_tokens : (names : List (List ℕ)) (bytes : List ℕ) (from : ℕ) (tokens : List Token) (i rest : Input) (f : Function) → length bytes + 1 < 2 ^ 32 → AreLexemes names bytes tokens i.left → StandInOrder bytes from tokens →
    DeclarationBack names i rest f → UnitTokens names bytes tokens rest.left f
unit_tokens names bytes from tokens i rest f short lexed stand b =
    let p1 = token_parts names bytes tokens ((b.front ++ b.value) ++ b.back) rest.left (subst (AreLexemes names bytes tokens) b.parts lexed) in
    let p2 = token_parts names bytes p1.front (b.front ++ b.value) b.back p1.fronts in
    let p3 = token_parts names bytes p2.front b.front b.value p2.fronts in
    let whole : p1.front ≡ (p3.front ++ p3.back) ++ p2.back = p2.parts ∙ ap (λ ts. ts ++ p2.back) p3.parts in
    let t0 = two_tokens names bytes p3.front b.first b.second b.others (subst (AreLexemes names bytes p3.front) b.front_is p3.fronts) in
    let t1 = first_token names bytes p3.back b.value b.value_first b.more p3.backs b.value_is in
    let tail : List Token = t1.others ++ (p2.back ++ p1.back) in
    let between : List Token = t0.second ∷ t0.others in
    let tokens_are : tokens ≡ t0.t ∷ between ++ t1.t ∷ tail =
    p1.parts ∙ ap (λ ts. ts ++ p1.back) whole ∙ (λ k. ((t0.parts k ++ t1.parts k) ++ p2.back) ++ p1.back)
    ∙ append_assoc ((t0.t ∷ between) ++ (t1.t ∷ t1.others)) p2.back p1.back ∙ append_assoc (t0.t ∷ between) (t1.t ∷ t1.others) (p2.back ++ p1.back) in
    let stand_so : StandInOrder bytes from (t0.t ∷ between ++ t1.t ∷ tail) = subst (StandInOrder bytes from) tokens_are stand in
    let order : t0.t.at ≤ t1.t.at = omega (arith, stands_later bytes (t0.t.at + t0.t.len) between t1.t tail stand_so.3) in
    let name_order : t0.t.at ≤ t0.second.at = omega (arith, stand_so.3.0) in
    let named_at : f.name_at ≡ place_of bytes t0.second.at =
    b.named_at ∙ (λ k. absolute (t0.at k) (relative (t0.at k) (t0.second_at k))) ∙ kept_in bytes t0.t.at t0.second.at short name_order in
    let at : f.at ≡ place_of bytes t1.t.at = b.placed ∙ (λ k. absolute (t0.at k) (relative (t0.at k) (t1.at k))) ∙ kept_in bytes t0.t.at t1.t.at short order in
    record {
      front = p1.front;
      others = p1.back;
      parts = p1.parts;
      is = record {
        front = p3.front;
        value = p3.back;
        back = p2.back;
        parts = whole;
        opens = forms_are names bytes p3.front b.front p3.fronts ∙ b.opens;
        named = subst (λ ts. SecondAt bytes ts f.name_at) (sym t0.parts) named_at;
        returns = subst (IsSpelled f.value) (sym (forms_are names bytes p3.back b.value p3.backs)) b.spells;
        placed = subst (λ ts. BeginsAt bytes ts f.at) (sym t1.parts) at;
        closes = forms_are names bytes p2.back b.back p2.backs ∙ b.closes;
      };
      lexed = p1.backs;
    }

-- a first function and the others
record MoreParts (o : Option Function) (os : Option (List Function)) (functions : List Function) : Type 0 where
  f : Function
  fs : List Function
  first : o ≡ Some f
  others : os ≡ Some fs
  parts : f ∷ fs ≡ functions

-- functions that are all there have a first and others
more_parts : (o : Option Function) (os : Option (List Function)) (functions : List Function) → and_more o os ≡ Some functions → MoreParts o os functions
more_parts (Some f) (Some fs) functions e = record { f = f; fs = fs; first = refl; others = refl; parts = cc }
more_parts (Some f) None functions e = absurd cc
more_parts None os functions e = absurd cc

-- the same of all declarations
units_back : (names : List (List ℕ)) (bytes : List ℕ) (declared : List Declared) (functions : List Function) (from : ℕ) (tokens : List Token) (i rest : Input) → length bytes + 1 < 2 ^ 32 →
    Each declaration i declared rest → rest.left ≡ [] → AreLexemes names bytes tokens i.left → StandInOrder bytes from tokens → first_functions names declared ≡ Some functions → AreUnits bytes tokens functions
units_back names bytes [] functions from tokens i rest short each all lexed stand are =
    let none : [] ≡ functions = cc in
    let empty : i.left ≡ [] = ap (λ (j : Input). j.left) each ∙ all in
    subst (AreUnits bytes tokens) none (no_tokens names bytes tokens (subst (AreLexemes names bytes tokens) empty lexed))
units_back names bytes (d ∷ declared) functions from tokens i rest short each all lexed stand are =
    let m = more_parts (first_of names d.first.at d.tree) (first_functions names declared) functions are in
    let u = unit_tokens names bytes from tokens i each.0 m.f short lexed stand (declaration_back names i each.0 d m.f m.first each.1) in
    let behind = stands_behind bytes from u.front u.others (subst (StandInOrder bytes from) u.parts stand) in
    let others = units_back names bytes declared m.fs behind.0 u.others each.0 rest short each.2 all u.lexed behind.1 m.others in
    subst (AreUnits bytes tokens) m.parts (u.front, u.others, u.parts, u.is, others)

-- the second half of the law: declarations that are all first units are first units by their tokens
pub declared_are_units : (names : List (List ℕ)) (bytes : List ℕ) (tokens : List Token) (lexemes : List Lexeme) (end : Place) (functions : List Function) (declared : List Declared) (rest : Input) → length bytes + 1 < 2 ^ 32 →
    AreTokens bytes tokens → AreLexemes names bytes tokens lexemes → declarations (at_front lexemes end) ≡ Ok (declared, rest) → rest.left ≡ [] → first_functions names declared ≡ Some functions → AreUnits bytes tokens functions
unfolding declarations
declared_are_units names bytes tokens lexemes end functions declared rest short cut lexed reads all are =
    units_back names bytes declared functions 0 tokens (at_front lexemes end) rest short (many_each begins_declaration declaration declared (at_front lexemes end) rest reads) all lexed (in_order bytes tokens cut) are

-- the units of declarations are the same functions
pub units_are_first : (names : List (List ℕ)) (bytes : List ℕ) (declared : List Declared) → unit_functions names (map (unit_of bytes) declared) ≡ first_functions names declared
units_are_first names bytes [] = refl
units_are_first names bytes (d ∷ declared) = ap (and_more (first_of names d.first.at d.tree)) (units_are_first names bytes declared)
