-- A file has one tree or one fault.
use Rattle.std.proofs.Common.{◌≡◌, ◌⊎◌, ℕ, List, [], ◌∷◌, map, Option, None, Some, refl, sym, ap, ◌∙◌, subst, arith, inl, inr}
use Rattle.std.proofs.lemmas.Bool.{cases_lt}
use Rattle.hack_types.specs.declared.place.Place.{Place}
use Rattle.hack_lexer.specs.declared.token.Token.{Token}
use Rattle.hack_lexer.specs.Tokens.{text_of}
use Rattle.hack_lexer.proofs.Cuts.{one_list, no_both, one_fault}
use Rattle.hack_lexer.proofs.SameKind.{one_kind}
use Rattle.hack_tree.specs.declared.declaration.FileTree.{FileTree}
use Rattle.hack_parse_expr.specs.declared.lexeme.Lexeme.{Lexeme}
use Rattle.hack_parse_expr.specs.declared.stop.ParseStop.{ParseStop}
use Rattle.hack_parse_expr.specs.declared.stop.ParseStop.TheVariants.{Fault}
use Rattle.hack_parse_expr.specs.Input.{Input, refusal}
use Rattle.hack_parse_expr.specs.Symbols.{File, Declared, rule}
use Rattle.hack_parse_expr.specs.Parsers.{at_front}
use Rattle.hack_parse_expr.specs.Run.{Stands, Fails}
use Rattle.hack_parse_expr.proofs.Runs.{stands_once, fails_once, stands_or_fails}
use Rattle.hack_parse_file.specs.Lexemes.{spelled, IsIdOf, IsNamed, IsLexeme, AreLexemes, with_spelled, between, with_names, Extends}
use Rattle.hack_parse_file.specs.Files.{end_of, unit_of, IsInput, IsTree, IsFileTree, IsLeftOver, IsFileFault, IsFileRefused}
use Rattle.hack_parse_file.proofs.Lexed.{lexemes_stay}
use Rattle.hack_parse_file.proofs.Nameless.{nameless, nameless_input, refusal_same, stands_nameless, fails_nameless}

-- ---- tokens but for their names

-- what two tokens are that one token of the text is, but for their names
record AreOne (l m : Lexeme) : Type 0 where
  kind : l.kind ≡ m.kind
  at : l.at ≡ m.at
  first : l.first ≡ m.first
  behind : l.behind ≡ m.behind

are_one : (names others : List (List ℕ)) (bytes : List ℕ) (t : Token) (l m : Lexeme) → IsLexeme names bytes t l → IsLexeme others bytes t m → AreOne l m
are_one names others bytes t l m h k = record {
  kind = one_kind l.kind m.kind (h.kind ∙ sym k.kind);
  at = h.at ∙ sym k.at;
  first = h.first ∙ sym k.first;
  behind = h.behind ∙ sym k.behind;
}

-- the tokens of a text are the same but for their names
nameless_once : (names others : List (List ℕ)) (bytes : List ℕ) (ts : List Token) (ls ms : List Lexeme) →
    AreLexemes names bytes ts ls → AreLexemes others bytes ts ms → map nameless ls ≡ map nameless ms
nameless_once names others bytes [] [] [] h k = refl
nameless_once names others bytes (t ∷ ts) (l ∷ ls) (m ∷ ms) h k =
    let one = are_one names others bytes t l m h.0 k.0 in
    let more = nameless_once names others bytes ts ls ms h.1 k.1 in
    λ i. record { kind = one.kind i; at = one.at i; first = one.first i; behind = one.behind i; name = 0 } ∷ more i
nameless_once names others bytes [] [] (m ∷ ms) h k = absurd k
nameless_once names others bytes [] (l ∷ ls) ms h k = absurd h
nameless_once names others bytes (t ∷ ts) [] ms h k = absurd h
nameless_once names others bytes (t ∷ ts) (l ∷ ls) [] h k = absurd k

-- so are those of two inputs of one text
inputs_nameless : (names others : List (List ℕ)) (bytes : List ℕ) (ls ms : List Lexeme) → IsInput names bytes ls → IsInput others bytes ms → map nameless ls ≡ map nameless ms
inputs_nameless names others bytes ls ms h k =
    nameless_once names others bytes k.tokens ls ms (subst (λ ts. AreLexemes names bytes ts ls) (one_list bytes h.tokens k.tokens h.cut k.cut) h.lexed) k.lexed

-- the names that tokens add don't depend on their ids
with_names-nameless : (before : List (List ℕ)) (bytes : List ℕ) (ls : List Lexeme) → with_names before bytes ls ≡ with_names before bytes (map nameless ls)
with_names-nameless before bytes [] = refl
with_names-nameless before bytes (l ∷ ls) = with_names-nameless (with_spelled before (spelled l.kind (between bytes l.first l.behind))) bytes ls

-- so they are the same behind two inputs of one text
added_once : (before names others : List (List ℕ)) (bytes : List ℕ) (ls ms : List Lexeme) → IsInput names bytes ls → IsInput others bytes ms →
    names ≡ with_names before bytes ls → others ≡ with_names before bytes ms → names ≡ others
added_once before names others bytes ls ms h k named other =
    named ∙ with_names-nameless before bytes ls ∙ ap (with_names before bytes) (inputs_nameless names others bytes ls ms h k) ∙ sym (with_names-nameless before bytes ms) ∙ sym other

-- ---- tokens with their names

-- a text has one id
one_id : (names : List (List ℕ)) (text : List ℕ) (id other : ℕ) → IsIdOf names text id → IsIdOf names text other → id ≡ other
one_id names text id other h k = elim (cases_lt id other) [
  | inl lower ↦ absurd (k.first id lower h.there)
  | inr no_lower ↦ elim (cases_lt other id) [ inl higher ↦ absurd (h.first other higher k.there) | inr no_higher ↦ omega arith ]
]

named_once : (names : List (List ℕ)) (name : Option (List ℕ)) (id other : ℕ) → IsNamed names name id → IsNamed names name other → id ≡ other
named_once names None id other h k = h ∙ sym k
named_once names (Some text) id other h k = one_id names text id other h k

-- the tokens of a text are fixed by the names
lexemes_once : (names : List (List ℕ)) (bytes : List ℕ) (ts : List Token) (ls ms : List Lexeme) →
    AreLexemes names bytes ts ls → AreLexemes names bytes ts ms → ls ≡ ms
lexemes_once names bytes [] [] [] h k = refl
lexemes_once names bytes (t ∷ ts) (l ∷ ls) (m ∷ ms) h k =
    let one = are_one names names bytes t l m h.0 k.0 in
    let name = named_once names (spelled m.kind (text_of bytes t)) l.name m.name (subst (λ x. IsNamed names (spelled x (text_of bytes t)) l.name) one.kind h.0.name) k.0.name in
    let more = lexemes_once names bytes ts ls ms h.1 k.1 in
    λ i. record { kind = one.kind i; at = one.at i; first = one.first i; behind = one.behind i; name = name i } ∷ more i
lexemes_once names bytes [] [] (m ∷ ms) h k = absurd k
lexemes_once names bytes [] (l ∷ ls) ms h k = absurd h
lexemes_once names bytes (t ∷ ts) [] ms h k = absurd h
lexemes_once names bytes (t ∷ ts) (l ∷ ls) [] h k = absurd k

pub inputs_once : (names : List (List ℕ)) (bytes : List ℕ) (ls ms : List Lexeme) → IsInput names bytes ls → IsInput names bytes ms → ls ≡ ms
inputs_once names bytes ls ms h k =
    lexemes_once names bytes k.tokens ls ms (subst (λ ts. AreLexemes names bytes ts ls) (one_list bytes h.tokens k.tokens h.cut k.cut) h.lexed) k.lexed

-- ---- trees

-- a file's tree is one, whatever names there were before
pub is_tree : (before names : List (List ℕ)) (bytes : List ℕ) (tree : FileTree) → IsFileTree before names bytes tree → IsTree names bytes tree
is_tree before names bytes tree h = record {
  lexemes = h.lexemes;
  input = h.input;
  declared = h.declared;
  rest = h.rest;
  stands = h.stands;
  all = h.all;
  units = h.units;
}

-- a tree stays where names are added
pub tree_stays : (names more : List (List ℕ)) (bytes : List ℕ) (tree : FileTree) → Extends names more → IsTree names bytes tree → IsTree more bytes tree
tree_stays names more bytes tree added h = record {
  lexemes = h.lexemes;
  input = record { tokens = h.input.tokens; cut = h.input.cut; lexed = lexemes_stay names more bytes h.input.tokens h.lexemes added h.input.lexed };
  declared = h.declared;
  rest = h.rest;
  stands = h.stands;
  all = h.all;
  units = h.units;
}

-- the same names have one tree
pub one_tree_of : (names : List (List ℕ)) (bytes : List ℕ) (tree other : FileTree) → IsTree names bytes tree → IsTree names bytes other → tree ≡ other
one_tree_of names bytes tree other h k =
    let lexed : h.lexemes ≡ k.lexemes = inputs_once names bytes h.lexemes k.lexemes h.input k.input in
    let read = stands_once (rule File) (at_front k.lexemes (end_of bytes)) h.declared k.declared h.rest k.rest (subst (λ ls. Stands (rule File) (at_front ls (end_of bytes)) h.declared h.rest) lexed h.stands) k.stands in
    let units : tree.units ≡ other.units = h.units ∙ ap (map (unit_of bytes)) read.0 ∙ sym k.units in
    λ i. record { units = units i }

-- a file has one tree at most, and one list of names
pub one_tree : (before names others : List (List ℕ)) (bytes : List ℕ) (tree other : FileTree) →
    IsFileTree before names bytes tree → IsFileTree before others bytes other → (names ≡ others) × (tree ≡ other)
one_tree before names others bytes tree other h k =
    let named : names ≡ others = added_once before names others bytes h.lexemes k.lexemes h.input k.input h.named k.named in
    (named, one_tree_of others bytes tree other (subst (λ ns. IsTree ns bytes tree) named (is_tree before names bytes tree h)) (is_tree before others bytes other k))

-- ---- faults

-- what can be read of the tokens of a text, but for their names
stands_alike : (bytes : List ℕ) (ls ms : List Lexeme) (declared : List Declared) (rest : Input) → map nameless ls ≡ map nameless ms →
    Stands (rule File) (at_front ls (end_of bytes)) declared rest → (w : List Declared) × Stands (rule File) (at_front (map nameless ms) (end_of bytes)) w (nameless_input rest)
stands_alike bytes ls ms declared rest e h =
    let s = stands_nameless (rule File) (at_front ls (end_of bytes)) declared rest h in
    (s.0, subst (λ ts. Stands (rule File) (at_front ts (end_of bytes)) s.0 (nameless_input rest)) e s.1)

fails_alike : (bytes : List ℕ) (ls ms : List Lexeme) (stop : ParseStop) → map nameless ls ≡ map nameless ms →
    Fails (rule File) (at_front ls (end_of bytes)) stop → Fails (rule File) (at_front (map nameless ms) (end_of bytes)) stop
fails_alike bytes ls ms stop e h = subst (λ ts. Fails (rule File) (at_front ts (end_of bytes)) stop) e (fails_nameless (rule File) (at_front ls (end_of bytes)) stop h)

-- no declarations are read where the grammar is stuck
read_or_stuck : (bytes : List ℕ) (ls ms : List Lexeme) (declared : List Declared) (rest : Input) (stop : ParseStop) → map nameless ls ≡ map nameless ms →
    Stands (rule File) (at_front ls (end_of bytes)) declared rest → Fails (rule File) (at_front ms (end_of bytes)) stop → ⊥
read_or_stuck bytes ls ms declared rest stop e h k =
    let s = stands_alike bytes ls ms declared rest e h in
    stands_or_fails (rule File) (at_front (map nameless ms) (end_of bytes)) s.0 (nameless_input rest) stop s.1 (fails_alike bytes ms ms stop refl k)

-- as much is left behind the declarations
left_once : (bytes : List ℕ) (ls ms : List Lexeme) (declared found : List Declared) (rest left : Input) → map nameless ls ≡ map nameless ms →
    Stands (rule File) (at_front ls (end_of bytes)) declared rest → Stands (rule File) (at_front ms (end_of bytes)) found left → nameless_input rest ≡ nameless_input left
left_once bytes ls ms declared found rest left e h k =
    let s = stands_alike bytes ls ms declared rest e h in
    let r = stands_alike bytes ms ms found left refl k in
    (stands_once (rule File) (at_front (map nameless ms) (end_of bytes)) s.0 r.0 (nameless_input rest) (nameless_input left) s.1 r.1).1

-- nothing is left where nothing is left but for the names
none_but_names : (ts : List Lexeme) → map nameless ts ≡ [] → ts ≡ []
none_but_names [] e = refl
none_but_names (t ∷ ts) e = absurd (cc)

-- bytes with a tree have no fault
pub no_fault_of_tree : (names : List (List ℕ)) (bytes : List ℕ) (tree : FileTree) (place : Place) (code : ℕ) →
    IsTree names bytes tree → IsFileFault bytes place code → ⊥
no_fault_of_tree names bytes tree place code h (inl fault) = no_both bytes h.input.tokens place code h.input.cut fault
no_fault_of_tree names bytes tree place code h (inr k) =
    let e = inputs_nameless names k.names bytes h.lexemes k.lexemes h.input k.input in
    elim k.fault [
      | inl stuck ↦ read_or_stuck bytes h.lexemes k.lexemes h.declared h.rest (Fault place code) e h.stands stuck
      | inr over ↦
          let left = left_once bytes h.lexemes k.lexemes h.declared over.declared h.rest over.rest e h.stands over.stands in
          over.more (none_but_names over.rest.left (sym (ap (λ i. i.left) left) ∙ ap (map nameless) h.all))
    ]

-- a file with a tree has no fault
pub tree_or_fault : (before names : List (List ℕ)) (bytes : List ℕ) (tree : FileTree) (place : Place) (code : ℕ) →
    IsFileTree before names bytes tree → IsFileFault bytes place code → ⊥
tree_or_fault before names bytes tree place code h = no_fault_of_tree names bytes tree place code (is_tree before names bytes tree h)

-- a fault of the grammar is one
stop_once : (bytes : List ℕ) (ls ms : List Lexeme) (stop other : ParseStop) → map nameless ls ≡ map nameless ms →
    Fails (rule File) (at_front ls (end_of bytes)) stop ⊎ IsLeftOver (at_front ls (end_of bytes)) stop →
    Fails (rule File) (at_front ms (end_of bytes)) other ⊎ IsLeftOver (at_front ms (end_of bytes)) other → stop ≡ other
stop_once bytes ls ms stop other e (inl h) (inl k) =
    fails_once (rule File) (at_front (map nameless ms) (end_of bytes)) stop other (fails_alike bytes ls ms stop e h) (fails_alike bytes ms ms other refl k)
stop_once bytes ls ms stop other e (inl h) (inr k) = absurd (read_or_stuck bytes ms ls k.declared k.rest stop (sym e) k.stands h)
stop_once bytes ls ms stop other e (inr h) (inl k) = absurd (read_or_stuck bytes ls ms h.declared h.rest other e h.stands k)
stop_once bytes ls ms stop other e (inr h) (inr k) =
    sym h.refused ∙ refusal_same h.rest ∙ ap refusal (left_once bytes ls ms h.declared k.declared h.rest k.rest e h.stands k.stands) ∙ sym (refusal_same k.rest) ∙ k.refused

same_fault : (place other : Place) (code second : ℕ) → Fault place code ≡ Fault other second → (place ≡ other) × (code ≡ second)
same_fault place other code second e = (cc, cc)

-- a file has one fault at most
pub one_file_fault : (bytes : List ℕ) (place other : Place) (code second : ℕ) → IsFileFault bytes place code → IsFileFault bytes other second → (place ≡ other) × (code ≡ second)
one_file_fault bytes place other code second (inl h) (inl k) = one_fault bytes place other code second h k
one_file_fault bytes place other code second (inl h) (inr k) = absurd (no_both bytes k.input.tokens place code k.input.cut h)
one_file_fault bytes place other code second (inr h) (inl k) = absurd (no_both bytes h.input.tokens other second h.input.cut k)
one_file_fault bytes place other code second (inr h) (inr k) =
    same_fault place other code second (stop_once bytes h.lexemes k.lexemes (Fault place code) (Fault other second) (inputs_nameless h.names k.names bytes h.lexemes k.lexemes h.input k.input) h.fault k.fault)

-- ---- the names behind a fault

-- a fault is one, whatever names there were before
pub is_fault : (before names : List (List ℕ)) (bytes : List ℕ) (place : Place) (code : ℕ) → IsFileRefused before names bytes place code → IsFileFault bytes place code
is_fault before names bytes place code (inl h) = inl h.0
is_fault before names bytes place code (inr h) = inr (record { names = names; lexemes = h.lexemes; input = h.input; fault = h.fault })

names_behind : (before names others : List (List ℕ)) (bytes : List ℕ) (place other : Place) (code second : ℕ) →
    IsFileRefused before names bytes place code → IsFileRefused before others bytes other second → names ≡ others
names_behind before names others bytes place other code second (inl h) (inl k) = h.1 ∙ sym k.1
names_behind before names others bytes place other code second (inl h) (inr k) = absurd (no_both bytes k.input.tokens place code k.input.cut h.0)
names_behind before names others bytes place other code second (inr h) (inl k) = absurd (no_both bytes h.input.tokens other second h.input.cut k.0)
names_behind before names others bytes place other code second (inr h) (inr k) = added_once before names others bytes h.lexemes k.lexemes h.input k.input h.named k.named

-- a file has one fault at most, and one list of names behind it
pub one_refused : (before names others : List (List ℕ)) (bytes : List ℕ) (place other : Place) (code second : ℕ) →
    IsFileRefused before names bytes place code → IsFileRefused before others bytes other second → (names ≡ others) × (place ≡ other) × (code ≡ second)
one_refused before names others bytes place other code second h k =
    let fault = one_file_fault bytes place other code second (is_fault before names bytes place code h) (is_fault before others bytes other second k) in
    (names_behind before names others bytes place other code second h k, fault.0, fault.1)
