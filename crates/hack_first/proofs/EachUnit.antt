-- Each declaration of a file by its index: where it starts, and the ids of the names in it.
use Rattle.std.proofs.Common.{◌≡◌, ◌≢◌, inl, inr, ℕ, zero, suc, ◌+◌, ◌<◌, ◌≤◌, List, [], ◌∷◌, ◌++◌, map, slice_get, Some, option_map, Ok, refl, sym, ap, ◌∙◌, append_assoc, subst, arith}
use Rattle.std.proofs.lemmas.Bool.{cases_lt}
use Rattle.std.proofs.lemmas.Option.{get_or_from_slice_get}
use Rattle.std.specs.Ordering.{nat_cmp, ordering_then}
use Rattle.std.specs.Cmp.{nat_cmp_is}
use Rattle.std.specs.declared.cmp.Ordering.TheVariants.{Less, Equal, Greater}
use Rattle.hack_types.specs.declared.place.Place.{Place}
use Rattle.hack_types.specs.Places.{place_of}
use Rattle.hack_types.specs.Report.{place_order}
use Rattle.hack_lexer.specs.declared.kind.TokenKind.TheVariants as kind
use Rattle.hack_lexer.specs.declared.kind.Mark.TheVariants as marks
use Rattle.hack_lexer.specs.declared.token.Token.{Token}
use Rattle.hack_lexer.specs.Kinds.{sort_of_kind}
use Rattle.hack_lexer.specs.Tokens.{text_of}
use Rattle.hack_lexer.proofs.InOrder.{StandInOrder}
use Rattle.hack_lexer.proofs.SameKind.{one_kind}
use Rattle.hack_parse_expr.specs.declared.lexeme.Lexeme.{Lexeme}
use Rattle.hack_parse_expr.specs.Input.{Input}
use Rattle.hack_parse_expr.specs.Symbols.{Declared}
use Rattle.hack_parse_file.specs.Lexemes.{spelled, IsIdOf, IsNamed, IsLexeme, AreLexemes}
use Rattle.hack_parse_decl.specs.Declarations.{declaration}
use Rattle.hack_first.specs.declared.unit.Returned.TheVariants.{Call}
use Rattle.hack_first.specs.declared.unit.FirstUnit.{FirstUnit}
use Rattle.hack_first.specs.Functions.{Function, OfCall, named, value_of, function_of}
use Rattle.hack_first.specs.FirstUnits.{Lexeme as Form, name, mark, IsSpelled, opening}
use Rattle.hack_first.specs.FirstTrees.{first_in}
use Rattle.hack_first.proofs.NamedTrees.{first_of}
use Rattle.hack_first.proofs.Gives.{same_first, Each}
use Rattle.hack_first.proofs.PlacesKept.{NotBefore, places_rise}
use Rattle.hack_first.proofs.RowsBack.{form, form_of_name}
use Rattle.hack_first.proofs.DeclarationsBack.{declaration_back, declaration_starts}
use Rattle.hack_first.proofs.Leaves.{Leaves, leaves_all, leaves_less, declaration_leaves}

-- ---- one declaration among others

-- this declaration is read from tokens that come later
pub record IsReadLater (i : Input) (d : Declared) : Type 0 where
  pub from : Input
  pub rest : Input
  pub leaves : Leaves i from
  pub reads : declaration from ≡ Ok (d, rest)

-- each declaration is read later, and the ones behind it still later
pub read_later : (declared : List Declared) (k : ℕ) (i rest : Input) (d : Declared) → Each declaration i declared rest → slice_get declared k ≡ Some d → IsReadLater i d
read_later [] k i rest d each e = absurd cc
read_later (x ∷ declared) zero i rest d each e =
    let same : x ≡ d = cc in
    record { from = i; rest = each.0; leaves = leaves_all i; reads = each.1 ∙ (λ n. Ok (same n, each.0)) }
read_later (x ∷ declared) (suc k) i rest d each e =
    let later = read_later declared k each.0 rest d each.2 e in
    record { from = later.from; rest = later.rest; leaves = leaves_less i each.0 later.from (declaration_leaves i x each.0 each.1) later.leaves; reads = later.reads }

pub record AreReadLater (i : Input) (d later : Declared) : Type 0 where
  pub one : IsReadLater i d
  pub other : IsReadLater one.from later

pub both_read_later : (declared : List Declared) (k m : ℕ) (i rest : Input) (d later : Declared) → Each declaration i declared rest → k < m → slice_get declared k ≡ Some d → slice_get declared m ≡ Some later → AreReadLater i d later
both_read_later [] k m i rest d later each lt e f = absurd cc
both_read_later (x ∷ declared) k zero i rest d later each lt e f = absurd (omega arith)
both_read_later (x ∷ declared) zero (suc m) i rest d later each lt e f =
    let same : x ≡ d = cc in
    record {
      one = record { from = i; rest = each.0; leaves = leaves_all i; reads = each.1 ∙ (λ n. Ok (same n, each.0)) };
      other = read_later (x ∷ declared) (suc m) i rest later each f;
    }
both_read_later (x ∷ declared) (suc k) (suc m) i rest d later each lt e f =
    let both = both_read_later declared k m each.0 rest d later each.2 (omega arith) e f in
    let one = both.one in
    record {
      one = record { from = one.from; rest = one.rest; leaves = leaves_less i each.0 one.from (declaration_leaves i x each.0 each.1) one.leaves; reads = one.reads };
      other = both.other;
    }

-- ---- the tokens of lexemes

-- the token of a lexeme, and that the lexemes from it on are those of tokens in order
record IsTokenOf (names : List (List ℕ)) (bytes : List ℕ) (from : ℕ) (l : Lexeme) (more : List Lexeme) : Type 0 where
  t : Token
  others : List Token
  later : from ≤ t.at
  is : IsLexeme names bytes t l
  lexed : AreLexemes names bytes (t ∷ others) (l ∷ more)
  order : StandInOrder bytes t.at (t ∷ others)

token_of : (names : List (List ℕ)) (bytes : List ℕ) (from : ℕ) (tokens : List Token) (before : List Lexeme) (l : Lexeme) (more : List Lexeme) →
    AreLexemes names bytes tokens (before ++ l ∷ more) → StandInOrder bytes from tokens → IsTokenOf names bytes from l more
token_of names bytes from [] [] l more h stand = absurd h
token_of names bytes from [] (x ∷ before) l more h stand = absurd h
token_of names bytes from (t ∷ tokens) [] l more h stand = record { t = t; others = tokens; later = stand.0; is = h.0; lexed = h; order = (omega arith, stand.1, stand.2, stand.3) }
token_of names bytes from (t ∷ tokens) (x ∷ before) l more h stand =
    let found = token_of names bytes (t.at + t.len) tokens before l more h.1 stand.3 in
    record { t = found.t; others = found.others; later = omega (arith, stand.0, found.later); is = found.is; lexed = found.lexed; order = found.order }

-- ---- places in order

-- what is not before a place does not come before it in the order of places
not_greater : (a b : Place) → NotBefore a b → place_order a b ≢ Greater
not_greater a b (inl above) e =
    let less : Less ≡ nat_cmp a.line b.line = nat_cmp_is a.line b.line Less above in
    let wrong : Less ≡ Greater = ap (λ o. ordering_then o (nat_cmp a.column b.column)) less ∙ e in absurd cc
not_greater a b (inr (same, right)) e =
    let equal : Equal ≡ nat_cmp a.line b.line = nat_cmp_is a.line b.line Equal same in
    columns (ap (λ o. ordering_then o (nat_cmp a.column b.column)) equal ∙ e)
  where
    columns : nat_cmp a.column b.column ≡ Greater → ⊥
    columns wrong = elim (cases_lt a.column b.column) [
      | inl lower ↦ let less : Less ≡ nat_cmp a.column b.column = nat_cmp_is a.column b.column Less lower in absurd cc
      | inr no_lower ↦ let equal : Equal ≡ nat_cmp a.column b.column = nat_cmp_is a.column b.column Equal (omega arith) in absurd cc
    ]

-- declarations start one after another
pub starts_in_order : (names : List (List ℕ)) (bytes : List ℕ) (tokens : List Token) (i : Input) (d later : Declared) → AreLexemes names bytes tokens i.left → StandInOrder bytes 0 tokens → AreReadLater i d later →
    place_order d.first.at later.first.at ≢ Greater
starts_in_order names bytes tokens i d later lexed stand both =
    let a = declaration_starts both.one.from both.one.rest d both.one.reads in
    let b = declaration_starts both.other.from both.other.rest later both.other.reads in
    let lexed_so : AreLexemes names bytes tokens (both.one.leaves.0 ++ d.first ∷ a.0) = subst (AreLexemes names bytes tokens) (both.one.leaves.1 ∙ ap (λ ls. both.one.leaves.0 ++ ls) a.1) lexed in
    let t = token_of names bytes 0 tokens both.one.leaves.0 d.first a.0 lexed_so stand in
    let further : d.first ∷ a.0 ≡ both.other.leaves.0 ++ later.first ∷ b.0 = sym a.1 ∙ both.other.leaves.1 ∙ ap (λ ls. both.other.leaves.0 ++ ls) b.1 in
    let u = token_of names bytes t.t.at (t.t ∷ t.others) both.other.leaves.0 later.first b.0 (subst (AreLexemes names bytes (t.t ∷ t.others)) further t.lexed) t.order in
    not_greater d.first.at later.first.at (subst (λ p. NotBefore p later.first.at) (sym t.is.at) (subst (NotBefore (place_of bytes t.t.at)) (sym u.is.at) (places_rise bytes t.t.at u.t.at u.later)))

-- ---- ids

-- what a declaration is doesn't depend on its names, so a list of names in which one id alone has a text tells where
-- that id stands
abbrev names_of_one : ℕ → List (List ℕ)
names_of_one zero = (1 ∷ []) ∷ []
names_of_one (suc id) = [] ∷ names_of_one id

its_text : (id : ℕ) → named (names_of_one id) id ≡ 1 ∷ []
its_text zero = refl
its_text (suc id) = its_text id

its_id : (id other : ℕ) → named (names_of_one id) other ≡ 1 ∷ [] → other ≡ id
its_id zero zero e = refl
its_id zero (suc other) e = absurd cc
its_id (suc id) zero e = absurd cc
its_id (suc id) (suc other) e = ap suc (its_id id other e)

-- a name of this id
record IsNameOf (l : Lexeme) (id : ℕ) : Type 0 where
  is_name : l.kind ≡ kind.Name
  id_is : l.name ≡ id

-- what has the form of a name has its id
name_of_form : (l : Lexeme) (id : ℕ) → form (names_of_one id) l ≡ name (named (names_of_one id) id) → IsNameOf l id
name_of_form l id e =
    let sort : sort_of_kind l.kind ≡ 0 = ap (λ (w : Form). w.0) e in
    let text : named (names_of_one id) l.name ≡ 1 ∷ [] = ap (λ (w : Form). w.1) (sym (form_of_name (names_of_one id) l sort) ∙ e) ∙ its_text id in
    record { is_name = one_kind l.kind kind.Name sort; id_is = its_id id l.name text }

-- the id of a name that stands in a text is that of its text
id_of_text : (names : List (List ℕ)) (bytes : List ℕ) (tokens : List Token) (i j : Input) (before : List Lexeme) (l : Lexeme) (more : List Lexeme) (id : ℕ) → AreLexemes names bytes tokens i.left → StandInOrder bytes 0 tokens →
    Leaves i j → j.left ≡ before ++ l ∷ more → IsNameOf l id → IsIdOf names (named names id) id
id_of_text names bytes tokens i j before l more id lexed stand leaves parts n =
    let whole : i.left ≡ (leaves.0 ++ before) ++ l ∷ more = leaves.1 ∙ ap (λ ls. leaves.0 ++ ls) parts ∙ sym (append_assoc leaves.0 before (l ∷ more)) in
    let t = token_of names bytes 0 tokens (leaves.0 ++ before) l more (subst (AreLexemes names bytes tokens) whole lexed) stand in
    let found : IsIdOf names (text_of bytes t.t) l.name = subst (λ k. IsNamed names (spelled k (text_of bytes t.t)) l.name) n.is_name t.is.name in
    let text : named names l.name ≡ text_of bytes t.t = get_or_from_slice_get names l.name (text_of bytes t.t) [] found.there in
    subst (λ m. IsIdOf names (named names m) m) n.id_is (subst (λ text. IsIdOf names text l.name) (sym text) found)

-- the second of what opens a unit is its name
second_is : (w v : Form) (ws : List Form) (f : Function) → w ∷ v ∷ ws ≡ opening f → v ≡ name f.name
second_is w v ws f e = cc

-- the id of a first unit's name is that of its text
pub name_id : (names : List (List ℕ)) (bytes : List ℕ) (tokens : List Token) (i : Input) (d : Declared) (x : FirstUnit) → AreLexemes names bytes tokens i.left → StandInOrder bytes 0 tokens → IsReadLater i d →
    first_in d.first.at d.tree ≡ Some x → IsIdOf names (named names x.name) x.name
name_id names bytes tokens i d x lexed stand r some =
    let others = names_of_one x.name in
    let f : Function = function_of others x in
    let told : first_of others d.first.at d.tree ≡ Some f = ap (option_map (function_of others)) some in
    let b = declaration_back others r.from r.rest d f told r.reads in
    let opens : form others b.first ∷ form others b.second ∷ map (form others) b.others ≡ opening f = ap (map (form others)) (sym b.front_is) ∙ b.opens in
    let n = name_of_form b.second x.name (second_is (form others b.first) (form others b.second) (map (form others) b.others) f opens) in
    let behind : List Lexeme = ((b.others ++ b.value) ++ b.back) ++ r.rest.left in
    let parts : r.from.left ≡ (b.first ∷ []) ++ b.second ∷ behind = b.parts ∙ ap (λ ls. ((ls ++ b.value) ++ b.back) ++ r.rest.left) b.front_is in
    id_of_text names bytes tokens i r.from (b.first ∷ []) b.second behind x.name lexed stand r.leaves parts n

-- so is the id of the name that it calls
pub call_id : (names : List (List ℕ)) (bytes : List ℕ) (tokens : List Token) (i : Input) (d : Declared) (x : FirstUnit) (id : ℕ) → AreLexemes names bytes tokens i.left → StandInOrder bytes 0 tokens → IsReadLater i d →
    first_in d.first.at d.tree ≡ Some x → x.returned ≡ Call id → IsIdOf names (named names id) id
call_id names bytes tokens i d x id lexed stand r some calls =
    let others = names_of_one id in
    let f : Function = function_of others x in
    let told : first_of others d.first.at d.tree ≡ Some f = ap (option_map (function_of others)) some in
    let b = declaration_back others r.from r.rest d f told r.reads in
    let spells : IsSpelled (OfCall (named others id)) (form others b.value_first ∷ map (form others) b.more) =
    subst (λ v. IsSpelled v (form others b.value_first ∷ map (form others) b.more)) (ap (value_of others) calls) (subst (λ ls. IsSpelled f.value (map (form others) ls)) b.value_is b.spells) in
    let n = name_of_form b.value_first id (same_first (form others b.value_first) (name (named others id)) (map (form others) b.more) (mark marks.OpenParen ∷ mark marks.CloseParen ∷ []) spells) in
    let behind : List Lexeme = b.more ++ (b.back ++ r.rest.left) in
    let parts : r.from.left ≡ b.front ++ b.value_first ∷ behind =
    b.parts ∙ append_assoc (b.front ++ b.value) b.back r.rest.left ∙ append_assoc b.front b.value (b.back ++ r.rest.left) ∙ ap (λ ls. b.front ++ (ls ++ (b.back ++ r.rest.left))) b.value_is in
    id_of_text names bytes tokens i r.from b.front b.value_first behind id lexed stand r.leaves parts n
