-- The units of a file are its declarations, and how a file ends.
use Rattle.std.proofs.Common.{◌≡◌, ◌≢◌, ℕ, zero, suc, ◌<◌, ◌≤◌, Bool, true, false, List, [], ◌∷◌, ◌++◌, length, map, Ok, Err, refl, sym, ap, ◌∙◌, arith, if◌then◌else◌, inl, inr}
use Rattle.std.proofs.lemmas.List.{map_push, take_all}
use Rattle.hack_types.specs.declared.place.Place.{Place}
use Rattle.hack_types.specs.Places.{behind_all}
use Rattle.hack_lexer.specs.declared.token.Token.{Token}
use Rattle.hack_lexer.specs.Tokens.{AreTokens}
use Rattle.hack_tree.specs.declared.declaration.Unit.{Unit as UnitOf}
use Rattle.hack_tree.specs.declared.declaration.FileTree.{FileTree}
use Rattle.hack_parse_expr.specs.declared.lexeme.Lexeme.{Lexeme}
use Rattle.hack_parse_expr.specs.declared.stop.ParseStop.{ParseStop}
use Rattle.hack_parse_expr.specs.declared.stop.ParseStop.TheVariants.{Fault, NoMemory}
use Rattle.hack_parse_expr.specs.Input.{Input, refusal}
use Rattle.hack_parse_expr.specs.Symbols.{Declared}
use Rattle.hack_parse_expr.specs.Rows.{begins_declaration}
use Rattle.hack_parse_expr.specs.Parsers.{Outcome, Parser, and_then, ◌<$>◌, pure, many_from, many_of, at_front}
use Rattle.hack_parse_decl.specs.Declarations.{declaration, declarations}
use Rattle.hack_parse_file.specs.Lexemes.{AreLexemes, with_names}
use Rattle.hack_parse_file.specs.Files.{unit_of, unit_read, units, end_of, IsFileTree, IsFileStop}
use Rattle.hack_parse_decl.proofs.DeclarationsFollow.{files_stand, files_fail}

-- ---- units are declarations

-- one turn of a list that is read through a function
mapped_turn : {A B : Type 0} (f : A → B) (begins : List Lexeme → Bool) (p : Parser A) (n : ℕ) →
    ((found : List A) (i : Input) → many_from begins (f <$> p) n (map f found) i ≡ and_then (many_from begins p n found i) (λ xs. pure (map f xs))) →
    (found : List A) (i : Input) (b : Bool) (o : Outcome A) →
    ◌≡◌ {A = Outcome (List B)}
    (if b then and_then (and_then o (λ x. pure (f x))) (λ y. many_from begins (f <$> p) n (map f found ++ y ∷ [])) else Ok (map f found, i))
    (and_then (if b then and_then o (λ x. many_from begins p n (found ++ x ∷ [])) else Ok (found, i)) (λ xs. pure (map f xs)))
mapped_turn f begins p n more found i true (Ok r) = ap (λ xs. many_from begins (f <$> p) n xs r.1) (sym (map_push f found r.0)) ∙ more (found ++ r.0 ∷ []) r.1
mapped_turn f begins p n more found i true (Err e) = refl
mapped_turn f begins p n more found i false o = refl

-- a list of what is read through a function is the list of what is read, through that function
mapped : {A B : Type 0} (f : A → B) (begins : List Lexeme → Bool) (p : Parser A) (n : ℕ) (found : List A) (i : Input) →
    many_from begins (f <$> p) n (map f found) i ≡ and_then (many_from begins p n found i) (λ xs. pure (map f xs))
unfolding many_from
mapped f begins p zero found i = refl
mapped f begins p (suc n) found i = mapped_turn f begins p n (λ xs j. mapped f begins p n xs j) found i (begins i.left) (p i)

-- the units of a file are its declarations, each where it stands
units_are : (bytes : List ℕ) (i : Input) → units bytes i ≡ and_then (declarations i) (λ ds. pure (map (unit_of bytes) ds))
unfolding units unit_read declarations many_of
units_are bytes i = mapped (unit_of bytes) begins_declaration declaration (length i.left) [] i

-- what is read through a function is read
record IsReadFrom (bytes : List ℕ) (o : Outcome (List Declared)) (found : List UnitOf) (rest : Input) : Type 0 where
  declared : List Declared
  read : o ≡ Ok (declared, rest)
  units : found ≡ map (unit_of bytes) declared

read_from : (bytes : List ℕ) (o : Outcome (List Declared)) (found : List UnitOf) (rest : Input) →
    and_then o (λ ds. pure (map (unit_of bytes) ds)) ≡ Ok (found, rest) → IsReadFrom bytes o found rest
read_from bytes (Err e) found rest h = absurd (cc)
read_from bytes (Ok r) found rest h =
    let same : ◌≡◌ {A = List UnitOf × Input} (map (unit_of bytes) r.0, r.1) (found, rest) = cc in
    record { declared = r.0; read = ap (λ j. Ok (r.0, j)) (ap (λ x. x.1) same); units = sym (ap (λ x. x.0) same) }

stopped_from : (bytes : List ℕ) (o : Outcome (List Declared)) (stop : ParseStop) →
    and_then o (λ ds. pure (map (unit_of bytes) ds)) ≡ Err stop → o ≡ Err stop
stopped_from bytes (Err e) stop h = let same : e ≡ stop = cc in ap (λ s. Err s) same
stopped_from bytes (Ok r) stop h = absurd (cc)

-- ---- how a file ends

-- the place behind the last byte
pub end_is : (bytes : List ℕ) → behind_all (record { line = 1; column = 1 }) bytes ≡ end_of bytes
end_is bytes = let k : length bytes ≤ length bytes = omega arith in ap (behind_all (record { line = 1; column = 1 })) (sym (take_all (length bytes) bytes k))

-- the tokens of the bytes, with their names
pub record IsLexed (before names : List (List ℕ)) (bytes : List ℕ) (tokens : List Token) (lexemes : List Lexeme) : Type 0 where
  pub cut : AreTokens bytes tokens
  pub lexed : AreLexemes names bytes tokens lexemes
  pub named : names ≡ with_names before bytes lexemes

-- no token is left
none_left : (ts : List Lexeme) → length ts ≤ 0 → ts ≡ []
none_left [] h = refl
none_left (t ∷ ts) h = absurd (omega arith)

some_left : (ts : List Lexeme) → 0 < length ts → ts ≢ []
some_left ts h e = absurd (let k : length ts ≡ 0 = ap length e in omega arith)

-- units, and nothing behind them
pub tree_is : (before names : List (List ℕ)) (bytes : List ℕ) (tokens : List Token) (lexemes : List Lexeme) (tree : FileTree) (rest : Input) →
    IsLexed before names bytes tokens lexemes → units bytes (at_front lexemes (end_of bytes)) ≡ Ok (tree.units, rest) → length rest.left ≤ 0 → IsFileTree before names bytes tree
tree_is before names bytes tokens lexemes tree rest h read none =
    let r = read_from bytes (declarations (at_front lexemes (end_of bytes))) tree.units rest (sym (units_are bytes (at_front lexemes (end_of bytes))) ∙ read) in
    record {
      lexemes = lexemes;
      input = record { tokens = tokens; cut = h.cut; lexed = h.lexed };
      named = h.named;
      declared = r.declared;
      rest = rest;
      stands = (files_stand lexemes (end_of bytes) r.declared rest).1 r.read;
      all = none_left rest.left none;
      units = r.units;
    }

-- units, and a token behind them that none reads
pub left_over : (before names : List (List ℕ)) (bytes : List ℕ) (tokens : List Token) (lexemes : List Lexeme) (found : List UnitOf) (rest : Input) (stop : ParseStop) →
    IsLexed before names bytes tokens lexemes → units bytes (at_front lexemes (end_of bytes)) ≡ Ok (found, rest) → 0 < length rest.left → stop ≡ refusal rest → IsFileStop before names bytes stop
left_over before names bytes tokens lexemes found rest NoMemory h read more e = tt
left_over before names bytes tokens lexemes found rest (Fault place code) h read more e =
    let r = read_from bytes (declarations (at_front lexemes (end_of bytes))) found rest (sym (units_are bytes (at_front lexemes (end_of bytes))) ∙ read) in
    inr (record {
      lexemes = lexemes;
      input = record { tokens = tokens; cut = h.cut; lexed = h.lexed };
      named = h.named;
      fault = inr (record { declared = r.declared; rest = rest; stands = (files_stand lexemes (end_of bytes) r.declared rest).1 r.read; more = some_left rest.left more; refused = sym e });
    })

-- the units can't be read
pub stop_is : (before names : List (List ℕ)) (bytes : List ℕ) (tokens : List Token) (lexemes : List Lexeme) (stop : ParseStop) →
    IsLexed before names bytes tokens lexemes → (stop ≢ NoMemory → units bytes (at_front lexemes (end_of bytes)) ≡ Err stop) → IsFileStop before names bytes stop
stop_is before names bytes tokens lexemes NoMemory h read = tt
stop_is before names bytes tokens lexemes (Fault place code) h read =
    let e = stopped_from bytes (declarations (at_front lexemes (end_of bytes))) (Fault place code) (sym (units_are bytes (at_front lexemes (end_of bytes))) ∙ read (λ k. absurd (cc))) in
    inr (record {
      lexemes = lexemes;
      input = record { tokens = tokens; cut = h.cut; lexed = h.lexed };
      named = h.named;
      fault = inl ((files_fail lexemes (end_of bytes) (Fault place code)).1 e);
    })

-- ---- the cursor

-- the cursor before the first token
pub cursor_is : (bytes : List ℕ) (lexemes given : List Lexeme) (end : Place) (i : Input) →
    i ≡ at_front given end → given ≡ lexemes → end ≡ behind_all (record { line = 1; column = 1 }) bytes → i ≡ at_front lexemes (end_of bytes)
cursor_is bytes lexemes given end i e same behind = e ∙ (λ k. at_front (same k) ((behind ∙ end_is bytes) k))

-- so what is read from there is read from the front
pub read_there : (bytes : List ℕ) (lexemes : List Lexeme) (i : Input) (o : Outcome (List UnitOf)) →
    i ≡ at_front lexemes (end_of bytes) → units bytes i ≡ o → units bytes (at_front lexemes (end_of bytes)) ≡ o
read_there bytes lexemes i o e h = ap (units bytes) (sym e) ∙ h
