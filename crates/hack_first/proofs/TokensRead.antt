-- What stands for first units is read as their trees.
use Rattle.std.proofs.Common.{◌≡◌, ℕ, zero, suc, ◌+◌, ◌^◌, ◌<◌, ◌≤◌, Bool, true, false, List, [], ◌∷◌, ◌++◌, length, Some, Ok, refl, sym, ap, ◌∙◌, append_assoc, subst, arith}
use Rattle.std.proofs.lemmas.List.{append-nil, length-append}
use Rattle.hack_types.specs.declared.place.Place.{Place}
use Rattle.hack_types.specs.Places.{place_of}
use Rattle.hack_lexer.specs.declared.kind.TokenKind.TheVariants as kind
use Rattle.hack_lexer.specs.declared.kind.Mark.TheVariants as marks
use Rattle.hack_lexer.specs.declared.kind.Keyword.TheVariants as keywords
use Rattle.hack_lexer.specs.declared.token.Token.{Token}
use Rattle.hack_lexer.specs.Tokens.{AreTokens}
use Rattle.hack_tree.specs.declared.statement.Stmt.{Stmt}
use Rattle.hack_tree.specs.declared.statement.Stmt.TheVariants as stmt
use Rattle.hack_parse_expr.specs.declared.lexeme.Lexeme.{Lexeme}
use Rattle.hack_parse_expr.specs.Input.{Input, relative}
use Rattle.hack_parse_expr.specs.Symbols.{Declared}
use Rattle.hack_parse_expr.specs.Rows.{begins_declaration}
use Rattle.hack_parse_expr.specs.Parsers.{Parser, many_from, many_of, at_front}
use Rattle.hack_parse_file.specs.Lexemes.{AreLexemes}
use Rattle.hack_parse_file.specs.Files.{absolute}
use Rattle.hack_parse_decl.specs.Declarations.{declaration, declarations}
use Rattle.hack_first.specs.Functions.{Function}
use Rattle.hack_first.specs.FirstUnits.{type_keyword, SecondAt, IsUnit, AreUnits}
use Rattle.hack_first.proofs.NamedTrees.{first_of, first_functions}
use Rattle.hack_lexer.proofs.InOrder.{StandInOrder, in_order}
use Rattle.hack_first.proofs.PlacesKept.{kept_in}
use Rattle.hack_first.proofs.UnitReads.{as_kind, ReadsValue, statement_of, block_of, declaration_of, declared_of, first_is}
use Rattle.hack_first.proofs.UnitTokens.{lexeme_parts, no_lexemes, stands_later, stands_behind, opened, closed, OpeningLexemes, opening_lexemes, ClosingLexemes, closing_lexemes, value_reads, value_at}

-- nothing more is read where nothing begins
pub stops : {A : Type 0} (begins : List Lexeme → Bool) (p : Parser A) (n : ℕ) (found : List A) (i : Input) → begins i.left ≡ false → many_from begins p n found i ≡ Ok (found, i)
unfolding many_from
stops begins p zero found i h = refl
stops begins p (suc n) found i h = rw h refl

-- one unit is a declaration, and others may follow
pub record IsDeclared (names : List (List ℕ)) (bytes : List ℕ) (rest : List Token) (f : Function) (i : Input) : Type 0 where
  pub lexemes : List Lexeme
  pub lexed : AreLexemes names bytes rest lexemes
  pub d : Declared
  pub next : Input
  pub reads : declaration i ≡ Ok (d, next)
  pub left : next.left ≡ lexemes
  pub begins : begins_declaration i.left ≡ true
  pub shorter : length next.left < length i.left
  pub is : first_of names d.first.at d.tree ≡ Some f

-- the lexemes of a unit and of what follows it
abbrev unit_lexemes : Function → {names : List (List ℕ)} {bytes : List ℕ} {f : Function} {t second : Token} {ls lv lb : List Lexeme} → OpeningLexemes names bytes f t second ls → ReadsValue names f.value lv → ClosingLexemes lb → List Lexeme → List Lexeme
unit_lexemes g o v c rest =
    as_kind (kind.Keyword keywords.Function) o.l0 ∷ as_kind kind.Name o.l1 ∷ as_kind (kind.Mark marks.OpenParen) o.l2 ∷ as_kind (kind.Mark marks.CloseParen) o.l3 ∷ as_kind (kind.Mark marks.Colon) o.l4
    ∷ as_kind (kind.Keyword (type_keyword g.result)) o.l5 ∷ as_kind (kind.Mark marks.OpenBrace) o.l6 ∷ as_kind (kind.Keyword keywords.Return) o.l7
    ∷ v.first ∷ v.more ++ as_kind (kind.Mark marks.Semicolon) c.l0 ∷ as_kind (kind.Mark marks.CloseBrace) c.l1 ∷ rest

-- the tokens of a unit are read as its declaration
unit_declared : (names : List (List ℕ)) (bytes : List ℕ) (from : ℕ) (front rest : List Token) (f : Function) (lexemes : List Lexeme) (i : Input) → length bytes + 1 < 2 ^ 32 →
    IsUnit bytes front f → AreLexemes names bytes (front ++ rest) lexemes → StandInOrder bytes from (front ++ rest) → i.left ≡ lexemes → IsDeclared names bytes rest f i
unit_declared names bytes from front rest f lexemes i short u lexed stand left =
    let whole = lexeme_parts names bytes front rest lexemes lexed in
    let inner : AreLexemes names bytes (u.front ++ (u.value ++ u.back)) whole.front = subst (λ ts. AreLexemes names bytes ts whole.front) (u.parts ∙ append_assoc u.front u.value u.back) whole.fronts in
    let a = lexeme_parts names bytes u.front (u.value ++ u.back) whole.front inner in
    let b = lexeme_parts names bytes u.value u.back a.back a.backs in
    let opens = opened bytes f u.front u.opens in
    let o = opening_lexemes names bytes f u.front opens a.front a.fronts in
    let v = value_reads names bytes f.value u.value b.front b.fronts u.returns in
    let c = closing_lexemes names bytes u.back b.back (closed bytes u.back u.closes) b.backs in
    let at = value_at names bytes u.value b.front v.first v.more f.at b.fronts v.parts u.placed in
    let all : List Lexeme = unit_lexemes f o v c whole.back in
    let tail : List Lexeme = as_kind (kind.Mark marks.Semicolon) c.l0 ∷ as_kind (kind.Mark marks.CloseBrace) c.l1 ∷ [] in
    let parts : lexemes ≡ all =
    whole.parts ∙ ap (λ ls. ls ++ whole.back) (a.parts ∙ (λ k. o.parts k ++ (b.parts ∙ (λ m. v.parts m ++ c.parts m)) k))
    ∙ ap (λ ls. as_kind (kind.Keyword keywords.Function) o.l0 ∷ as_kind kind.Name o.l1 ∷ as_kind (kind.Mark marks.OpenParen) o.l2 ∷ as_kind (kind.Mark marks.CloseParen) o.l3 ∷ as_kind (kind.Mark marks.Colon) o.l4
    ∷ as_kind (kind.Keyword (type_keyword f.result)) o.l5 ∷ as_kind (kind.Mark marks.OpenBrace) o.l6 ∷ as_kind (kind.Keyword keywords.Return) o.l7 ∷ v.first ∷ ls) (append_assoc v.more tail whole.back) in
    let start : Place = o.l0.at in
    let end : Place = i.end in
    let behind_value : List Lexeme = as_kind (kind.Mark marks.Semicolon) c.l0 ∷ as_kind (kind.Mark marks.CloseBrace) c.l1 ∷ whole.back in
    let next : Input = record { left = whole.back; start = start; behind = c.l1.behind; end = end } in
    let at_value : Input = record { left = v.first ∷ v.more ++ behind_value; start = start; behind = o.l7.behind; end = end } in
    let value = v.tree start in
    let returns : Stmt = stmt.Return (relative start o.l7.at) (Some value) in
    let h1 = v.reads at_value c.l0 (as_kind (kind.Mark marks.CloseBrace) c.l1 ∷ whole.back) in
    let h2 = statement_of (record at_value { behind = o.l6.behind }) (record at_value { behind = v.behind }) o.l7 c.l0 (v.first ∷ v.more ++ behind_value) (as_kind (kind.Mark marks.CloseBrace) c.l1 ∷ whole.back) value h1 in
    let h3 = block_of (record at_value { behind = o.l5.behind }) (record at_value { behind = c.l0.behind }) o.l6 o.l7 v.first c.l1 (v.more ++ behind_value) whole.back returns h2 in
    let h4 = declaration_of f.result i next o.l0 o.l1 o.l2 o.l3 o.l4 o.l5 (as_kind (kind.Mark marks.OpenBrace) o.l6 ∷ as_kind (kind.Keyword keywords.Return) o.l7 ∷ v.first ∷ v.more ++ behind_value) (returns ∷ []) h3 in
    let d : Declared = declared_of f.result o.l0 o.l1 o.l5 (returns ∷ []) c.l1.behind in
    let same : all ≡ i.left = sym (left ∙ parts) in
    let reads : declaration i ≡ Ok (d, next) = subst (λ ls. declaration (record i { left = ls }) ≡ Ok (d, next)) same h4 in
    let begins : begins_declaration i.left ≡ true = subst (λ ls. begins_declaration ls ≡ true) same refl in
    let shorter : length whole.back < length i.left = subst (λ ls. length whole.back < length ls) same (simp length-append (omega arith)) in
    let first = first_is names f.result start o.l1 o.l5 (relative start o.l7.at) value (f.value, relative start v.first.at) (v.is start) in
    let others : List Token = (at.1 ++ u.back) ++ rest in
    let between : List Token = opens.t1 ∷ opens.t2 ∷ opens.t3 ∷ opens.t4 ∷ opens.t5 ∷ opens.t6 ∷ opens.t7 ∷ [] in
    let tokens_are : front ++ rest ≡ opens.t0 ∷ between ++ at.0 ∷ others = ap (λ ts. ts ++ rest) (u.parts ∙ (λ k. (opens.parts k ++ at.2 k) ++ u.back)) in
    let stand_so : StandInOrder bytes from (opens.t0 ∷ between ++ at.0 ∷ others) = subst (StandInOrder bytes from) tokens_are stand in
    let order : opens.t0.at ≤ at.0.at = omega (arith, stands_later bytes (opens.t0.at + opens.t0.len) between at.0 others stand_so.3) in
    let place : absolute start (relative start v.first.at) ≡ f.at =
    (λ k. absolute (o.at k) (relative (o.at k) (at.3 k))) ∙ kept_in bytes opens.t0.at at.0.at short order ∙ sym at.4 in
    let named_at : f.name_at ≡ place_of bytes opens.t1.at = subst (λ ts. SecondAt bytes ts f.name_at) opens.parts u.named in
    let name_order : opens.t0.at ≤ opens.t1.at = omega (arith, stand_so.3.0) in
    let name_place : absolute start (relative start o.l1.at) ≡ f.name_at =
    (λ k. absolute (o.at k) (relative (o.at k) (o.name_at k))) ∙ kept_in bytes opens.t0.at opens.t1.at short name_order ∙ sym named_at in
    let is : first_of names start d.tree ≡ Some f = first ∙ ap Some (λ k. record { name = o.named_so k; name_at = name_place k; result = f.result; value = f.value; at = place k }) in
    record { lexemes = whole.back; lexed = whole.backs; d = d; next = next; reads = reads; left = refl; begins = begins; shorter = shorter; is = is }

-- ---- all units

-- units are declarations, read one after another
pub record AreDeclared (names : List (List ℕ)) (functions : List Function) (n : ℕ) (found : List Declared) (i : Input) : Type 0 where
  pub declared : List Declared
  pub rest : Input
  pub reads : many_from begins_declaration declaration n found i ≡ Ok (found ++ declared, rest)
  pub all : rest.left ≡ []
  pub are : first_functions names declared ≡ Some functions

-- one more turn
turn : (n : ℕ) (found : List Declared) (i next : Input) (d : Declared) → 0 < n → begins_declaration i.left ≡ true → declaration i ≡ Ok (d, next) →
    (fewer : ℕ) × (n ≡ suc fewer) × (many_from begins_declaration declaration n found i ≡ many_from begins_declaration declaration fewer (found ++ d ∷ []) next)
unfolding many_from
turn zero found i next d positive begins reads = absurd (omega arith)
turn (suc n) found i next d positive begins reads = (n, refl, rw (begins, reads) refl)

-- the tokens of units are read as their declarations
units_declared : (names : List (List ℕ)) (bytes : List ℕ) (functions : List Function) (from : ℕ) (tokens : List Token) (lexemes : List Lexeme) (n : ℕ) (found : List Declared) (i : Input) → length bytes + 1 < 2 ^ 32 →
    AreUnits bytes tokens functions → AreLexemes names bytes tokens lexemes → StandInOrder bytes from tokens → i.left ≡ lexemes → length i.left ≤ n → AreDeclared names functions n found i
units_declared names bytes [] from tokens lexemes n found i short units lexed stand left enough =
    let none : lexemes ≡ [] = no_lexemes names bytes lexemes (subst (λ ts. AreLexemes names bytes ts lexemes) units lexed) in
    let empty : i.left ≡ [] = left ∙ none in
    let no_more : begins_declaration i.left ≡ false = ap begins_declaration empty in
    record { declared = []; rest = i; reads = stops begins_declaration declaration n found i no_more ∙ ap (λ ds. Ok (ds, i)) (sym (append-nil found)); all = empty; are = refl }
units_declared names bytes (f ∷ functions) from tokens lexemes n found i short units lexed stand left enough =
    let front = units.0 in
    let rest = units.1 in
    let lexed_so : AreLexemes names bytes (front ++ rest) lexemes = subst (λ ts. AreLexemes names bytes ts lexemes) units.2 lexed in
    let stand_so : StandInOrder bytes from (front ++ rest) = subst (StandInOrder bytes from) units.2 stand in
    let one = unit_declared names bytes from front rest f lexemes i short units.3 lexed_so stand_so left in
    let t = turn n found i one.next one.d (omega (arith, one.shorter)) one.begins one.reads in
    let behind = stands_behind bytes from front rest stand_so in
    let others = units_declared names bytes functions behind.0 rest one.lexemes t.0 (found ++ one.d ∷ []) one.next short units.4 one.lexed behind.1 one.left (omega (arith, one.shorter, t.1)) in
    let both : first_functions names (one.d ∷ others.declared) ≡ Some (f ∷ functions) = rw (one.is, others.are) refl in
    record {
      declared = one.d ∷ others.declared;
      rest = others.rest;
      reads = t.2 ∙ others.reads ∙ ap (λ ds. Ok (ds, others.rest)) (append_assoc found (one.d ∷ []) others.declared);
      all = others.all;
      are = both;
    }

-- the first half of the law: first units are declarations, all of them first
pub units_are_declared : (names : List (List ℕ)) (bytes : List ℕ) (tokens : List Token) (lexemes : List Lexeme) (end : Place) (functions : List Function) → length bytes + 1 < 2 ^ 32 → AreTokens bytes tokens → AreLexemes names bytes tokens lexemes →
    AreUnits bytes tokens functions → (declared : List Declared) × (rest : Input) × (declarations (at_front lexemes end) ≡ Ok (declared, rest)) × (rest.left ≡ []) × (first_functions names declared ≡ Some functions)
unfolding declarations many_of
units_are_declared names bytes tokens lexemes end functions short cut lexed units =
    let all = units_declared names bytes functions 0 tokens lexemes (length lexemes) [] (at_front lexemes end) short units lexed (in_order bytes tokens cut) refl (omega arith) in
    (all.declared, all.rest, all.reads, all.all, all.are)
