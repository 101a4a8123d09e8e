-- The tokens from which a declaration that is a first unit was read.
use Rattle.std.proofs.Common.{◌≡◌, ℕ, List, [], ◌∷◌, ◌++◌, map, Option, Some, None, option_map, Ok, refl, sym, ap, ◌∙◌, append_assoc, subst, arith}
use Rattle.std.proofs.lemmas.Bool.{eqb-true}
use Rattle.hack_types.specs.declared.place.Place.{Place}
use Rattle.hack_lexer.specs.declared.kind.TokenKind.TheVariants as kind
use Rattle.hack_lexer.specs.declared.kind.Mark.TheVariants as mark
use Rattle.hack_lexer.specs.declared.kind.Keyword.TheVariants as keyword
use Rattle.hack_tree.specs.declared.statement.Stmt.{Stmt}
use Rattle.hack_tree.specs.declared.declaration.Attribute.{Attribute}
use Rattle.hack_tree.specs.declared.declaration.DeclaredName.{DeclaredName}
use Rattle.hack_tree.specs.declared.declaration.Callable.{Callable}
use Rattle.hack_tree.specs.declared.declaration.UnitTree.{UnitTree}
use Rattle.hack_tree.specs.declared.declaration.UnitTree.TheVariants as unit
use Rattle.hack_parse_expr.specs.declared.lexeme.Lexeme.{Lexeme}
use Rattle.hack_parse_expr.specs.declared.rows.DeclarationRow.{DeclarationRow}
use Rattle.hack_parse_expr.specs.declared.rows.DeclarationRow.TheVariants as row
use Rattle.hack_parse_expr.specs.Input.{Input, relative}
use Rattle.hack_parse_expr.specs.Kinds.{next_kind}
use Rattle.hack_parse_expr.specs.Decides.{declaration_row}
use Rattle.hack_parse_expr.specs.Symbols.{Mark_, Name, Declared}
use Rattle.hack_parse_expr.specs.Rows.{declared_name}
use Rattle.hack_parse_expr.specs.Run.{deepest}
use Rattle.hack_parse_expr.specs.Parsers.{Outcome, token, expect, starting, starting_at}
use Rattle.hack_parse_stmt.specs.Statements.{begins_statement, statements, block, statement}
use Rattle.hack_parse_file.specs.Files.{absolute}
use Rattle.hack_parse_decl.specs.Declarations.{name_read, attributes_if_any, signature, members, interface_members, class_words, class_head, head, enum_head, enum_block, alias_parts, constant_parts, function, class, interface, trait_unit, enum_unit, alias, constant, declaration_by, declared, declaration}
use Rattle.hack_first.specs.declared.unit.Primitive.{Primitive}
use Rattle.hack_first.specs.declared.unit.Returned.{Returned}
use Rattle.hack_first.specs.Functions.{Function, Value, named, value_of as value_told, function_of}
use Rattle.hack_first.specs.FirstUnits.{name as name_form, mark as mark_form, keyword as keyword_form, opening, closing, IsSpelled}
use Rattle.hack_first.specs.FirstTrees.{result_of, unit_by}
use Rattle.hack_first.specs.FirstTrees as trees
use Rattle.hack_first.proofs.NamedTrees.{told, returned, first_of, function_at}
use Rattle.hack_first.proofs.Gives.{steps, same_value, same_rest, same_first, Always, always_then, always_is, Took, token_takes, expect_takes, Each, many_each}
use Rattle.hack_first.proofs.RowsBack.{form, form_of_mark, form_of_kind, form_of_name, function_row}
use Rattle.hack_first.proofs.StatementsBack.{statement_back}
use Rattle.hack_first.proofs.SignaturesBack.{no_attributes, signature_back}

-- ---- the body

-- the tokens of a body that is one return
record BodyBack (names : List (List ℕ)) (i rest : Input) (v : Value × Place) : Type 0 where
  opens : Lexeme
  returns : Lexeme
  first : Lexeme
  more : List Lexeme
  end : Lexeme
  closes : Lexeme
  parts : i.left ≡ opens ∷ returns ∷ first ∷ more ++ end ∷ closes ∷ rest.left
  is_open : form names opens ≡ mark_form mark.OpenBrace
  is_return : form names returns ≡ keyword_form keyword.Return
  spells : IsSpelled v.0 (map (form names) (first ∷ more))
  placed : v.1 ≡ relative i.start first.at
  is_end : form names end ≡ mark_form mark.Semicolon
  is_close : form names closes ≡ mark_form mark.CloseBrace
  start : rest.start ≡ i.start

-- the same from the statements that were read
body_of : (names : List (List ℕ)) (i j k rest : Input) (opens closes : Lexeme) (body : List Stmt) (v : Value × Place) → returned names body ≡ Some v → Took i opens j → form names opens ≡ mark_form mark.OpenBrace → Each (statement deepest) j body k →
    Took k closes rest → form names closes ≡ mark_form mark.CloseBrace → BodyBack names i rest v
body_of names i j k rest opens closes (s ∷ []) v some took is each last is_last =
    let r = statement_back names 126 j k s v some (each.1 ∙ (λ n. Ok (s, each.2 n))) in
    record {
      opens = opens;
      returns = r.l;
      first = r.first;
      more = r.more;
      end = r.end;
      closes = closes;
      parts = took.parts ∙ ap (λ ls. opens ∷ ls) (r.parts ∙ ap (λ ls. r.l ∷ r.first ∷ r.more ++ r.end ∷ ls) last.parts);
      is_open = is;
      is_return = r.is;
      spells = r.spells;
      placed = r.placed ∙ ap (λ start. relative start r.first.at) took.start;
      is_end = r.is_end;
      is_close = is_last;
      start = last.start ∙ r.start ∙ took.start;
    }
body_of names i j k rest opens closes [] v some took is each last is_last = absurd cc
body_of names i j k rest opens closes (s ∷ t ∷ body) v some took is each last is_last = absurd cc

-- a body with a value was read from one return
body_back : (names : List (List ℕ)) (i rest : Input) (body : List Stmt) (v : Value × Place) → returned names body ≡ Some v → block deepest (statement deepest) i ≡ Ok (body, rest) → BodyBack names i rest v
unfolding block statements
body_back names i rest body v some h =
    let s1 = steps (expect (Mark_ mark.OpenBrace) i) _ body rest h in
    let s2 = steps (statements deepest (statement deepest) s1.mid) _ body rest s1.others in
    let s3 = steps (expect (Mark_ mark.CloseBrace) s2.mid) _ body rest s2.others in
    let is : s2.value ≡ body = same_value s2.value body s3.mid rest s3.others in
    let end : s3.mid ≡ rest = same_rest s2.value body s3.mid rest s3.others in
    let each = many_each begins_statement (statement deepest) s2.value s1.mid s2.mid s2.first in
    let t1 = expect_takes (Mark_ mark.OpenBrace) i s1.value s1.mid s1.first in
    let t3 = expect_takes (Mark_ mark.CloseBrace) s2.mid s3.value s3.mid s3.first in
    body_of names i s1.mid s2.mid rest t1.l t3.l s2.value v (ap (returned names) is ∙ some) t1.took (form_of_mark names mark.OpenBrace t1.l t1.fits_so) each
    (subst (Took s2.mid t3.l) end t3.took) (form_of_mark names mark.CloseBrace t3.l t3.fits_so)

-- ---- a function

-- the lexemes of a first unit, and the places of its first token, its name and its value
pub record UnitBack (names : List (List ℕ)) (i rest : Input) (start : Place) (f : Function) : Type 0 where
  pub front : List Lexeme
  pub value : List Lexeme
  pub back : List Lexeme
  pub parts : i.left ≡ ((front ++ value) ++ back) ++ rest.left
  pub opens : map (form names) front ≡ opening f
  pub spells : IsSpelled f.value (map (form names) value)
  pub closes : map (form names) back ≡ closing
  pub first : Lexeme
  pub second : Lexeme
  pub others : List Lexeme
  pub front_is : front ≡ first ∷ second ∷ others
  pub named_at : f.name_at ≡ absolute start (relative i.start second.at)
  pub value_first : Lexeme
  pub more : List Lexeme
  pub value_is : value ≡ value_first ∷ more
  pub placed : f.at ≡ absolute start (relative i.start value_first.at)

-- what a function tells of its parts
record FunctionParts (names : List (List ℕ)) (start : Place) (name : DeclaredName) (result : Option Primitive) (value : Option (Returned × Place)) (f : Function) : Type 0 where
  p : Primitive
  v : Value × Place
  is_result : result ≡ Some p
  is_value : told names value ≡ Some v
  is : function_at names start name p v ≡ f

-- a function has a result type and a value
function_parts : (names : List (List ℕ)) (start : Place) (name : DeclaredName) (result : Option Primitive) (value : Option (Returned × Place)) (f : Function) →
    option_map (function_of names) (unit_by start name result value) ≡ Some f → FunctionParts names start name result value f
function_parts names start name (Some p) (Some v) f e = record { p = p; v = (value_told names v.0, v.1); is_result = refl; is_value = refl; is = cc }
function_parts names start name (Some p) None f e = absurd cc
function_parts names start name None value f e = absurd cc

-- a first unit has no attributes
record TreeParts (names : List (List ℕ)) (start : Place) (before : List Attribute) (callable : Callable) (body : List Stmt) (f : Function) : Type 0 where
  none : before ≡ []
  parts : FunctionParts names start callable.name (result_of callable.type_parameters callable.parameters callable.result) (trees.returned body) f

-- a function that is a first unit has no attributes
tree_parts : (names : List (List ℕ)) (start : Place) (before : List Attribute) (callable : Callable) (body : List Stmt) (f : Function) → first_of names start (unit.Function before callable body) ≡ Some f →
    TreeParts names start before callable body f
tree_parts names start [] callable body f e = record { none = refl; parts = function_parts names start callable.name _ _ f e }
tree_parts names start (a ∷ before) callable body f e = absurd cc

-- the tree is no first unit
abbrev NoFirst : List (List ℕ) → Place → UnitTree → Type 0
NoFirst names start tree = first_of names start tree ≡ None

-- a parser that gives no first unit did not give one
tree_never : (names : List (List ℕ)) (start : Place) (o : Outcome UnitTree) (tree : UnitTree) (rest : Input) (f : Function) → Always (NoFirst names start) o → first_of names start tree ≡ Some f → o ≡ Ok (tree, rest) → ⊥
tree_never names start o tree rest f h some e =
    let none : first_of names start tree ≡ None = always_is (NoFirst names start) o tree rest h e in
    let wrong : ◌≡◌ {A = Option Function} (Some f) None = sym some ∙ none in cc

-- a function that is a first unit, and that it has no attributes
pub record FunctionBack (names : List (List ℕ)) (before : List Attribute) (i rest : Input) (start : Place) (f : Function) : Type 0 where
  pub none : before ≡ []
  pub back : UnitBack names i rest start f

-- the tokens from which a function that is a first unit was read
function_back : (names : List (List ℕ)) (before : List Attribute) (i rest : Input) (start : Place) (tree : UnitTree) (f : Function) → first_of names start tree ≡ Some f → next_kind i.left ≡ Some (kind.Keyword keyword.Function) →
    function before i ≡ Ok (tree, rest) → FunctionBack names before i rest start f
unfolding function
function_back names before i rest start tree f some at h =
    let s1 = steps (token i) _ tree rest h in
    let s2 = steps (name_read s1.mid) _ tree rest s1.others in
    let s3 = steps (signature s2.value s2.mid) _ tree rest s2.others in
    let s4 = steps (block deepest (statement deepest) s3.mid) _ tree rest s3.others in
    let s5 = steps (expect Name s1.mid) _ s2.value s2.mid s2.first in
    let made : UnitTree = unit.Function before s3.value s4.value in
    let is : made ≡ tree = same_value made tree s4.mid rest s4.others in
    let end : s4.mid ≡ rest = same_rest made tree s4.mid rest s4.others in
    let t = tree_parts names start before s3.value s4.value f (ap (first_of names start) is ∙ some) in
    let p = t.parts in
    let g : Function = function_at names start s3.value.name p.p p.v in
    let k0 = token_takes i s1.value s1.mid s1.first in
    let k1 = expect_takes Name s1.mid s5.value s5.mid s5.first in
    let mid_is : s5.mid ≡ s2.mid = same_rest (declared_name s5.value) s2.value s5.mid s2.mid s5.others in
    let name_is : declared_name s5.value ≡ s2.value = same_value (declared_name s5.value) s2.value s5.mid s2.mid s5.others in
    let sig = signature_back names s2.value s2.mid s3.mid s3.value p.p p.is_result s3.first in
    let body = body_back names s3.mid rest s4.value p.v p.is_value (s4.first ∙ (λ n. Ok (s4.value, end n))) in
    let b = sig.back in
    let name_so : s3.value.name ≡ declared_name s5.value = sig.name_is ∙ sym name_is in
    let at_so : s3.value.name.at ≡ relative i.start k1.l.at =
    ap (λ (n : DeclaredName). n.at) name_so ∙ ap (λ (l : Lexeme). l.at) k1.is ∙ ap (λ place. relative place k1.l.at) k0.took.start in
    let id : s3.value.name.name ≡ k1.l.name = ap (λ (n : DeclaredName). n.name) name_so ∙ ap (λ (l : Lexeme). l.name) k1.is in
    let is0 = form_of_kind names (kind.Keyword keyword.Function) k0.l (ap next_kind (sym k0.took.parts) ∙ at) (omega arith) in
    let is1 : form names k1.l ≡ name_form g.name = form_of_name names k1.l (eqb-true _ _ k1.fits_so) ∙ ap (λ id. name_form (named names id)) (sym id) in
    let front : List Lexeme = k0.l ∷ k1.l ∷ b.l2 ∷ b.l3 ∷ b.l4 ∷ b.l5 ∷ body.opens ∷ body.returns ∷ [] in
    let value : List Lexeme = body.first ∷ body.more in
    let back : List Lexeme = body.end ∷ body.closes ∷ [] in
    let left : i.left ≡ k0.l ∷ k1.l ∷ b.l2 ∷ b.l3 ∷ b.l4 ∷ b.l5 ∷ body.opens ∷ body.returns ∷ body.first ∷ body.more ++ body.end ∷ body.closes ∷ rest.left =
    k0.took.parts ∙ ap (λ ls. k0.l ∷ ls) (k1.took.parts ∙ ap (λ (j : Input). k1.l ∷ j.left) mid_is ∙ ap (λ ls. k1.l ∷ ls) (b.parts ∙ ap (λ ls. b.l2 ∷ b.l3 ∷ b.l4 ∷ b.l5 ∷ ls) body.parts)) in
    let parts : i.left ≡ ((front ++ value) ++ back) ++ rest.left =
    left ∙ ap (λ ls. k0.l ∷ k1.l ∷ b.l2 ∷ b.l3 ∷ b.l4 ∷ b.l5 ∷ body.opens ∷ body.returns ∷ body.first ∷ ls) (sym (append_assoc body.more back rest.left)) in
    let starts : s3.mid.start ≡ i.start = b.start ∙ ap (λ (j : Input). j.start) (sym mid_is) ∙ k1.took.start ∙ k0.took.start in
    let whole : UnitBack names i rest start g = record {
      front = front;
      value = value;
      back = back;
      parts = parts;
      opens = λ n. is0 n ∷ is1 n ∷ b.is2 n ∷ b.is3 n ∷ b.is4 n ∷ b.is5 n ∷ body.is_open n ∷ body.is_return n ∷ [];
      spells = body.spells;
      closes = λ n. body.is_end n ∷ body.is_close n ∷ [];
      first = k0.l;
      second = k1.l;
      others = b.l2 ∷ b.l3 ∷ b.l4 ∷ b.l5 ∷ body.opens ∷ body.returns ∷ [];
      front_is = refl;
      named_at = ap (absolute start) at_so;
      value_first = body.first;
      more = body.more;
      value_is = refl;
      placed = ap (absolute start) (body.placed ∙ ap (λ s. relative s body.first.at) starts);
    } in
    record { none = t.none; back = subst (UnitBack names i rest start) p.is whole }

-- no other row gives a first unit
declaration_row_back : (names : List (List ℕ)) (before : List Attribute) (r : Option DeclarationRow) (i rest : Input) (start : Place) (tree : UnitTree) (f : Function) → first_of names start tree ≡ Some f → declaration_row (next_kind i.left) ≡ r →
    declaration_by before r i ≡ Ok (tree, rest) → FunctionBack names before i rest start f
unfolding class interface trait_unit enum_unit alias constant
declaration_row_back names before None i rest start tree f some at h = absurd cc
declaration_row_back names before (Some row.Function) i rest start tree f some at h = function_back names before i rest start tree f some (function_row (next_kind i.left) at) h
declaration_row_back names before (Some row.Class) i rest start tree f some at h =
    let P = NoFirst names start in
    absurd (tree_never names start _ tree rest f (always_then P (class_words i) _ (λ _ i0. always_then P (class_head i0) _ (λ _ i1. always_then P (members i1) _ (λ _ i2. refl)))) some h)
declaration_row_back names before (Some row.Interface) i rest start tree f some at h =
    let P = NoFirst names start in
    absurd (tree_never names start _ tree rest f (always_then P (head keyword.Extends i) _ (λ _ i0. always_then P (interface_members i0) _ (λ _ i1. refl))) some h)
declaration_row_back names before (Some row.Trait) i rest start tree f some at h =
    let P = NoFirst names start in
    absurd (tree_never names start _ tree rest f (always_then P (head keyword.Implements i) _ (λ _ i0. always_then P (members i0) _ (λ _ i1. refl))) some h)
declaration_row_back names before (Some row.Enum) i rest start tree f some at h =
    let P = NoFirst names start in
    absurd (tree_never names start _ tree rest f (always_then P (enum_head i) _ (λ _ i0. always_then P (enum_block i0) _ (λ _ i1. refl))) some h)
declaration_row_back names before (Some row.Alias) i rest start tree f some at h =
    let P = NoFirst names start in
    absurd (tree_never names start _ tree rest f (always_then P (alias_parts i) _ (λ _ i0. refl)) some h)
declaration_row_back names before (Some row.Constant) i rest start tree f some at h =
    let P = NoFirst names start in
    absurd (tree_never names start _ tree rest f (always_then P (constant_parts i) _ (λ _ i0. refl)) some h)

-- ---- a declaration

-- a declaration began at this token
record Started (i : Input) (t : Lexeme) (mid : Input) : Type 0 where
  more : List Lexeme
  parts : i.left ≡ t ∷ more
  is : mid ≡ record i { start = t.at }

-- a declaration begins at the next token
starting_from : (i : Input) (left : List Lexeme) (t : Lexeme) (mid : Input) → i.left ≡ left → starting_at i left ≡ Ok (t, mid) → Started i t mid
starting_from i [] t mid here e = absurd cc
starting_from i (l ∷ ls) t mid here e =
    let same : l ≡ t = same_value l t (record i { start = l.at }) mid e in
    record { more = ls; parts = here ∙ ap (λ x. x ∷ ls) same; is = sym (same_rest l t (record i { start = l.at }) mid e) ∙ ap (λ (x : Lexeme). record i { start = x.at }) same }

-- the first token of a declaration is the next one
pub declaration_starts : (i rest : Input) (d : Declared) → declaration i ≡ Ok (d, rest) → (more : List Lexeme) × (i.left ≡ d.first ∷ more)
unfolding declaration starting
declaration_starts i rest d h =
    let s1 = steps (starting i) _ d rest h in
    let s2 = steps (attributes_if_any s1.mid) _ d rest s1.others in
    let s3 = steps (declared s2.value s2.mid) _ d rest s2.others in
    let made : Declared = record { first = s1.value; tree = s3.value; behind = s3.mid.behind } in
    let is : made ≡ d = same_value made d s3.mid rest s3.others in
    let st = starting_from i i.left s1.value s1.mid refl s1.first in
    (st.more, st.parts ∙ ap (λ (x : Declared). x.first ∷ st.more) is)

-- the lexemes of a declaration that is a first unit
pub record DeclarationBack (names : List (List ℕ)) (i rest : Input) (f : Function) : Type 0 where
  pub front : List Lexeme
  pub value : List Lexeme
  pub back : List Lexeme
  pub parts : i.left ≡ ((front ++ value) ++ back) ++ rest.left
  pub opens : map (form names) front ≡ opening f
  pub spells : IsSpelled f.value (map (form names) value)
  pub closes : map (form names) back ≡ closing
  pub first : Lexeme
  pub second : Lexeme
  pub others : List Lexeme
  pub front_is : front ≡ first ∷ second ∷ others
  pub named_at : f.name_at ≡ absolute first.at (relative first.at second.at)
  pub value_first : Lexeme
  pub more : List Lexeme
  pub value_is : value ≡ value_first ∷ more
  pub placed : f.at ≡ absolute first.at (relative first.at value_first.at)

-- the tokens from which a first unit was read
pub declaration_back : (names : List (List ℕ)) (i rest : Input) (d : Declared) (f : Function) → first_of names d.first.at d.tree ≡ Some f → declaration i ≡ Ok (d, rest) → DeclarationBack names i rest f
unfolding declaration starting declared
declaration_back names i rest d f some h =
    let s1 = steps (starting i) _ d rest h in
    let s2 = steps (attributes_if_any s1.mid) _ d rest s1.others in
    let s3 = steps (declared s2.value s2.mid) _ d rest s2.others in
    let made : Declared = record { first = s1.value; tree = s3.value; behind = s3.mid.behind } in
    let is : made ≡ d = same_value made d s3.mid rest s3.others in
    let end : s3.mid ≡ rest = same_rest made d s3.mid rest s3.others in
    let told : first_of names s1.value.at s3.value ≡ Some f = ap (λ (x : Declared). first_of names x.first.at x.tree) is ∙ some in
    let b = declaration_row_back names s2.value (declaration_row (next_kind s2.mid.left)) s2.mid rest s1.value.at s3.value f told refl (s3.first ∙ (λ n. Ok (s3.value, end n))) in
    let here : s2.mid ≡ s1.mid = no_attributes s1.mid s2.mid (s2.first ∙ (λ n. Ok (b.none n, s2.mid))) in
    let u = b.back in
    let st = starting_from i i.left s1.value s1.mid refl s1.first in
    let mid_is : s2.mid ≡ record i { start = s1.value.at } = here ∙ st.is in
    let left : s2.mid.left ≡ i.left = ap (λ (j : Input). j.left) mid_is in
    let parts : i.left ≡ ((u.front ++ u.value) ++ u.back) ++ rest.left = sym left ∙ u.parts in
    let both : s1.value ∷ st.more ≡ u.first ∷ (((u.second ∷ u.others) ++ u.value) ++ u.back) ++ rest.left = sym st.parts ∙ parts ∙ ap (λ ls. ((ls ++ u.value) ++ u.back) ++ rest.left) u.front_is in
    let first : s1.value ≡ u.first = same_first s1.value u.first st.more ((((u.second ∷ u.others) ++ u.value) ++ u.back) ++ rest.left) both in
    let start : s2.mid.start ≡ u.first.at = ap (λ (j : Input). j.start) mid_is ∙ ap (λ (l : Lexeme). l.at) first in
    record {
      front = u.front;
      value = u.value;
      back = u.back;
      parts = parts;
      opens = u.opens;
      spells = u.spells;
      closes = u.closes;
      first = u.first;
      second = u.second;
      others = u.others;
      front_is = u.front_is;
      named_at = u.named_at ∙ (λ n. absolute (first n).at (relative (start n) u.second.at));
      value_first = u.value_first;
      more = u.more;
      value_is = u.value_is;
      placed = u.placed ∙ (λ n. absolute (first n).at (relative (start n) u.value_first.at));
    }
