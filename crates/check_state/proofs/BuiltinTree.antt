-- The builtin text has a tree, of six classes, and no fault.
use Rattle.std.proofs.Common.{◌≡◌, ◌<◌, ℕ, zero, suc, List, [], ◌∷◌, length, map, get_or, refl, sym, ap, subst, ◌∙◌, arith}
use Rattle.std.specs.List.{AllByRecursion}
use Rattle.std.proofs.lemmas.List.{length-map}
use Rattle.hack_types.specs.declared.place.Place.{Place}
use Rattle.hack_types.specs.declared.ids.Kind.TheVariants as symbol
use Rattle.hack_builtin.specs.Builtin.{builtin_text}
use Rattle.hack_lexer.specs.declared.kind.TokenKind.{TokenKind}
use Rattle.hack_lexer.specs.declared.kind.TokenKind.TheVariants.{Name}
use Rattle.hack_lexer.specs.declared.token.Token.{Token}
use Rattle.hack_lexer.specs.Kinds.{sort_of_kind}
use Rattle.hack_lexer.proofs.Cuts.{one_list}
use Rattle.hack_lexer.proofs.SameKind.{one_kind}
use Rattle.hack_tree.specs.declared.declaration.Unit.{Unit as UnitOf}
use Rattle.hack_tree.specs.declared.declaration.FileTree.{FileTree}
use Rattle.hack_parse_expr.specs.declared.lexeme.Lexeme.{Lexeme}
use Rattle.hack_parse_expr.specs.Symbols.{File, Declared, rule}
use Rattle.hack_parse_expr.specs.Parsers.{at_front}
use Rattle.hack_parse_expr.proofs.Runs.{stands_once}
use Rattle.hack_parse_file.specs.Lexemes.{AreLexemes}
use Rattle.hack_parse_file.specs.Files.{kind_of, unit_of, end_of, IsInput, IsTree, IsFileTree, IsFileFault}
use Rattle.hack_parse_file.proofs.Lexed.{none_yet}
use Rattle.hack_parse_file.proofs.Named.{no_token, AreNamed, more_named}
use Rattle.hack_parse_file.proofs.OneTree.{tree_or_fault}
use Rattle.check_state.proofs.BuiltinTreeKinds.{builtin_kinds, of_kinds}
use Rattle.check_state.proofs.BuiltinTreeTokens.{builtin_cut}
use Rattle.check_state.proofs.BuiltinTreeParse.{AreSixClasses, builtin_stands}

both_same : (x y : ℕ) (xs ys : List ℕ) → x ∷ xs ≡ y ∷ ys → (x ≡ y) × (xs ≡ ys)
both_same x y xs ys e = (cc, cc)

-- ---- tokens of these kinds

-- what stands for a token that isn't there
no_lexeme : Lexeme
no_lexeme = record { kind = Name; at = record { line = 1; column = 1 }; first = 0; behind = 0; name = 0 }

-- the tokens with their names have the sorts of the tokens
sorts_same : (names : List (List ℕ)) (bytes : List ℕ) (ts : List Token) (ls : List Lexeme) → AreLexemes names bytes ts ls → map (λ l. sort_of_kind l.kind) ls ≡ map (λ t. t.sort) ts
sorts_same names bytes [] [] h = refl
sorts_same names bytes (t ∷ ts) (l ∷ ls) h = let more = sorts_same names bytes ts ls h.1 in λ i. h.0.kind i ∷ more i
sorts_same names bytes [] (l ∷ ls) h = absurd h
sorts_same names bytes (t ∷ ts) [] h = absurd h

-- tokens whose kinds have these sorts are of these kinds
kinds_are : (ks : List TokenKind) (ls : List Lexeme) → map (λ l. sort_of_kind l.kind) ls ≡ map sort_of_kind ks → ls ≡ of_kinds ks (λ n. get_or ls n no_lexeme)
kinds_are [] [] e = refl
kinds_are (k ∷ ks) (l ∷ ls) e =
    let same = both_same (sort_of_kind l.kind) (sort_of_kind k) (map (λ m. sort_of_kind m.kind) ls) (map sort_of_kind ks) e in
    let kind = one_kind l.kind k same.0 in
    let more = kinds_are ks ls same.1 in
    λ i. record l { kind = kind i } ∷ more i
kinds_are [] (l ∷ ls) e = absurd (cc)
kinds_are (k ∷ ks) [] e = absurd (cc)

-- so the tokens of the builtin text are of its kinds, whatever the names are
input_is : (names : List (List ℕ)) (ls : List Lexeme) → IsInput names builtin_text ls → ls ≡ of_kinds builtin_kinds (λ n. get_or ls n no_lexeme)
input_is names ls h =
    let same : h.tokens ≡ builtin_cut.tokens = one_list builtin_text h.tokens builtin_cut.tokens h.cut builtin_cut.cut in
    kinds_are builtin_kinds ls (sorts_same names builtin_text h.tokens ls h.lexed ∙ ap (map (λ t. t.sort)) same ∙ builtin_cut.sorts_are)

-- and they are six classes
input_stands : (names : List (List ℕ)) (ls : List Lexeme) (end : Place) → IsInput names builtin_text ls → AreSixClasses ls end
input_stands names ls end h = subst (λ ts. AreSixClasses ts end) (sym (input_is names ls h)) (builtin_stands (λ n. get_or ls n no_lexeme) end)

-- ---- what every tree is

units_are : (bytes : List ℕ) (ds : List Declared) → AllByRecursion (λ (d : Declared). kind_of d.tree ≡ symbol.Class) ds → AllByRecursion (λ (u : UnitOf). u.symbol.kind ≡ symbol.Class) (map (unit_of bytes) ds)
units_are bytes [] h = tt
units_are bytes (d ∷ ds) h = (h.0, units_are bytes ds h.1)

declared_are : (names : List (List ℕ)) (tree : FileTree) → (h : IsTree names builtin_text tree) → AllByRecursion (λ (d : Declared). kind_of d.tree ≡ symbol.Class) h.declared × (length h.declared ≡ 6)
declared_are names tree h =
    let six = input_stands names h.lexemes (end_of builtin_text) h.input in
    let same = stands_once (rule File) (at_front h.lexemes (end_of builtin_text)) six.declared h.declared six.rest h.rest six.stands h.stands in
    (subst (AllByRecursion (λ (d : Declared). kind_of d.tree ≡ symbol.Class)) same.0 six.classes, ap length (sym same.0) ∙ six.six)

-- each unit of the builtin text is a class
pub builtin_units : (names : List (List ℕ)) (tree : FileTree) → IsTree names builtin_text tree → AllByRecursion (λ (u : UnitOf). u.symbol.kind ≡ symbol.Class) tree.units
builtin_units names tree h =
    subst (AllByRecursion (λ (u : UnitOf). u.symbol.kind ≡ symbol.Class)) (sym h.units) (units_are builtin_text h.declared (declared_are names tree h).0)

-- there are six
pub builtin_six : (names : List (List ℕ)) (tree : FileTree) → IsTree names builtin_text tree → length tree.units ≡ 6
builtin_six names tree h = ap length h.units ∙ length-map h.declared (unit_of builtin_text) ∙ (declared_are names tree h).1

-- ---- tokens with their names

-- the kind of the token at an index
kind_at : (ks : List TokenKind) (ts : List Token) → map (λ t. t.sort) ts ≡ map sort_of_kind ks → (index : ℕ) → index < length ts → (k : TokenKind) × (sort_of_kind k ≡ (get_or ts index no_token).sort)
kind_at ks [] e index l = absurd (omega arith)
kind_at [] (t ∷ ts) e index l = absurd (cc)
kind_at (k ∷ ks) (t ∷ ts) e zero l = (k, sym (both_same t.sort (sort_of_kind k) (map (λ u. u.sort) ts) (map sort_of_kind ks) e).0)
kind_at (k ∷ ks) (t ∷ ts) e (suc index) l = kind_at ks ts (both_same t.sort (sort_of_kind k) (map (λ u. u.sort) ts) (map sort_of_kind ks) e).1 index (omega arith)

-- the tokens of the builtin text with their names, whatever names are there before
builtin_named : (before : List (List ℕ)) → AreNamed before before builtin_text builtin_cut.tokens
builtin_named before =
    more_named before builtin_text builtin_cut.tokens builtin_cut.cut (kind_at builtin_kinds builtin_cut.tokens builtin_cut.sorts_are) (length builtin_cut.tokens) 0 before [] (omega arith)
    (none_yet before builtin_text builtin_cut.tokens [] refl)

-- ---- the tree

tree_of : (before : List (List ℕ)) → AreNamed before before builtin_text builtin_cut.tokens → (names : List (List ℕ)) × (tree : FileTree) × IsFileTree before names builtin_text tree
tree_of before h =
    let input : IsInput h.names builtin_text h.lexemes = record { tokens = builtin_cut.tokens; cut = h.lexed.cut; lexed = h.lexed.lexed } in
    let six = input_stands h.names h.lexemes (end_of builtin_text) input in (
      h.names,
      record { units = map (unit_of builtin_text) six.declared },
      record {
        lexemes = h.lexemes;
        input = input;
        named = h.lexed.named;
        declared = six.declared;
        rest = six.rest;
        stands = six.stands;
        all = six.all;
        units = refl;
      },
    )

-- the builtin text has a tree, whatever names are there before
pub builtin_has_a_tree : (before : List (List ℕ)) → (names : List (List ℕ)) × (tree : FileTree) × IsFileTree before names builtin_text tree
builtin_has_a_tree before = tree_of before (builtin_named before)

-- so it has no fault
pub builtin_has_no_fault : (place : Place) (code : ℕ) → IsFileFault builtin_text place code → ⊥
builtin_has_no_fault place code h = let t = builtin_has_a_tree [] in tree_or_fault [] t.0 builtin_text t.1 place code t.2 h
