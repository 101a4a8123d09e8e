-- What upper layers may cite: first units by their tokens and by their trees, their names, and the order of units.
use Rattle.std.proofs.Common.{◌≡◌, ◌≢◌, ◌↔◌, ℕ, ◌+◌, ◌^◌, ◌<◌, ◌≤◌, List, [], ◌∷◌, map, zero, suc, length, slice_get, Option, Some, None, option_map, refl, sym, ap, ◌∙◌, subst, arith}
use Rattle.std.specs.declared.cmp.Ordering.TheVariants.{Greater}
use Rattle.hack_types.specs.declared.place.Place.{Place}
use Rattle.hack_types.specs.declared.ids.Kind.TheVariants as kinds
use Rattle.hack_types.specs.Report.{place_order}
use Rattle.hack_lexer.proofs.InOrder.{in_order}
use Rattle.hack_tree.specs.declared.declaration.DeclaredName.{DeclaredName}
use Rattle.hack_tree.specs.declared.declaration.UnitTree.{UnitTree}
use Rattle.hack_tree.specs.declared.declaration.UnitTree.TheVariants as unit
use Rattle.hack_tree.specs.declared.declaration.Unit.{Unit as UnitOf}
use Rattle.hack_tree.specs.declared.declaration.FileTree.{FileTree}
use Rattle.hack_parse_expr.specs.Input.{Input}
use Rattle.hack_parse_expr.specs.Symbols.{Declared}
use Rattle.hack_parse_expr.specs.Rows.{begins_declaration}
use Rattle.hack_parse_expr.specs.Parsers.{at_front}
use Rattle.hack_parse_file.specs.Lexemes.{IsIdOf}
use Rattle.hack_parse_decl.specs.Declarations.{declaration, declarations}
use Rattle.hack_parse_file.specs.Files.{absolute, name_of, symbol_of, unit_of, end_of, IsTree, IsFileFault}
use Rattle.hack_parse_decl.proofs.DeclarationsFollow.{files_stand}
use Rattle.hack_first.specs.declared.unit.Primitive.{Primitive}
use Rattle.hack_first.specs.declared.unit.Returned.{Returned}
use Rattle.hack_first.specs.declared.unit.Returned.TheVariants.{Call}
use Rattle.hack_first.specs.declared.unit.FirstUnit.{FirstUnit}
use Rattle.hack_first.specs.Functions.{Function, named, function_of}
use Rattle.hack_first.specs.FirstUnits.{IsFirstBody}
use Rattle.hack_first.specs.FirstTrees.{result_of, returned, unit_by, first_in, first_units}
use Rattle.hack_first.proofs.NamedTrees.{functions_are}
use Rattle.hack_first.proofs.Gives.{Each, many_each}
use Rattle.hack_first.proofs.Bodies.{tree_of_body, body_of_tree, no_body}
use Rattle.hack_first.proofs.OneList.{one_body}
use Rattle.hack_first.proofs.EachUnit.{read_later, both_read_later, starts_in_order, name_id as name_id_in, call_id as call_id_in}

-- ---- bodies and trees

-- a file is short
short : (bytes : List ℕ) → length bytes ≤ 2 ^ 20 → length bytes + 1 < 2 ^ 32
short bytes few = omega arith

-- the first units whose functions are these
mapped : (names : List (List ℕ)) (found : Option (List FirstUnit)) (functions : List Function) → option_map (map (function_of names)) found ≡ Some functions →
    (firsts : List FirstUnit) × (found ≡ Some firsts) × (functions ≡ map (function_of names) firsts)
mapped names None functions e = absurd cc
mapped names (Some firsts) functions e = let same : map (function_of names) firsts ≡ functions = cc in (firsts, refl, sym same)

-- a body of first units is a tree whose declarations all are, and of the same functions
pub body_is_tree : (names : List (List ℕ)) (bytes : List ℕ) (tree : FileTree) (functions : List Function) → length bytes ≤ 2 ^ 20 → IsTree names bytes tree →
    IsFirstBody bytes functions ↔ ((firsts : List FirstUnit) × (first_units tree.units ≡ Some firsts) × (functions ≡ map (function_of names) firsts))
body_is_tree names bytes tree functions few is = (
  λ body. mapped names (first_units tree.units) functions (sym (functions_are names tree.units) ∙ tree_of_body names bytes tree functions (short bytes few) is body),
  λ there. body_of_tree names bytes tree functions (short bytes few) is (functions_are names tree.units ∙ ap (option_map (map (function_of names))) there.1 ∙ ap Some (sym there.2)),
)

-- a text with a fault is no body of first units
pub fault_is_no_body : (bytes : List ℕ) (place : Place) (code : ℕ) (functions : List Function) → length bytes ≤ 2 ^ 20 → IsFileFault bytes place code → IsFirstBody bytes functions → ⊥
fault_is_no_body bytes place code functions few fault body = no_body bytes place code functions (short bytes few) fault body

-- a text is one list of first units at most
pub one_list : (bytes : List ℕ) (functions others : List Function) → IsFirstBody bytes functions → IsFirstBody bytes others → functions ≡ others
one_list bytes functions others one other = one_body bytes functions others one other

-- ---- a unit that is a first unit

-- the name of a first unit is that of its parts
name_by : (start : Place) (name : DeclaredName) (result : Option Primitive) (value : Option (Returned × Place)) (x : FirstUnit) → unit_by start name result value ≡ Some x →
    (name.name ≡ x.name) × (x.name_at ≡ absolute start name.at)
name_by start name (Some result) (Some value) x e =
    let same : record { name = name.name; name_at = absolute start name.at; result = result; returned = value.0; at = absolute start value.1 } ≡ x = cc in
    (ap (λ (f : FirstUnit). f.name) same, ap (λ (f : FirstUnit). f.name_at) (sym same))
name_by start name (Some result) None x e = absurd cc
name_by start name None value x e = absurd cc

-- a tree that is a first unit declares a function of its name
symbol_in : (start : Place) (tree : UnitTree) (x : FirstUnit) → first_in start tree ≡ Some x → (symbol_of tree ≡ record { kind = kinds.Func; name = x.name }) × (x.name_at ≡ absolute start (name_of tree).at)
symbol_in start (unit.Function [] callable body) x e =
    let n = name_by start callable.name (result_of callable.type_parameters callable.parameters callable.result) (returned body) x e in
    (λ k. record { kind = kinds.Func; name = n.0 k }, n.1)
symbol_in start (unit.Function (a ∷ attributes) callable body) x e = absurd cc
symbol_in start (unit.Class attributes modifiers name types extends implements members) x e = absurd cc
symbol_in start (unit.Interface attributes name types extends members) x e = absurd cc
symbol_in start (unit.Trait attributes name types implements members) x e = absurd cc
symbol_in start (unit.Enum attributes name base bound cases) x e = absurd cc
symbol_in start (unit.Alias attributes name types aliased) x e = absurd cc
symbol_in start (unit.Constant attributes written name value) x e = absurd cc

-- the declaration of a unit
mapped_at : (bytes : List ℕ) (declared : List Declared) (k : ℕ) (u : UnitOf) → slice_get (map (unit_of bytes) declared) k ≡ Some u → (d : Declared) × (slice_get declared k ≡ Some d) × (unit_of bytes d ≡ u)
mapped_at bytes [] k u e = absurd cc
mapped_at bytes (d ∷ declared) zero u e = (d, refl, cc)
mapped_at bytes (d ∷ declared) (suc k) u e = mapped_at bytes declared k u e

-- the declarations of a file were read one after another
each_declared : (names : List (List ℕ)) (bytes : List ℕ) (tree : FileTree) (is : IsTree names bytes tree) → Each declaration (at_front is.lexemes (end_of bytes)) is.declared is.rest
unfolding declarations
each_declared names bytes tree is = many_each begins_declaration declaration is.declared (at_front is.lexemes (end_of bytes)) is.rest ((files_stand is.lexemes (end_of bytes) is.declared is.rest).0 is.stands)

unit_at : (names : List (List ℕ)) (bytes : List ℕ) (tree : FileTree) (is : IsTree names bytes tree) (k : ℕ) (u : UnitOf) → slice_get tree.units k ≡ Some u → (d : Declared) × (slice_get is.declared k ≡ Some d) × (unit_of bytes d ≡ u)
unit_at names bytes tree is k u at = mapped_at bytes is.declared k u (ap (λ us. slice_get us k) (sym is.units) ∙ at)

-- a unit that is a first unit declares a function of its name, at the place of its name
pub unit_is_function : (names : List (List ℕ)) (bytes : List ℕ) (tree : FileTree) (k : ℕ) (u : UnitOf) (x : FirstUnit) → IsTree names bytes tree → slice_get tree.units k ≡ Some u → first_in u.start u.tree ≡ Some x →
    (u.symbol ≡ record { kind = kinds.Func; name = x.name }) × (x.name_at ≡ u.name_at)
unit_is_function names bytes tree k u x is at some =
    let d = unit_at names bytes tree is k u at in
    let s = symbol_in d.0.first.at d.0.tree x (ap (λ (v : UnitOf). first_in v.start v.tree) d.2 ∙ some) in
    (ap (λ (v : UnitOf). v.symbol) (sym d.2) ∙ s.0, s.1 ∙ ap (λ (v : UnitOf). v.name_at) d.2)

-- the id of its name is that of its text
pub name_id : (names : List (List ℕ)) (bytes : List ℕ) (tree : FileTree) (k : ℕ) (u : UnitOf) (x : FirstUnit) → IsTree names bytes tree → slice_get tree.units k ≡ Some u → first_in u.start u.tree ≡ Some x →
    IsIdOf names (named names x.name) x.name
name_id names bytes tree k u x is at some =
    let d = unit_at names bytes tree is k u at in
    let i : Input = at_front is.lexemes (end_of bytes) in
    name_id_in names bytes is.input.tokens i d.0 x is.input.lexed (in_order bytes is.input.tokens is.input.cut)
    (read_later is.declared k i is.rest d.0 (each_declared names bytes tree is) d.1) (ap (λ (v : UnitOf). first_in v.start v.tree) d.2 ∙ some)

-- so is the id of the name that it calls
pub call_id : (names : List (List ℕ)) (bytes : List ℕ) (tree : FileTree) (k : ℕ) (u : UnitOf) (x : FirstUnit) (id : ℕ) → IsTree names bytes tree → slice_get tree.units k ≡ Some u → first_in u.start u.tree ≡ Some x →
    x.returned ≡ Call id → IsIdOf names (named names id) id
call_id names bytes tree k u x id is at some calls =
    let d = unit_at names bytes tree is k u at in
    let i : Input = at_front is.lexemes (end_of bytes) in
    call_id_in names bytes is.input.tokens i d.0 x id is.input.lexed (in_order bytes is.input.tokens is.input.cut)
    (read_later is.declared k i is.rest d.0 (each_declared names bytes tree is) d.1) (ap (λ (v : UnitOf). first_in v.start v.tree) d.2 ∙ some) calls

-- ---- units in order

-- the units of a file start one after another
pub units_in_order : (names : List (List ℕ)) (bytes : List ℕ) (tree : FileTree) (k m : ℕ) (u v : UnitOf) → IsTree names bytes tree → k < m → slice_get tree.units k ≡ Some u → slice_get tree.units m ≡ Some v →
    place_order u.start v.start ≢ Greater
units_in_order names bytes tree k m u v is lt at later =
    let d = unit_at names bytes tree is k u at in
    let c = unit_at names bytes tree is m v later in
    let i : Input = at_front is.lexemes (end_of bytes) in
    let both = both_read_later is.declared k m i is.rest d.0 c.0 (each_declared names bytes tree is) lt d.1 c.1 in
    subst (λ (w : UnitOf). place_order u.start w.start ≢ Greater) c.2 (subst (λ (w : UnitOf). place_order w.start c.0.first.at ≢ Greater) d.2
    (starts_in_order names bytes is.input.tokens i d.0 c.0 is.input.lexed (in_order bytes is.input.tokens is.input.cut) both))
