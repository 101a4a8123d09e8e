-- The elements of containers: their types, and then what is expected of each.
use Rattle.std.proofs.Common.{◌≡◌, ◌∙◌, ℕ, suc, Result, Ok, List, [], ◌∷◌, All, length, map, refl, sym, ap, subst}
use Rattle.hack_tree.specs.declared.expression.Expr.{Expr}
use Rattle.hack_tree.specs.declared.written_type.Container.{Container}
use Rattle.hack_tree.specs.declared.written_type.Container.TheVariants as container
use Rattle.hack_types.specs.Substituted.{limited}
use Rattle.hack_types.specs.UnionOf.{union_of}
use Rattle.hack_types.specs.declared.hack_type.HackType.{HackType}
use Rattle.hack_types.specs.declared.hack_type.HackType.TheVariants as type
use Rattle.hack_decls.specs.DeclState.{DeclState, Map, Symbols}
use Rattle.hack_decls.specs.Names.{TypeIn}
use Rattle.hack_decls.specs.declared.stop.DeclStop.{DeclStop}
use Rattle.hack_parts.specs.ExprIn.{ExprIn}
use Rattle.hack_parts.specs.Parts.{value_of}
use Rattle.hack_rules.specs.Calls.{argument, arguments_of}
use Rattle.hack_rules.specs.Expressions.{meaning_of}
use Rattle.hack_rules.specs.Values.{container_row, types_of}
use Rattle.hack_rules.specs.Walks.{Setting, State, ◌>>=◌, ◌>>◌, each, expect, for_each, for_pairs, pure}
use Rattle.hack_rules.specs.WrittenTypes.{Argument}
use Rattle.hack_walk.specs.Checks.{Walks}
use Rattle.hack_walk.specs.WalkLaws.{walks_as, walks_then}
use Rattle.hack_values.specs.inside.Rows.{contained, expect_key}

-- elements with their types
abbrev with_places : List Expr → List HackType → List Argument
with_places (e ∷ es) (ty ∷ types) = record { at = (meaning_of e).at; ty = ty } ∷ with_places es types
with_places _ _ = []

module _ (setting : Setting) (m : Map) where
  abbrev types_from : List Expr → State → List HackType × State
  types_from es s = each value_of es setting m s

  typed : (es : List Expr) (s : State) → arguments_of (map meaning_of es) setting m s ≡ (with_places es (types_from es s).0, (types_from es s).1)
  unfolding arguments_of argument each ◌>>=◌ pure
  typed [] s = refl
  typed (e ∷ es) s =
      let first = value_of e setting m s in
      ap (λ (end : List Argument × State). (record { at = (meaning_of e).at; ty = first.0 } ∷ end.0, end.1)) (typed es first.1)

  types_back : (es : List Expr) (s : State) → types_of (with_places es (types_from es s).0) ≡ (types_from es s).0
  unfolding each ◌>>=◌ pure
  types_back [] s = refl
  types_back (e ∷ es) s = let first = value_of e setting m s in ap (λ (types : List HackType). first.0 ∷ types) (types_back es first.1)

  each_count : (es : List Expr) (s : State) → length es ≡ length (types_from es s).0
  unfolding each ◌>>=◌ pure
  each_count [] s = refl
  each_count (e ∷ es) s = let first = value_of e setting m s in ap (λ (n : ℕ). suc n) (each_count es first.1)

  expected_each : (es : List Expr) (types : List HackType) (s : State)
      → for_each (λ (a : Argument). expect a.at type.Arraykey a.ty) (with_places es types) setting m s ≡ for_pairs expect_key es types setting m s
  unfolding for_each for_pairs ◌>>◌ ◌>>=◌ pure
  expected_each [] [] s = refl
  expected_each [] (ty ∷ types) s = refl
  expected_each (e ∷ es) [] s = refl
  expected_each (e ∷ es) (ty ∷ types) s = expected_each es types (expect_key e ty setting m s).1

  -- the row in two: the types of the elements, and what goes on from them
  container_is : (c : Container) (es : List Expr) (s : State) → container_row c (map meaning_of es) setting m s ≡ (each value_of es >>= contained c es) setting m s
  unfolding container_row contained ◌>>◌ ◌>>=◌ pure
  container_is container.Vec es s =
      let all = types_from es s in
      ap (λ (end : List Argument × State). (limited (type.Vector (union_of (types_of end.0))), end.1)) (typed es s)
      ∙ ap (λ (types : List HackType). (limited (type.Vector (union_of types)), all.1)) (types_back es s)
  container_is container.Keyset es s =
      let all = types_from es s in
      ap (λ (end : List Argument × State). (limited (type.Keyset (union_of (types_of end.0))), (for_each (λ (a : Argument). expect a.at type.Arraykey a.ty) end.0 setting m end.1).1)) (typed es s)
      ∙ ap (λ (types : List HackType). (limited (type.Keyset (union_of types)), (for_each (λ (a : Argument). expect a.at type.Arraykey a.ty) (with_places es all.0) setting m all.1).1)) (types_back es s)
      ∙ ap (λ (end : Unit {0} × State). (limited (type.Keyset (union_of all.0)), end.1)) (expected_each es all.0 all.1)

module _ {Base Held : Type 0} {setting : Setting} {old mid : DeclState Base Held} {before between : State} {types : List HackType} where
  pub same_count : {Names : Symbols → Type 0} {Gives : Symbols → List HackType → Type 0} (es : List Expr)
      → Walks (each value_of es) setting old before (Ok types) mid between Names Gives → length es ≡ length types
  same_count es walks =
      each_count setting old.map es before ∙ ap (λ (end : List HackType × State). length end.0) (walks.asks.means old.map (λ s h. refl))

  pub container_walks : {new : DeclState Base Held} {behind : State} (es : List Expr) (c : Container) (given : List HackType) (result : Result HackType DeclStop) → given ≡ types
      → Walks (each value_of es) setting old before (Ok types) mid between (λ symbols. All (ExprIn setting.scope symbols) es) (λ symbols ts. All (TypeIn symbols) ts)
      → Walks (contained c es given) setting mid between result new behind (λ symbols. All (TypeIn symbols) given) TypeIn
      → Walks (container_row c (map meaning_of es)) setting old before result new behind (λ symbols. All (ExprIn setting.scope symbols) es) TypeIn
  container_walks es c given result is first second =
      walks_as _ result
      (walks_then (contained c es) result first
      (walks_as (contained c es types) result second (λ m. ap (λ (ts : List HackType). contained c es ts setting m between) (sym is)))
      (λ symbols n. n) (λ symbols n g. subst (λ (ts : List HackType). All (TypeIn symbols) ts) (sym is) g) (λ symbols b n g h. h))
      (λ m. container_is setting m c es before)
