-- What the helpers of maps and sets say. No public clause names these.
use Rattle.std.specs.Prelude.{◌≡◌, false, take, Contains, IsSome, ℕ, List, Bool, true, ◌&&◌, Option, None, Some, map}
use Rattle.std.specs.List.{filter, take_while}
use Rattle.std.specs.FinMap.{FinMap, get, insert}
use Rattle.std.specs.FinSet as set
use Rattle.std.specs.BTreeMap.Range.{range_contains}
use Rattle.std.specs.declared.ops.Bound.TheVariants.{Included, Unbounded}
use Rattle.hack_types.specs.declared.ids.Kind.TheVariants.{Class}
use Rattle.hack_types.specs.declared.ids.SymbolId.{SymbolId}
use Rattle.hack_types.specs.contracts.ids.SymbolIdPartialEq.TheImpl as symbol_partial_eq
use Rattle.phase_core.specs.declared.edge.CoreEdge.{CoreEdge}
use Rattle.phase_core.specs.Orders.{symbol_order}
use Rattle.phase_core.specs.EdgeOrder.{edge_order}
use Rattle.phase_core.specs.World.{World, seen_at}
use Rattle.phase_core.specs.Images.{Image}

-- the map with this value at the symbol, where there is one
abbrev pub put_at : {V : Type 0} → FinMap symbol_order V → SymbolId → Option V → FinMap symbol_order V
put_at m s None = m
put_at m s (Some v) = insert m s v

-- the map with the value that another map has at this symbol
abbrev pub put_from : {V : Type 0} → FinMap symbol_order V → SymbolId → FinMap symbol_order V → FinMap symbol_order V
put_from from s m = put_at m s (get from s)

-- as `==` has it
abbrev pub symbol_eq : SymbolId → SymbolId → Bool
symbol_eq = symbol_partial_eq.ghosts.eq

-- whether it is a fold edge from this symbol
abbrev pub is_fold_from : SymbolId → CoreEdge → Bool
is_fold_from from e = e.fold && symbol_eq e.from from

-- the first edge that could be a fold edge from this symbol
abbrev pub first_fold : SymbolId → CoreEdge
first_fold from = record { fold = true; from = from; to = record { kind = Class; name = 0 } }

-- where the fold edges from this symbol lead, among sorted edges
abbrev pub folds_behind : SymbolId → List CoreEdge → List SymbolId
folds_behind from edges =
    map (λ e. e.to) (take_while (is_fold_from from) (filter (range_contains edge_order (Included (first_fold from)) Unbounded) edges))

-- of the first so many symbols, the map has what the other has, without those of a set
pub record CopiedSoFar {V : Type 0} (from : FinMap symbol_order V) (gone : set.FinSet symbol_order) (symbols : List SymbolId) (n : ℕ) (rest : FinMap symbol_order V) : Type 0 where
  pub only : (s : SymbolId) (v : V) → get rest s ≡ Some v → (set.contains gone s ≡ false) × (get from s ≡ Some v)
  pub all : (s : SymbolId) → Contains (take n symbols) s → set.contains gone s ≡ false → get rest s ≡ get from s

-- the image has the first so many symbols with what is seen of them, and no symbol but these
pub record Imaged (world : World) (symbols : List SymbolId) (n : ℕ) (image : Image) : Type 0 where
  pub only : (t : SymbolId) → IsSome (get image t) → Contains symbols t
  pub all : (t : SymbolId) → Contains (take n symbols) t → get image t ≡ Some (seen_at world t)

-- the set has all of these
abbrev pub AreIn : set.FinSet symbol_order → List SymbolId → Type 0
AreIn those these = (s : SymbolId) → Contains these s → set.contains those s ≡ true

-- none of the first so many has P
pub record NoneSoFar {X : Type 0} (P : X → Type 0) (xs : List X) (n : ℕ) : Type 0 where
  pub none : (x : X) → Contains (take n xs) x → ¬ P x

-- all of the first so many have P
pub record AllSoFar {X : Type 0} (P : X → Type 0) (xs : List X) (n : ℕ) : Type 0 where
  pub all : (x : X) → Contains (take n xs) x → P x
