-- What a `MapDecls` stands for, and what putting a declaration does to it.
use Rattle.std.proofs.Common.{◌≡◌, ◌≢◌, ◌<◌, ◌-◌, ◌^◌, ◌⊎◌, inl, inr, true, Option, Some, Err, [], arith}
use Rattle.std.specs.BTreeMap as tree
use Rattle.std.specs.BTreeSet as sorted
use Rattle.std.specs.declared.cmp.Ordering.{Ordering}
use Rattle.std.specs.Ordering.{nat_cmp, ordering_then}
use Rattle.hack_types.specs.contracts.ids.KindOrd.TheImpl as kind_ord
use Rattle.hack_types.specs.declared.ids.Kind.{Kind}
use Rattle.hack_types.specs.declared.ids.SymbolId.{SymbolId}
use Rattle.hack_decls.specs.declared.folded.Folded.{Folded}
use Rattle.hack_decls.specs.declared.map_decls.MapDecls.{MapDecls}
use Rattle.hack_decls.specs.declared.stop.DeclStop.TheVariants as stop
use Rattle.hack_decls.specs.declared.stop.EdgesFull.{EdgesFull}
use Rattle.hack_decls.specs.DeclState.{DeclState, Map}
use Rattle.hack_decls.specs.Looks.{Looks}

-- as `Kind` has it
abbrev pub kind_order : Kind → Kind → Ordering
kind_order = kind_ord.ghosts.cmp

-- by kind, then by the id of the name, as `SymbolId` has it
abbrev pub symbol_order : SymbolId → SymbolId → Ordering
symbol_order a b = ordering_then (kind_order a.kind b.kind) (nat_cmp a.name b.name)

-- a map never lacks an edge word, and keeps nothing but what is asked for
abbrev pub map_state : MapDecls → DeclState (Unit {0}) (Unit {0})
map_state decls = record {
  map = λ s. tree.get symbol_order decls.entries s;
  noted = λ s. sorted.contains symbol_order decls.noted s;
  fulls = 0;
  base = tt;
  held = [];
  clean = true;
}

-- the second map has this declaration under the symbol, and under each other symbol what the first has
pub record Declares (old : Map) (s : SymbolId) (folded : Folded) (new : Map) : Type 0 where
  pub here : new s ≡ Some folded
  pub elsewhere : (t : SymbolId) → t ≢ s → new t ≡ old t

-- a map has no edge words, so it never says that they are full
no_cause : (0 < 0) ⊎ (0 ≡ 2 ^ 64 - 1) → ⊥
no_cause (inl less) = omega arith
no_cause (inr same) = omega arith

pub never_full : {A : Type 0} {Is : Option Folded → A → Type 0} (old new : MapDecls) (s : SymbolId) (full : EdgesFull)
    → Looks (map_state old) s (Err (stop.EdgesFull full)) (map_state new) Is → ⊥
never_full old new s full looks = no_cause looks.keeps.cause
