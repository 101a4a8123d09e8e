-- What it does to a plain map that a symbol is noted or declared, and what a lookup answers then.
use Rattle.std.proofs.Common.{◌≡◌, ◌≢◌, ◌⊎◌, Bool, true, false, cond, Option, Some, Ok, IsTrue, refl, sym, ap, subst, ◌∙◌, inl, inr, arith}
use Rattle.std.specs.BTreeMap as tree
use Rattle.std.specs.BTreeSet as sorted
use Rattle.std.specs.FinMap.{IsAntisymmetric, nat_cmp-IsAntisymmetric}
use Rattle.std.specs.Ordering.{is_eq, ordering_then}
use Rattle.std.specs.declared.cmp.Ordering.{Ordering}
use Rattle.std.specs.declared.cmp.Ordering.TheVariants.{Less, Equal, Greater}
use Rattle.hack_types.specs.declared.ids.Kind.TheVariants.{Class, Func, Const}
use Rattle.hack_types.specs.declared.ids.SymbolId.{SymbolId}
use Rattle.hack_decls.specs.AskLaws.{picked}
use Rattle.hack_decls.specs.DeclState.{DeclState, Map}
use Rattle.hack_decls.specs.declared.folded.Folded.{Folded}
use Rattle.hack_decls.specs.declared.map_decls.MapDecls.{MapDecls}
use Rattle.hack_decls.specs.Looks.{Looks}
use Rattle.hack_decls.specs.PlainMap.{Declares, kind_order, symbol_order, map_state}

-- ---- the order tells all symbols apart

pub both_tie : (p q : Ordering) → ordering_then p q ≡ Equal → (p ≡ Equal) × (q ≡ Equal)
both_tie Less q e = absurd cc
both_tie Equal q e = (refl, e)
both_tie Greater q e = absurd cc

kind_same : IsAntisymmetric kind_order
kind_same Class Class e = refl
kind_same Func Func e = refl
kind_same Const Const e = refl
kind_same Class Func e = absurd cc
kind_same Class Const e = absurd cc
kind_same Func Class e = absurd cc
kind_same Func Const e = absurd cc
kind_same Const Class e = absurd cc
kind_same Const Func e = absurd cc

symbol_same : IsAntisymmetric symbol_order
symbol_same x y e =
    let parts = both_tie _ _ e in
    let kind = kind_same x.kind y.kind parts.0 in
    let name = nat_cmp-IsAntisymmetric x.name y.name parts.1 in
    λ i. record { kind = kind i; name = name i }

not_tied : (s t : SymbolId) → t ≢ s → (o : Ordering) → symbol_order s t ≡ o → is_eq o ≡ false
not_tied s t apart Less e = refl
not_tied s t apart Equal e = absurd (apart (sym (symbol_same s t e)))
not_tied s t apart Greater e = refl

-- ---- a note

stays : (here before : Bool) → IsTrue before → IsTrue (cond here true before)
stays true before h = refl
stays false before h = h

new_or_old : (s t : SymbolId) (o : Ordering) → symbol_order s t ≡ o → (before : Bool) → IsTrue (cond (is_eq o) true before) → IsTrue before ⊎ (t ≡ s)
new_or_old s t Less e before h = inl h
new_or_old s t Equal e before h = inr (sym (symbol_same s t e))
new_or_old s t Greater e before h = inl h

pub noted : (old : MapDecls) (symbols : sorted.BTreeSet SymbolId) (s : SymbolId) → sorted.Updates symbol_order old.noted symbols s true
    → Looks (map_state old) s (Ok (tt {0})) (map_state (record { entries = old.entries; noted = symbols })) (λ entry answer. Unit {0})
noted old symbols s updates = record {
  keeps = record {
    map = refl;
    base = refl;
    noted = λ t h. subst IsTrue (sym (updates.0 t)) (stays (is_eq (symbol_order s t)) (sorted.contains symbol_order old.noted t) h);
    held = λ x h. h;
    fulls = omega arith;
    clean = λ h. h;
    steady = (refl, refl);
    cause = tt;
  };
  noted = updates.1;
  only = λ t h. new_or_old s t (symbol_order s t) refl (sorted.contains symbol_order old.noted t) (subst IsTrue (updates.0 t) h);
  answer = tt;
}

-- ---- a declaration

pub declared : (old : MapDecls) (entries : tree.BTreeMap SymbolId Folded) (s : SymbolId) (folded : Folded) → tree.Updates symbol_order old.entries entries s (Some folded)
    → Declares (map_state old).map s folded (map_state (record { entries = entries; noted = old.noted })).map
declared old entries s folded updates = record {
  here = updates.1;
  elsewhere = λ t apart. updates.2 t (not_tied s t apart (symbol_order s t) refl);
}

-- ---- an answer

pub answered : {A : Type 0} (f : Option Folded → A) (old new : DeclState (Unit {0}) (Unit {0})) (s : SymbolId) (entry : Option Folded) (answer : A)
    → Looks old s (Ok (tt {0})) new (λ entry answer. Unit {0}) → entry ≡ new.map s → answer ≡ f entry → Looks old s (Ok answer) new (λ entry answer. answer ≡ f entry)
answered f old new s entry answer looks here is = picked answer looks (λ _. is ∙ ap f (here ∙ ap (λ (m : Map). m s) looks.keeps.map))
