-- `Fields` as a type that may hold the type that holds it, by the types of its fields.
use Rattle.std.specs.Prelude.{◌≡◌, ℕ, Bool, List, [], ◌∷◌, map}
use mathlib.Core.Path.{refl, sym, ap, subst}
use mathlib.Core.Former.{Former, this, const, pair, list, via, children}
use base.Stored.{code_map, coded_bool, coded_ℕ, Gv, gcons}
use denote.RattleType.{RattleType}
use denote.HoleLaws.{Alike}
use denote.HolePlaces.{Recodes, struct_places, laid}
use denote.Hole.Carrier.{listed}
use denote.Hole.Fix.{over}
use denote.Param.Weighed.{Weighed, w_const, w_pair, w_via, w_list}
use denote.Model.Placed.{view_places}
use Rattle.std.specs.List.Sorted.{IsStrictlySortedBy-prop}
use Rattle.std.specs.Ordering.{nat_cmp}
use Rattle.std.specs.formers.vec.Vec as vec
use Rattle.std.specs.declared.alloc.Global.{Global}
use Rattle.std.specs.contracts.alloc.Global as heap
use Rattle.std.specs.contracts.impls.GlobalAllocator.TheImpl.{ghosts}
use Rattle.hack_types.specs.Rising.{NamesRise}
use Rattle.hack_types.specs.declared.fields.Field.{Field}
use Rattle.hack_types.specs.contracts.fields.Field as F
use Rattle.hack_types.specs.declared.fields.Fields.TheInside.{Inside}
use Rattle.hack_types.specs.declared.fields.Fields.TheView.{view, invariant}
use Rattle.hack_types.specs.contracts.fields.Fields as C
use Rattle.hack_types.specs.contracts.fields.Fields.TheInside as I

-- a field: a key and whether it may be missing, beside one of g's values
abbrev pub field : Former {0} → Former {0}
field g = via (pair (const (ℕ × Bool)) g) (λ X. Field (g.Of X)) (λ X f. ((f.key, f.optional), f.ty)) (λ X v. record { key = v.0.0; optional = v.0.1; ty = v.1 }) (λ X f. refl) (λ X v. refl)

abbrev pub w_field : {g : Former {0}} → Weighed g → Weighed (field g)
w_field {g} w = w_via (w_pair (w_const (ℕ × Bool)) w) (λ X. Field (g.Of X)) (λ X f. ((f.key, f.optional), f.ty)) (λ X v. record { key = v.0.0; optional = v.0.1; ty = v.1 }) (λ X f. refl) (λ X v. refl)

-- the field, with h applied to its type
abbrev pub on_type : {X Y : Type 0} → (X → Y) → Field X → Field Y
on_type h f = record { key = f.key; optional = f.optional; ty = h f.ty }

abbrev pub the_former : Former {0} → Former {0}
the_former g = list (field g)

abbrev pub the_weighed : {g : Former {0}} → Weighed g → Weighed (the_former g)
the_weighed w = w_list (w_field w)

pub the_empty : List (Field ⊥)
the_empty = []

abbrev pub the_items : (X : Type 0) → List (Field X) → List X
the_items X d = map (λ f. f.ty) d

pub the_items_listed : (X : Type 0) (d : List (Field X)) → listed _ (children (the_former this) X d) ≡ the_items X d
the_items_listed X [] = refl
the_items_listed X (f ∷ fs) = ap (λ l. f.ty ∷ l) (the_items_listed X fs)

abbrev fields : Former {0}
fields = via (vec.the_former (field this) Global) Inside (λ X a. a.items) (λ X v. record { items = v }) (λ X a. refl) (λ X v. refl)

keys_kept : {X Y : Type 0} (h : X → Y) (fs : List (Field X)) → map (λ f. f.key) (map (on_type h) fs) ≡ map (λ f. f.key) fs
keys_kept h [] = refl
keys_kept h (f ∷ fs) = ap (λ l. f.key ∷ l) (keys_kept h fs)

abbrev field_code : (R : RattleType) → Field R.Denot → Gv
field_code R f = gcons (coded_ℕ.code f.key) (gcons (coded_bool.code f.optional) (R.coded.code f.ty))

module _ (R S : RattleType) (h : R.Denot → S.Denot) where
  field_places : Alike R S h → Alike (F.the_row R) (F.the_row S) (on_type h)
  field_places a = struct_places (F.the_type R) (F.the_type S) (λ n. n, (λ b. b, (h, tt))) _ (λ d. refl) refl
      ((refl, (λ n. refl, λ n. refl)), ((refl, (λ n. refl, λ n. refl)), (laid R S h a, tt)))

  pub the_places : Alike R S h → Alike (C.the_row R) (C.the_row S) ((the_former this).map R.Denot S.Denot h)
  the_places a = view_places fields (the_former this) view (λ X Y k u. refl) (λ X u. refl) R.Denot S.Denot h (C.the_row R).coded (C.the_row S).coded
      (invariant R.Denot) (invariant S.Denot) (λ u. IsStrictlySortedBy-prop nat_cmp _) (λ u. IsStrictlySortedBy-prop nat_cmp _)
      (λ u. subst NamesRise (sym (keys_kept h u.items.items))) (λ u. subst NamesRise (keys_kept h u.items.items))
      (over (I.the_row R)) (over (I.the_row S))
      (struct_places (I.the_type R) (I.the_type S) (vec.mapped (on_type h), tt) _ (λ d. refl) refl
      (laid _ _ _ (vec.the_places heap.the_row ghosts (F.the_row R) (F.the_row S) (on_type h) (field_places a)), tt))

  pub the_codes_placed : Recodes R S h → Recodes (C.the_row R) (C.the_row S) ((the_former this).map R.Denot S.Denot h)
  the_codes_placed e d = sym (code_map (field_code R) (field_code S) (on_type h) (λ f i. gcons (coded_ℕ.code f.key) (gcons (coded_bool.code f.optional) (sym (e f.ty) i))) d)
