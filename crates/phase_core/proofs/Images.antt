-- Images and coverage from what was reached.
use Rattle.std.proofs.Common.{◌≡◌, ◌↔◌, ◌<◌, ◌≤◌, inl, inr, refl, sym, ap, ◌∙◌, subst, ℕ, zero, suc, ◌+◌, true, false, List, [], ◌∷◌, length, get_or, Option, Some, arith}
use Rattle.std.specs.Prelude.{Contains, is_some}
use Rattle.std.specs.FinMap as finite
use Rattle.std.specs.FinMap.{get-empty}
use Rattle.std.specs.FinSet as set
use Rattle.std.proofs.lemmas.List.{take_all}
use Rattle.hack_types.specs.declared.ids.SymbolId.{SymbolId}
use Rattle.phase_core.specs.declared.state.CoreSeen.{CoreSeen}
use Rattle.phase_core.specs.declared.closure.Reached.{Reached}
use Rattle.phase_core.specs.Orders.{symbol_order}
use Rattle.phase_core.specs.World.{World, IsParent, seen_at}
use Rattle.phase_core.specs.Closures.{Reaches}
use Rattle.phase_core.specs.Images.{Image, IsImage}
use Rattle.phase_core.specs.Edges.{Edges, HasFold, IsCovered}
use Rattle.phase_core.specs.Reached.{IsReach}
use Rattle.phase_core.specs.Inside.{Imaged}
use Rattle.phase_core.proofs.Orders.{symbol_total, symbol_same}
use Rattle.phase_core.proofs.Maps.{insert_cases}
use Rattle.phase_core.proofs.Lists.{in_none, in_more, in_whole}

pub only_one : {X : Type 0} (x y : X) → Contains (x ∷ []) y → x ≡ y
only_one x y h = by h.0 h.1 h.2
  where
    by : (k : ℕ) → k < length (x ∷ []) → get_or (x ∷ []) k y ≡ y → x ≡ y
    by zero l e = e
    by (suc k) l e = absurd (omega arith)

pub the_one : {X : Type 0} (x : X) → Contains (x ∷ []) x
the_one x = (0, omega arith, refl)

-- from one symbol
module _ (leads : SymbolId → SymbolId → Type 0) (s : SymbolId) (r : Reached) (is : IsReach leads (s ∷ []) r) where
  pub reached_one : (t : SymbolId) → set.contains r.set t ≡ true → Reaches leads s t
  reached_one t h = let from = (is.reached t).0 h in subst (λ z. Reaches leads z t) (sym (only_one s from.0 from.1)) from.2

  pub reaches_one : (t : SymbolId) → Reaches leads s t → set.contains r.set t ≡ true
  reaches_one t h = (is.reached t).1 (s, the_one s, h)

module _ (world : World) (symbols : List SymbolId) where
  pub imaged_none : (image : Image) → image ≡ finite.empty → Imaged world symbols 0 image
  imaged_none image is = record {
    only = λ t h. absurd (let e : false ≡ true = ap is_some (sym (get-empty symbol_order t) ∙ ap (λ m. finite.get m t) (sym is)) ∙ h in cc);
    all = λ t h. absurd (in_none symbols t h);
  }

  pub imaged_more : (i : ℕ) (x : SymbolId) (sight : Option CoreSeen) (image new : Image) → i < length symbols → x ≡ get_or symbols i x → sight ≡ seen_at world x → new ≡ finite.insert image x sight
      → Imaged world symbols i image → Imaged world symbols (i + 1) new
  imaged_more i x sight image new l is sees put so_far =
      subst (Imaged world symbols (i + 1)) (sym put)
      (record {
        only = λ t h.
            elim (insert_cases symbol_total symbol_same image x sight t) [
              | inl c ↦ subst (Contains symbols) (sym c.0) (i, l, sym is)
              | inr c ↦ so_far.only t (ap is_some (sym c.1) ∙ h)
            ];
        all = λ t h.
            elim (insert_cases symbol_total symbol_same image x sight t) [
              | inl c ↦ c.1 ∙ ap (λ z. Some z) (sees ∙ ap (seen_at world) (sym c.0))
              | inr c ↦
                  elim (in_more symbols i x l t h) [
                    | inl before ↦ c.1 ∙ so_far.all t before
                    | inr now ↦ absurd (c.0 (sym (is ∙ now)))
                  ]
            ];
      })

  pub imaged_end : (i : ℕ) (image : Image) → length symbols ≤ i → Imaged world symbols i image → Imaged world symbols (length symbols) image
  imaged_end i image l so_far =
      let whole : length symbols ≤ length symbols = omega arith in
      record { only = so_far.only; all = λ t h. so_far.all t (in_whole symbols i l t (subst (λ ys. Contains ys t) (take_all (length symbols) symbols whole) h)) }

  pub imaged_whole : (i : ℕ) (s : SymbolId) (r : Reached) (image : Image) → length symbols ≤ i → IsReach (IsParent world) (s ∷ []) r → symbols ≡ r.symbols.items → Imaged world symbols i image → IsImage world s image
  imaged_whole i s r image l is lists so_far = record {
    inside = λ t h. so_far.all t (in_whole symbols i l t (subst (λ xs. Contains xs t) (sym lists) ((is.matches t).1 (reaches_one (IsParent world) s r is t h))));
    only = λ t h. reached_one (IsParent world) s r is t ((is.matches t).0 (subst (λ xs. Contains xs t) lists (so_far.only t h)));
  }

pub covered_by : (world : World) (edges : Edges) (s : SymbolId) (c f : Reached) (members : List SymbolId) → IsReach (IsParent world) (s ∷ []) c → IsReach (HasFold edges) (s ∷ []) f → members ≡ c.symbols.items
    → ((x : SymbolId) → Contains members x → set.contains f.set x ≡ true) ↔ IsCovered world edges s
covered_by world edges s c f members is_c is_f lists = (
  λ all t inside. reached_one (HasFold edges) s f is_f t (all t (subst (λ xs. Contains xs t) (sym lists) ((is_c.matches t).1 (reaches_one (IsParent world) s c is_c t inside)))),
  λ covered x h. reaches_one (HasFold edges) s f is_f x (covered x (reached_one (IsParent world) s c is_c x ((is_c.matches x).0 (subst (λ xs. Contains xs x) lists h)))),
)
