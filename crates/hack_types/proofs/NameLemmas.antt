-- Texts by their ids.
use Rattle.std.proofs.Common.{◌≡◌, ◌<◌, ◌+◌, ◌-◌, ◌^◌, ◌||◌, ◌&&◌, not, ℕ, zero, suc, List, [], ◌∷◌, ◌++◌, length, map, get_or, slice_get, position, refl, sym, ap, subst, ◌∙◌, arith, Bool, true, false, Some, inl, inr, true≢false}
use Rattle.std.specs.Prelude.{if◌then◌else◌, Contains}
use Rattle.std.specs.List.{list_any}
use Rattle.std.specs.Str.{bytes_eq}
use Rattle.std.specs.Global.{Vec}
use Rattle.std.proofs.lemmas.Bool.{cases_eq, false_from_ne_true}
use Rattle.std.proofs.lemmas.List.{get_or_append_left, get_or_push, length_push, map_push, length-append, length-map, append_assoc, append-nil, get_or_default}
use Rattle.std.proofs.lemmas.List.Folds.{list_any-append, list_any_none}
use Rattle.std.proofs.lemmas.Option.{slice_get-map, slice_get-get_or, slice_get_within, get_or_from_slice_get}
use Rattle.std.proofs.lemmas.List.Quantifiers.{position-Some}
use Rattle.std.proofs.lemmas.Slice.Eq.{bytes_eq-Decides}
use Rattle.hack_types.specs.Names.{fixed_names, EachOnce}
use Rattle.hack_types.specs.NamesInside.{texts, IsNames}

pub length-fixed_names : length fixed_names ≡ 7
unfolding fixed_names
length-fixed_names = refl

-- the parts of a list that is joined, by index
slice_get-left : {X : Type 0} (xs ys : List X) (i : ℕ) (x : X) → slice_get xs i ≡ Some x → slice_get (xs ++ ys) i ≡ Some x
slice_get-left [] ys i x e = cc
slice_get-left (y ∷ xs) ys zero x e = e
slice_get-left (y ∷ xs) ys (suc i) x e = slice_get-left xs ys i x e

slice_get-right : {X : Type 0} (xs ys : List X) (n i : ℕ) → n ≡ length xs + i → slice_get (xs ++ ys) n ≡ slice_get ys i
slice_get-right [] ys n i e = let same : n ≡ i = omega arith in rw same refl
slice_get-right (x ∷ xs) ys zero i e = absurd (omega arith)
slice_get-right (x ∷ xs) ys (suc n) i e = slice_get-right xs ys n i (omega arith)

pub texts-fixed : (added : List (Vec ℕ)) (i : ℕ) (text : List ℕ) → slice_get fixed_names i ≡ Some text → slice_get (texts added) i ≡ Some text
texts-fixed added i text e = slice_get-left fixed_names (map (λ t. t.items) added) i text e

pub texts-added : (added : List (Vec ℕ)) (n i : ℕ) (text : Vec ℕ) → n ≡ 7 + i → slice_get added i ≡ Some text → slice_get (texts added) n ≡ Some text.items
texts-added added n i text e at =
    slice_get-right fixed_names (map (λ t. t.items) added) n i (omega (arith, length-fixed_names)) ∙ slice_get-map (λ (t : Vec ℕ). t.items) added i ∙ rw at refl

pub length-texts : (added : List (Vec ℕ)) → length (texts added) ≡ 7 + length added
length-texts added = length-append fixed_names (map (λ (t : Vec ℕ). t.items) added) ∙ rw (length-fixed_names, length-map) refl

-- a text that a test finds nowhere
list_any-map : {X Y : Type 0} (f : X → Y) (p : Y → Bool) (xs : List X) → list_any p (map f xs) ≡ list_any (λ x. p (f x)) xs
list_any-map f p [] = refl
list_any-map f p (x ∷ xs) = ap (λ b. p (f x) || b) (list_any-map f p xs)

list_any_at : {X : Type 0} (p : X → Bool) (xs : List X) (k : ℕ) (d : X) → k < length xs → p (get_or xs k d) ≡ true → list_any p xs ≡ true
list_any_at p [] k d l e = absurd (omega arith)
list_any_at p (x ∷ xs) zero d l e = rw e refl
list_any_at p (x ∷ xs) (suc k) d l e = by (p x) (list_any_at p xs k d (omega arith) e)
  where
    by : (b : Bool) → list_any p xs ≡ true → (b || list_any p xs) ≡ true
    by true h = refl
    by false h = h

pub absent : (names : List (List ℕ)) (text : List ℕ) → list_any (bytes_eq text) names ≡ false → (k : ℕ) (d : List ℕ) → k < length names → get_or names k d ≡ text → ⊥
absent names text none k d l e =
    let found : list_any (bytes_eq text) names ≡ true = list_any_at (bytes_eq text) names k d l ((bytes_eq-Decides text (get_or names k d)).1 (sym e)) in cc

pub absent-Contains : (names : List (List ℕ)) (text : List ℕ) → list_any (bytes_eq text) names ≡ false → Contains names text → ⊥
absent-Contains names text none there = absent names text none there.0 text there.1 there.2

pub texts-absent : (added : List (Vec ℕ)) (text : List ℕ) → list_any (bytes_eq text) fixed_names ≡ false → list_any (λ (t : Vec ℕ). bytes_eq text t.items) added ≡ false → list_any (bytes_eq text) (texts added) ≡ false
texts-absent added text first second =
    list_any-append (bytes_eq text) fixed_names (map (λ t. t.items) added) ∙ rw first (list_any-map (λ (t : Vec ℕ). t.items) (bytes_eq text) added ∙ second)

-- one more text
pub EachOnce-push : (names : List (List ℕ)) (text : List ℕ) → EachOnce names → list_any (bytes_eq text) names ≡ false → EachOnce (names ++ text ∷ [])
EachOnce-push names text once none i j d l inside e =
    let long : length (names ++ text ∷ []) ≡ length names + 1 = length_push names text in
    let first : get_or (names ++ text ∷ []) i d ≡ get_or names i d = get_or_append_left names (text ∷ []) d i (omega arith) in
    elim (cases_eq j (length names)) [
      | inl same ↦ absent names text none i d (omega arith) (sym first ∙ e ∙ get_or_push names text d j (sym same))
      | inr apart ↦ once i j d l (omega arith) (sym first ∙ e ∙ get_or_append_left names (text ∷ []) d j (omega arith))
    ]

pub texts-push : (added : List (Vec ℕ)) (text : Vec ℕ) → texts (added ++ text ∷ []) ≡ texts added ++ text.items ∷ []
texts-push added text = rw (map_push (λ (t : Vec ℕ). t.items) added text) (sym (append_assoc fixed_names (map (λ (t : Vec ℕ). t.items) added) (text.items ∷ [])))

-- a text that is none of the names
pub none_equal : (names : List (List ℕ)) (text : List ℕ) → ((k : ℕ) → k < length names → get_or names k [] ≡ text → ⊥) → list_any (bytes_eq text) names ≡ false
none_equal names text others = list_any_none (bytes_eq text) names
    (λ k d l. false_from_ne_true _ (λ t. others k l (get_or_default names k [] d l ∙ sym ((bytes_eq-Decides text (get_or names k d)).0 t))))

-- an added text that `position` finds has the id that follows
pub added_at : (added : List (Vec ℕ)) (text : List ℕ) (i : ℕ) → position (λ (t : Vec ℕ). bytes_eq text t.items) added ≡ Some i → (i < length added) × ((n : ℕ) → n ≡ 7 + i → slice_get (texts added) n ≡ Some text)
added_at [] text i e = cc
added_at (t ∷ ts) text i e =
    let at = position-Some (λ (t : Vec ℕ). bytes_eq text t.items) (t ∷ ts) i t e in
    let same : text ≡ (get_or (t ∷ ts) i t).items = (bytes_eq-Decides text (get_or (t ∷ ts) i t).items).0 at.1 in
    (at.0, λ n is. texts-added (t ∷ ts) n i (get_or (t ∷ ts) i t) is (slice_get-get_or (t ∷ ts) i t at.0) ∙ ap Some (sym same))

second_false : (a b : Bool) → (a || b) ≡ false → b ≡ false
second_false true b e = absurd (true≢false e)
second_false false b e = e

-- the texts behind an insertion of a text that was absent
pub texts-insert : (added new : List (Vec ℕ)) (owned : Vec ℕ) (text : List ℕ) → list_any (bytes_eq text) (texts added) ≡ false → owned.items ≡ text
    → new ≡ (if list_any (λ (t : Vec ℕ). bytes_eq owned.items t.items) added then added else added ++ owned ∷ []) → texts new ≡ texts added ++ text ∷ []
texts-insert added new owned text none e put =
    let later : list_any (bytes_eq text) (map (λ (t : Vec ℕ). t.items) added) ≡ false =
    second_false (list_any (bytes_eq text) fixed_names) _ (sym (list_any-append (bytes_eq text) fixed_names (map (λ (t : Vec ℕ). t.items) added)) ∙ none) in
    let lacks : list_any (λ (t : Vec ℕ). bytes_eq text t.items) added ≡ false = sym (list_any-map (λ (t : Vec ℕ). t.items) (bytes_eq text) added) ∙ later in
    let absent_owned : list_any (λ (t : Vec ℕ). bytes_eq owned.items t.items) added ≡ false =
    subst (λ x. list_any (λ (t : Vec ℕ). bytes_eq x t.items) added ≡ false) (sym e) lacks in
    let last : new ≡ added ++ owned ∷ [] = rw absent_owned at put in
    ap texts last ∙ texts-push added owned ∙ ap (λ t. texts added ++ t ∷ []) e

pub IsNames-push : (added new : List (Vec ℕ)) (text : List ℕ) → IsNames added → length (texts added) < 2 ^ 30 - 1 → list_any (bytes_eq text) (texts added) ≡ false → texts new ≡ texts added ++ text ∷ [] → IsNames new
IsNames-push added new text names room none e = record {
  each_once = subst EachOnce (sym e) (EachOnce-push (texts added) text names.each_once none);
  few = let long : length (texts new) ≡ length (texts added) + 1 = ap length e ∙ length_push (texts added) text in omega arith;
}

-- the texts that stand in a list pass its test
pub found_any : (names : List (List ℕ)) (text : List ℕ) (i : ℕ) → slice_get names i ≡ Some text → list_any (bytes_eq text) names ≡ true
found_any names text i e =
    let inside : i < length names = slice_get_within names i text e in
    list_any_at (bytes_eq text) names i text inside ((bytes_eq-Decides text (get_or names i text)).1 (sym (get_or_from_slice_get names i text text e)))

-- a test that no text stands twice
abbrev all_differ : List (List ℕ) → Bool
all_differ [] = true
all_differ (x ∷ xs) = not (list_any (bytes_eq x) xs) && all_differ xs

first_true : (a b : Bool) → (a && b) ≡ true → (a ≡ true) × (b ≡ true)
first_true true b e = (refl, e)
first_true false b e = absurd (true≢false (sym e))

EachOnce-tested : (names : List (List ℕ)) → all_differ names ≡ true → EachOnce names
EachOnce-tested [] t i j d l inside e = absurd (omega arith)
EachOnce-tested (x ∷ xs) t zero zero d l inside e = absurd (omega arith)
EachOnce-tested (x ∷ xs) t zero (suc j) d l inside e =
    let found : list_any (bytes_eq x) xs ≡ true = list_any_at (bytes_eq x) xs j d (omega arith) ((bytes_eq-Decides x (get_or xs j d)).1 e) in
    let parts : (not (list_any (bytes_eq x) xs) ≡ true) × (all_differ xs ≡ true) = first_true _ _ t in
    let wrong : not true ≡ true = rw found at parts.0 in cc
EachOnce-tested (x ∷ xs) t (suc i) zero d l inside e = absurd (omega arith)
EachOnce-tested (x ∷ xs) t (suc i) (suc j) d l inside e =
    EachOnce-tested xs (first_true (not (list_any (bytes_eq x) xs)) (all_differ xs) t).1 i j d (omega arith) (omega arith) e

EachOnce-fixed_names : EachOnce fixed_names
unfolding fixed_names
EachOnce-fixed_names = EachOnce-tested fixed_names refl

pub texts-none : texts [] ≡ fixed_names
texts-none = append-nil fixed_names

pub IsNames-new : IsNames []
IsNames-new = record {
  each_once = subst EachOnce (sym texts-none) EachOnce-fixed_names;
  few = omega (arith, length-texts []);
}
