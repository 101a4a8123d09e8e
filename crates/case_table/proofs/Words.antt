-- Words of a text by their places, and look-up among words that rise.
use Rattle.std.proofs.Common.{◌≡◌, ◌≢◌, ◌<◌, ◌≤◌, ◌+◌, ◌-◌, ℕ, zero, suc, List, [], ◌∷◌, length, drop, take, get_or, refl, sym, ap, subst, ◌∙◌, arith, Bool, true, false, Some, None, cond, inl, inr, add-one, add_comm, set, get_or-set_same, get_or-set_other}
use Rattle.std.specs.Prelude.{All, AllPairs, ◌==◌, not}
use Rattle.std.specs.List.{slice_split, onto_first, prefix_len, zip, AllAdjacentBelow, between}
use Rattle.std.specs.Str.{bytes_eq}
use Rattle.std.specs.Ordering.{nat_cmp, is_eq}
use Rattle.std.specs.Cmp.Lexicographic.{slice_cmp}
use Rattle.std.specs.declared.cmp.Ordering.TheVariants.{Less, Equal, Greater}
use Rattle.std.proofs.lemmas.Bool.{cases_eq}
use Rattle.std.proofs.lemmas.Cmp.{nat_list_cmp_total, tied_itself}
use Rattle.std.proofs.lemmas.List.{drop_more, drop_all, drop-drop, get_or_default}
use Rattle.std.proofs.lemmas.List.Edits.{length-between}
use Rattle.std.proofs.lemmas.Map.Text.{is_eq-slice_cmp}
use borrow.Author.Count.{below_more}
use Rattle.std.proofs.lemmas.Slice.Eq.{bytes_eq-Decides}
use Rattle.case_table.specs.Cases.{words, IsBelow, value_of}
use Rattle.case_table.specs.Places.{is_not_space, ArePlaced, IsPlaced, IsTable, word_at, start_of}

-- ---- words that rise

-- nothing is below itself
pub IsBelow-irreflexive : (a b : List ℕ) → IsBelow a b → a ≡ b → ⊥
IsBelow-irreflexive a b h e =
    let same : slice_cmp nat_cmp a a ≡ Equal = tied_itself nat_list_cmp_total a in
    let less : slice_cmp nat_cmp a a ≡ Less = subst (λ x. IsBelow a x) (sym e) h in cc

pub IsBelow-trans : (a b c : List ℕ) → IsBelow a b → IsBelow b c → IsBelow a c
IsBelow-trans = nat_list_cmp_total.trans

-- words that rise from each to the next rise from each to every later one
pub rising_pairs : (ws : List (List ℕ)) → AllAdjacentBelow IsBelow ws (length ws) → AllPairs IsBelow ws
rising_pairs ws h i zero d l inside = absurd (omega arith)
rising_pairs ws h i (suc j) d l inside =
    let step : IsBelow (get_or ws j d) (get_or ws (suc j) d) = rw (← add-one) (h j d (omega arith)) in
    elim (cases_eq i j) [
      | inl e ↦ subst (λ n. IsBelow (get_or ws n d) (get_or ws (suc j) d)) (sym e) step
      | inr apart ↦ IsBelow-trans (get_or ws i d) (get_or ws j d) (get_or ws (suc j) d) (rising_pairs ws h i j d (omega arith) (omega arith)) step
    ]

-- no word up to one that is below the key is equal to it
pub none_up_to : (ws : List (List ℕ)) (key : List ℕ) (m k : ℕ) → AllPairs IsBelow ws → m < length ws → IsBelow (get_or ws m []) key → k ≤ m → get_or ws k [] ≡ key → ⊥
none_up_to ws key m k rising inside below order e =
    elim (cases_eq k m) [
      | inl same ↦ IsBelow-irreflexive (get_or ws m []) key below (subst (λ n. get_or ws n [] ≡ key) same e)
      | inr apart ↦ IsBelow-irreflexive (get_or ws k []) key (IsBelow-trans (get_or ws k []) (get_or ws m []) key (rising k m [] (omega arith) inside) below) e
    ]

-- no word from one on that the key is below is equal to it
pub none_from : (ws : List (List ℕ)) (key : List ℕ) (m k : ℕ) → AllPairs IsBelow ws → k < length ws → slice_cmp nat_cmp (get_or ws m []) key ≡ Greater → m ≤ k → get_or ws k [] ≡ key → ⊥
none_from ws key m k rising inside above order e =
    let below : IsBelow key (get_or ws m []) = rw (nat_list_cmp_total.antisymm key (get_or ws m [])) (rw above) in
    elim (cases_eq m k) [
      | inl same ↦ IsBelow-irreflexive key (get_or ws m []) below (sym (subst (λ n. get_or ws n [] ≡ key) (sym same) e))
      | inr apart ↦ IsBelow-irreflexive key (get_or ws k []) (IsBelow-trans key (get_or ws m []) (get_or ws k []) below (rising m k [] (omega arith) inside)) (sym e)
    ]

-- ---- look-up

other_bytes : (a b : List ℕ) → (a ≡ b → ⊥) → bytes_eq a b ≡ false
other_bytes a b apart = by (bytes_eq a b) (bytes_eq-Decides a b).0
  where
    by : (t : Bool) → (t ≡ true → a ≡ b) → t ≡ false
    by true h = absurd (apart (h refl))
    by false h = refl

pub value_of-at : (ws : List (List ℕ)) (vs : List ℕ) (key : List ℕ) (i : ℕ) → i < length ws → i < length vs → get_or ws i [] ≡ key → ((k : ℕ) → k < i → get_or ws k [] ≡ key → ⊥) → value_of (zip ws vs) key ≡ Some (get_or vs i 0)
value_of-at [] vs key i l m e earlier = absurd (omega arith)
value_of-at (w ∷ ws) [] key i l m e earlier = absurd (omega arith)
value_of-at (w ∷ ws) (v ∷ vs) key zero l m e earlier =
    let t : bytes_eq w key ≡ true = (bytes_eq-Decides w key).1 e in rw t
value_of-at (w ∷ ws) (v ∷ vs) key (suc i) l m e earlier =
    let f : bytes_eq w key ≡ false = other_bytes w key (earlier 0 (omega arith)) in
    rw f (value_of-at ws vs key i (omega arith) (omega arith) e (λ k h. earlier (suc k) (omega arith)))

pub value_of-none : (ws : List (List ℕ)) (vs : List ℕ) (key : List ℕ) → ((k : ℕ) → k < length ws → get_or ws k [] ≡ key → ⊥) → value_of (zip ws vs) key ≡ None
value_of-none [] vs key others = refl
value_of-none (w ∷ ws) [] key others = refl
value_of-none (w ∷ ws) (v ∷ vs) key others =
    let f : bytes_eq w key ≡ false = other_bytes w key (others 0 (omega arith)) in
    rw f (value_of-none ws vs key (λ k h. others (suc k) (omega arith)))

-- ---- words by their places

-- the words behind the first, where what is left begins with a space or is empty
abbrev pub later : List ℕ → List (List ℕ)
later [] = []
later (b ∷ bs) = slice_split (λ c. c == 32) bs

-- the words of a text that isn't empty from one that begins at this index, just behind a space
abbrev pub words_from : List ℕ → ℕ → List (List ℕ)
words_from text zero = slice_split (λ c. c == 32) text
words_from text (suc e) = later (drop e text)

pub first_word : (text : List ℕ) → slice_split (λ c. c == 32) text ≡ take (prefix_len is_not_space text) text ∷ later (drop (prefix_len is_not_space text) text)
first_word [] = refl
first_word (b ∷ bs) = by (b == 32) (first_word bs)
  where
    by : (t : Bool) → slice_split (λ c. c == 32) bs ≡ take (prefix_len is_not_space bs) bs ∷ later (drop (prefix_len is_not_space bs) bs)
        → cond t ([] ∷ slice_split (λ c. c == 32) bs) (onto_first b (slice_split (λ c. c == 32) bs))
        ≡ take (cond (not t) (1 + prefix_len is_not_space bs) 0) (b ∷ bs) ∷ later (drop (cond (not t) (1 + prefix_len is_not_space bs) 0) (b ∷ bs))
    by true rest = refl
    by false rest = rw rest (rw (add_comm 1 (prefix_len is_not_space bs)) (rw add-one refl))

pub words_from-inside : (text : List ℕ) (from : ℕ) → from ≤ length text → words_from text from ≡ slice_split (λ c. c == 32) (drop from text)
words_from-inside text zero l = refl
words_from-inside text (suc e) l =
    let cut : drop e text ≡ get_or text e 0 ∷ drop (e + 1) text = drop_more text e 0 (omega arith) in
    rw cut (rw add-one refl)

pub words_from-past : (text : List ℕ) (from : ℕ) → length text < from → words_from text from ≡ []
words_from-past text zero l = absurd (omega arith)
words_from-past text (suc e) l = let none : drop e text ≡ [] = drop_all e text (omega arith) in rw none refl

-- the words from this index on begin with the bytes up to the next space
pub words_from-cut : (text : List ℕ) (from end : ℕ) → from ≤ length text → end ≡ from + prefix_len is_not_space (drop from text) → words_from text from ≡ between from end text ∷ words_from text (end + 1)
words_from-cut text from end l e =
    let n : ℕ = prefix_len is_not_space (drop from text) in
    let long : end - from ≡ n = omega arith in
    let rest : drop n (drop from text) ≡ drop end text = drop-drop n from text ∙ ap (λ k. drop k text) (sym e) in
    words_from-inside text from l ∙ first_word (drop from text)
    ∙ rw (long, add-one) (rw rest refl)

-- what is known of a list from what it has behind an index
pub at_drop : {X : Type 0} (xs : List X) (i : ℕ) (x d : X) (rest : List X) → drop i xs ≡ x ∷ rest → (i < length xs) × (get_or xs i d ≡ x) × (drop (i + 1) xs ≡ rest)
at_drop [] zero x d rest e = cc
at_drop [] (suc i) x d rest e = cc
at_drop (y ∷ ys) zero x d rest e = (omega arith, cc, cc)
at_drop (y ∷ ys) (suc i) x d rest e =
    let more : (i < length ys) × (get_or ys i d ≡ x) × (drop (i + 1) ys ≡ rest) = at_drop ys i x d rest e in
    (omega arith, more.1, rw add-one (rw add-one at more.2))

start_of-set : (ends : List ℕ) (i end k : ℕ) → k ≤ i → start_of (set ends i end) k ≡ start_of ends k
start_of-set ends i end zero l = refl
start_of-set ends i end (suc k) l = let apart : k ≢ i = omega arith in rw get_or-set_other refl

-- one more word has its place
pub ArePlaced-more : (text ends : List ℕ) (i from end : ℕ) → ArePlaced text ends i → i < length ends → from ≡ start_of ends i → from < end → end ≤ length text → get_or (words text) i [] ≡ between from end text
    → ArePlaced text (set ends i end) (i + 1)
ArePlaced-more text ends i from end placed inside start order bound word =
    let same : (k : ℕ) → k ≤ i → start_of (set ends i end) k ≡ start_of ends k = start_of-set ends i end in
    let here : get_or (set ends i end) i 0 ≡ end = get_or-set_same ends i end 0 inside in
    let others : (k : ℕ) → k < i → get_or (set ends i end) k 0 ≡ get_or ends k 0 = (λ k h. get_or-set_other ends i k end 0 (omega arith)) in
    record {
      inside = below_more _ _ (λ k h. rw (same k (omega arith), others k h) (placed.inside k h)) (rw (same i (omega arith), here, ← start) (order, bound));
      each = below_more _ _ (λ k h. rw (same k (omega arith), others k h) (placed.each k h)) (rw (same i (omega arith), here, ← start) word);
    }

-- bytes that compare as equal are equal
pub same_bytes : (a b : List ℕ) → slice_cmp nat_cmp a b ≡ Equal → a ≡ b
same_bytes a b h = (bytes_eq-Decides a b).0 (sym (is_eq-slice_cmp a b) ∙ ap is_eq h)

-- words whose ends rise are not empty
pub IsPlaced-not_empty : (text ends : List ℕ) → IsPlaced text ends → All (λ word. word ≢ []) (words text)
IsPlaced-not_empty text ends placed k d l e =
    let bounds : (start_of ends k < get_or ends k 0) × (get_or ends k 0 ≤ length text) = placed.places.inside k (omega (arith, placed.count)) in
    let word : get_or (words text) k [] ≡ word_at text ends k = placed.places.each k (omega (arith, placed.count)) in
    let none : length (word_at text ends k) ≡ 0 = ap length (sym word ∙ get_or_default (words text) k [] d l ∙ e) in
    let long : length (word_at text ends k) ≡ get_or ends k 0 - start_of ends k = length-between text (start_of ends k) (get_or ends k 0) (omega arith) in
    omega arith

-- no word before one that is equal to the key is equal to it
pub earlier_differ : (ws : List (List ℕ)) (key : List ℕ) (i : ℕ) → AllPairs IsBelow ws → i < length ws → get_or ws i [] ≡ key → (k : ℕ) → k < i → get_or ws k [] ≡ key → ⊥
earlier_differ ws key i rising inside e k h same = IsBelow-irreflexive (get_or ws k []) (get_or ws i []) (rising k i [] h inside) (same ∙ sym e)

pub between-none : (text : List ℕ) (from end : ℕ) → end ≡ from → between from end text ≡ []
between-none text from end e = let none : end - from ≡ 0 = omega arith in rw none refl

pub start_of-next : (ends : List ℕ) (i end : ℕ) → i < length ends → end + 1 ≡ start_of (set ends i end) (i + 1)
start_of-next ends i end l =
    let e : i + 1 ≡ suc i = add-one i in
    let here : get_or (set ends i end) i 0 ≡ end = get_or-set_same ends i end 0 l in rw e (rw here refl)

pub IsTable-from : (text ends values : List ℕ) → length values ≡ length ends → IsPlaced text ends → AllPairs IsBelow (words text) → IsTable text ends values
IsTable-from text ends values same placed rising = record {
  same_length = same;
  keys_rise = record { count = placed.count; not_empty = IsPlaced-not_empty text ends placed; rising = rising };
  placed = placed;
}
