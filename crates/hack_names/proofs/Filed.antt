-- The declarations of one file while they are put and taken out.
use Rattle.std.proofs.Common.{◌≡◌, ◌≢◌, ◌⊎◌, ◌<◌, ◌≤◌, ◌+◌, ⊎_elim, ℕ, List, length, Option, None, Some, slice_get, refl, sym, ap, ◌∙◌, inl, inr, arith}
use Rattle.std.specs.BTreeMap as tree
use Rattle.std.proofs.lemmas.Option.{slice_get_within}
use Rattle.hack_names.specs.declared.unit.UnitHead.{UnitHead}
use Rattle.hack_names.specs.declared.keys.Declared.{Declared}
use Rattle.hack_names.specs.Inside.{declared_order, key_of, IsUnit, HasOnly, HasFirst, HasNothing, KeepsOtherFiles, IsSet, IsSame}
use Rattle.hack_names.proofs.Indexed.{Declarations, Cases, set_cases}

-- the first so many units in the file's list are no declarations
abbrev pub LacksFirst : Declarations → List ℕ → List UnitHead → ℕ → Type 0
LacksFirst declared file heads count =
    (position : ℕ) (head : UnitHead) → position < count → slice_get heads position ≡ Some head → tree.get declared_order declared (key_of file position head) ≡ None

abbrev Get : Declarations → Declared → Option UnitHead
Get declared key = tree.get declared_order declared key

at_position : (heads : List UnitHead) (i j : ℕ) (one two : UnitHead) → slice_get heads i ≡ Some one → slice_get heads j ≡ Some two → i ≡ j → one ≡ two
at_position heads i j one two a b same =
    let both : ◌≡◌ {A = Option UnitHead} (Some one) (Some two) = sym a ∙ ap (slice_get heads) same ∙ b in
    cc

same_key : (file other : List ℕ) (i j : ℕ) (one two : UnitHead) → key_of file i one ≡ key_of other j two → i ≡ j
same_key file other i j one two e = ap (λ (k : Declared). k.spot.position) e

below_or_at : (p i n : ℕ) → n ≡ i + 1 → p < n → (p < i) ⊎ (i ≡ p)
below_or_at p i n next before = grind arith

-- a unit up to the last one whose key is another is before the last one
earlier : (file : List ℕ) (heads : List UnitHead) (i n position : ℕ) (head other : UnitHead) → n ≡ i + 1 → slice_get heads i ≡ Some head → slice_get heads position ≡ Some other → position < n
    → key_of file i head ≢ key_of file position other → position < i
earlier file heads i n position head other next at there before apart =
    ⊎_elim (λ less. less)
    (λ same. absurd (apart (let heads_same = at_position heads i position head other at there same in λ k. key_of file (same k) (heads_same k))))
    (below_or_at position i n next before)

-- ---- put

pub only_with : (old new : Declarations) (file : List ℕ) (heads : List UnitHead) (i : ℕ) (head : UnitHead) → slice_get heads i ≡ Some head → IsSet old (key_of file i head) (Some head) new → HasOnly old file heads → HasOnly new file heads
only_with old new file heads i head at set only key other is there = by (set_cases old new (key_of file i head) (Some head) set key)
  where
    by : Cases old new (key_of file i head) (Some head) key → IsUnit file heads key other
    by (inl same) =
        let one : ◌≡◌ {A = Option UnitHead} (Some head) (Some other) = sym same.1 ∙ there in
        let heads_same : head ≡ other = cc in
        (i, at ∙ ap Some heads_same, sym same.0 ∙ ap (key_of file i) heads_same)
    by (inr apart) = only key other is (sym apart.1 ∙ there)

pub first_with : (old new : Declarations) (file : List ℕ) (heads : List UnitHead) (i n : ℕ) (head : UnitHead) → n ≡ i + 1 → slice_get heads i ≡ Some head → IsSet old (key_of file i head) (Some head) new
    → HasFirst old file heads i → HasFirst new file heads n
first_with old new file heads i n head next at set first position other before there =
    by (set_cases old new (key_of file i head) (Some head) set (key_of file position other))
  where
    by : Cases old new (key_of file i head) (Some head) (key_of file position other) → Get new (key_of file position other) ≡ Some other
    by (inl same) = same.1 ∙ ap Some (at_position heads i position head other at there (same_key file file i position head other same.0))
    by (inr apart) = apart.1 ∙ first position other (earlier file heads i n position head other next at there before apart.0) there

pub others_with : (old new : Declarations) (file : List ℕ) (key : Declared) (value : Option UnitHead) → key.spot.file ≡ file → IsSet old key value new → KeepsOtherFiles file old new
others_with old new file key value is set other apart = by (set_cases old new key value set other)
  where
    by : Cases old new key value other → Get new other ≡ Get old other
    by (inl same) = absurd (apart (sym (ap (λ (k : Declared). k.spot.file) same.0) ∙ is))
    by (inr kept) = kept.1

pub others_on : (file : List ℕ) (old mid new : Declarations) → KeepsOtherFiles file old mid → KeepsOtherFiles file mid new → KeepsOtherFiles file old new
others_on file old mid new one two key apart = two key apart ∙ one key apart

pub only_same : (old new : Declarations) (file : List ℕ) (heads : List UnitHead) → IsSame old new → HasOnly old file heads → HasOnly new file heads
only_same old new file heads same only key head is there = only key head is (sym (same key) ∙ there)

pub others_same : (old new : Declarations) (file : List ℕ) → IsSame old new → KeepsOtherFiles file old new
others_same old new file same key apart = same key

pub only_of_nothing : (declared : Declarations) (file : List ℕ) (heads : List UnitHead) → HasNothing declared file → HasOnly declared file heads
only_of_nothing declared file heads nothing key head is there =
    let clash : ◌≡◌ {A = Option UnitHead} None (Some head) = sym (nothing key is) ∙ there in
    absurd cc

-- ---- taken out

pub only_without : (old new : Declarations) (file : List ℕ) (heads : List UnitHead) (gone : Declared) → IsSet old gone None new → HasOnly old file heads → HasOnly new file heads
only_without old new file heads gone set only key other is there = by (set_cases old new gone None set key)
  where
    by : Cases old new gone None key → IsUnit file heads key other
    by (inl same) = let clash : ◌≡◌ {A = Option UnitHead} None (Some other) = sym same.1 ∙ there in absurd cc
    by (inr apart) = only key other is (sym apart.1 ∙ there)

pub lacks_with : (old new : Declarations) (file : List ℕ) (heads : List UnitHead) (i n : ℕ) (head : UnitHead) → n ≡ i + 1 → slice_get heads i ≡ Some head → IsSet old (key_of file i head) None new
    → LacksFirst old file heads i → LacksFirst new file heads n
lacks_with old new file heads i n head next at set lacks position other before there =
    by (set_cases old new (key_of file i head) None set (key_of file position other))
  where
    by : Cases old new (key_of file i head) None (key_of file position other) → Get new (key_of file position other) ≡ None
    by (inl same) = same.1
    by (inr apart) = apart.1 ∙ lacks position other (earlier file heads i n position head other next at there before apart.0) there

pub nothing_left : (declared : Declarations) (file : List ℕ) (heads : List UnitHead) (n : ℕ) → length heads ≤ n → LacksFirst declared file heads n → HasOnly declared file heads → HasNothing declared file
nothing_left declared file heads n all lacks only key is = by (Get declared key) refl
  where
    by : (o : Option UnitHead) → Get declared key ≡ o → Get declared key ≡ None
    by None e = e
    by (Some head) e =
        let unit = only key head is e in
        let within : unit.0 < n = omega (arith, slice_get_within heads unit.0 head unit.1) in
        ap (Get declared) unit.2 ∙ lacks unit.0 head within unit.1
