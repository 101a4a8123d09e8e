-- What files but the builtin text count together, where one of them is put or taken out.
use Rattle.std.proofs.Common.{◌≡◌, ◌≢◌, ℕ, ◌+◌, ◌≤◌, List, [], ◌∷◌, Bool, true, false, cond, Option, None, Some, length, refl, sym, ap, ◌∙◌, arith}
use Rattle.std.specs.BTreeMap.{insert_entry, is_at}
use Rattle.std.specs.FinMap as finite
use Rattle.std.specs.FinMap.{entries, entries_sorted, entries-insert, get-entries, get-insert, get-remove, same_map, slice_cmp-IsAntisymmetric, nat_cmp-IsAntisymmetric}
use Rattle.std.specs.FinMap.Entries.{put, find, by_order, below_all, is_sorted}
use Rattle.std.specs.List.{filter, AllByRecursion}
use Rattle.std.specs.List.Sorted.{IsStrictlySortedBy}
use Rattle.std.specs.Map.{lookup, remove_entry, keys_of}
use Rattle.std.specs.Ordering.{eq_by_cmp, is_eq, is_lt, match_ordering}
use Rattle.std.specs.Prelude.{T, ◌&&◌}
use Rattle.std.specs.declared.cmp.Ordering.{Ordering}
use Rattle.std.specs.declared.cmp.Ordering.TheVariants.{Less, Equal, Greater}
use Rattle.std.proofs.lemmas.Cmp.{nat_list_cmp_total, tied_itself}
use Rattle.std.proofs.lemmas.Map.{lookup-none}
use Rattle.std.proofs.lemmas.Map.Entries.{none_below_head}
use Rattle.hack_base.specs.Files.{Files, byte_order, is_named, total_length, count, text}
use Rattle.check_state.specs.Stands.{named_sum}

-- ---- one file

-- what a file of this name counts
abbrev pub own : {X : Type 0} → (X → ℕ) → List ℕ → X → ℕ
own weight [] file = 0
own weight (b ∷ name) file = weight file

-- what is there counts
abbrev pub of_found : {X : Type 0} → (X → ℕ) → Option X → ℕ
of_found weight None = 0
of_found weight (Some file) = weight file

pub sum-cons : {X : Type 0} (weight : X → ℕ) (name : List ℕ) (file : X) (es : List (List ℕ × X)) → named_sum weight ((name, file) ∷ es) ≡ own weight name file + named_sum weight es
sum-cons weight [] file es = omega arith
sum-cons weight (b ∷ name) file es = refl

pub own-named : {X : Type 0} (weight : X → ℕ) (name : List ℕ) (file : X) → name ≢ [] → own weight name file ≡ weight file
own-named weight [] file named = absurd (named refl)
own-named weight (b ∷ name) file named = refl

pub names_same : (a b : List ℕ) → byte_order a b ≡ Equal → a ≡ b
names_same a b e = slice_cmp-IsAntisymmetric nat_cmp-IsAntisymmetric a b e

-- ---- one file more or less

sorted_tail : {X : Type 0} (e : List ℕ × X) (es : List (List ℕ × X)) → IsStrictlySortedBy byte_order (keys_of (e ∷ es)) → IsStrictlySortedBy byte_order (keys_of es)
unfolding IsStrictlySortedBy
sorted_tail e es sorted = sorted.1

pub sum-insert : {X : Type 0} (weight : X → ℕ) (es : List (List ℕ × X)) (name : List ℕ) (file : X) → name ≢ [] → IsStrictlySortedBy byte_order (keys_of es)
    → named_sum weight (insert_entry byte_order es name file) + of_found weight (lookup (is_at (byte_order name)) es) ≡ weight file + named_sum weight es
sum-insert weight [] name file named sorted = omega (arith, sum-cons weight name file [], own-named weight name file named)
sum-insert {X} weight (e ∷ es) name file named sorted =
    by (byte_order name e.0) refl (sum-insert weight es name file named (sorted_tail e es sorted))
  where
    head : named_sum weight (e ∷ es) ≡ own weight e.0 e.1 + named_sum weight es
    head = sum-cons weight e.0 e.1 es

    by : (r : Ordering) → byte_order name e.0 ≡ r
        → named_sum weight (insert_entry byte_order es name file) + of_found weight (lookup (is_at (byte_order name)) es) ≡ weight file + named_sum weight es
        → named_sum weight (match_ordering r ((name, file) ∷ e ∷ es) ((e.0, file) ∷ es) (e ∷ insert_entry byte_order es name file)) + of_found weight (cond (is_eq r) (Some e.1) (lookup (is_at (byte_order name)) es))
        ≡ weight file + named_sum weight (e ∷ es)
    by Less p later =
        omega (arith, sum-cons weight name file (e ∷ es), own-named weight name file named, ap (of_found weight) (lookup-none (is_at (byte_order name)) es (none_below_head nat_list_cmp_total name e es sorted p).1))
    by Equal p later =
        let there : e.0 ≢ [] = λ none. named (names_same name e.0 p ∙ none) in
        omega (arith, head, sum-cons weight e.0 file es, own-named weight e.0 file there, own-named weight e.0 e.1 there)
    by Greater p later = omega (arith, later, head, sum-cons weight e.0 e.1 (insert_entry byte_order es name file))

pub sum-remove : {X : Type 0} (weight : X → ℕ) (es : List (List ℕ × X)) (name : List ℕ) → name ≢ []
    → named_sum weight (remove_entry (is_at (byte_order name)) es) + of_found weight (lookup (is_at (byte_order name)) es) ≡ named_sum weight es
sum-remove weight [] name named = refl
sum-remove {X} weight (e ∷ es) name named = by (byte_order name e.0) refl (sum-remove weight es name named)
  where
    head : named_sum weight (e ∷ es) ≡ own weight e.0 e.1 + named_sum weight es
    head = sum-cons weight e.0 e.1 es

    by : (r : Ordering) → byte_order name e.0 ≡ r
        → named_sum weight (remove_entry (is_at (byte_order name)) es) + of_found weight (lookup (is_at (byte_order name)) es) ≡ named_sum weight es
        → named_sum weight (cond (is_eq r) es (e ∷ remove_entry (is_at (byte_order name)) es)) + of_found weight (cond (is_eq r) (Some e.1) (lookup (is_at (byte_order name)) es)) ≡ named_sum weight (e ∷ es)
    by Less p later = omega (arith, later, head, sum-cons weight e.0 e.1 (remove_entry (is_at (byte_order name)) es))
    by Equal p later =
        let there : e.0 ≢ [] = λ none. named (names_same name e.0 p ∙ none) in
        omega (arith, head, own-named weight e.0 e.1 there)
    by Greater p later = omega (arith, later, head, sum-cons weight e.0 e.1 (remove_entry (is_at (byte_order name)) es))

own-small : {X : Type 0} (weight : X → ℕ) → ((x : X) → weight x ≤ 1) → (name : List ℕ) (file : X) → own weight name file ≤ 1
own-small weight small [] file = omega arith
own-small weight small (b ∷ name) file = small file

-- each of them counts 1 at most
pub sum-small : {X : Type 0} (weight : X → ℕ) → ((x : X) → weight x ≤ 1) → (es : List (List ℕ × X)) → named_sum weight es ≤ length es
sum-small weight small [] = omega arith
sum-small weight small (e ∷ es) = omega (arith, sum-cons weight e.0 e.1 es, own-small weight small e.0 e.1, sum-small weight small es)

-- ---- the files themselves

put_is : {X : Type 0} (name : List ℕ) (file : X) (es : List (List ℕ × X)) → put byte_order name file es ≡ insert_entry byte_order es name file
put_is name file [] = refl
put_is {X} name file (e ∷ es) = by (byte_order name e.0) (put_is name file es)
  where
    by : (r : Ordering) → put byte_order name file es ≡ insert_entry byte_order es name file
        → by_order r ((name, file) ∷ e ∷ es) ((e.0, file) ∷ es) (e ∷ put byte_order name file es) ≡ match_ordering r ((name, file) ∷ e ∷ es) ((e.0, file) ∷ es) (e ∷ insert_entry byte_order es name file)
    by Less later = refl
    by Equal later = refl
    by Greater later = ap (λ fs. e ∷ fs) later

find_is : {X : Type 0} (name : List ℕ) (es : List (List ℕ × X)) → find byte_order name es ≡ lookup (is_at (byte_order name)) es
find_is name [] = refl
find_is name (e ∷ es) = ap (cond (eq_by_cmp byte_order name e.0) (Some e.1)) (find_is name es)

from_T : (r : Ordering) → T (is_lt r) → r ≡ Less
from_T Less h = refl
from_T Equal h = absurd h
from_T Greater h = absurd h

both_hold : (a b : Bool) → T (a && b) → T a × T b
both_hold true b h = (tt, h)
both_hold false b h = absurd h

sorted_is : {X : Type 0} (es : List (List ℕ × X)) → T (is_sorted byte_order es) → IsStrictlySortedBy byte_order (keys_of es)
unfolding IsStrictlySortedBy
sorted_is [] h = tt
sorted_is {X} (e ∷ es) h = (below es (both_hold _ _ h).0, sorted_is es (both_hold _ _ h).1)
  where
    below : (fs : List (List ℕ × X)) → T (below_all byte_order e.0 fs) → AllByRecursion (λ k. byte_order e.0 k ≡ Less) (keys_of fs)
    below [] h = tt
    below (f ∷ fs) h = (from_T (byte_order e.0 f.0) (both_hold _ _ h).0, below fs (both_hold _ _ h).1)

pub entries_ordered : {X : Type 0} (m : finite.FinMap byte_order X) → IsStrictlySortedBy byte_order (keys_of (entries m))
entries_ordered m = sorted_is (entries m) (entries_sorted m)

pub get_is : {X : Type 0} (m : finite.FinMap byte_order X) (name : List ℕ) → finite.get m name ≡ lookup (is_at (byte_order name)) (entries m)
get_is m name = get-entries m name ∙ find_is name (entries m)

-- a sum over files once one of them is put
files-insert : {X : Type 0} (weight : X → ℕ) (files : finite.FinMap byte_order X) (name : List ℕ) (body : X) → name ≢ []
    → named_sum weight (entries (finite.insert files name body)) + of_found weight (finite.get files name) ≡ weight body + named_sum weight (entries files)
files-insert weight files name body named =
    let put_in : named_sum weight (entries (finite.insert files name body)) ≡ named_sum weight (insert_entry byte_order (entries files) name body) =
    ap (named_sum weight) (entries-insert nat_list_cmp_total files name body ∙ put_is name body (entries files)) in
    omega (arith, put_in, ap (of_found weight) (get_is files name), sum-insert weight (entries files) name body named (entries_ordered files))

text_is : (es : List (List ℕ × List ℕ)) → total_length (filter is_named es) ≡ named_sum length es
text_is [] = refl
text_is (e ∷ es) = by e.0 refl (text_is es)
  where
    by : (name : List ℕ) → e.0 ≡ name → total_length (filter is_named es) ≡ named_sum length es → total_length (filter is_named ((name, e.1) ∷ es)) ≡ named_sum length ((name, e.1) ∷ es)
    by [] is later = later
    by (b ∷ name) is later = ap (λ n. length e.1 + n) later

count_is : (es : List (List ℕ × List ℕ)) → length (filter is_named es) ≡ named_sum (λ body. 1) es
count_is [] = refl
count_is (e ∷ es) = by e.0 (count_is es)
  where
    by : (name : List ℕ) → length (filter is_named es) ≡ named_sum (λ body. 1) es → length (filter is_named ((name, e.1) ∷ es)) ≡ named_sum (λ body. 1) ((name, e.1) ∷ es)
    by [] later = later
    by (b ∷ name) later = omega (arith, later)

-- the bytes of the files once one of them is put
pub text-insert : (files : Files) (name body : List ℕ) → name ≢ [] → text (finite.insert files name body) + of_found length (finite.get files name) ≡ length body + text files
text-insert files name body named =
    omega (arith, text_is (entries (finite.insert files name body)), text_is (entries files), files-insert length files name body named)

-- how many files there are then
pub count-insert : (files : Files) (name body : List ℕ) → name ≢ [] → count (finite.insert files name body) + of_found (λ old. 1) (finite.get files name) ≡ 1 + count files
count-insert files name body named =
    omega (arith, count_is (entries (finite.insert files name body)), count_is (entries files), files-insert (λ old. 1) files name body named)

-- ---- one of them taken out

chosen : (b : Bool) (was : Option (List ℕ)) (value : List ℕ) → (b ≡ true → was ≡ Some value) → cond b (Some value) (cond b None was) ≡ was
chosen true was value h = sym (h refl)
chosen false was value h = refl

-- what was taken out and is put again
back : (files : Files) (name body : List ℕ) → finite.get files name ≡ Some body → finite.insert (finite.remove files name) name body ≡ files
back files name body there =
    same_map nat_list_cmp_total names_same (finite.insert (finite.remove files name) name body) files
    (λ q. get-insert nat_list_cmp_total (finite.remove files name) name body q ∙ ap (cond (eq_by_cmp byte_order q name) (Some body)) (get-remove nat_list_cmp_total files name q)
    ∙ chosen (eq_by_cmp byte_order q name) (finite.get files q) body (λ same. ap (finite.get files) (names_same q name (tied q same)) ∙ there))
  where
    tied : (q : List ℕ) → eq_by_cmp byte_order q name ≡ true → byte_order q name ≡ Equal
    tied q = by (byte_order q name)
      where
        by : (r : Ordering) → is_eq r ≡ true → r ≡ Equal
        by Less e = absurd cc
        by Equal e = refl
        by Greater e = absurd cc

pub get-gone : {X : Type 0} (m : finite.FinMap byte_order X) (name : List ℕ) → finite.get (finite.remove m name) name ≡ None
get-gone m name = get-remove nat_list_cmp_total m name name ∙ ap (λ r. cond (is_eq r) None (finite.get m name)) (tied_itself nat_list_cmp_total name)

pub text-remove : (files : Files) (name body : List ℕ) → name ≢ [] → finite.get files name ≡ Some body → text (finite.remove files name) + length body ≡ text files
text-remove files name body named there =
    omega (arith, text-insert (finite.remove files name) name body named, ap (of_found length) (get-gone files name), ap text (back files name body there))

pub count-remove : (files : Files) (name body : List ℕ) → name ≢ [] → finite.get files name ≡ Some body → count (finite.remove files name) + 1 ≡ count files
count-remove files name body named there =
    omega (arith, count-insert (finite.remove files name) name body named, ap (of_found (λ old. 1)) (get-gone files name), ap count (back files name body there))

-- no file is there that could be taken out
pub remove-nothing : (files : Files) (name : List ℕ) → finite.get files name ≡ None → finite.remove files name ≡ files
remove-nothing files name none =
    same_map nat_list_cmp_total names_same (finite.remove files name) files (λ q. get-remove nat_list_cmp_total files name q ∙ at q (byte_order q name) refl)
  where
    at : (q : List ℕ) (r : Ordering) → byte_order q name ≡ r → cond (is_eq r) None (finite.get files q) ≡ finite.get files q
    at q Less e = refl
    at q Equal e = sym (ap (finite.get files) (names_same q name e) ∙ none)
    at q Greater e = refl

-- a file is put in the place of what was taken out
pub insert-removed : (files : Files) (name body : List ℕ) → finite.insert (finite.remove files name) name body ≡ finite.insert files name body
insert-removed files name body =
    same_map nat_list_cmp_total names_same _ _
    (λ q. get-insert nat_list_cmp_total (finite.remove files name) name body q ∙ ap (cond (eq_by_cmp byte_order q name) (Some body)) (get-remove nat_list_cmp_total files name q)
    ∙ shadowed (eq_by_cmp byte_order q name) (finite.get files q) ∙ sym (get-insert nat_list_cmp_total files name body q))
  where
    shadowed : (b : Bool) (was : Option (List ℕ)) → cond b (Some body) (cond b None was) ≡ cond b (Some body) was
    shadowed true was = refl
    shadowed false was = refl
