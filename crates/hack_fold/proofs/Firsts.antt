-- Lists of ancestors, each name once: that it makes no difference whether a list is added as it is or was thinned out before.
use Rattle.std.proofs.Common.{◌≡◌, ◌==◌, ◌||◌, ℕ, Bool, true, false, cond, List, [], ◌∷◌, ◌++◌, map, fold, refl, sym, ap, subst, ◌∙◌}
use Rattle.std.proofs.lemmas.Bool.{eqb-true, eq-eqb}
use Rattle.std.proofs.lemmas.List.{map-append}
use Rattle.std.proofs.lemmas.List.Folds.{list_any-append}
use Rattle.std.proofs.lemmas.List.Sums.{fold-append}
use Rattle.std.specs.List.{list_any}
use Rattle.hack_decls.specs.declared.folded.Ancestor.{Ancestor}
use Rattle.hack_fold.proofs.Tests.{or_true}
use Rattle.hack_fold.specs.Walked.{firsts, with_ancestor}

abbrev pub has : List Ancestor → ℕ → Bool
has ancestors name = list_any (λ a. a.name == name) ancestors

abbrev all : List Ancestor → List Ancestor → List Ancestor
all acc ancestors = fold with_ancestor acc ancestors

kept_by : (b : Bool) (acc : List Ancestor) (x : Ancestor) (name : ℕ) → has acc name ≡ true → has (cond b acc (acc ++ x ∷ [])) name ≡ true
kept_by true acc x name h = h
kept_by false acc x name h = list_any-append (λ a. a.name == name) acc (x ∷ []) ∙ ap (λ b. b || list_any (λ a. a.name == name) (x ∷ [])) h

kept : (acc : List Ancestor) (x : Ancestor) (name : ℕ) → has acc name ≡ true → has (with_ancestor acc x) name ≡ true
kept acc x name h = kept_by (has acc x.name) acc x name h

kept_all : (xs acc : List Ancestor) (name : ℕ) → has acc name ≡ true → has (all acc xs) name ≡ true
kept_all [] acc name h = h
kept_all (x ∷ xs) acc name h = kept_all xs (with_ancestor acc x) name (kept acc x name h)

added_by : (b : Bool) (acc : List Ancestor) (x : Ancestor) → has acc x.name ≡ b → has (cond b acc (acc ++ x ∷ [])) x.name ≡ true
added_by true acc x h = h
added_by false acc x h =
    list_any-append (λ a. a.name == x.name) acc (x ∷ []) ∙ ap (λ b. has acc x.name || (b || false)) (itself x.name) ∙ or_true (has acc x.name)
  where
    itself : (n : ℕ) → (n == n) ≡ true
    itself n = eq-eqb n n refl

added : (acc : List Ancestor) (x : Ancestor) → has (with_ancestor acc x) x.name ≡ true
added acc x = added_by (has acc x.name) acc x refl

found_by : (b : Bool) (z : Ancestor) (zs acc : List Ancestor) (name : ℕ) → (z.name == name) ≡ b → (b || has zs name) ≡ true → (has zs name ≡ true → has (all (with_ancestor acc z) zs) name ≡ true)
    → has (all (with_ancestor acc z) zs) name ≡ true
found_by true z zs acc name e h more = kept_all zs (with_ancestor acc z) name (subst (λ n. has (with_ancestor acc z) n ≡ true) (eqb-true z.name name e) (added acc z))
found_by false z zs acc name e h more = more h

found : (zs acc : List Ancestor) (name : ℕ) → has zs name ≡ true → has (all acc zs) name ≡ true
found [] acc name h = cc
found (z ∷ zs) acc name h = found_by (z.name == name) z zs acc name refl h (found zs (with_ancestor acc z) name)

one_more_by : (b : Bool) (zs acc : List Ancestor) (x : Ancestor) → has zs x.name ≡ b → all acc (cond b zs (zs ++ x ∷ [])) ≡ with_ancestor (all acc zs) x
one_more_by true zs acc x h = sym (ap (λ b. cond b (all acc zs) (all acc zs ++ x ∷ [])) (found zs acc x.name h))
one_more_by false zs acc x h = fold-append with_ancestor acc zs (x ∷ [])

again : (xs zs acc : List Ancestor) → all acc (all zs xs) ≡ all (all acc zs) xs
again [] zs acc = refl
again (x ∷ xs) zs acc = again xs (with_ancestor zs x) acc ∙ ap (λ a. all a xs) (one_more_by (has zs x.name) zs acc x refl)

pub thinned : (xs acc : List Ancestor) → all acc (firsts xs) ≡ all acc xs
unfolding firsts
thinned xs acc = again xs [] acc

-- what keeps names may be done before or behind
module _ (f : Ancestor → Ancestor) (name : (a : Ancestor) → (f a).name ≡ a.name) where
  has_mapped : (xs : List Ancestor) (n : ℕ) → has (map f xs) n ≡ has xs n
  has_mapped [] n = refl
  has_mapped (x ∷ xs) n = ap (λ m. (m == n) || has (map f xs) n) (name x) ∙ ap (λ b. (x.name == n) || b) (has_mapped xs n)

  mapped_by : (b : Bool) (acc : List Ancestor) (x : Ancestor) → map f (cond b acc (acc ++ x ∷ [])) ≡ cond b (map f acc) (map f acc ++ f x ∷ [])
  mapped_by true acc x = refl
  mapped_by false acc x = map-append f acc (x ∷ [])

  mapped : (acc : List Ancestor) (x : Ancestor) → map f (with_ancestor acc x) ≡ with_ancestor (map f acc) (f x)
  mapped acc x = mapped_by (has acc x.name) acc x
      ∙ ap (λ b. cond b (map f acc) (map f acc ++ f x ∷ [])) (sym (has_mapped acc x.name) ∙ ap (has (map f acc)) (sym (name x)))

  pub all_mapped : (xs acc : List Ancestor) → map f (all acc xs) ≡ all (map f acc) (map f xs)
  all_mapped [] acc = refl
  all_mapped (x ∷ xs) acc = all_mapped xs (with_ancestor acc x) ∙ ap (λ a. all a (map f xs)) (mapped acc x)

  pub firsts_mapped : (xs : List Ancestor) → map f (firsts xs) ≡ firsts (map f xs)
  unfolding firsts
  firsts_mapped xs = all_mapped xs []
