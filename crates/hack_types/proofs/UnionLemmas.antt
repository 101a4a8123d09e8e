-- How the parts of a union are gathered.
use Rattle.std.proofs.Common.{◌≡◌, ◌+◌, ◌<◌, ◌≤◌, ◌||◌, ℕ, Bool, true, false, cond, List, [], ◌∷◌, ◌++◌, length, map, take, get_or, fold, flat_map, Bor, refl, sym, ap, ◌∙◌, arith}
use Rattle.std.proofs.lemmas.List.{length_push, length-take, length-map, take_all, take-append-le, take_more}
use Rattle.std.proofs.lemmas.List.Sums.{fold_more}
use Rattle.std.proofs.Math.ListN.{get_or-map}
use Rattle.std.proofs.lemmas.List.Folds.{list_any_at, list_any_more}
use Rattle.std.specs.List.{list_any}
use Rattle.hack_types.specs.SameType.{same_type}
use Rattle.hack_types.specs.OptionOf.{option_of}
use Rattle.hack_types.specs.UnionOf.{has_null, joined_within, once, parts_of, union_of, with_part}
use Rattle.hack_types.specs.SameLaws.{equal_is_same, differ_not_same}
use Rattle.hack_types.specs.declared.hack_type.HackType.{HackType}

abbrev pub read : Bor HackType → HackType
read type = type.now

-- once the list has nine, further types make no difference to the first nine
pub with_part_full : (before : List HackType) (type : HackType) → 8 < length (take 9 before) → take 9 (with_part before type) ≡ take 9 before
with_part_full before type full = by (list_any (same_type type) before)
  where
    long : 9 ≤ length before
    long = omega (arith, length-take 9 before)

    by : (b : Bool) → take 9 (cond b before (before ++ type ∷ [])) ≡ take 9 before
    by true = refl
    by false = take-append-le 9 before (type ∷ []) long

few : (before : List HackType) → length (take 9 before) ≤ 8 → take 9 before ≡ before
few before le = take_all 9 before (omega (arith, length-take 9 before))

pub with_part_known : (before : List HackType) (type : HackType) → length (take 9 before) ≤ 8 → list_any (same_type type) (take 9 before) ≡ true → take 9 (with_part before type) ≡ take 9 before
with_part_known before type le known =
    let there : list_any (same_type type) before ≡ true = ap (list_any (same_type type)) (sym (few before le)) ∙ known in
    ap (λ b. take 9 (cond b before (before ++ type ∷ []))) there

pub with_part_new : (before : List HackType) (type : HackType) → length (take 9 before) ≤ 8 → list_any (same_type type) (take 9 before) ≡ false → take 9 (with_part before type) ≡ take 9 before ++ type ∷ []
with_part_new before type le new =
    let absent : list_any (same_type type) before ≡ false = ap (list_any (same_type type)) (sym (few before le)) ∙ new in
    ap (λ b. take 9 (cond b before (before ++ type ∷ []))) absent
    ∙ take_all 9 (before ++ type ∷ []) (omega (arith, length_push before type, length-take 9 before))
    ∙ ap (λ l. l ++ type ∷ []) (sym (few before le))

pub once_more : (types : List (Bor HackType)) (i : ℕ) (type : Bor HackType) → i < length types → type ≡ get_or types i type
    → once (take (i + 1) (map read types)) ≡ with_part (once (take i (map read types))) type.now
unfolding once
once_more types i type lt at =
    let inside : i < length (map read types) = omega (arith, length-map types read) in
    fold_more with_part [] (map read types) i type.now inside
    ∙ ap (with_part (fold with_part [] (take i (map read types)))) (get_or-map read types i type ∙ ap read (sym at))

module _ (types : List (Bor HackType)) (i : ℕ) (type : Bor HackType) (lt : i < length types) (at : type ≡ get_or types i type) where
  inside : i < length (map read types)
  inside = omega (arith, length-map types read)

  here : get_or (map read types) i type.now ≡ type.now
  here = get_or-map read types i type ∙ ap read (sym at)

  pub read_more : take (i + 1) (map read types) ≡ take i (map read types) ++ type.now ∷ []
  read_more = take_more (map read types) i type.now inside ∙ ap (λ t. take i (map read types) ++ t ∷ []) here

  pub found : (wanted : HackType) → wanted ≡ type.now → true ≡ list_any (same_type wanted) (map read types)
  found wanted same = sym (list_any_at (same_type wanted) (map read types) i type.now inside (equal_is_same wanted _ (same ∙ sym here)))

  pub none_more : (wanted : HackType) → (wanted ≡ type.now → ⊥) → list_any (same_type wanted) (take i (map read types)) ≡ false → list_any (same_type wanted) (take (i + 1) (map read types)) ≡ false
  none_more wanted apart none =
      list_any_more (same_type wanted) (map read types) i type.now inside
      ∙ ap (λ b. b || same_type wanted (get_or (map read types) i type.now)) none
      ∙ differ_not_same wanted _ (λ same. apart (same ∙ here))

pub with_null : (types parts : List HackType) (joined : HackType) → parts ≡ flat_map parts_of types → joined ≡ joined_within parts → list_any has_null types ≡ true → option_of joined ≡ union_of types
unfolding union_of
with_null types parts joined is by null = ap option_of (by ∙ ap joined_within is) ∙ ap (λ b. cond b (option_of (joined_within (flat_map parts_of types))) (joined_within (flat_map parts_of types))) (sym null)

pub without_null : (types parts : List HackType) (joined : HackType) → parts ≡ flat_map parts_of types → joined ≡ joined_within parts → list_any has_null types ≡ false → joined ≡ union_of types
unfolding union_of
without_null types parts joined is by null = by ∙ ap joined_within is ∙ ap (λ b. cond b (option_of (joined_within (flat_map parts_of types))) (joined_within (flat_map parts_of types))) (sym null)
