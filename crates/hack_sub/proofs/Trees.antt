-- The relation by height and the tree say the same.
use Rattle.std.proofs.Common.{◌≡◌, ◌<◌, ◌∙◌, ℕ, zero, suc, Option, Some, None, List, [], ◌∷◌, length, get_or, Any, IsTrue, IsFalse, MatchOption, refl, sym, ap, subst, inl, inr, arith}
use Rattle.std.proofs.lemmas.Bool.{false≢true}
use Rattle.std.specs.Option.{IsSomeAnd}
use Rattle.hack_types.specs.declared.fields.Field.{Field}
use Rattle.hack_types.specs.declared.hack_type.HackType.{HackType}
use Rattle.hack_types.specs.declared.hack_type.HackType.TheVariants as type
use Rattle.hack_types.specs.declared.signature.TypeParam.{TypeParam}
use Rattle.hack_types.specs.declared.signature.Variance.{Variance}
use Rattle.hack_types.specs.declared.signature.Variance.TheVariants as variance
use Rattle.hack_decls.specs.DeclState.{Map}
use Rattle.hack_sub.specs.Derives as tree
use Rattle.hack_sub.specs.Derives.{Derives, Meet, Small, goes_down, goes_up, meets_key, sign_at}
use Rattle.hack_sub.specs.Knowing.{enum_of, expanded, given, parameters}
use Rattle.hack_sub.specs.Parts.{arguments_of, as_keyed, dict_parts, is_open, keyset_item, name_of, option_inside, shape_fields, union_members, vector_item}
use Rattle.hack_sub.specs.Rules as rule
use Rattle.hack_sub.specs.Rules.{Fit, Relation, field_at, varies}
use Rattle.hack_sub.specs.Scopes.{class_type, param_of}
use Rattle.hack_sub.specs.Sub.{Follows, IsSmall, Rule, Sub}
use Rattle.hack_sub.specs.Sub as rules
use Rattle.hack_sub.specs.declared.scope.Scope.{Scope}

-- under what is there
within : {A : Type 0} (o : Option A) (P : A → Type 0) (Q : Type 0) → IsSomeAnd o P → ((a : A) → Some a ≡ o → P a → Q) → Q
within None P Q w f = absurd w
within (Some a) P Q w f = f a refl w

put_back : {A : Type 0} (o : Option A) (P : A → Type 0) (a : A) → Some a ≡ o → P a → IsSomeAnd o P
put_back o P a is p = subst (λ x. IsSomeAnd x P) is p

-- an element by its place, whatever stands past the end
at : {A : Type 0} (xs : List A) (k : ℕ) (d e : A) → k < length xs → get_or xs k d ≡ get_or xs k e
at [] k d e lt = absurd (omega (arith, lt))
at (x ∷ xs) zero d e lt = refl
at (x ∷ xs) (suc k) d e lt = at xs k d e (omega (arith, lt))

some_of : {A : Type 0} (P : A → Type 0) (xs : List A) (k : ℕ) (d : A) → k < length xs → P (get_or xs k d) → Any P xs
some_of P xs k d lt p = (k, get_or xs k d, lt, at xs k (get_or xs k d) d lt, p)

-- each argument by its place
module _ (R : Relation) where
  up_one : (sign : Variance) (U V : HackType) → varies R sign U V → IsTrue (goes_up sign) → R U V
  up_one variance.Covariant U V w e = w
  up_one variance.Contravariant U V w e = absurd (false≢true e)
  up_one variance.Invariant U V w e = w.0

  down_one : (sign : Variance) (U V : HackType) → varies R sign U V → IsTrue (goes_down sign) → R V U
  down_one variance.Covariant U V w e = absurd (false≢true e)
  down_one variance.Contravariant U V w e = w
  down_one variance.Invariant U V w e = w.1

  both_ways : (sign : Variance) (U V : HackType) → (IsTrue (goes_up sign) → R U V) → (IsTrue (goes_down sign) → R V U) → varies R sign U V
  both_ways variance.Covariant U V f g = f refl
  both_ways variance.Contravariant U V f g = g refl
  both_ways variance.Invariant U V f g = (f refl, g refl)

  up : (params : List TypeParam) (Us Vs : List HackType) → Fit R params Us Vs
      → (k : ℕ) → k < length Us → IsTrue (goes_up (sign_at params k)) → R (get_or Us k type.Any) (get_or Vs k type.Any)
  up [] [] Vs w k lt e = absurd (omega (arith, lt))
  up [] (U ∷ Us) Vs w k lt e = absurd w
  up (param ∷ params) [] Vs w k lt e = absurd (omega (arith, lt))
  up (param ∷ params) (U ∷ Us) [] w k lt e = absurd w
  up (param ∷ params) (U ∷ Us) (V ∷ Vs) w zero lt e = up_one param.variance U V w.0 e
  up (param ∷ params) (U ∷ Us) (V ∷ Vs) w (suc k) lt e = up params Us Vs w.1 k (omega (arith, lt)) e

  down : (params : List TypeParam) (Us Vs : List HackType) → Fit R params Us Vs
      → (k : ℕ) → k < length Us → IsTrue (goes_down (sign_at params k)) → R (get_or Vs k type.Any) (get_or Us k type.Any)
  down [] [] Vs w k lt e = absurd (omega (arith, lt))
  down [] (U ∷ Us) Vs w k lt e = absurd w
  down (param ∷ params) [] Vs w k lt e = absurd (omega (arith, lt))
  down (param ∷ params) (U ∷ Us) [] w k lt e = absurd w
  down (param ∷ params) (U ∷ Us) (V ∷ Vs) w zero lt e = down_one param.variance U V w.0 e
  down (param ∷ params) (U ∷ Us) (V ∷ Vs) w (suc k) lt e = down params Us Vs w.1 k (omega (arith, lt)) e

  lengths : (params : List TypeParam) (Us Vs : List HackType) → Fit R params Us Vs → (length Us ≡ length params) × (length Vs ≡ length params)
  lengths [] [] [] w = (refl, refl)
  lengths [] [] (V ∷ Vs) w = absurd w
  lengths [] (U ∷ Us) Vs w = absurd w
  lengths (param ∷ params) [] Vs w = absurd w
  lengths (param ∷ params) (U ∷ Us) [] w = absurd w
  lengths (param ∷ params) (U ∷ Us) (V ∷ Vs) w = let rest = lengths params Us Vs w.1 in (ap suc rest.0, ap suc rest.1)

  fits : (params : List TypeParam) (Us Vs : List HackType) → length Us ≡ length params → length Vs ≡ length params
      → ((k : ℕ) → k < length Us → IsTrue (goes_up (sign_at params k)) → R (get_or Us k type.Any) (get_or Vs k type.Any))
      → ((k : ℕ) → k < length Us → IsTrue (goes_down (sign_at params k)) → R (get_or Vs k type.Any) (get_or Us k type.Any)) → Fit R params Us Vs
  fits [] [] [] l m f g = tt
  fits [] [] (V ∷ Vs) l m f g = absurd (omega (arith, m))
  fits [] (U ∷ Us) Vs l m f g = absurd (omega (arith, l))
  fits (param ∷ params) [] Vs l m f g = absurd (omega (arith, l))
  fits (param ∷ params) (U ∷ Us) [] l m f g = absurd (omega (arith, m))
  fits (param ∷ params) (U ∷ Us) (V ∷ Vs) l m f g = (
    both_ways param.variance U V (f 0 (omega arith)) (g 0 (omega arith)),
    fits params Us Vs (omega (arith, l)) (omega (arith, m)) (λ k lt e. f (suc k) (omega (arith, lt)) e) (λ k lt e. g (suc k) (omega (arith, lt)) e),
  )

  -- the fields of two shapes
  key_met : (S : HackType) (field : Field HackType) (o : Option (Field HackType))
      → MatchOption o (IsTrue field.optional × IsFalse (is_open S)) (λ own. (IsTrue own.optional → IsTrue field.optional) × R own.ty field.ty)
      → MatchOption o (IsTrue field.optional × IsFalse (is_open S)) (λ own. IsTrue own.optional → IsTrue field.optional)
  key_met S field None w = w
  key_met S field (Some own) w = w.0

  type_met : (S : HackType) (field own : Field HackType) (o : Option (Field HackType)) → Some own ≡ o
      → MatchOption o (IsTrue field.optional × IsFalse (is_open S)) (λ own. (IsTrue own.optional → IsTrue field.optional) × R own.ty field.ty) → R own.ty field.ty
  type_met S field own None is w = cc
  type_met S field own (Some other) is w = let same : own ≡ other = cc in subst (λ x. R x.ty field.ty) (sym same) w.1

  field_met : (S : HackType) (field : Field HackType) (o : Option (Field HackType))
      → MatchOption o (IsTrue field.optional × IsFalse (is_open S)) (λ own. IsTrue own.optional → IsTrue field.optional)
      → ((own : Field HackType) → Some own ≡ o → R own.ty field.ty)
      → MatchOption o (IsTrue field.optional × IsFalse (is_open S)) (λ own. (IsTrue own.optional → IsTrue field.optional) × R own.ty field.ty)
  field_met S field None w each = w
  field_met S field (Some own) w each = (w, each own refl)

module _ (m : Map) (scope : Scope) where
  pub tree_of : (h : ℕ) (S T : HackType) → Sub m scope h S T → Derives m scope h S T
  unfolding Sub
  tree_of zero S T w = absurd w
  tree_of (suc h) S T (s, t, (rules.equal, w)) = tree.by_equal (s, t) w
  tree_of (suc h) S T (s, t, (rules.unknown, w)) = tree.by_unknown (s, t) w
  tree_of (suc h) S T (s, t, (rules.extreme, w)) = tree.by_extreme (s, t) w
  tree_of (suc h) S T (s, t, (rules.primitive, w)) = tree.by_primitive (s, t) w
  tree_of (suc h) S T (s, t, (rules.not_null, w)) = tree.by_not_null (s, t) w
  tree_of (suc h) S T (s, t, (rules.null, w)) = tree.by_null (s, t) w
  tree_of (suc h) S T (s, t, (rules.into_option, w)) = within (option_inside T) _ _ w (λ U is p. tree.by_into_option (s, t) U is (tree_of h S U p))
  tree_of (suc h) S T (s, t, (rules.from_option, w)) =
      within (option_inside S) _ _ w (λ U is p. tree.by_from_option (s, t) U is (tree_of h type.Null T p.0) (tree_of h U T p.1))
  tree_of (suc h) S T (s, t, (rules.from_union, w)) =
      within (union_members S) _ _ w (λ Us is p. tree.by_from_union (s, t) Us is (λ k lt. tree_of h (get_or Us k type.Any) T (p k type.Any lt)))
  tree_of (suc h) S T (s, t, (rules.into_union, w)) =
      within (union_members T) _ _ w (λ Us is p. tree.by_into_union (s, t) Us is p.0 p.2
      (tree_of h S (get_or Us p.0 type.Any) (subst (λ U. Sub m scope h S U) (sym p.3 ∙ at Us p.0 p.1 type.Any p.2) p.4)))
  tree_of (suc h) S T (s, t, (rules.container, inl (inl w))) =
      within (vector_item S) _ _ w (λ U is p. within (vector_item T) _ _ p (λ V iv q. tree.by_vectors (s, t) U V is iv (tree_of h U V q)))
  tree_of (suc h) S T (s, t, (rules.container, inl (inr (inl w)))) =
      within (dict_parts S) _ _ w (λ U is p. within (dict_parts T) _ _ p
      (λ V iv q. tree.by_dicts (s, t) U V is iv (tree_of h U.0 V.0 q.0) (tree_of h U.1 V.1 q.1)))
  tree_of (suc h) S T (s, t, (rules.container, inl (inr (inr w)))) =
      within (keyset_item S) _ _ w (λ U is p. within (keyset_item T) _ _ p (λ V iv q. tree.by_keysets (s, t) U V is iv (tree_of h U V q)))
  tree_of (suc h) S T (s, t, (rules.container, inr w)) =
      within (as_keyed S) _ _ w.1 (λ U is p. tree.by_keyed (s, t) U w.0 is (tree_of h U T p))
  tree_of (suc h) S T (s, t, (rules.alias, inl w)) = within (expanded m S) _ _ w (λ U is p. tree.by_from_alias (s, t) U is (tree_of h U T p))
  tree_of (suc h) S T (s, t, (rules.alias, inr w)) = within (expanded m T) _ _ w (λ U is p. tree.by_into_alias (s, t) U is (tree_of h S U p))
  tree_of (suc h) S T (s, t, (rules.shape, w)) =
      within (shape_fields S) _ _ w (λ fields is p. within (shape_fields T) _ _ p (λ others io q.
      tree.by_shape (s, t) fields others is io (q.0, λ k d lt. key_met (Sub m scope h) S (get_or others k d) (field_at fields (get_or others k d).key) (q.1 k d lt))
      (λ k own field lt at_k has. tree_of h own.ty field.ty (type_met (Sub m scope h) S field own (field_at fields field.key) has
      (subst (λ f. rule.meets_field (Sub m scope h) S fields f) (sym at_k) (q.1 k field lt))))))
  tree_of (suc h) S T (s, t, (rules.class_types, w)) =
      within (name_of S) _ _ w (λ class ic p. within (name_of T) _ _ p (λ name it q. within (given m class (arguments_of S) name) _ _ q (λ Us ig f.
      let sizes = lengths (Sub m scope h) (parameters m name) Us (arguments_of T) f in
      tree.by_class_types (s, t) class name Us ic it ig sizes.0 sizes.1
      (λ k lt e. tree_of h (get_or Us k type.Any) (get_or (arguments_of T) k type.Any) (up (Sub m scope h) (parameters m name) Us (arguments_of T) f k lt e))
      (λ k lt e. tree_of h (get_or (arguments_of T) k type.Any) (get_or Us k type.Any) (down (Sub m scope h) (parameters m name) Us (arguments_of T) f k lt e)))))
  tree_of (suc h) S T (s, t, (rules.bound, inl w)) =
      within (param_of scope S) _ _ w (λ param is p. tree.by_from_param (s, t) param is p.0 p.2
      (tree_of h (get_or param.upper p.0 type.Any) T (subst (λ U. Sub m scope h U T) (sym p.3 ∙ at param.upper p.0 p.1 type.Any p.2) p.4)))
  tree_of (suc h) S T (s, t, (rules.bound, inr (inl w))) =
      within (param_of scope T) _ _ w (λ param is p. tree.by_into_param (s, t) param is p.0 p.2
      (tree_of h S (get_or param.lower p.0 type.Any) (subst (λ U. Sub m scope h S U) (sym p.3 ∙ at param.lower p.0 p.1 type.Any p.2) p.4)))
  tree_of (suc h) S T (s, t, (rules.bound, inr (inr w))) = within (class_type scope) _ _ w.1 (λ U is p. tree.by_this (s, t) U w.0 is (tree_of h U T p))
  tree_of (suc h) S T (s, t, (rules.enum_types, w)) =
      within (enum_of m S) _ _ w (λ sig is p. elim p [
        | inl k ↦ tree.by_enum_key (s, t) sig is (tree_of h type.Arraykey T k)
        | inr b ↦ tree.by_enum_base (s, t) sig is b.0 (tree_of h sig.base T b.1)
      ])

  pub sub_of : {h : ℕ} {S T : HackType} → Derives m scope h S T → Sub m scope h S T
  unfolding Sub
  sub_of (tree.by_equal few w) = (few.0, few.1, (rules.equal, w))
  sub_of (tree.by_unknown few w) = (few.0, few.1, (rules.unknown, w))
  sub_of (tree.by_extreme few w) = (few.0, few.1, (rules.extreme, w))
  sub_of (tree.by_primitive few w) = (few.0, few.1, (rules.primitive, w))
  sub_of (tree.by_not_null few w) = (few.0, few.1, (rules.not_null, w))
  sub_of (tree.by_null few w) = (few.0, few.1, (rules.null, w))
  sub_of {T = T} (tree.by_into_option few U is d) = (few.0, few.1, (rules.into_option, put_back (option_inside T) _ U is (sub_of d)))
  sub_of {S = S} (tree.by_from_option few U is d e) = (few.0, few.1, (rules.from_option, put_back (option_inside S) _ U is (sub_of d, sub_of e)))
  sub_of {h = suc h} {S = S} {T = T} (tree.by_from_union few Us is d) = (
    few.0,
    few.1,
    (
      rules.from_union,
      put_back (union_members S) _ Us is
          (λ k x lt. subst (λ U. Sub m scope h U T) (at Us k type.Any x lt) (sub_of (d k lt))),
    ),
  )
  sub_of {h = suc h} {S = S} {T = T} (tree.by_into_union few Us is k lt d) = (
    few.0,
    few.1,
    (
      rules.into_union,
      put_back (union_members T) _ Us is
          (some_of (λ U. Sub m scope h S U) Us k type.Any lt (sub_of d)),
    ),
  )
  sub_of {S = S} {T = T} (tree.by_vectors few U V is iv d) = (few.0, few.1, (rules.container, inl (inl (put_back (vector_item S) _ U is (put_back (vector_item T) _ V iv (sub_of d))))))
  sub_of {S = S} {T = T} (tree.by_dicts few s t is it d e) =
      (few.0, few.1, (rules.container, inl (inr (inl (put_back (dict_parts S) _ s is (put_back (dict_parts T) _ t it (sub_of d, sub_of e)))))))
  sub_of {S = S} {T = T} (tree.by_keysets few U V is iv d) =
      (few.0, few.1, (rules.container, inl (inr (inr (put_back (keyset_item S) _ U is (put_back (keyset_item T) _ V iv (sub_of d)))))))
  sub_of {S = S} (tree.by_keyed few U named is d) = (few.0, few.1, (rules.container, inr (named, put_back (as_keyed S) _ U is (sub_of d))))
  sub_of {S = S} (tree.by_from_alias few U is d) = (few.0, few.1, (rules.alias, inl (put_back (expanded m S) _ U is (sub_of d))))
  sub_of {T = T} (tree.by_into_alias few U is d) = (few.0, few.1, (rules.alias, inr (put_back (expanded m T) _ U is (sub_of d))))
  sub_of {h = suc h} {S = S} {T = T} (tree.by_shape few fields others is io meet d) = (
    few.0,
    few.1,
    (
      rules.shape,
      put_back (shape_fields S) _ fields is (put_back (shape_fields T) _ others io (
        meet.0,
        λ k x lt. field_met (Sub m scope h) S (get_or others k x) (field_at fields (get_or others k x).key) (meet.1 k x lt)
            (λ own has. sub_of (d k own (get_or others k x) lt (at others k x (get_or others k x) lt) has)),
      )),
    ),
  )
  sub_of {h = suc h} {S = S} {T = T} (tree.by_class_types few class name Us ic it ig l n d e) = (
    few.0,
    few.1,
    (
      rules.class_types,
      put_back (name_of S) _ class ic (put_back (name_of T) _ name it (put_back (given m class (arguments_of S) name) _ Us ig
          (fits (Sub m scope h) (parameters m name) Us (arguments_of T) l n (λ k lt e. sub_of (d k lt e)) (λ k lt u. sub_of (e k lt u))))),
    ),
  )
  sub_of {h = suc h} {S = S} {T = T} (tree.by_from_param few param is k lt d) =
      (few.0, few.1, (rules.bound, inl (put_back (param_of scope S) _ param is (some_of (λ U. Sub m scope h U T) param.upper k type.Any lt (sub_of d)))))
  sub_of {h = suc h} {S = S} {T = T} (tree.by_into_param few param is k lt d) =
      (few.0, few.1, (rules.bound, inr (inl (put_back (param_of scope T) _ param is (some_of (λ U. Sub m scope h S U) param.lower k type.Any lt (sub_of d))))))
  sub_of (tree.by_this few U this is d) = (few.0, few.1, (rules.bound, inr (inr (this, put_back (class_type scope) _ U is (sub_of d)))))
  sub_of {S = S} (tree.by_enum_key few sig is d) = (few.0, few.1, (rules.enum_types, put_back (enum_of m S) _ sig is (inl (sub_of d))))
  sub_of {S = S} (tree.by_enum_base few sig is b d) = (few.0, few.1, (rules.enum_types, put_back (enum_of m S) _ sig is (inr (b, sub_of d))))

  -- a tree of one height is one of the next
  pub higher : {h : ℕ} {S T : HackType} → Derives m scope h S T → Derives m scope (suc h) S T
  higher (tree.by_equal few w) = tree.by_equal few w
  higher (tree.by_unknown few w) = tree.by_unknown few w
  higher (tree.by_extreme few w) = tree.by_extreme few w
  higher (tree.by_primitive few w) = tree.by_primitive few w
  higher (tree.by_not_null few w) = tree.by_not_null few w
  higher (tree.by_null few w) = tree.by_null few w
  higher (tree.by_into_option few U is d) = tree.by_into_option few U is (higher d)
  higher (tree.by_from_option few U is d e) = tree.by_from_option few U is (higher d) (higher e)
  higher (tree.by_from_union few Us is d) = tree.by_from_union few Us is (λ k lt. higher (d k lt))
  higher (tree.by_into_union few Us is k lt d) = tree.by_into_union few Us is k lt (higher d)
  higher (tree.by_vectors few U V is iv d) = tree.by_vectors few U V is iv (higher d)
  higher (tree.by_dicts few s t is it d e) = tree.by_dicts few s t is it (higher d) (higher e)
  higher (tree.by_keysets few U V is iv d) = tree.by_keysets few U V is iv (higher d)
  higher (tree.by_keyed few U named is d) = tree.by_keyed few U named is (higher d)
  higher (tree.by_from_alias few U is d) = tree.by_from_alias few U is (higher d)
  higher (tree.by_into_alias few U is d) = tree.by_into_alias few U is (higher d)
  higher (tree.by_shape few fields others is io meet d) = tree.by_shape few fields others is io meet (λ k own field lt at_k has. higher (d k own field lt at_k has))
  higher (tree.by_class_types few class name Us ic it ig l n d e) =
      tree.by_class_types few class name Us ic it ig l n (λ k lt u. higher (d k lt u)) (λ k lt u. higher (e k lt u))
  higher (tree.by_from_param few param is k lt d) = tree.by_from_param few param is k lt (higher d)
  higher (tree.by_into_param few param is k lt d) = tree.by_into_param few param is k lt (higher d)
  higher (tree.by_this few U this is d) = tree.by_this few U this is (higher d)
  higher (tree.by_enum_key few sig is d) = tree.by_enum_key few sig is (higher d)
  higher (tree.by_enum_base few sig is b d) = tree.by_enum_base few sig is b (higher d)
