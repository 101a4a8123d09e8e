-- The function is the relation: at each height the test is true exactly where the relation holds.
use Rattle.std.proofs.Common.{◌≡◌, ◌&&◌, ◌||◌, ◌⊎◌, ◌==◌, ◌<◌, ℕ, zero, suc, Bool, true, false, not, Decides, Option, Some, None, List, [], ◌∷◌, ◌∙◌, length, map, get_or, All, Any, IsTrue, IsFalse, IsSome, MatchOption, refl, ap, inl, inr, is_some, option_map, nat_lt, arith}
use Rattle.std.proofs.lemmas.Bool.{false≢true}
use Rattle.std.proofs.lemmas.List.Folds.{Any-from_list_any, list_any_at}
use Rattle.std.specs.Bool.{if◌then◌else◌}
use Rattle.std.specs.List.{list_all, list_any}
use Rattle.std.specs.Option.{IsSomeAnd, option_and_then}
use Rattle.hack_types.specs.SameLaws.{equal_is_same, same_is_equal}
use Rattle.hack_types.specs.SameType.{same_type}
use Rattle.hack_types.specs.Substituted.{most_nodes, substitute}
use Rattle.hack_types.specs.declared.fields.Field.{Field}
use Rattle.hack_types.specs.declared.hack_type.HackType.{HackType}
use Rattle.hack_types.specs.declared.hack_type.HackType.TheVariants as type
use Rattle.hack_types.specs.declared.signature.TypeParam.{TypeParam}
use Rattle.hack_types.specs.declared.signature.Variance.{Variance}
use Rattle.hack_types.specs.declared.signature.Variance.TheVariants as variance
use Rattle.hack_decls.specs.DeclState.{Map}
use Rattle.hack_decls.specs.Names.{class_symbol}
use Rattle.hack_sub.proofs.Decides.{all, and_parts, and_true, any, both, denied, else_implied, gated, implied, never, or_elim, or_left, or_right, some, tested}
use Rattle.hack_sub.proofs.Looks as looks
use Rattle.hack_sub.proofs.Gates.{params_few, alias_known, all_small_some, enum_known, enum_some, enum_there, small, small_some}
use Rattle.hack_sub.specs.IsBelow as test
use Rattle.hack_sub.specs.IsBelow.{Test, all_small, all_ways, by_rules, goes, is_below, is_looked, is_plain, is_small, some_and}
use Rattle.hack_sub.specs.Knowing.{ancestor_by, enum_of, expanded, given, is_alias, is_bad, is_class_like, is_enum, is_partial, known, parameters}
use Rattle.hack_sub.specs.Parts.{arguments_of, as_keyed, dict_parts, is_open, keyset_item, name_of, option_inside, shape_fields, top_of, union_members, vector_item}
use Rattle.hack_sub.specs.Rules as rule
use Rattle.hack_sub.specs.Rules.{Fit, Relation, field_at}
use Rattle.hack_sub.specs.Scopes.{class_type, class_type_by, own_params, param_of}
use Rattle.hack_sub.specs.Sub.{Follows, IsSmall, Rule, Sub}
use Rattle.hack_sub.specs.Sub as rules
use Rattle.hack_sub.specs.Tops.{is_any, is_made, is_mixed, is_nonnull, is_nothing, is_null, is_option, is_this, is_void, widens}
use Rattle.hack_sub.specs.declared.known.Known.{Known}
use Rattle.hack_sub.specs.declared.top.Top.{Top}
use Rattle.hack_sub.specs.declared.scope.Scope.{Scope}
use Rattle.hack_sub.specs.declared.way.Way.{Way}
use Rattle.hack_sub.specs.declared.way.Way.TheVariants as way

-- over a test that decides a relation, each rule's test decides the rule
module _ (r : Test) (R : Relation) (one : (S T : HackType) → Decides (r S T) (R S T)) (few : (S T : HackType) → R S T → IsSmall S × IsSmall T) where
  pub into_option : (S T : HackType) → Decides (test.into_option r S T) (rule.into_option R S T)
  into_option S T = some (λ U. r S U) (λ U. R S U) (λ U. one S U) (option_inside T)

  pub from_option : (S T : HackType) → Decides (test.from_option r S T) (rule.from_option R S T)
  from_option S T = some (λ U. r type.Null T && r U T) (λ U. R type.Null T × R U T)
      (λ U. both (r type.Null T) (r U T) (R type.Null T) (R U T) (one type.Null T) (one U T)) (option_inside S)

  pub from_union : (S T : HackType) → Decides (test.from_union r S T) (rule.from_union R S T)
  from_union S T = some (λ Us. list_all (λ U. r U T) Us) (λ Us. All (λ U. R U T) Us) (all (λ U. r U T) (λ U. R U T) (λ U. one U T)) (union_members S)

  pub into_union : (S T : HackType) → Decides (test.into_union r S T) (rule.into_union R S T)
  into_union S T = some (λ Us. list_any (λ U. r S U) Us) (λ Us. Any (λ U. R S U) Us) (any (λ U. r S U) (λ U. R S U) (λ U. one S U)) (union_members T)

  pair_of : (o p : Option HackType) → Decides (some_and o (λ U. some_and p (λ V. r U V))) (IsSomeAnd o (λ U. IsSomeAnd p (λ V. R U V)))
  pair_of o p = some (λ U. some_and p (λ V. r U V)) (λ U. IsSomeAnd p (λ V. R U V)) (λ U. some (λ V. r U V) (λ V. R U V) (λ V. one U V) p) o

  pub vectors : (S T : HackType) → Decides (test.vectors r S T) (IsSomeAnd (vector_item S) (λ U. IsSomeAnd (vector_item T) (λ V. R U V)))
  vectors S T = pair_of (vector_item S) (vector_item T)

  pub keysets : (S T : HackType) → Decides (test.keysets r S T) (IsSomeAnd (keyset_item S) (λ U. IsSomeAnd (keyset_item T) (λ V. R U V)))
  keysets S T = pair_of (keyset_item S) (keyset_item T)

  dict_pair : (o p : Option (HackType × HackType))
      → Decides (some_and o (λ s. some_and p (λ t. r s.0 t.0 && r s.1 t.1))) (IsSomeAnd o (λ s. IsSomeAnd p (λ t. R s.0 t.0 × R s.1 t.1)))
  dict_pair o p = some (λ s. some_and p (λ t. r s.0 t.0 && r s.1 t.1)) (λ s. IsSomeAnd p (λ t. R s.0 t.0 × R s.1 t.1)) (λ s. some (λ t. r s.0 t.0 && r s.1 t.1) (λ t. R s.0 t.0 × R s.1 t.1)
      (λ t. both (r s.0 t.0) (r s.1 t.1) (R s.0 t.0) (R s.1 t.1) (one s.0 t.0) (one s.1 t.1)) p) o

  pub dicts : (S T : HackType) → Decides (test.dicts r S T) (IsSomeAnd (dict_parts S) (λ s. IsSomeAnd (dict_parts T) (λ t. R s.0 t.0 × R s.1 t.1)))
  dicts S T = dict_pair (dict_parts S) (dict_parts T)

  pub into_keyed : (S T : HackType) → Decides (test.into_keyed r S T) (rule.into_keyed R S T)
  into_keyed S T = both (is_some (name_of T)) (some_and (as_keyed S) (λ U. r U T)) (IsSome (name_of T)) (IsSomeAnd (as_keyed S) (λ U. R U T)) (tested (is_some (name_of T)))
      (some (λ U. r U T) (λ U. R U T) (λ U. one U T) (as_keyed S))

  meets : (S : HackType) (field : Field HackType) (o : Option (Field HackType)) → Decides (test.meets_by r (is_open S) field o)
      (MatchOption o (IsTrue field.optional × IsFalse (is_open S)) (λ own. (IsTrue own.optional → IsTrue field.optional) × R own.ty field.ty))
  meets S field None = both field.optional (not (is_open S)) (IsTrue field.optional) (IsFalse (is_open S)) (tested field.optional) (denied (is_open S))
  meets S field (Some own) = both (not own.optional || field.optional) (r own.ty field.ty) (IsTrue own.optional → IsTrue field.optional) (R own.ty field.ty)
      (implied own.optional field.optional (IsTrue field.optional) (tested field.optional)) (one own.ty field.ty)

  covers : (others fields : List (Field HackType)) → Decides (test.covers others fields) (All (λ field. IsSome (field_at others field.key)) fields)
  covers others = all (λ field. is_some (field_at others field.key)) (λ field. IsSome (field_at others field.key)) (λ field. tested (is_some (field_at others field.key)))

  abbrev meet_test : HackType → HackType → List (Field HackType) → List (Field HackType) → Bool
  meet_test S T fields others = (is_open T || (not (is_open S) && test.covers others fields)) && list_all (test.meets_field r (is_open S) fields) others

  abbrev Meets : HackType → HackType → List (Field HackType) → List (Field HackType) → Type 0
  Meets S T fields others =
      (IsFalse (is_open T) → IsFalse (is_open S) × All (λ field. IsSome (field_at others field.key)) fields) × All (rule.meets_field R S fields) others

  shapes : (S T : HackType) (fields others : List (Field HackType)) → Decides (meet_test S T fields others) (Meets S T fields others)
  shapes S T fields others =
      let covered : Type 0 = All (λ (field : Field HackType). IsSome (field_at others field.key)) fields in
      both (is_open T || (not (is_open S) && test.covers others fields)) (list_all (test.meets_field r (is_open S) fields) others)
      (IsFalse (is_open T) → IsFalse (is_open S) × covered) (All (rule.meets_field R S fields) others)
      (else_implied (is_open T) (not (is_open S) && test.covers others fields) (IsFalse (is_open S) × covered)
      (both (not (is_open S)) (test.covers others fields) (IsFalse (is_open S)) covered (denied (is_open S)) (covers others fields)))
      (all (test.meets_field r (is_open S) fields) (rule.meets_field R S fields) (λ field. meets S field (field_at fields field.key)) others)

  pub shape : (S T : HackType) → Decides (test.shape r S T) (rule.shape R S T)
  shape S T =
      some (λ fields. some_and (shape_fields T) (λ others. meet_test S T fields others)) (λ fields. IsSomeAnd (shape_fields T) (λ others. Meets S T fields others))
      (λ fields. some (λ others. meet_test S T fields others) (λ others. Meets S T fields others) (λ others. shapes S T fields others) (shape_fields T)) (shape_fields S)

  varies : (sign : Variance) (U V : HackType) → Decides (test.varies r sign U V) (rule.varies R sign U V)
  varies variance.Covariant U V = one U V
  varies variance.Contravariant U V = one V U
  varies variance.Invariant U V = both (r U V) (r V U) (R U V) (R V U) (one U V) (one V U)

  fit : (params : List TypeParam) (Us Vs : List HackType) → Decides (test.fit r params Us Vs) (Fit R params Us Vs)
  fit [] [] [] = (λ e. tt, λ w. refl)
  fit [] [] (V ∷ Vs) = never ⊥ (λ w. w)
  fit [] (U ∷ Us) Vs = never ⊥ (λ w. w)
  fit (param ∷ params) [] Vs = never ⊥ (λ w. w)
  fit (param ∷ params) (U ∷ Us) [] = never ⊥ (λ w. w)
  fit (param ∷ params) (U ∷ Us) (V ∷ Vs) = both (test.varies r param.variance U V) (test.fit r params Us Vs) (rule.varies R param.variance U V) (Fit R params Us Vs)
      (varies param.variance U V) (fit params Us Vs)

  small_varies : (sign : Variance) (U V : HackType) → rule.varies R sign U V → is_small U ≡ true
  small_varies variance.Covariant U V w = (small U).1 (few U V w).0
  small_varies variance.Contravariant U V w = (small U).1 (few V U w).1
  small_varies variance.Invariant U V w = (small U).1 (few U V w.0).0

  small_fit : (params : List TypeParam) (Us Vs : List HackType) → Fit R params Us Vs → list_all is_small Us ≡ true
  small_fit [] [] Vs w = refl
  small_fit [] (U ∷ Us) Vs w = absurd w
  small_fit (param ∷ params) [] Vs w = refl
  small_fit (param ∷ params) (U ∷ Us) [] w = absurd w
  small_fit (param ∷ params) (U ∷ Us) (V ∷ Vs) w = and_true (is_small U) (list_all is_small Us) (small_varies param.variance U V w.0) (small_fit params Us Vs w.1)

  named_alike : (b : Bool) (params : List TypeParam) (own : List HackType) (o : Option (List HackType)) (Vs : List HackType)
      → Decides (if b then test.fit r params own Vs else some_and (option_and_then all_small o) (λ Us. test.fit r params Us Vs))
      (IsSomeAnd (if b then Some own else o) (λ Us. Fit R params Us Vs))
  named_alike true params own o Vs = fit params own Vs
  named_alike false params own o Vs = all_small_some (λ Us. test.fit r params Us Vs) (λ Us. Fit R params Us Vs) (λ Us. fit params Us Vs) (λ Us. small_fit params Us Vs) o

  module _ (m : Map) (scope : Scope) where
    pub class_types : (S T : HackType) → Decides (test.class_types m r S T) (rule.class_types m R S T)
    class_types S T = some (λ class. some_and (name_of T) (λ name. test.class_names m class name r (arguments_of S) (arguments_of T)))
        (λ class. IsSomeAnd (name_of T) (λ name. IsSomeAnd (given m class (arguments_of S) name) (λ Us. Fit R (parameters m name) Us (arguments_of T))))
        (λ class. some (λ name. test.class_names m class name r (arguments_of S) (arguments_of T))
        (λ name. IsSomeAnd (given m class (arguments_of S) name) (λ Us. Fit R (parameters m name) Us (arguments_of T))) (λ name.
        named_alike (class == name) (parameters m name) (arguments_of S) (option_map (map (substitute (arguments_of S))) (ancestor_by name (m (class_symbol class)))) (arguments_of T))
        (name_of T)) (name_of S)

    pub from_alias : (S T : HackType) → Decides (test.from_alias m (known m S) r S T) (IsSomeAnd (expanded m S) (λ U. R U T))
    from_alias S T = gated (is_alias (known m S)) (some_and (test.expanded_small m S) (λ U. r U T)) (IsSomeAnd (expanded m S) (λ U. R U T)) (alias_known (λ U. R U T) m (arguments_of S) (name_of S))
        (small_some (λ U. r U T) (λ U. R U T) (λ U. one U T) (λ U w. (few U T w).0) (expanded m S))

    pub into_alias : (S T : HackType) → Decides (test.into_alias m (known m T) r S T) (IsSomeAnd (expanded m T) (λ U. R S U))
    into_alias S T = gated (is_alias (known m T)) (some_and (test.expanded_small m T) (λ U. r S U)) (IsSomeAnd (expanded m T) (λ U. R S U)) (alias_known (λ U. R S U) m (arguments_of T) (name_of T))
        (small_some (λ U. r S U) (λ U. R S U) (λ U. one S U) (λ U w. (few S U w).1) (expanded m T))

    pub from_param : (S T : HackType) → Decides (test.from_param scope r S T) (IsSomeAnd (param_of scope S) (λ param. Any (λ U. R U T) param.upper))
    from_param S T = some (λ param. list_any (λ U. r U T) param.upper) (λ param. Any (λ U. R U T) param.upper) (λ param. any (λ U. r U T) (λ U. R U T) (λ U. one U T) param.upper) (param_of scope S)

    pub into_param : (S T : HackType) → Decides (test.into_param scope r S T) (IsSomeAnd (param_of scope T) (λ param. Any (λ U. R S U) param.lower))
    into_param S T = some (λ param. list_any (λ U. r S U) param.lower) (λ param. Any (λ U. R S U) param.lower) (λ param. any (λ U. r S U) (λ U. R S U) (λ U. one S U) param.lower) (param_of scope T)

    pub from_enum : (S T : HackType) → Decides (test.from_enum m (known m S) r S T) (rule.enum_types m R S T)
    from_enum S T = enum_some (λ U. r U T) (λ U. R U T) (λ U. one U T) (r type.Arraykey T) (R type.Arraykey T) (one type.Arraykey T)
        (is_enum (known m S)) (enum_of m S) (enum_known (λ sig. R type.Arraykey T ⊎ (IsTrue sig.bounded × R sig.base T)) m (length (arguments_of S)) (name_of S)) (enum_there m (length (arguments_of S)) (name_of S))

    few_params : (b : Bool) (class : ℕ × List TypeParam) (T : HackType) → (IsSmall (type.Class class.0 (own_params 0 class.1)) → b ≡ true)
        → Decides (some_and (if b then Some (type.Class class.0 (own_params 0 class.1)) else None) (λ U. r U T)) (R (type.Class class.0 (own_params 0 class.1)) T)
    few_params true class T need = one (type.Class class.0 (own_params 0 class.1)) T
    few_params false class T need = never (R (type.Class class.0 (own_params 0 class.1)) T) (λ w. false≢true (need (few (type.Class class.0 (own_params 0 class.1)) T w).0))

    class_by : (o : Option (ℕ × List TypeParam)) (T : HackType) → Decides (some_and (test.class_type_by o) (λ U. r U T)) (IsSomeAnd (class_type_by o) (λ U. R U T))
    class_by None T = never ⊥ (λ w. w)
    class_by (Some class) T = few_params (nat_lt (length class.1) most_nodes) class T (params_few class.0 class.1)

    pub from_this : (S T : HackType) → Decides (test.from_this scope r S T) (IsTrue (is_this (top_of S)) × IsSomeAnd (class_type scope) (λ U. R U T))
    from_this S T = both (is_this (top_of S)) (some_and (test.class_type_small scope) (λ U. r U T)) (IsTrue (is_this (top_of S))) (IsSomeAnd (class_type scope) (λ U. R U T)) (tested (is_this (top_of S))) (class_by scope.class T)

    -- a way that goes is an instance of a rule, and an instance of a rule with premises is a way that goes
    abbrev ByRule : HackType → HackType → Type 0
    ByRule S T = (rule : Rule) × Follows rule m scope R S T

    as_rule : (w : Way) (S T : HackType) → goes w m scope (known m S) (known m T) r S T ≡ true → ByRule S T
    as_rule way.IntoOption S T e = (rules.into_option, (into_option S T).0 e)
    as_rule way.FromOption S T e = (rules.from_option, (from_option S T).0 e)
    as_rule way.FromUnion S T e = (rules.from_union, (from_union S T).0 e)
    as_rule way.IntoUnion S T e = (rules.into_union, (into_union S T).0 e)
    as_rule way.Vectors S T e = (rules.container, inl (inl ((vectors S T).0 e)))
    as_rule way.Dicts S T e = (rules.container, inl (inr (inl ((dicts S T).0 e))))
    as_rule way.Keysets S T e = (rules.container, inl (inr (inr ((keysets S T).0 e))))
    as_rule way.Shapes S T e = (rules.shape, (shape S T).0 e)
    as_rule way.FromAlias S T e = (rules.alias, inl ((from_alias S T).0 e))
    as_rule way.IntoAlias S T e = (rules.alias, inr ((into_alias S T).0 e))
    as_rule way.ClassTypes S T e = (rules.class_types, (class_types S T).0 e)
    as_rule way.FromParam S T e = (rules.bound, inl ((from_param S T).0 e))
    as_rule way.IntoParam S T e = (rules.bound, inr (inl ((into_param S T).0 e)))
    as_rule way.FromThis S T e = (rules.bound, inr (inr ((from_this S T).0 e)))
    as_rule way.FromEnum S T e = (rules.enum_types, (from_enum S T).0 e)
    as_rule way.IntoKeyed S T e = (rules.container, inr ((into_keyed S T).0 e))

    -- the tests before the ways are the rules without premises
    module _ (S T : HackType) where
      abbrev s : Top
      s = top_of S

      abbrev t : Top
      t = top_of T

      abbrev ks : Known
      ks = known m S

      abbrev kt : Known
      kt = known m T

      abbrev Told : Type 0
      Told = looks.Five (is_any s) (is_any t) (is_nothing s) (is_mixed t && not (is_void s)) (widens s t) (is_nonnull t) (is_made s)
          (is_null s && is_option t) (is_bad ks) (is_bad kt) (is_partial ks && is_class_like kt) (is_class_like ks) (is_enum ks)

      by_five : Told → ByRule S T
      by_five (looks.is_unknown e) = (rules.unknown, e)
      by_five (looks.is_extreme e) = (rules.extreme, e)
      by_five (looks.is_primitive e) = (rules.primitive, e)
      by_five (looks.is_not_null e) = (rules.not_null, e)
      by_five (looks.is_null e) = (rules.null, e)

      abbrev ways : Way → Bool
      ways w = goes w m scope ks kt r S T

      found : (ws : List Way) → Any (λ w. ways w ≡ true) ws → ByRule S T
      found ws w = as_rule w.1 S T w.4

      abbrev core : Bool
      core = (same_type S T || is_plain s t) || (is_looked ks kt t || list_any ways all_ways)

      plain_core : is_plain s t ≡ true → core ≡ true
      plain_core e = or_left (same_type S T || is_plain s t) (is_looked ks kt t || list_any ways all_ways) (or_right (same_type S T) (is_plain s t) e)

      looked_core : is_looked ks kt t ≡ true → core ≡ true
      looked_core e = or_right (same_type S T || is_plain s t) (is_looked ks kt t || list_any ways all_ways) (or_left (is_looked ks kt t) (list_any ways all_ways) e)

      told_core : (is_plain s t ≡ true) ⊎ (is_looked ks kt t ≡ true) → core ≡ true
      told_core (inl e) = plain_core e
      told_core (inr e) = looked_core e

      way_core : (k : ℕ) (w : Way) → k < length all_ways → get_or all_ways k w ≡ w → ways w ≡ true → core ≡ true
      way_core k w lt at e =
          let some_way : list_any ways all_ways ≡ true = list_any_at ways all_ways k w lt (ap ways at ∙ e) in
          or_right (same_type S T || is_plain s t) (is_looked ks kt t || list_any ways all_ways) (or_right (is_looked ks kt t) (list_any ways all_ways) some_way)

      of_core : core ≡ true → ByRule S T
      of_core =
          or_elim (same_type S T || is_plain s t) (is_looked ks kt t || list_any ways all_ways) (ByRule S T)
          (or_elim (same_type S T) (is_plain s t) (ByRule S T) (λ e. (rules.equal, same_is_equal S T e)) (λ e. by_five (looks.of_plain (is_any s) (is_any t) (is_nothing s) (is_mixed t && not (is_void s)) (widens s t) (is_nonnull t) (is_made s) (is_null s && is_option t) (is_bad ks) (is_bad kt) (is_partial ks && is_class_like kt) (is_class_like ks) (is_enum ks) e)))
          (or_elim (is_looked ks kt t) (list_any ways all_ways) (ByRule S T) (λ e. by_five (looks.of_looked (is_any s) (is_any t) (is_nothing s) (is_mixed t && not (is_void s)) (widens s t) (is_nonnull t) (is_made s) (is_null s && is_option t) (is_bad ks) (is_bad kt) (is_partial ks && is_class_like kt) (is_class_like ks) (is_enum ks) e))
          (λ e. found all_ways (Any-from_list_any ways all_ways e)))

      as_core : (rule : Rule) → Follows rule m scope R S T → core ≡ true
      as_core rules.equal e = or_left (same_type S T || is_plain s t) (is_looked ks kt t || list_any ways all_ways) (or_left (same_type S T) (is_plain s t) (equal_is_same S T e))
      as_core rules.unknown e = told_core (looks.told_unknown (is_any s) (is_any t) (is_nothing s) (is_mixed t && not (is_void s)) (widens s t) (is_nonnull t) (is_made s) (is_null s && is_option t) (is_bad ks) (is_bad kt) (is_partial ks && is_class_like kt) (is_class_like ks) (is_enum ks) e)
      as_core rules.extreme e = plain_core (looks.told_extreme (is_any s) (is_any t) (is_nothing s) (is_mixed t && not (is_void s)) (widens s t) (is_nonnull t) (is_made s) (is_null s && is_option t) (is_bad ks) (is_bad kt) (is_partial ks && is_class_like kt) (is_class_like ks) (is_enum ks) e)
      as_core rules.primitive e = plain_core (looks.told_primitive (is_any s) (is_any t) (is_nothing s) (is_mixed t && not (is_void s)) (widens s t) (is_nonnull t) (is_made s) (is_null s && is_option t) (is_bad ks) (is_bad kt) (is_partial ks && is_class_like kt) (is_class_like ks) (is_enum ks) e)
      as_core rules.not_null e = told_core (looks.told_not_null (is_any s) (is_any t) (is_nothing s) (is_mixed t && not (is_void s)) (widens s t) (is_nonnull t) (is_made s) (is_null s && is_option t) (is_bad ks) (is_bad kt) (is_partial ks && is_class_like kt) (is_class_like ks) (is_enum ks) e)
      as_core rules.null e = plain_core (looks.told_null (is_any s) (is_any t) (is_nothing s) (is_mixed t && not (is_void s)) (widens s t) (is_nonnull t) (is_made s) (is_null s && is_option t) (is_bad ks) (is_bad kt) (is_partial ks && is_class_like kt) (is_class_like ks) (is_enum ks) e)
      as_core rules.into_option w = way_core 0 way.IntoOption (omega arith) refl ((into_option S T).1 w)
      as_core rules.from_option w = way_core 1 way.FromOption (omega arith) refl ((from_option S T).1 w)
      as_core rules.from_union w = way_core 2 way.FromUnion (omega arith) refl ((from_union S T).1 w)
      as_core rules.into_union w = way_core 3 way.IntoUnion (omega arith) refl ((into_union S T).1 w)
      as_core rules.container (inl (inl w)) = way_core 4 way.Vectors (omega arith) refl ((vectors S T).1 w)
      as_core rules.container (inl (inr (inl w))) = way_core 5 way.Dicts (omega arith) refl ((dicts S T).1 w)
      as_core rules.container (inl (inr (inr w))) = way_core 6 way.Keysets (omega arith) refl ((keysets S T).1 w)
      as_core rules.container (inr w) = way_core 15 way.IntoKeyed (omega arith) refl ((into_keyed S T).1 w)
      as_core rules.alias (inl w) = way_core 8 way.FromAlias (omega arith) refl ((from_alias S T).1 w)
      as_core rules.alias (inr w) = way_core 9 way.IntoAlias (omega arith) refl ((into_alias S T).1 w)
      as_core rules.shape w = way_core 7 way.Shapes (omega arith) refl ((shape S T).1 w)
      as_core rules.class_types w = way_core 10 way.ClassTypes (omega arith) refl ((class_types S T).1 w)
      as_core rules.bound (inl w) = way_core 11 way.FromParam (omega arith) refl ((from_param S T).1 w)
      as_core rules.bound (inr (inl w)) = way_core 12 way.IntoParam (omega arith) refl ((into_param S T).1 w)
      as_core rules.bound (inr (inr w)) = way_core 13 way.FromThis (omega arith) refl ((from_this S T).1 w)
      as_core rules.enum_types w = way_core 14 way.FromEnum (omega arith) refl ((from_enum S T).1 w)

      to_rules : by_rules m scope r S T ≡ true → IsSmall S × IsSmall T × ByRule S T
      to_rules e =
          let p = and_parts (is_small S && is_small T) core e in
          let q = and_parts (is_small S) (is_small T) p.0 in
          ((small S).0 q.0, (small T).0 q.1, of_core p.1)

      from_rules : IsSmall S × IsSmall T × ByRule S T → by_rules m scope r S T ≡ true
      from_rules w = and_true (is_small S && is_small T) core
          (and_true (is_small S) (is_small T) ((small S).1 w.0) ((small T).1 w.1)) (as_core w.2.0 w.2.1)

    pub step : (S T : HackType) → Decides (by_rules m scope r S T) (IsSmall S × IsSmall T × ByRule S T)
    step S T = (to_rules S T, from_rules S T)

module _ (m : Map) (scope : Scope) where
  -- types that are related are small
  pub related_small : (height : ℕ) (S T : HackType) → Sub m scope height S T → IsSmall S × IsSmall T
  unfolding Sub
  related_small zero S T w = absurd w
  related_small (suc height) S T w = (w.0, w.1)

  pub decided : (height : ℕ) (S T : HackType) → Decides (is_below m scope height S T) (Sub m scope height S T)
  unfolding is_below Sub
  decided zero S T = never ⊥ (λ w. w)
  decided (suc height) S T = step (is_below m scope height) (Sub m scope height) (decided height) (related_small height) m scope S T
