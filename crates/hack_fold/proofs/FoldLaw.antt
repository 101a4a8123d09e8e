-- What the walk over all paths says of a class is what its parents' folded declarations give, with its own members before.
use Rattle.std.proofs.Common.{◌≡◌, ◌+◌, ◌≤◌, ◌&&◌, ◌||◌, ◌==◌, not, ℕ, zero, suc, Bool, true, false, cond, Option, Some, None, List, [], ◌∷◌, ◌++◌, map, length, fold, flat_map, filter_map, is_some, option_map, option_and_then, All, IfSome, refl, sym, ap, subst, ◌∙◌, true≢false, arith}
use Rattle.std.proofs.lemmas.List.{append-nil, map-append}
use Rattle.std.proofs.lemmas.List.Elements.{All-head, All-tail}
use Rattle.std.proofs.lemmas.Simd.{map-map}
use Rattle.std.proofs.lemmas.Grind.{flat_map-append}
use Rattle.std.proofs.lemmas.List.Folds.{flat_map-map, list_any-append}
use Rattle.std.proofs.lemmas.List.Sums.{fold-append}
use Rattle.std.specs.List.{list_all, list_any}
use Rattle.hack_types.specs.MembersRise.{member_order, MembersRise}
use Rattle.hack_types.specs.declared.hack_type.HackType.{HackType}
use Rattle.hack_types.specs.declared.shallow.ClassSig.{ClassSig}
use Rattle.hack_types.specs.declared.shallow.Member.{Member}
use Rattle.hack_types.specs.declared.shallow.MemberKind.{MemberKind}
use Rattle.hack_types.specs.declared.shallow.MemberKind.TheVariants as kind
use Rattle.hack_types.specs.declared.shallow.Shallow.{Shallow}
use Rattle.hack_types.specs.declared.shallow.Shallow.TheVariants as shallow
use Rattle.hack_types.specs.declared.shallow.Sort.TheVariants as sort
use Rattle.hack_types.specs.declared.signature.Param.{Param}
use Rattle.hack_types.specs.declared.signature.Signature.{Signature}
use Rattle.hack_types.specs.declared.signature.TypeParam.{TypeParam}
use Rattle.hack_decls.specs.DeclState.{Map}
use Rattle.hack_decls.specs.declared.folded.Ancestor.{Ancestor}
use Rattle.hack_decls.specs.declared.folded.ClassFolded.{ClassFolded}
use Rattle.hack_decls.specs.declared.folded.Folded.TheVariants as folded
use Rattle.hack_decls.specs.Names.{class_symbol}
use Rattle.hack_fold.specs.Parents.{Parent, Shallows, all_good, class_by, class_of, fits, good, good_parents, named, parents, same_sort}
use Rattle.hack_fold.specs.Line.{is_cyclic}
use Rattle.hack_fold.specs.Paths.{ancestor_from, ancestor_in, ancestors_along, along, end_of, is_incomplete, is_trait, kind_with, lacks_by, member_along, member_with, members_along, members_by, is_trait_by, onward, onward_by, origin_along, own_members, param_with, paths, put_in, signature_with, type_param_with}
use Rattle.hack_fold.specs.Walked.{IsFolded, better, chosen, class_within, firsts, with_ancestor, with_member, within}
use Rattle.hack_fold.specs.inside.FromParents.{Known, all_known, ancestors_in, from_parents, known, known_class, known_fits, lacks, members_in, origin_in}
use Rattle.hack_fold.proofs.Firsts as thin
use Rattle.hack_fold.proofs.Gather as rise
use Rattle.hack_fold.proofs.MemberLaws.{changed, members_choose, same_choice, same_place}

-- ---- lists

module _ {X Y : Type 0} where
  flat_map-same : (f g : X → List Y) → ((x : X) → f x ≡ g x) → (xs : List X) → flat_map f xs ≡ flat_map g xs
  flat_map-same f g same [] = refl
  flat_map-same f g same (x ∷ xs) = ap (λ l. l ++ flat_map f xs) (same x) ∙ ap (λ l. g x ++ l) (flat_map-same f g same xs)

  map-same : (f g : X → Y) → ((x : X) → f x ≡ g x) → (xs : List X) → map f xs ≡ map g xs
  map-same f g same [] = refl
  map-same f g same (x ∷ xs) = ap (λ y. y ∷ map f xs) (same x) ∙ ap (λ l. g x ∷ l) (map-same f g same xs)

  list_any-map : (p : Y → Bool) (f : X → Y) (xs : List X) → list_any p (map f xs) ≡ list_any (λ x. p (f x)) xs
  list_any-map p f [] = refl
  list_any-map p f (x ∷ xs) = ap (λ b. p (f x) || b) (list_any-map p f xs)

  list_any-flat_map : (p : Y → Bool) (f : X → List Y) (xs : List X) → list_any p (flat_map f xs) ≡ list_any (λ x. list_any p (f x)) xs
  list_any-flat_map p f [] = refl
  list_any-flat_map p f (x ∷ xs) = list_any-append p (f x) (flat_map f xs) ∙ ap (λ b. list_any p (f x) || b) (list_any-flat_map p f xs)

map-flat_map : {X Y Z : Type 0} (g : Y → Z) (f : X → List Y) (xs : List X) → map g (flat_map f xs) ≡ flat_map (λ x. map g (f x)) xs
map-flat_map g f [] = refl
map-flat_map g f (x ∷ xs) = map-append g (f x) (flat_map f xs) ∙ ap (λ l. map g (f x) ++ l) (map-flat_map g f xs)

flat_map-flat_map : {X Y Z : Type 0} (g : Y → List Z) (f : X → List Y) (xs : List X) → flat_map g (flat_map f xs) ≡ flat_map (λ x. flat_map g (f x)) xs
flat_map-flat_map g f [] = refl
flat_map-flat_map g f (x ∷ xs) = flat_map-append g (f x) (flat_map f xs) ∙ ap (λ l. flat_map g (f x) ++ l) (flat_map-flat_map g f xs)

map-itself : {X : Type 0} (f : X → X) → ((x : X) → f x ≡ x) → (xs : List X) → map f xs ≡ xs
map-itself f same [] = refl
map-itself f same (x ∷ xs) = ap (λ y. y ∷ map f xs) (same x) ∙ ap (λ l. x ∷ l) (map-itself f same xs)

-- ---- types put into members

module _ (f g : HackType → HackType) where
  abbrev both : HackType → HackType
  both type = f (g type)

  param_twice : (p : Param) → param_with both p ≡ param_with f (param_with g p)
  param_twice p = refl

  type_param_twice : (p : TypeParam) → type_param_with both p ≡ type_param_with f (type_param_with g p)
  type_param_twice p =
      ap (λ upper. record { name = p.name; variance = p.variance; upper = upper; lower = map both p.lower }) (sym (map-map f g p.upper))
      ∙ ap (λ lower. record { name = p.name; variance = p.variance; upper = map f (map g p.upper); lower = lower }) (sym (map-map f g p.lower))

  signature_twice : (s : Signature) → signature_with both s ≡ signature_with f (signature_with g s)
  signature_twice s =
      let params = map-same (type_param_with both) (λ p. type_param_with f (type_param_with g p)) type_param_twice s.type_params ∙ sym (map-map (type_param_with f) (type_param_with g) s.type_params) in
      ap (λ t. record { type_params = t; params = map (param_with both) s.params; result = both s.result }) params
      ∙ ap (λ t. record { type_params = map (type_param_with f) (map (type_param_with g) s.type_params); params = t; result = both s.result }) (sym (map-map (param_with f) (param_with g) s.params))

  kind_twice : (k : MemberKind) → kind_with both k ≡ kind_with f (kind_with g k)
  kind_twice (kind.Constant type) = refl
  kind_twice (kind.Property type) = refl
  kind_twice (kind.Method sig) = ap kind.Method (signature_twice sig)

abbrev same_type : HackType → HackType
same_type type = type

param_itself : (p : Param) → param_with same_type p ≡ p
param_itself p = refl

type_param_itself : (p : TypeParam) → type_param_with same_type p ≡ p
type_param_itself p =
    ap (λ upper. record { name = p.name; variance = p.variance; upper = upper; lower = map same_type p.lower }) (map-itself same_type (λ t. refl) p.upper)
    ∙ ap (λ lower. record { name = p.name; variance = p.variance; upper = p.upper; lower = lower }) (map-itself same_type (λ t. refl) p.lower)

kind_itself : (k : MemberKind) → kind_with same_type k ≡ k
kind_itself (kind.Constant type) = refl
kind_itself (kind.Property type) = refl
kind_itself (kind.Method sig) =
    ap (λ t. kind.Method (record { type_params = t; params = map (param_with same_type) sig.params; result = sig.result })) (map-itself (type_param_with same_type) type_param_itself sig.type_params)
    ∙ ap (λ t. kind.Method (record { type_params = sig.type_params; params = t; result = sig.result })) (map-itself (param_with same_type) param_itself sig.params)

abbrev with_kind : Member → MemberKind → ℕ → Member
with_kind m k origin = record { kind = k; name = m.name; origin = origin; visibility = m.visibility; is_static = m.is_static; is_abstract = m.is_abstract; is_final = m.is_final }

-- ---- the paths over one parent

module _ (shallows : Shallows) (steps : ℕ) where
  abbrev members_of : ℕ → List Member
  members_of name = flat_map (members_along shallows name) (paths shallows steps name)

  abbrev ancestors_of : ℕ → List Ancestor
  ancestors_of name = flat_map ancestors_along (paths shallows steps name)

  abbrev partial_of : ℕ → Bool
  partial_of name = list_any (λ path. is_incomplete shallows (end_of name path)) (paths shallows steps name)

  module _ (name : ℕ) (parent : Ancestor) where
    abbrev on : List Ancestor → List Ancestor
    on path = parent ∷ path

    abbrev origin_from : Member → ℕ
    origin_from m = cond (is_trait shallows parent.name) name m.origin

    abbrev inherited : Member → Member
    inherited = changed (put_in parent.arguments) origin_from

    one_member : (path : List Ancestor) (m : Member) → member_along shallows name (parent ∷ path) m ≡ inherited (member_along shallows parent.name path m)
    one_member path m = ap (λ k. with_kind m k (origin_along shallows name (parent ∷ path) m.origin)) (kind_twice (put_in parent.arguments) (along path) m.kind)

    one_path : (path : List Ancestor) → members_along shallows name (parent ∷ path) ≡ map inherited (members_along shallows parent.name path)
    one_path path =
        let own = own_members shallows (end_of parent.name path) in
        map-same (member_along shallows name (parent ∷ path)) (λ m. inherited (member_along shallows parent.name path m)) (one_member path) own
        ∙ sym (map-map inherited (member_along shallows parent.name path) own)

    pub members_over : flat_map (members_along shallows name) (map on (paths shallows steps parent.name)) ≡ map inherited (members_of parent.name)
    members_over =
        flat_map-map (members_along shallows name) on (paths shallows steps parent.name)
        ∙ flat_map-same (λ path. members_along shallows name (on path)) (λ path. map inherited (members_along shallows parent.name path)) one_path (paths shallows steps parent.name)
        ∙ sym (map-flat_map inherited (members_along shallows parent.name) (paths shallows steps parent.name))

    -- the first path goes nowhere, and every other goes on
    further : (next : Ancestor) (xs : List (List Ancestor)) → flat_map ancestors_along (map on (map (λ path. next ∷ path) xs)) ≡ map (ancestor_in parent.arguments) (flat_map ancestors_along (map (λ path. next ∷ path) xs))
    further next [] = refl
    further next (x ∷ xs) = ap (λ l. ancestor_in parent.arguments (ancestor_from next x) ∷ l) (further next xs)

    all_further : (P : Ancestor → List (List Ancestor)) (nexts : List Ancestor)
        → flat_map ancestors_along (map on (flat_map (λ next. map (λ path. next ∷ path) (P next)) nexts)) ≡ map (ancestor_in parent.arguments) (flat_map ancestors_along (flat_map (λ next. map (λ path. next ∷ path) (P next)) nexts))
    all_further P [] = refl
    all_further P (next ∷ nexts) =
        let here = map (λ path. next ∷ path) (P next) in
        let rest = flat_map (λ n. map (λ path. n ∷ path) (P n)) nexts in
        ap (flat_map ancestors_along) (map-append on here rest) ∙ flat_map-append ancestors_along (map on here) (map on rest)
        ∙ ap (λ l. l ++ flat_map ancestors_along (map on rest)) (further next (P next)) ∙ ap (λ l. map (ancestor_in parent.arguments) (flat_map ancestors_along here) ++ l) (all_further P nexts)
        ∙ sym (ap (map (ancestor_in parent.arguments)) (flat_map-append ancestors_along here rest) ∙ map-append (ancestor_in parent.arguments) (flat_map ancestors_along here) (flat_map ancestors_along rest))

  ancestors_by : (n : ℕ) (parent : Ancestor) → flat_map ancestors_along (map (λ path. parent ∷ path) (paths shallows n parent.name)) ≡ parent ∷ map (ancestor_in parent.arguments) (flat_map ancestors_along (paths shallows n parent.name))
  unfolding paths
  ancestors_by zero parent = refl
  ancestors_by (suc n) parent = ap (λ l. parent ∷ l) (all_further 0 parent (λ next. paths shallows n next.name) (onward shallows parent.name))

  pub ancestors_over : (parent : Ancestor) → flat_map ancestors_along (map (λ path. parent ∷ path) (paths shallows steps parent.name)) ≡ parent ∷ map (ancestor_in parent.arguments) (ancestors_of parent.name)
  ancestors_over = ancestors_by steps

  -- what was chosen of a parent's members may be changed and added as they are
  chosen_members : (ms acc : List Member) (f : HackType → HackType) (origin : Member → ℕ) → fold with_member acc (map (changed f origin) (chosen ms)) ≡ fold with_member acc (map (changed f origin) ms)
  unfolding chosen
  chosen_members ms acc f origin =
      ap (fold with_member acc) (rise.all_mapped member_order better (changed f origin) (same_place f origin) (same_choice f origin) ms [])
      ∙ rise.gathered member_order better members_choose (map (changed f origin) ms) acc

  -- ---- a parent that is good, and what its folded declaration says

  pub record Says (k : Known) : Type 0 where
    pub members : k.class.members ≡ chosen (members_of k.written.name)
    pub ancestors : k.class.ancestors ≡ firsts (ancestors_of k.written.name)
    pub partial : k.class.partial ≡ partial_of k.written.name
    pub trait : same_sort k.class.sort sort.Trait ≡ is_trait shallows k.written.name

  module _ (known_map : Map) where
    pub data Match (parent : Parent) : Type 0 where
      neither : good shallows parent ≡ None → known known_map parent ≡ None → Match parent
      alike : (k : Known) → good shallows parent ≡ Some k.written → known known_map parent ≡ Some k → Says k → Match parent

    abbrev pub Matches : List Parent → Type 0
    Matches [] = Unit {0}
    Matches (p ∷ ps) = Match p × Matches ps

    abbrev goods : List Parent → List Ancestor
    goods ps = filter_map (good shallows) ps

    abbrev knowns : List Parent → List Known
    knowns ps = filter_map (known known_map) ps

    abbrev onto : {X : Type 0} → Option X → List X → List X
    onto None xs = xs
    onto (Some x) xs = x ∷ xs

    module _ (name : ℕ) where
      abbrev from : Ancestor → List Member
      from parent = map (inherited name parent) (members_of parent.name)

      known_members : (k : Known) → Says k → (acc : List Member) → fold with_member acc (members_in name k) ≡ fold with_member acc (from k.written)
      known_members k says acc =
          let parent = k.written in
          let f = put_in parent.arguments in
          let origin = origin_from name parent in
          let trait : map (λ m. member_with f (origin_in name k.class.sort m.origin) m) k.class.members ≡ map (inherited name parent) k.class.members =
          ap (λ b. map (λ (m : Member). member_with f (cond b name m.origin) m) k.class.members) says.trait in
          ap (fold with_member acc) (trait ∙ ap (map (inherited name parent)) says.members)
          ∙ chosen_members (members_of parent.name) acc f origin

      members_match : (ps : List Parent) → Matches ps → (acc : List Member) → fold with_member acc (flat_map (members_in name) (knowns ps)) ≡ fold with_member acc (flat_map from (goods ps))
      members_match [] matches acc = refl
      members_match (p ∷ ps) matches acc = by matches.0 (members_match ps matches.1)
        where
          by : Match p → ((a : List Member) → fold with_member a (flat_map (members_in name) (knowns ps)) ≡ fold with_member a (flat_map from (goods ps)))
              → fold with_member acc (flat_map (members_in name) (knowns (p ∷ ps))) ≡ fold with_member acc (flat_map from (goods (p ∷ ps)))
          by (neither g k) more =
              ap (λ o. fold with_member acc (flat_map (members_in name) (onto o (knowns ps)))) k
              ∙ more acc
              ∙ sym (ap (λ o. fold with_member acc (flat_map from (onto o (goods ps)))) g)
          by (alike one g k says) more =
              ap (λ o. fold with_member acc (flat_map (members_in name) (onto o (knowns ps)))) k
              ∙ fold-append with_member acc (members_in name one) (flat_map (members_in name) (knowns ps))
              ∙ ap (λ a. fold with_member a (flat_map (members_in name) (knowns ps))) (known_members one says acc)
              ∙ more (fold with_member acc (from one.written))
              ∙ sym (fold-append with_member acc (from one.written) (flat_map from (goods ps)))
              ∙ sym (ap (λ o. fold with_member acc (flat_map from (onto o (goods ps)))) g)

    abbrev ancestors_from : Ancestor → List Ancestor
    ancestors_from parent = parent ∷ map (ancestor_in parent.arguments) (ancestors_of parent.name)

    known_ancestors : (k : Known) → Says k → (acc : List Ancestor) → fold with_ancestor acc (ancestors_in k) ≡ fold with_ancestor acc (ancestors_from k.written)
    known_ancestors k says acc =
        let parent = k.written in
        let f = ancestor_in parent.arguments in
        let before = with_ancestor acc parent in
        ap (λ l. fold with_ancestor before (map f l)) says.ancestors
        ∙ ap (fold with_ancestor before) (thin.firsts_mapped f (λ a. refl) (ancestors_of parent.name))
        ∙ thin.thinned (map f (ancestors_of parent.name)) before

    ancestors_match : (ps : List Parent) → Matches ps → (acc : List Ancestor) → fold with_ancestor acc (flat_map ancestors_in (knowns ps)) ≡ fold with_ancestor acc (flat_map ancestors_from (goods ps))
    ancestors_match [] matches acc = refl
    ancestors_match (p ∷ ps) matches acc = by matches.0 (ancestors_match ps matches.1)
      where
        by : Match p → ((a : List Ancestor) → fold with_ancestor a (flat_map ancestors_in (knowns ps)) ≡ fold with_ancestor a (flat_map ancestors_from (goods ps)))
            → fold with_ancestor acc (flat_map ancestors_in (knowns (p ∷ ps))) ≡ fold with_ancestor acc (flat_map ancestors_from (goods (p ∷ ps)))
        by (neither g k) more =
            ap (λ o. fold with_ancestor acc (flat_map ancestors_in (onto o (knowns ps)))) k
            ∙ more acc
            ∙ sym (ap (λ o. fold with_ancestor acc (flat_map ancestors_from (onto o (goods ps)))) g)
        by (alike one g k says) more =
            ap (λ o. fold with_ancestor acc (flat_map ancestors_in (onto o (knowns ps)))) k
            ∙ fold-append with_ancestor acc (ancestors_in one) (flat_map ancestors_in (knowns ps))
            ∙ ap (λ a. fold with_ancestor a (flat_map ancestors_in (knowns ps))) (known_ancestors one says acc)
            ∙ more (fold with_ancestor acc (ancestors_from one.written))
            ∙ sym (fold-append with_ancestor acc (ancestors_from one.written) (flat_map ancestors_from (goods ps)))
            ∙ sym (ap (λ o. fold with_ancestor acc (flat_map ancestors_from (onto o (goods ps)))) g)

    -- what isn't known: a parent that isn't good, or what a good one lacks
    all_match : (ps : List Parent) → Matches ps → list_all (λ p. is_some (known known_map p)) ps ≡ list_all (λ p. is_some (good shallows p)) ps
    all_match [] matches = refl
    all_match (p ∷ ps) matches = by matches.0 (all_match ps matches.1)
      where
        by : Match p → list_all (λ q. is_some (known known_map q)) ps ≡ list_all (λ q. is_some (good shallows q)) ps → list_all (λ q. is_some (known known_map q)) (p ∷ ps) ≡ list_all (λ q. is_some (good shallows q)) (p ∷ ps)
        by (neither g k) more = ap (λ o. is_some o && list_all (λ q. is_some (known known_map q)) ps) k ∙ sym (ap (λ o. is_some o && list_all (λ q. is_some (good shallows q)) ps) g)
        by (alike one g k says) more =
            ap (λ o. is_some o && list_all (λ q. is_some (known known_map q)) ps) k ∙ more
            ∙ sym (ap (λ o. is_some o && list_all (λ q. is_some (good shallows q)) ps) g)

    partial_match : (ps : List Parent) → Matches ps → list_any (λ k. k.class.partial) (knowns ps) ≡ list_any (λ parent. partial_of parent.name) (goods ps)
    partial_match [] matches = refl
    partial_match (p ∷ ps) matches = by matches.0 (partial_match ps matches.1)
      where
        by : Match p → list_any (λ (k : Known). k.class.partial) (knowns ps) ≡ list_any (λ parent. partial_of parent.name) (goods ps)
            → list_any (λ (k : Known). k.class.partial) (knowns (p ∷ ps)) ≡ list_any (λ parent. partial_of parent.name) (goods (p ∷ ps))
        by (neither g k) more =
            ap (λ o. list_any (λ (k : Known). k.class.partial) (onto o (knowns ps))) k ∙ more
            ∙ sym (ap (λ o. list_any (λ parent. partial_of parent.name) (onto o (goods ps))) g)
        by (alike one g k says) more =
            ap (λ o. list_any (λ (k : Known). k.class.partial) (onto o (knowns ps))) k
            ∙ ap (λ b. b || list_any (λ (k : Known). k.class.partial) (knowns ps)) says.partial
            ∙ ap (λ b. partial_of one.written.name || b) more
            ∙ sym (ap (λ o. list_any (λ parent. partial_of parent.name) (onto o (goods ps))) g)

-- ---- one step of the walk

module _ (shallows : Shallows) (steps : ℕ) (known_map : Map) (name : ℕ) (sig : ClassSig)
    (here : class_of shallows name ≡ Some sig) (rises : MembersRise sig.members) where
  abbrev cyclic : Bool
  cyclic = is_cyclic shallows (class_symbol name)

  own_is : own_members shallows name ≡ sig.members
  own_is = ap members_by here

  itself : members_along shallows name [] ≡ sig.members
  itself =
      map-itself (member_along shallows name []) (λ m. ap (λ k. with_kind m k m.origin) (kind_itself m.kind)) (own_members shallows name) ∙ own_is

  own_stay : fold with_member [] sig.members ≡ sig.members
  own_stay = rise.whole member_order better members_choose sig.members rises

  -- a cyclic class has one path
  module _ (is : cyclic ≡ true) where
    alone : paths shallows (suc steps) name ≡ [] ∷ []
    unfolding paths
    alone = ap (λ b. [] ∷ flat_map (λ parent. map (λ path. parent ∷ path) (paths shallows steps parent.name)) (onward_by shallows b (class_of shallows name))) is

    pub cyclic_members : chosen (flat_map (members_along shallows name) (paths shallows (suc steps) name)) ≡ sig.members
    unfolding chosen
    cyclic_members = ap (λ ps. fold with_member [] (flat_map (members_along shallows name) ps)) alone ∙ ap (λ l. fold with_member [] l) (append-nil (members_along shallows name []) ∙ itself) ∙ own_stay

    pub cyclic_ancestors : firsts (flat_map ancestors_along (paths shallows (suc steps) name)) ≡ []
    unfolding firsts
    cyclic_ancestors = ap (λ ps. fold with_ancestor [] (flat_map ancestors_along ps)) alone

    pub cyclic_partial : list_any (λ path. is_incomplete shallows (end_of name path)) (paths shallows (suc steps) name) ≡ true
    cyclic_partial = ap (list_any (λ path. is_incomplete shallows (end_of name path))) alone ∙ ap (λ b. (b || lacks_by shallows (class_of shallows name)) || false) is

  abbrev with_parts : (partial : Bool) (ancestors : List Ancestor) (members : List Member) → ClassFolded
  with_parts partial ancestors members = record {
    sort = sig.sort;
    is_abstract = sig.is_abstract;
    is_final = sig.is_final;
    cyclic = cyclic;
    partial = partial;
    type_params = sig.type_params;
    ancestors = ancestors;
    members = members;
  }

  joined : (p q : Bool) (a b : List Ancestor) (m n : List Member) → p ≡ q → a ≡ b → m ≡ n → with_parts p a m ≡ with_parts q b n
  joined p q a b m n ep ea em = ap (λ x. with_parts x a m) ep ∙ ap (λ x. with_parts q x m) ea ∙ ap (λ x. with_parts q b x) em

  abbrev partial_by_paths : Bool
  partial_by_paths = list_any (λ path. is_incomplete shallows (end_of name path)) (paths shallows (suc steps) name)

  abbrev ancestors_by_paths : List Ancestor
  ancestors_by_paths = firsts (flat_map ancestors_along (paths shallows (suc steps) name))

  abbrev members_by_paths : List Member
  members_by_paths = chosen (flat_map (members_along shallows name) (paths shallows (suc steps) name))

  abbrev their_ancestors : List Ancestor
  their_ancestors = fold with_ancestor [] (flat_map ancestors_in (all_known known_map sig))

  abbrev their_members : List Member
  their_members = fold with_member sig.members (flat_map (members_in name) (all_known known_map sig))

  -- every other goes on to its good parents
  module _ (matches : Matches shallows steps known_map (parents sig)) (is : cyclic ≡ false) where
    abbrev ups : List Ancestor
    ups = good_parents shallows sig

    going : paths shallows (suc steps) name ≡ [] ∷ flat_map (λ parent. map (λ path. parent ∷ path) (paths shallows steps parent.name)) ups
    unfolding paths
    going =
        ap (λ b. [] ∷ flat_map (λ parent. map (λ path. parent ∷ path) (paths shallows steps parent.name)) (onward_by shallows b (class_of shallows name))) is
        ∙ ap (λ c. [] ∷ flat_map (λ parent. map (λ path. parent ∷ path) (paths shallows steps parent.name)) (onward_by shallows false c)) here

    abbrev over : Ancestor → List (List Ancestor)
    over parent = map (λ path. parent ∷ path) (paths shallows steps parent.name)

    pub members_step : chosen (flat_map (members_along shallows name) (paths shallows (suc steps) name)) ≡ fold with_member sig.members (flat_map (members_in name) (all_known known_map sig))
    unfolding chosen
    members_step =
        ap (λ ps. fold with_member [] (flat_map (members_along shallows name) ps)) going
        ∙ fold-append with_member [] (members_along shallows name []) (flat_map (members_along shallows name) (flat_map over ups))
        ∙ ap (λ acc. fold with_member acc (flat_map (members_along shallows name) (flat_map over ups))) (ap (λ l. fold with_member [] l) itself ∙ own_stay)
        ∙ ap (fold with_member sig.members) (flat_map-flat_map (members_along shallows name) over ups
        ∙ flat_map-same (λ parent. flat_map (members_along shallows name) (over parent)) (from shallows steps known_map name) (members_over shallows steps name) ups)
        ∙ sym (members_match shallows steps known_map name (parents sig) matches sig.members)

    pub ancestors_step : firsts (flat_map ancestors_along (paths shallows (suc steps) name)) ≡ fold with_ancestor [] (flat_map ancestors_in (all_known known_map sig))
    unfolding firsts
    ancestors_step =
        ap (λ ps. fold with_ancestor [] (flat_map ancestors_along ps)) going
        ∙ ap (fold with_ancestor []) (flat_map-flat_map ancestors_along over ups
        ∙ flat_map-same (λ parent. flat_map ancestors_along (over parent)) (ancestors_from shallows steps known_map) (ancestors_over shallows steps) ups)
        ∙ sym (ancestors_match shallows steps known_map (parents sig) matches [])

    pub partial_step : list_any (λ path. is_incomplete shallows (end_of name path)) (paths shallows (suc steps) name) ≡ lacks known_map sig
    partial_step =
        let test = λ (path : List Ancestor). is_incomplete shallows (end_of name path) in
        ap (list_any test) going
        ∙ ap (λ b. (b || lacks_by shallows (class_of shallows name)) || list_any test (flat_map over ups)) is
        ∙ ap (λ c. lacks_by shallows c || list_any test (flat_map over ups)) here
        ∙ ap (λ b. not (all_good shallows sig) || b) (list_any-flat_map test over ups ∙ each ups ∙ sym (partial_match shallows steps known_map (parents sig) matches))
        ∙ ap (λ b. not b || list_any (λ (k : Known). k.class.partial) (all_known known_map sig)) (sym (all_match shallows steps known_map (parents sig) matches))
      where
        each : (qs : List Ancestor) → list_any (λ parent. list_any (λ path. is_incomplete shallows (end_of name path)) (over parent)) qs ≡ list_any (λ parent. partial_of shallows steps parent.name) qs
        each [] = refl
        each (q ∷ qs) =
            ap (λ b. b || list_any (λ parent. list_any (λ path. is_incomplete shallows (end_of name path)) (over parent)) qs) (list_any-map (λ path. is_incomplete shallows (end_of name path)) (λ path. q ∷ path) (paths shallows steps q.name))
            ∙ ap (λ b. partial_of shallows steps q.name || b) (each qs)

  -- what the walk says of a class with one parent more on its paths is what the parents' declarations give
  abbrev Step : Bool → Type 0
  Step b = with_parts partial_by_paths ancestors_by_paths members_by_paths ≡ with_parts (b || lacks known_map sig) (cond b [] their_ancestors) (cond b sig.members their_members)

  cyclic_step : cyclic ≡ true → Step true
  cyclic_step e = joined partial_by_paths true ancestors_by_paths [] members_by_paths sig.members (cyclic_partial e) (cyclic_ancestors e) (cyclic_members e)

  other_step : Matches shallows steps known_map (parents sig) → cyclic ≡ false → Step false
  other_step matches e =
      joined partial_by_paths (lacks known_map sig) ancestors_by_paths their_ancestors members_by_paths their_members (partial_step matches e) (ancestors_step matches e) (members_step matches e)

  step_by : (b : Bool) → cyclic ≡ b → (cyclic ≡ false → Matches shallows steps known_map (parents sig)) → Step cyclic
  step_by true e matches = subst Step (sym e) (cyclic_step e)
  step_by false e matches = subst Step (sym e) (other_step (matches e) e)

  pub one_step : (cyclic ≡ false → Matches shallows steps known_map (parents sig)) → class_within shallows (suc steps) (class_symbol name) sig ≡ from_parents known_map name cyclic sig
  one_step matches = step_by cyclic refl matches

-- ---- the parents' declarations are what the walk says of them

module _ (shallows : Shallows) (steps : ℕ) (known_map : Map) (parent : Parent) where
  abbrev Entry : Ancestor → Type 0
  Entry written = option_map (within shallows steps (class_symbol written.name)) (shallows (class_symbol written.name)) ≡ known_map (class_symbol written.name)

  is_good : (w : Ancestor) → named parent ≡ Some w → good shallows parent ≡ cond (fits (class_of shallows w.name) parent.wanted (length w.arguments)) (Some w) None
  is_good w n = ap (option_and_then (λ v. cond (fits (class_of shallows v.name) parent.wanted (length v.arguments)) (Some v) None)) n

  is_known : (w : Ancestor) → named parent ≡ Some w → known known_map parent ≡ option_and_then (known_fits parent.wanted w) (known_class (known_map (class_symbol w.name)))
  is_known w n = ap (option_and_then (λ v. option_and_then (known_fits parent.wanted v) (known_class (known_map (class_symbol v.name))))) n

  no_class : (w : Ancestor) → named parent ≡ Some w → class_of shallows w.name ≡ None → known_class (known_map (class_symbol w.name)) ≡ None → Match shallows steps known_map parent
  no_class w n c k = neither
      (is_good w n ∙ ap (λ o. cond (fits o parent.wanted (length w.arguments)) (Some w) None) c)
      (is_known w n ∙ ap (option_and_then (known_fits parent.wanted w)) k)

  module _ (w : Ancestor) (sg : ClassSig) (n : named parent ≡ Some w) (d : shallows (class_symbol w.name) ≡ Some (shallow.ClassLike sg)) (e : Entry w) where
    abbrev one : Known
    one = record { written = w; class = class_within shallows steps (class_symbol w.name) sg }

    abbrev test : Bool
    test = same_sort sg.sort parent.wanted && (length w.arguments == length sg.type_params)

    class_is : class_of shallows w.name ≡ Some sg
    class_is = ap class_by d

    good_is : good shallows parent ≡ cond test (Some w) None
    good_is = is_good w n ∙ ap (λ o. cond (fits o parent.wanted (length w.arguments)) (Some w) None) class_is

    known_is : known known_map parent ≡ cond test (Some one) None
    known_is = is_known w n ∙ ap (λ o. option_and_then (known_fits parent.wanted w) (known_class o)) (sym e ∙ ap (option_map (within shallows steps (class_symbol w.name))) d)

    says : Says shallows steps one
    says = record { members = refl; ancestors = refl; partial = refl; trait = sym (ap is_trait_by class_is) }

    match_by : (b : Bool) → test ≡ b → Match shallows steps known_map parent
    match_by true t = alike one (good_is ∙ ap (λ b. cond b (Some w) None) t) (known_is ∙ ap (λ b. cond b (Some one) None) t) says
    match_by false t = neither (good_is ∙ ap (λ b. cond b (Some w) None) t) (known_is ∙ ap (λ b. cond b (Some one) None) t)

  under_by : (w : Ancestor) → named parent ≡ Some w → Entry w → (o : Option Shallow) → shallows (class_symbol w.name) ≡ o → Match shallows steps known_map parent
  under_by w n e None d = no_class w n (ap class_by d) (ap known_class (sym e ∙ ap (option_map (within shallows steps (class_symbol w.name))) d))
  under_by w n e (Some (shallow.ClassLike sg)) d = match_by w sg n d e (test w sg n d e) refl
  under_by w n e (Some (shallow.Enum x)) d = no_class w n (ap class_by d) (ap known_class (sym e ∙ ap (option_map (within shallows steps (class_symbol w.name))) d))
  under_by w n e (Some (shallow.Alias x)) d = no_class w n (ap class_by d) (ap known_class (sym e ∙ ap (option_map (within shallows steps (class_symbol w.name))) d))
  under_by w n e (Some (shallow.Function x)) d = no_class w n (ap class_by d) (ap known_class (sym e ∙ ap (option_map (within shallows steps (class_symbol w.name))) d))
  under_by w n e (Some (shallow.Constant x)) d = no_class w n (ap class_by d) (ap known_class (sym e ∙ ap (option_map (within shallows steps (class_symbol w.name))) d))

  unnamed : named parent ≡ None → Match shallows steps known_map parent
  unnamed n = neither
      (ap (option_and_then (λ v. cond (fits (class_of shallows v.name) parent.wanted (length v.arguments)) (Some v) None)) n)
      (ap (option_and_then (λ v. option_and_then (known_fits parent.wanted v) (known_class (known_map (class_symbol v.name))))) n)

module _ (shallows : Shallows) (known_map : Map) where
  abbrev IsKnown : Ancestor → Type 0
  IsKnown written = IsFolded shallows (class_symbol written.name) (known_map (class_symbol written.name))

  abbrev pub Enough : List Parent → Type 0
  Enough ps = (enough : ℕ) × ((steps : ℕ) → enough ≤ steps → Matches shallows steps known_map ps)

  one_enough : (p : Parent) (o : Option Ancestor) → named p ≡ o → IfSome o IsKnown → (enough : ℕ) × ((steps : ℕ) → enough ≤ steps → Match shallows steps known_map p)
  one_enough p None n h = (0, λ steps le. unnamed shallows steps known_map p n)
  one_enough p (Some w) n h = (h.0, λ steps le. under_by shallows steps known_map p w n (h.1 steps le) (shallows (class_symbol w.name)) refl)

  pub all_enough : (ps : List Parent) → All (λ p. IfSome (named p) IsKnown) ps → Enough ps
  all_enough [] all = (0, λ steps le. tt)
  all_enough (p ∷ ps) all =
      let first = one_enough p (named p) refl (All-head (λ q. IfSome (named q) IsKnown) p ps all) in
      let rest = all_enough ps (All-tail (λ q. IfSome (named q) IsKnown) p ps all) in
      (first.0 + rest.0, λ steps le. (first.1 steps (omega (arith, le)), rest.1 steps (omega (arith, le))))

  -- the declarations of a class's parents give what all its paths say
  module _ (name : ℕ) (sig : ClassSig) (declared : shallows (class_symbol name) ≡ Some (shallow.ClassLike sig)) (rises : MembersRise sig.members) where
    abbrev itself_cyclic : Bool
    itself_cyclic = is_cyclic shallows (class_symbol name)

    at : (enough steps : ℕ) → (itself_cyclic ≡ false → (n : ℕ) → enough ≤ n → Matches shallows n known_map (parents sig)) → enough + 1 ≤ steps
        → option_map (within shallows steps (class_symbol name)) (shallows (class_symbol name)) ≡ Some (folded.ClassLike (from_parents known_map name itself_cyclic sig))
    at enough zero matches le = absurd (omega (arith, le))
    at enough (suc steps) matches le =
        ap (option_map (within shallows (suc steps) (class_symbol name))) declared
        ∙ ap (λ c. Some (folded.ClassLike c)) (one_step shallows steps known_map name sig (ap class_by declared) rises (λ acyclic. matches acyclic steps (omega (arith, le))))

    folds_by : (b : Bool) → itself_cyclic ≡ b → (itself_cyclic ≡ false → Enough (parents sig))
        → IsFolded shallows (class_symbol name) (Some (folded.ClassLike (from_parents known_map name itself_cyclic sig)))
    folds_by true e enough = (1, λ steps le. at 0 steps (λ acyclic. absurd (true≢false (sym e ∙ acyclic))) le)
    folds_by false e enough = let all = enough e in (all.0 + 1, λ steps le. at all.0 steps (λ acyclic. all.1) le)

    pub class_folds : (itself_cyclic ≡ false → Enough (parents sig)) → IsFolded shallows (class_symbol name) (Some (folded.ClassLike (from_parents known_map name itself_cyclic sig)))
    class_folds enough = folds_by itself_cyclic refl enough
