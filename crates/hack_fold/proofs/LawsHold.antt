-- What follows from the definition of a folded declaration.
use Rattle.std.proofs.Common.{◌≡◌, ◌+◌, ◌≤◌, ◌==◌, ◌||◌, ℕ, zero, suc, Bool, true, false, cond, Option, Some, None, List, [], ◌∷◌, ◌++◌, length, map, fold, flat_map, filter_map, option_map, All, Contains, refl, sym, ap, subst, ◌∙◌, arith, Ordering, Less, Equal, Greater, nat_eq}
use Rattle.std.proofs.lemmas.Cmp.{nat_eq_equiv}
use Rattle.std.proofs.lemmas.List.{get_or_default, length_push, map-append}
use Rattle.std.proofs.lemmas.List.Elements.{All-append, All-cons, All-head, All-map, All-nil, All-tail, All-weaker}
use Rattle.std.proofs.lemmas.Map.Keys.{IsDistinct-push}
use Rattle.std.specs.List.{IsDistinct, list_any}
use Rattle.std.specs.Ordering.{match_ordering}
use Rattle.hack_types.specs.MembersRise.{MembersRise, member_order}
use Rattle.hack_types.specs.declared.ids.SymbolId.{SymbolId}
use Rattle.hack_types.specs.declared.shallow.ClassSig.{ClassSig}
use Rattle.hack_types.specs.declared.shallow.Member.{Member}
use Rattle.hack_types.specs.declared.shallow.Shallow.{Shallow}
use Rattle.hack_types.specs.declared.shallow.Shallow.TheVariants as shallow
use Rattle.hack_types.specs.declared.shallow.Sort.TheVariants as sort
use Rattle.hack_decls.specs.DeclState.{Map}
use Rattle.hack_decls.specs.declared.folded.Ancestor.{Ancestor}
use Rattle.hack_decls.specs.declared.folded.ClassFolded.{ClassFolded}
use Rattle.hack_decls.specs.declared.folded.Folded.{Folded}
use Rattle.hack_decls.specs.declared.folded.Folded.TheVariants as folded
use Rattle.hack_fold.specs.FromAbove.{IsDeclaredAbove}
use Rattle.hack_fold.specs.inside.FromParents.{from_parents, known, members_in}
use Rattle.hack_decls.specs.Names.{class_symbol}
use Rattle.hack_fold.specs.Parents.{Shallows, extends_sort, parents, placed}
use Rattle.hack_fold.specs.Line.{goes_on, is_cyclic, is_in, line, most_names, parent_symbols, unlisted, walk}
use Rattle.hack_fold.specs.Paths.{ancestors_along, along, end_of, member_along, members_along, own_members, paths}
use Rattle.hack_fold.specs.Walked.{IsFolded, IsOfKind, better, chosen, class_within, firsts, gather, with_ancestor, with_member, within}
use Rattle.hack_fold.proofs.Firsts.{has}
use Rattle.hack_fold.proofs.FoldLaw.{Enough, class_folds}
use Rattle.hack_fold.proofs.MemberLaws.{rank_stays}

-- ---- how long a line is

module _ (shallows : Shallows) where
  longer_by : (room : ℕ) (listed : List SymbolId)
      → ((s : SymbolId) (more : List SymbolId) → length (walk shallows room (listed ++ s ∷ []) (parent_symbols shallows s ++ more)) ≤ length (listed ++ s ∷ []) + room)
      → (left : List SymbolId) → length (goes_on (λ s more. walk shallows room (listed ++ s ∷ []) (parent_symbols shallows s ++ more)) listed left) ≤ length listed + suc room
  longer_by room listed further [] = omega arith
  longer_by room listed further (s ∷ more) = omega (arith, further s more, length_push listed s)

  longer : (room : ℕ) (listed ahead : List SymbolId) → length (walk shallows room listed ahead) ≤ length listed + room
  unfolding walk
  longer zero listed ahead = omega arith
  longer (suc room) listed ahead =
      longer_by room listed (λ s more. longer room (listed ++ s ∷ []) (parent_symbols shallows s ++ more)) (unlisted (is_in listed) ahead)

pub line_is_short : (shallows : Shallows) (s : SymbolId) → length (line shallows s) ≤ most_names + 1
line_is_short shallows s = longer shallows 257 [] (s ∷ [])

-- ---- one answer

pub one_folded : (shallows : Shallows) (s : SymbolId) (a b : Option Folded) → IsFolded shallows s a → IsFolded shallows s b → a ≡ b
one_folded shallows s a b first second =
    let steps = first.0 + second.0 in
    sym (first.1 steps (omega arith)) ∙ second.1 steps (omega arith)

-- a folded class is declared as one
module _ (shallows : Shallows) (s : SymbolId) (steps : ℕ) (class : ClassFolded) where
  declared_by : (o : Option Shallow) → option_map (within shallows steps s) o ≡ Some (folded.ClassLike class) → (sig : ClassSig) × (class_within shallows steps s sig ≡ class)
  declared_by None e = absurd cc
  declared_by (Some (shallow.ClassLike sig)) e = (sig, cc)
  declared_by (Some (shallow.Enum sig)) e = absurd cc
  declared_by (Some (shallow.Alias sig)) e = absurd cc
  declared_by (Some (shallow.Function sig)) e = absurd cc
  declared_by (Some (shallow.Constant type)) e = absurd cc

walked : (shallows : Shallows) (s : SymbolId) (class : ClassFolded) (is : IsFolded shallows s (Some (folded.ClassLike class))) → (sig : ClassSig) × (class_within shallows is.0 s sig ≡ class)
walked shallows s class is = declared_by shallows s is.0 class (shallows s) (is.1 is.0 (omega arith))

-- ---- each ancestor once

abbrev names : List Ancestor → List ℕ
names ancestors = map (λ (a : Ancestor). a.name) ancestors

names_any : (ancestors : List Ancestor) (name : ℕ) → list_any (nat_eq name) (names ancestors) ≡ has ancestors name
names_any [] name = refl
names_any (a ∷ more) name = ap (λ b. b || list_any (nat_eq name) (names more)) (nat_eq_equiv.symm name a.name) ∙ ap (λ b. (a.name == name) || b) (names_any more name)

distinct_by : (b : Bool) (acc : List Ancestor) (x : Ancestor) → has acc x.name ≡ b → IsDistinct nat_eq (names acc) → IsDistinct nat_eq (names (cond b acc (acc ++ x ∷ [])))
distinct_by true acc x e distinct = distinct
distinct_by false acc x e distinct =
    subst (IsDistinct nat_eq) (sym (map-append (λ (a : Ancestor). a.name) acc (x ∷ []))) (IsDistinct-push nat_eq_equiv (names acc) x.name distinct (names_any acc x.name ∙ e))

distinct_all : (xs acc : List Ancestor) → IsDistinct nat_eq (names acc) → IsDistinct nat_eq (names (fold with_ancestor acc xs))
distinct_all [] acc distinct = distinct
distinct_all (x ∷ xs) acc distinct = distinct_all xs (with_ancestor acc x) (distinct_by (has acc x.name) acc x refl distinct)

distinct_firsts : (xs : List Ancestor) → IsDistinct nat_eq (names (firsts xs))
unfolding firsts IsDistinct
distinct_firsts xs = distinct_all xs [] tt

pub ancestors_once : (shallows : Shallows) (s : SymbolId) (class : ClassFolded) → IsFolded shallows s (Some (folded.ClassLike class)) → IsDistinct nat_eq (names class.ancestors)
ancestors_once shallows s class is =
    let at = walked shallows s class is in
    subst (λ (c : ClassFolded). IsDistinct nat_eq (names c.ancestors)) at.1 (distinct_firsts (flat_map ancestors_along (paths shallows is.0 s.name)))

-- ---- each member is declared above

each_in : {X : Type 0} (xs : List X) → All (Contains xs) xs
each_in xs = λ k d lt. (k, lt, get_or_default xs k _ d lt)

module _ (P : Member → Type 0) where
  all_flat : {X : Type 0} (f : X → List Member) (xs : List X) → All (λ x. All P (f x)) xs → All P (flat_map f xs)
  all_flat f [] all = All-nil P
  all_flat f (x ∷ xs) all = All-append P (f x) (flat_map f xs) (All-head (λ y. All P (f y)) x xs all) (all_flat f xs (All-tail (λ y. All P (f y)) x xs all))

  better_by : (b : Bool) (first second : Member) → P first → P second → P (cond b second first)
  better_by true first second p q = q
  better_by false first second p q = p

  gather_by : (o : Ordering) (one first : Member) (more : List Member) → P one → P first → All P more → All P (gather member_order better more one)
      → All P (match_ordering o (one ∷ first ∷ more) (better first one ∷ more) (first ∷ gather member_order better more one))
  gather_by Less one first more p q all with = All-cons P one (first ∷ more) p (All-cons P first more q all)
  gather_by Equal one first more p q all with = All-cons P (better first one) more (better_by _ first one q p) all
  gather_by Greater one first more p q all with = All-cons P first (gather member_order better more one) q with

  all_gather : (xs : List Member) (one : Member) → All P xs → P one → All P (with_member xs one)
  all_gather [] one all p = All-cons P one [] p (All-nil P)
  all_gather (x ∷ xs) one all p =
      let rest = All-tail P x xs all in
      gather_by (member_order one x) one x xs p (All-head P x xs all) rest (all_gather xs one rest p)

  all_fold : (ms acc : List Member) → All P acc → All P ms → All P (fold with_member acc ms)
  all_fold [] acc all more = all
  all_fold (m ∷ ms) acc all more = all_fold ms (with_member acc m) (all_gather acc m all (All-head P m ms more)) (All-tail P m ms more)

  all_chosen : (ms : List Member) → All P ms → All P (chosen ms)
  unfolding chosen
  all_chosen ms all = all_fold ms [] (All-nil P) all

module _ (shallows : Shallows) (steps name : ℕ) where
  on_path : (path : List Ancestor) → Contains (paths shallows steps name) path → All (IsDeclaredAbove shallows name) (members_along shallows name path)
  on_path path there =
      let own = own_members shallows (end_of name path) in
      All-map (IsDeclaredAbove shallows name) (member_along shallows name path) own
      (All-weaker (Contains own) (λ (m : Member). IsDeclaredAbove shallows name (member_along shallows name path m))
      (λ m in'. (steps, path, m, there, in', rank_stays (along path) (λ (x : Member). x.origin) m.kind, refl)) own (each_in own))

  on_paths : All (IsDeclaredAbove shallows name) (flat_map (members_along shallows name) (paths shallows steps name))
  on_paths = all_flat (IsDeclaredAbove shallows name) (members_along shallows name) (paths shallows steps name)
      (All-weaker (Contains (paths shallows steps name)) (λ path. All (IsDeclaredAbove shallows name) (members_along shallows name path)) on_path (paths shallows steps name) (each_in (paths shallows steps name)))

pub members_declared : (shallows : Shallows) (s : SymbolId) (class : ClassFolded) → IsFolded shallows s (Some (folded.ClassLike class)) → All (IsDeclaredAbove shallows s.name) class.members
members_declared shallows s class is =
    let at = walked shallows s class is in
    subst (λ (c : ClassFolded). All (IsDeclaredAbove shallows s.name) c.members) at.1
    (all_chosen (IsDeclaredAbove shallows s.name) (flat_map (members_along shallows s.name) (paths shallows is.0 s.name)) (on_paths shallows is.0 s.name))

-- ---- a class without parents

none_placed : (sig : ClassSig) → sig.uses ≡ [] → sig.extends ≡ [] → sig.implements ≡ [] → parents sig ≡ []
none_placed sig uses extends implements =
    ap (λ l. placed sort.Trait l ++ placed (extends_sort sig.sort) sig.extends ++ placed sort.Interface sig.implements) uses
    ∙ ap (λ l. placed (extends_sort sig.sort) l ++ placed sort.Interface sig.implements) extends
    ∙ ap (placed sort.Interface) implements

abbrev nothing : Map
nothing s = None

abbrev members_of : Option Folded → List Member
members_of (Some (folded.ClassLike class)) = class.members
members_of other = []

own_by : (name : ℕ) (cyclic : Bool) (sig : ClassSig) → parents sig ≡ [] → (from_parents nothing name cyclic sig).members ≡ sig.members
own_by name true sig none = refl
own_by name false sig none = ap (λ ps. fold with_member sig.members (flat_map (members_in name) (filter_map (known nothing) ps))) none

pub own_alone : (shallows : Shallows) (s : SymbolId) (sig : ClassSig) (class : ClassFolded) → shallows s ≡ Some (shallow.ClassLike sig) → IsOfKind s (shallow.ClassLike sig) → MembersRise sig.members
    → sig.uses ≡ [] → sig.extends ≡ [] → sig.implements ≡ [] → IsFolded shallows s (Some (folded.ClassLike class)) → class.members ≡ sig.members
own_alone shallows s sig class here kind rise uses extends implements is =
    let none = none_placed sig uses extends implements in
    let at : shallows (class_symbol s.name) ≡ Some (shallow.ClassLike sig) = ap shallows (sym kind) ∙ here in
    let alone = class_folds shallows nothing s.name sig at rise (λ acyclic. subst (Enough shallows nothing) (sym none) (0, λ steps le. tt)) in
    let cyclic = is_cyclic shallows (class_symbol s.name) in
    let answer = Some (folded.ClassLike (from_parents nothing s.name cyclic sig)) in
    ap members_of (one_folded shallows s (Some (folded.ClassLike class)) answer is (subst (λ t. IsFolded shallows t answer) (sym kind) alone)) ∙ own_by s.name cyclic sig none
