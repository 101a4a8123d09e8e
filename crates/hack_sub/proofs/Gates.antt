-- What the known sort of a type rules out, and types that are too large.
use Rattle.std.proofs.Common.{◌≡◌, ◌&&◌, ◌||◌, ◌⊎◌, ◌==◌, ◌+◌, ◌∙◌, ℕ, suc, Bool, true, false, not, Decides, Option, Some, None, List, [], ◌∷◌, length, IsTrue, refl, sym, ap, nat_lt, arith, sum_by, is_some}
use Rattle.std.proofs.lemmas.Bool.{false≢true, le-leb, leb-true}
use Rattle.std.proofs.lemmas.Bool.Decides.{Decides-ltb}
use Rattle.std.proofs.lemmas.List.Sums.{sum_by-cons}
use Rattle.std.specs.Bool.{if◌then◌else◌}
use Rattle.std.specs.List.{list_all}
use Rattle.std.specs.Option.{IsSomeAnd, option_and_then}
use Rattle.hack_types.specs.Substituted.{most_nodes, substitute}
use Rattle.hack_types.specs.NodeLaws.{nodes_of_class}
use Rattle.hack_types.specs.TypeNodes.{node_count, nodes}
use Rattle.hack_types.specs.declared.hack_type.HackType.{HackType}
use Rattle.hack_types.specs.declared.hack_type.HackType.TheFolds.{fold-roll-HackType}
use Rattle.hack_types.specs.declared.hack_type.HackType.TheOpen.{HackType-F}
use Rattle.hack_types.specs.declared.hack_type.HackType.TheVariants as type
use Rattle.hack_types.specs.declared.signature.TypeParam.{TypeParam}
use Rattle.hack_types.specs.declared.shallow.EnumSig.{EnumSig}
use Rattle.hack_decls.specs.DeclState.{Map}
use Rattle.hack_decls.specs.Names.{class_symbol}
use Rattle.hack_decls.specs.declared.folded.Folded.{Folded}
use Rattle.hack_decls.specs.declared.folded.Folded.TheVariants as folded
use Rattle.hack_sub.proofs.Decides.{either, never}
use Rattle.hack_sub.specs.IsBelow.{all_small, bound_of, is_small, small_only, some_and}
use Rattle.hack_sub.specs.Knowing.{enum_by, expanded_by, is_alias, is_enum, is_trait, known_as, known_by}
use Rattle.hack_sub.specs.Scopes.{own_params}
use Rattle.hack_sub.specs.Sub.{IsSmall}
use Rattle.hack_sub.specs.declared.known.Known.TheVariants as sorts

pub small : (ty : HackType) → Decides (is_small ty) (IsSmall ty)
small ty = (leb-true (nodes ty) most_nodes, le-leb (nodes ty) most_nodes)

abbrev if_small : Bool → HackType → Option HackType
if_small b U = if b then Some U else None

-- a fact that holds of small types alone needs no other
module _ (test : HackType → Bool) (P : HackType → Type 0) (each : (U : HackType) → Decides (test U) (P U)) (few : (U : HackType) → P U → IsSmall U) where
  by_size : (b : Bool) (U : HackType) → Decides b (IsSmall U) → Decides (some_and (if_small b U) test) (P U)
  by_size true U size = each U
  by_size false U size = never (P U) (λ p. false≢true (size.1 (few U p)))

  pub small_some : (o : Option HackType) → Decides (some_and (option_and_then small_only o) test) (IsSomeAnd o P)
  small_some None = never ⊥ (λ w. w)
  small_some (Some U) = by_size (is_small U) U (small U)

-- the same of a list of them
module _ (test : List HackType → Bool) (P : List HackType → Type 0) (each : (Us : List HackType) → Decides (test Us) (P Us))
    (few : (Us : List HackType) → P Us → list_all is_small Us ≡ true) where
  abbrev if_all : Bool → List HackType → Option (List HackType)
  if_all b Us = if b then Some Us else None

  by_sizes : (b : Bool) (Us : List HackType) → (P Us → b ≡ true) → Decides (some_and (if_all b Us) test) (P Us)
  by_sizes true Us need = each Us
  by_sizes false Us need = never (P Us) (λ p. false≢true (need p))

  pub all_small_some : (o : Option (List HackType)) → Decides (some_and (option_and_then all_small o) test) (IsSomeAnd o P)
  all_small_some None = never ⊥ (λ w. w)
  all_small_some (Some Us) = by_sizes (list_all is_small Us) Us (few Us)

-- an alias is known as one
module _ (P : HackType → Type 0) where
  of_alias : (b : Bool) (body : HackType) → IsSomeAnd (if_small b body) P → is_alias (if b then sorts.Alias else sorts.Bad) ≡ true
  of_alias true body w = refl
  of_alias false body w = absurd w

  alias_entry : (arguments : List HackType) (entry : Option Folded) → IsSomeAnd (expanded_by arguments entry) P → is_alias (known_by (length arguments) entry) ≡ true
  alias_entry arguments None w = absurd w
  alias_entry arguments (Some (folded.ClassLike class)) w = absurd w
  alias_entry arguments (Some (folded.Enum sig)) w = absurd w
  alias_entry arguments (Some (folded.Alias sig)) w = of_alias (length arguments == length sig.type_params) (substitute arguments sig.body) w
  alias_entry arguments (Some (folded.Function sig)) w = absurd w
  alias_entry arguments (Some (folded.Constant ty)) w = absurd w

  pub alias_known : (m : Map) (arguments : List HackType) (name : Option ℕ)
      → IsSomeAnd (option_and_then (λ n. expanded_by arguments (m (class_symbol n))) name) P → is_alias (known_as m (length arguments) name) ≡ true
  alias_known m arguments None w = absurd w
  alias_known m arguments (Some n) w = alias_entry arguments (m (class_symbol n)) w

abbrev if_sig : Bool → EnumSig → Option EnumSig
if_sig b sig = if b then Some sig else None

-- and an enum as one
module _ (P : EnumSig → Type 0) where
  of_enum : (b : Bool) (sig : EnumSig) → IsSomeAnd (if_sig b sig) P → is_enum (if b then sorts.Enum else sorts.Bad) ≡ true
  of_enum true sig w = refl
  of_enum false sig w = absurd w

  enum_entry : (count : ℕ) (entry : Option Folded) → IsSomeAnd (enum_by count entry) P → is_enum (known_by count entry) ≡ true
  enum_entry count None w = absurd w
  enum_entry count (Some (folded.ClassLike class)) w = absurd w
  enum_entry count (Some (folded.Enum sig)) w = of_enum (count == 0) sig w
  enum_entry count (Some (folded.Alias sig)) w = absurd w
  enum_entry count (Some (folded.Function sig)) w = absurd w
  enum_entry count (Some (folded.Constant ty)) w = absurd w

  pub enum_known : (m : Map) (count : ℕ) (name : Option ℕ)
      → IsSomeAnd (option_and_then (λ n. enum_by count (m (class_symbol n))) name) P → is_enum (known_as m count name) ≡ true
  enum_known m count None w = absurd w
  enum_known m count (Some n) w = enum_entry count (m (class_symbol n)) w

-- what is known as an enum is one
enum_class : (b : Bool) (partial : Bool) → is_enum (if b then sorts.Bad else sorts.ClassLike partial) ≡ true → ⊥
enum_class true partial e = false≢true e
enum_class false partial e = false≢true e

enum_alias : (b : Bool) → is_enum (if b then sorts.Alias else sorts.Bad) ≡ true → ⊥
enum_alias true e = false≢true e
enum_alias false e = false≢true e

enum_is_there : (b : Bool) (sig : EnumSig) → is_enum (if b then sorts.Enum else sorts.Bad) ≡ true → is_some (if_sig b sig) ≡ true
enum_is_there true sig e = refl
enum_is_there false sig e = absurd (false≢true e)

entry_is_there : (count : ℕ) (entry : Option Folded) → is_enum (known_by count entry) ≡ true → is_some (enum_by count entry) ≡ true
entry_is_there count None e = absurd (false≢true e)
entry_is_there count (Some (folded.ClassLike class)) e = absurd (enum_class (is_trait class.sort || not (count == length class.type_params)) class.partial e)
entry_is_there count (Some (folded.Enum sig)) e = enum_is_there (count == 0) sig e
entry_is_there count (Some (folded.Alias sig)) e = absurd (enum_alias (count == length sig.type_params) e)
entry_is_there count (Some (folded.Function sig)) e = absurd (false≢true e)
entry_is_there count (Some (folded.Constant ty)) e = absurd (false≢true e)

pub enum_there : (m : Map) (count : ℕ) (name : Option ℕ) → is_enum (known_as m count name) ≡ true
    → is_some (option_and_then (λ n. enum_by count (m (class_symbol n))) name) ≡ true
enum_there m count None e = absurd (false≢true e)
enum_there m count (Some n) e = entry_is_there count (m (class_symbol n)) e

-- the base that an enum is declared `as`
module _ (test : HackType → Bool) (P : HackType → Type 0) (each : (U : HackType) → Decides (test U) (P U)) where
  abbrev if_bounded : Bool → HackType → Option HackType
  if_bounded b base = if b then Some base else None

  base_by : (b : Bool) (base : HackType) → Decides (some_and (if_bounded b base) test) (IsTrue b × P base)
  base_by true base = (λ e. (refl, (each base).0 e), λ w. (each base).1 w.1)
  base_by false base = never (IsTrue false × P base) (λ w. false≢true w.0)

  pub enum_some : (key : Bool) (K : Type 0) → Decides key K → (gate : Bool) (o : Option EnumSig)
      → (IsSomeAnd o (λ sig. K ⊎ (IsTrue sig.bounded × P sig.base)) → gate ≡ true) → (gate ≡ true → is_some o ≡ true)
      → Decides (gate && (key || some_and (option_and_then bound_of o) test)) (IsSomeAnd o (λ sig. K ⊎ (IsTrue sig.bounded × P sig.base)))
  enum_some key K keyed true None need there = absurd (false≢true (there refl))
  enum_some key K keyed false None need there = never ⊥ (λ w. w)
  enum_some key K keyed true (Some sig) need there = either key (some_and (bound_of sig) test) K (IsTrue sig.bounded × P sig.base) keyed (base_by sig.bounded sig.base)
  enum_some key K keyed false (Some sig) need there = never (K ⊎ (IsTrue sig.bounded × P sig.base)) (λ w. false≢true (need w))

-- the scope's class has a node for itself and one for each of its parameters
one_more : (n : ℕ) → 1 + n ≡ suc n
one_more n = omega arith

own_nodes : (position : ℕ) (params : List TypeParam) → sum_by nodes (own_params position params) ≡ length params
own_nodes position [] = refl
own_nodes position (param ∷ params) =
    let here : nodes (type.ClassParam position param.name) ≡ 1 = ap nodes (sym (type.rolls-ClassParam position param.name)) ∙ fold-roll-HackType ℕ node_count (HackType-F.ClassParam position param.name) in
    let rest = own_nodes (suc position) params in
    sum_by-cons nodes (type.ClassParam position param.name) (own_params (suc position) params)
    ∙ ap (λ n. n + sum_by nodes (own_params (suc position) params)) here ∙ ap (λ n. 1 + n) rest ∙ one_more (length params)

pub params_few : (name : ℕ) (params : List TypeParam) → IsSmall (type.Class name (own_params 0 params)) → nat_lt (length params) most_nodes ≡ true
params_few name params few =
    let count : nodes (type.Class name (own_params 0 params)) ≡ 1 + sum_by nodes (own_params 0 params) = nodes_of_class name (own_params 0 params) in
    let own = own_nodes 0 params in
    (Decides-ltb (length params) most_nodes).1 (omega (arith, count, own, few))
