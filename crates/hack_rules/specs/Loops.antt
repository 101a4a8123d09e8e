-- Loops, each passed three times (docs/language.md, Typing statements, Loops).
use Rattle.std.specs.Prelude.{ℕ, suc, nat_le, true, if◌then◌else◌, Option, Some, None, List, [], ◌∷◌, ◌++◌, option_to_list}
use Rattle.hack_types.specs.declared.hack_type.HackType.{HackType, out-HackType}
use Rattle.hack_types.specs.declared.hack_type.HackType.TheOpen.{HackType-F}
use Rattle.hack_types.specs.declared.hack_type.HackType.TheVariants as type
use Rattle.hack_types.specs.declared.place.Place.{Place}
use Rattle.hack_types.specs.Substituted.{limited}
use Rattle.hack_rules.specs.Ends.{Doing, Ends, Inside, ends_here}
use Rattle.hack_rules.specs.Heads.{head_of}
use Rattle.hack_infer.specs.Seeing.{seen_as}
use Rattle.hack_rules.specs.Meanings.{Branches, Meaning}
use Rattle.hack_diag.specs.Messages.{may_be_null, not_iterated, too_many_loops}
use Rattle.hack_rules.specs.Variables.{Variables, either, joined_with, widened}
use Rattle.hack_rules.specs.Walks.{Walk, ◌>>=◌, ◌>>◌, pure, reads, assign, each, quietly, replace, report, variables}

-- how many loops may stand in one another
abbrev pub most_loops : ℕ
most_loops = 8

-- one turn from an entry: the ends that go round, what stands behind the test where it doesn't hold, and the breaks
pub record Turn : Type 0 where
  pub ends : List Variables
  pub behind : Option Variables
  pub breaks : Option Variables

-- inside one loop more
abbrev pub deeper : Inside → Inside
deeper inside = record { loops = suc inside.loops; breakable = true }

-- the first pass starts from the entry, the second from that joined with the ends of the first, the third from this joined with the ends of
-- the second, where a type that differs is `mixed`; diagnostics and ends are those of the third
unfoldable pub three_passes : Walk Turn → Walk Ends
three_passes turn = do
  entry ← variables
  first ← quietly entry turn
  second_entry ← pure (joined_with entry first.ends)
  second ← quietly second_entry turn
  replace (widened second_entry (joined_with second_entry second.ends))
  third ← turn
  pure (record { normal = either third.behind third.breaks; breaks = None; continues = None })

-- nothing in it is typed, and its entry stands behind it
unfoldable pub refuse_loop : Place → Walk Ends
refuse_loop at = do
  report at too_many_loops
  ends_here

-- a loop inside eight others is 4022, and isn't looked into
unfoldable pub unless_deep : Place → Inside → Walk Ends → Walk Ends
unless_deep at inside loop = if nat_le most_loops inside.loops then refuse_loop at else loop

-- the normal end, and then the continues
abbrev pub reached : Ends → List Variables
reached ends = option_to_list ends.normal ++ option_to_list ends.continues

-- ---- while

-- the test, and the body where it holds
unfoldable pub while_turn : Meaning → Doing → Inside → Walk Turn
while_turn condition body inside = do
  branches ← condition.branches
  replace branches.when_true
  ends ← body.ends (deeper inside)
  pure (record { ends = reached ends; behind = Some branches.when_false; breaks = ends.breaks })

-- `while (condition) body`
unfoldable pub while_ends : Place → Meaning → Doing → Inside → Walk Ends
while_ends at condition body inside = unless_deep at inside (three_passes (while_turn condition body inside))

-- ---- do: the test stands behind the body, where a path reaches it

-- the test, where a path reaches it
abbrev pub do_test : Meaning → Ends → Option Variables → Walk Turn
do_test condition ends None = pure (record { ends = []; behind = None; breaks = ends.breaks })
do_test condition ends (Some here) = do
  replace here
  branches ← condition.branches
  pure (record { ends = branches.when_true ∷ []; behind = Some branches.when_false; breaks = ends.breaks })

-- the body, and then the test
unfoldable pub do_turn : Doing → Meaning → Inside → Walk Turn
do_turn body condition inside = do
  ends ← body.ends (deeper inside)
  do_test condition ends (either ends.normal ends.continues)

-- `do body while (condition);`
unfoldable pub do_ends : Place → Doing → Meaning → Inside → Walk Ends
do_ends at body condition inside = unless_deep at inside (three_passes (do_turn body condition inside))

-- ---- for: the steps stand behind the body, where a path reaches them

-- a missing test says nothing
abbrev pub for_test : Option Meaning → Walk Branches
for_test None = do
  here ← variables
  pure (record { when_true = here; when_false = here })
for_test (Some condition) = condition.branches

-- without a test nothing stands behind it
abbrev pub behind_test : Option Meaning → Variables → Option Variables
behind_test None here = None
behind_test (Some condition) here = Some here

-- the steps, where a path reaches them
abbrev pub for_steps : List Meaning → Option Variables → Option Variables → Option Variables → Walk Turn
for_steps steps behind breaks None = pure (record { ends = []; behind = behind; breaks = breaks })
for_steps steps behind breaks (Some here) = do
  replace here
  each (λ step. step.walk) steps
  end ← variables
  pure (record { ends = end ∷ []; behind = behind; breaks = breaks })

-- the test, the body, and then the steps
unfoldable pub for_turn : Option Meaning → List Meaning → Doing → Inside → Walk Turn
for_turn condition steps body inside = do
  branches ← for_test condition
  replace branches.when_true
  ends ← body.ends (deeper inside)
  for_steps steps (behind_test condition branches.when_false) ends.breaks (either ends.normal ends.continues)

-- the start is typed once
unfoldable pub for_loop : List Meaning → Option Meaning → List Meaning → Doing → Inside → Walk Ends
for_loop start condition steps body inside = do
  each (λ e. e.walk) start
  three_passes (for_turn condition steps body inside)

-- `for (start; condition; step) body`
unfoldable pub for_ends : Place → List Meaning → Option Meaning → List Meaning → Doing → Inside → Walk Ends
for_ends at start condition steps body inside = unless_deep at inside (for_loop start condition steps body inside)

-- ---- foreach

-- the ids of the names `Traversable` and `KeyedTraversable`
abbrev pub traversable : ℕ
traversable = 0

-- and of `KeyedTraversable`
abbrev pub keyed_traversable : ℕ
keyed_traversable = 1

-- both types are `_`
abbrev pub unknown_types : HackType × HackType
unknown_types = (type.Any, type.Any)

-- what `Traversable` gives, else 4021
abbrev pub values_by : Place → HackType → Option (List HackType) → Walk (HackType × HackType)
values_by at head (Some (value ∷ [])) = pure (type.Mixed, limited value)
values_by at head _ = do
  report at (not_iterated head)
  pure unknown_types

-- a class by what it is as a `Traversable`
unfoldable pub traversed : Place → HackType → Walk (HackType × HackType)
traversed at head = do
  arguments ← reads (λ m scope. seen_as m traversable head)
  values_by at head arguments

-- what `KeyedTraversable` gives
abbrev pub keyed_by : Place → HackType → Option (List HackType) → Walk (HackType × HackType)
keyed_by at head (Some (key ∷ value ∷ [])) = pure (limited key, limited value)
keyed_by at head _ = traversed at head

-- a class below `KeyedTraversable` gives its two, one below `Traversable` `mixed` and its one
unfoldable pub class_types : Place → HackType → Walk (HackType × HackType)
class_types at head = do
  arguments ← reads (λ m scope. seen_as m keyed_traversable head)
  keyed_by at head arguments

-- 4010, and both types are `_`
unfoldable pub null_types : Place → Walk (HackType × HackType)
null_types at = do
  report at may_be_null
  pure unknown_types

-- by the head
abbrev pub types_by : Place → HackType → HackType-F HackType → Walk (HackType × HackType)
types_by at head HackType-F.Any = pure unknown_types
types_by at head (HackType-F.Vector item) = pure (type.Int, item)
types_by at head (HackType-F.Dict key value) = pure (key, value)
types_by at head (HackType-F.Keyset item) = pure (item, item)
types_by at head (HackType-F.Option inside) = null_types at
types_by at head HackType-F.Null = null_types at
types_by at head _ = class_types at head

-- the types of key and value
unfoldable pub foreach_types : Meaning → Walk (HackType × HackType)
foreach_types subject = do
  ty ← subject.walk
  head ← reads (λ map scope. head_of map scope ty)
  types_by subject.at head (out-HackType head)

-- the key's variable, where there is one
abbrev pub assign_key : Option ℕ → HackType → Walk (Unit {0})
assign_key None ty = pure tt
assign_key (Some name) ty = assign name ty

-- the key is assigned, and then the value; behind the loop stands the entry
unfoldable pub foreach_turn : HackType × HackType → Option ℕ → ℕ → Doing → Inside → Walk Turn
foreach_turn types key value body inside = do
  entry ← variables
  assign_key key types.0
  assign value types.1
  ends ← body.ends (deeper inside)
  pure (record { ends = reached ends; behind = Some entry; breaks = ends.breaks })

-- the subject is typed once, before
unfoldable pub foreach_loop : Meaning → Option ℕ → ℕ → Doing → Inside → Walk Ends
foreach_loop subject key value body inside = do
  types ← foreach_types subject
  three_passes (foreach_turn types key value body inside)

-- `foreach (subject as key => value) body`
unfoldable pub foreach_ends : Place → Meaning → Option ℕ → ℕ → Doing → Inside → Walk Ends
foreach_ends at subject key value body inside = unless_deep at inside (foreach_loop subject key value body inside)
