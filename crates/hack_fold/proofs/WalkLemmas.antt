-- How the walk of a line goes on.
use Rattle.std.proofs.Common.{◌≡◌, ◌+◌, ◌<◌, ◌||◌, ℕ, zero, suc, Bool, true, false, cond, Option, Some, None, List, [], ◌∷◌, ◌++◌, Bor, IfOk, Result, Ok, Err, length, nat_lt, refl, sym, ap, subst, ◌∙◌, append_assoc, arith}
use Rattle.std.proofs.lemmas.List.{length_push, reverse-append}
use Rattle.std.proofs.lemmas.List.Folds.{list_any-append}
use Rattle.std.specs.List.{flat_map, list_any}
use Rattle.std.specs.Ordering.{eq_by_cmp}
use Rattle.hack_types.specs.declared.hack_type.HackType.{HackType}
use Rattle.hack_types.specs.declared.ids.Kind.{Kind}
use Rattle.hack_types.specs.declared.ids.Kind.TheVariants.{Class, Func, Const}
use Rattle.hack_types.specs.declared.ids.SymbolId.{SymbolId}
use Rattle.hack_types.specs.declared.shallow.ClassSig.{ClassSig}
use Rattle.hack_types.specs.declared.no_memory.NoMemory.{NoMemory}
use Rattle.hack_fold.proofs.Tests.{cond_or, is_eq_back}
use Rattle.hack_fold.specs.inside.Walking.{Next, NextName, ahead_of, new_symbol}
use Rattle.hack_fold.specs.Line.{goes_on, is_cyclic, is_in, is_parent, line, most_names, parent_symbols, reaches_itself, same_symbol, symbols_by, type_symbol, type_symbols, unlisted, walk}
use Rattle.hack_fold.specs.Parents.{Shallows, class_by}
use Rattle.hack_decls.specs.PlainMap.{symbol_order}

-- ---- what is ahead

pub ahead_more : (lists : List (Bor (List HackType))) (types : Bor (List HackType)) → ahead_of (lists ++ types ∷ []) ≡ type_symbols types.now ++ ahead_of lists
ahead_more lists types = ap (flat_map (λ (t : Bor (List HackType)). type_symbols t.now)) (reverse-append lists (types ∷ []))

pub ahead_three : (none one two three : List (Bor (List HackType))) (i e u : Bor (List HackType)) → one ≡ none ++ i ∷ [] → two ≡ one ++ e ∷ [] → three ≡ two ++ u ∷ []
    → ahead_of three ≡ (type_symbols u.now ++ type_symbols e.now ++ type_symbols i.now) ++ ahead_of none
ahead_three none one two three i e u first second third =
    let us = type_symbols u.now in
    let es = type_symbols e.now in
    let is = type_symbols i.now in
    ap ahead_of third ∙ ahead_more two u
    ∙ ap (λ l. us ++ l) (ap ahead_of second ∙ ahead_more one e ∙ ap (λ l. es ++ l) (ap ahead_of first ∙ ahead_more none i))
    ∙ sym (append_assoc us es (is ++ ahead_of none)) ∙ sym (append_assoc (us ++ es) is (ahead_of none))

module _ (shallows : Shallows) (s : SymbolId) where
  pub class_parents : (sig : ClassSig) → Some sig ≡ class_by (shallows s) → parent_symbols shallows s ≡ type_symbols sig.uses ++ type_symbols sig.extends ++ type_symbols sig.implements
  unfolding parent_symbols
  class_parents sig is = ap symbols_by (sym is)

  pub no_parents : None ≡ class_by (shallows s) → parent_symbols shallows s ≡ []
  unfolding parent_symbols
  no_parents is = ap symbols_by (sym is)

pub parents_ahead : (shallows : Shallows) (s : SymbolId) (sig : ClassSig) → Some sig ≡ class_by (shallows s) → (none one two three : List (Bor (List HackType))) (i e u : Bor (List HackType))
    → one ≡ none ++ i ∷ [] → two ≡ one ++ e ∷ [] → three ≡ two ++ u ∷ [] → i.now ≡ sig.implements → e.now ≡ sig.extends → u.now ≡ sig.uses
    → ahead_of three ≡ parent_symbols shallows s ++ ahead_of none
parents_ahead shallows s sig is none one two three i e u first second third implements extends uses =
    ahead_three none one two three i e u first second third
    ∙ ap (λ l. l ++ ahead_of none)
    (ap (λ l. type_symbols l ++ type_symbols e.now ++ type_symbols i.now) uses
    ∙ ap (λ l. type_symbols sig.uses ++ type_symbols l ++ type_symbols i.now) extends
    ∙ ap (λ l. type_symbols sig.uses ++ type_symbols sig.extends ++ type_symbols l) implements
    ∙ sym (class_parents shallows s sig is))

-- a list of which nothing is unlisted is passed over
pub passed_list : (p : SymbolId → Bool) (xs ys : List SymbolId) → unlisted p xs ≡ [] → unlisted p (xs ++ ys) ≡ unlisted p ys
passed_list p [] ys none = refl
passed_list p (x ∷ xs) ys none = by (passed_list p xs ys) (p x) refl
  where
    some_left : x ∷ xs ≡ [] → ⊥
    some_left e = cc

    by : (unlisted p xs ≡ [] → unlisted p (xs ++ ys) ≡ unlisted p ys) → (b : Bool) → p x ≡ b → unlisted p ((x ∷ xs) ++ ys) ≡ unlisted p ys
    by more true e = ap (λ b. cond b (unlisted p (xs ++ ys)) (x ∷ xs ++ ys)) e ∙ more (sym (ap (λ b. cond b (unlisted p xs) (x ∷ xs)) e) ∙ none)
    by more false e = absurd (some_left (sym (ap (λ b. cond b (unlisted p xs) (x ∷ xs)) e) ∙ none))

-- a list of which one is unlisted goes on behind that one
pub stopped_in : (p : SymbolId → Bool) (xs ys : List SymbolId) (s : SymbolId) (rest : List SymbolId) → unlisted p xs ≡ s ∷ rest → unlisted p (xs ++ ys) ≡ s ∷ (rest ++ ys)
stopped_in p [] ys s rest some = absurd cc
stopped_in p (x ∷ xs) ys s rest some = by (stopped_in p xs ys s rest) (p x) refl
  where
    by : (unlisted p xs ≡ s ∷ rest → unlisted p (xs ++ ys) ≡ s ∷ (rest ++ ys)) → (b : Bool) → p x ≡ b → unlisted p ((x ∷ xs) ++ ys) ≡ s ∷ (rest ++ ys)
    by more true e = ap (λ b. cond b (unlisted p (xs ++ ys)) (x ∷ xs ++ ys)) e ∙ more (sym (ap (λ b. cond b (unlisted p xs) (x ∷ xs)) e) ∙ some)
    by more false e = ap (λ b. cond b (unlisted p (xs ++ ys)) (x ∷ xs ++ ys)) e ∙ ap (λ l. l ++ ys) (sym (ap (λ b. cond b (unlisted p xs) (x ∷ xs)) e) ∙ some)

-- the last of the lists that are kept has nothing, or the next
pub list_passed : (p : SymbolId → Bool) (old new : List (Bor (List HackType))) (types : Bor (List HackType)) → old ≡ new ++ types ∷ [] → unlisted p (type_symbols types.now) ≡ []
    → unlisted p (ahead_of new) ≡ unlisted p (ahead_of old)
list_passed p old new types is none = sym (ap (unlisted p) (ap ahead_of is ∙ ahead_more new types) ∙ passed_list p (type_symbols types.now) (ahead_of new) none)

pub list_stopped : (p : SymbolId → Bool) (old new left : List (Bor (List HackType))) (types rest : Bor (List HackType)) (s : SymbolId)
    → old ≡ new ++ types ∷ [] → left ≡ new ++ rest ∷ [] → unlisted p (type_symbols types.now) ≡ s ∷ type_symbols rest.now → unlisted p (ahead_of old) ≡ s ∷ ahead_of left
list_stopped p old new left types rest s is put some =
    ap (unlisted p) (ap ahead_of is ∙ ahead_more new types) ∙ stopped_in p (type_symbols types.now) (ahead_of new) s (type_symbols rest.now) some
    ∙ ap (λ l. s ∷ l) (sym (ap ahead_of put ∙ ahead_more new rest))

pub no_list : (p : SymbolId → Bool) (lists : List (Bor (List HackType))) → length lists ≡ 0 → unlisted p (ahead_of lists) ≡ []
no_list p [] e = refl
no_list p (types ∷ lists) e = absurd (omega (arith, e))

-- ---- the first unlisted name of some types

cc_some : (s t : SymbolId) → Some s ≡ Some t → s ≡ t
cc_some s t same = cc

module _ (p : SymbolId → Bool) (type : HackType) (types : List HackType) where
  -- what the first type names, before what the others name
  abbrev onto : Option SymbolId → List SymbolId
  onto None = type_symbols types
  onto (Some s) = s ∷ type_symbols types

  front_by : (o : Option SymbolId) → type_symbol type ≡ o → type_symbols (type ∷ types) ≡ onto o
  unfolding type_symbols
  front_by None e = rw e refl
  front_by (Some s) e = rw e refl

  unnamed : type_symbol type ≡ None → unlisted p (type_symbols (type ∷ types)) ≡ unlisted p (type_symbols types)
  unnamed e = ap (unlisted p) (front_by None e)

  already : (s : SymbolId) → type_symbol type ≡ Some s → p s ≡ true → unlisted p (type_symbols (type ∷ types)) ≡ unlisted p (type_symbols types)
  already s e listed = ap (unlisted p) (front_by (Some s) e) ∙ ap (λ b. cond b (unlisted p (type_symbols types)) (s ∷ type_symbols types)) listed

  new_one : (s : SymbolId) → type_symbol type ≡ Some s → p s ≡ false → unlisted p (type_symbols (type ∷ types)) ≡ s ∷ type_symbols types
  new_one s e listed = ap (unlisted p) (front_by (Some s) e) ∙ ap (λ b. cond b (unlisted p (type_symbols types)) (s ∷ type_symbols types)) listed

  passed_by : (o : Option SymbolId) → type_symbol type ≡ o → None ≡ new_symbol p o → unlisted p (type_symbols (type ∷ types)) ≡ unlisted p (type_symbols types)
  passed_by None e none = unnamed e
  passed_by (Some s) e none = by (p s) refl
    where
      by : (b : Bool) → p s ≡ b → unlisted p (type_symbols (type ∷ types)) ≡ unlisted p (type_symbols types)
      by true listed = already s e listed
      by false listed = let some : None ≡ Some s = none ∙ ap (λ b. cond b None (Some s)) listed in absurd cc

  pub passed : None ≡ new_symbol p (type_symbol type) → unlisted p (type_symbols (type ∷ types)) ≡ unlisted p (type_symbols types)
  passed none = passed_by (type_symbol type) refl none

  stopped_by : (s : SymbolId) (o : Option SymbolId) → type_symbol type ≡ o → Some s ≡ new_symbol p o → unlisted p (type_symbols (type ∷ types)) ≡ s ∷ type_symbols types
  stopped_by s None e some = absurd cc
  stopped_by s (Some t) e some = by (p t) refl
    where
      by : (b : Bool) → p t ≡ b → unlisted p (type_symbols (type ∷ types)) ≡ s ∷ type_symbols types
      by true listed = let none : Some s ≡ None = some ∙ ap (λ b. cond b None (Some t)) listed in absurd cc
      by false listed = let same : Some s ≡ Some t = some ∙ ap (λ b. cond b None (Some t)) listed in new_one t e listed ∙ ap (λ x. x ∷ type_symbols types) (sym (cc_some s t same))

  pub stopped : (s : SymbolId) → Some s ≡ new_symbol p (type_symbol type) → unlisted p (type_symbols (type ∷ types)) ≡ s ∷ type_symbols types
  stopped s some = stopped_by s (type_symbol type) refl some

pub none_in : (p : SymbolId → Bool) (types : List HackType) → length types ≡ 0 → unlisted p (type_symbols types) ≡ []
unfolding type_symbols
none_in p [] e = refl
none_in p (type ∷ types) e = absurd (omega (arith, e))

-- ---- the set beside the list

tie_by : (a b : Kind) (x y : ℕ) → eq_by_cmp symbol_order (record { kind = a; name = x }) (record { kind = b; name = y }) ≡ same_symbol (record { kind = b; name = y }) (record { kind = a; name = x })
tie_by Class Class x y = is_eq_back x y
tie_by Class Func x y = refl
tie_by Class Const x y = refl
tie_by Func Class x y = refl
tie_by Func Func x y = is_eq_back x y
tie_by Func Const x y = refl
tie_by Const Class x y = refl
tie_by Const Func x y = refl
tie_by Const Const x y = is_eq_back x y

ties : (s t : SymbolId) → eq_by_cmp symbol_order s t ≡ same_symbol t s
ties s t = tie_by s.kind t.kind s.name t.name

pub listed_more : (names : List SymbolId) (s t : SymbolId) (old new : Bool) → new ≡ cond (eq_by_cmp symbol_order s t) true old → old ≡ is_in names t → new ≡ is_in (names ++ s ∷ []) t
listed_more names s t old new now before =
    now ∙ ap (λ b. cond b true old) (ties s t) ∙ cond_or (same_symbol t s) old ∙ ap (λ o. o || (same_symbol t s || false)) before
    ∙ sym (list_any-append (same_symbol t) names (s ∷ []))

-- ---- a walk that has come so far

-- nothing is left to be listed, or this name is next
abbrev pub Stands : Shallows → SymbolId → List SymbolId → List SymbolId → Option SymbolId → Type 0
Stands shallows s names ahead None = names ≡ line shallows s
Stands shallows s names ahead (Some next) =
    (room : ℕ) × (length names + suc room ≡ 257) × (walk shallows room (names ++ next ∷ []) (parent_symbols shallows next ++ ahead) ≡ line shallows s)

begins_by : (shallows : Shallows) (s : SymbolId) (room : ℕ) → walk shallows room ([] ++ s ∷ []) (parent_symbols shallows s ++ []) ≡ walk shallows (suc room) [] (s ∷ [])
unfolding walk
begins_by shallows s room = refl

begins : (shallows : Shallows) (s : SymbolId) → Stands shallows s [] [] (Some s)
begins shallows s = (256, refl, begins_by shallows s 256)

pub begins_at : (shallows : Shallows) (s : SymbolId) (names : List SymbolId) (lists : List (Bor (List HackType))) → names ≡ [] → lists ≡ [] → Stands shallows s names (ahead_of lists) (Some s)
begins_at shallows s names lists none nothing =
    subst (λ l. Stands shallows s l (ahead_of lists) (Some s)) (sym none) (subst (λ l. Stands shallows s [] (ahead_of l) (Some s)) (sym nothing) (begins shallows s))

module _ (shallows : Shallows) (s : SymbolId) (names ahead : List SymbolId) (p : SymbolId → Bool) (same : (t : SymbolId) → p t ≡ is_in names t) where
  unlisted_same : (xs : List SymbolId) → unlisted (is_in names) xs ≡ unlisted p xs
  unlisted_same [] = refl
  unlisted_same (x ∷ xs) = ap (λ b. cond b (unlisted (is_in names) xs) (x ∷ xs)) (sym (same x)) ∙ ap (λ l. cond (p x) l (x ∷ xs)) (unlisted_same xs)

  step : (room : ℕ) → length names + room ≡ 257 → walk shallows room names ahead ≡ line shallows s
      → (next : Option SymbolId) (left : List SymbolId) → NextName (length names) p ahead next left → Stands shallows s names left next
  unfolding walk
  step zero fills goes None left then = goes
  step zero fills goes (Some next) left then = absurd (omega (arith, fills, then.0))
  step (suc room) fills goes None left then =
      sym (ap (goes_on (λ t more. walk shallows room (names ++ t ∷ []) (parent_symbols shallows t ++ more)) names) (unlisted_same ahead ∙ then (omega (arith, fills)))) ∙ goes
  step (suc room) fills goes (Some next) left then = (
    room,
    fills,
    sym (ap (goes_on (λ t more. walk shallows room (names ++ t ∷ []) (parent_symbols shallows t ++ more)) names) (unlisted_same ahead ∙ then.1)) ∙ goes,
  )

-- one more name is listed
pub turn : (shallows : Shallows) (s : SymbolId) (names ahead : List SymbolId) (name : SymbolId) → Stands shallows s names ahead (Some name)
    → (more pushed : List SymbolId) → more ≡ names ++ name ∷ [] → pushed ≡ parent_symbols shallows name ++ ahead
    → (p : SymbolId → Bool) → ((t : SymbolId) → p t ≡ is_in more t)
    → (next : Option SymbolId) (left : List SymbolId) → NextName (length more) p pushed next left → Stands shallows s more left next
turn shallows s names ahead name stands more pushed listed put p same next left then =
    step shallows s more pushed p same stands.0
    (omega (arith, ap length listed, length_push names name, stands.1))
    (ap (λ l. walk shallows stands.0 l pushed) listed ∙ ap (walk shallows stands.0 (names ++ name ∷ [])) put ∙ stands.2)
    next left then

-- ---- the next name, while there is room

module _ (count : ℕ) (p : SymbolId → Bool) (ahead left : List SymbolId) where
  pub with_room : count < 257 → (next : Option SymbolId) → Next p ahead next left → NextName count p ahead next left
  with_room few None then = λ room. then
  with_room few (Some s) then = (few, then)

  pub with_room_told : count < 257 → (result : Result (Option SymbolId) NoMemory) → IfOk result (λ next. Next p ahead next left) → IfOk result (λ next. NextName count p ahead next left)
  with_room_told few (Ok next) then = with_room few next then
  with_room_told few (Err e) then = tt

-- ---- whether it is cyclic

module _ (shallows : Shallows) (s : SymbolId) (slice names : List SymbolId) (found : Bool)
    (told : found ≡ list_any (is_parent shallows s) slice) (same : slice ≡ names) (walked : names ≡ line shallows s) where
  reached : reaches_itself shallows s ≡ found
  reached = sym (told ∙ ap (list_any (is_parent shallows s)) (same ∙ walked))

  pub is_reached : found ≡ true → true ≡ is_cyclic shallows s
  unfolding is_cyclic
  is_reached yes_found = sym (ap (λ b. b || nat_lt most_names (length (line shallows s))) (reached ∙ yes_found))

  pub is_long : found ≡ false → (count : ℕ) → count ≡ length names → nat_lt most_names count ≡ is_cyclic shallows s
  unfolding is_cyclic
  is_long not_found count long =
      ap (nat_lt most_names) (long ∙ ap length walked) ∙ sym (ap (λ b. b || nat_lt most_names (length (line shallows s))) (reached ∙ not_found))
