-- Tests, one after another, and what they say as a condition.
use Rattle.std.proofs.Common.{◌≡◌, ◌∙◌, ◌<◌, ◌≤◌, ◌+◌, ◌++◌, ◌∷◌, ℕ, Option, Some, None, IfSome, Ok, List, [], All, length, take, get_or, refl, sym, ap, arith, subst}
use Rattle.std.proofs.lemmas.List.{take_all, take_more}
use Rattle.std.proofs.lemmas.List.Elements.{All-head}
use Rattle.hack_tree.specs.declared.expression.TestOperator.{TestOperator}
use Rattle.hack_tree.specs.declared.expression.TestOperator.TheVariants as test
use Rattle.hack_tree.specs.declared.expression.TypeTest.{TypeTest}
use Rattle.hack_types.specs.declared.hack_type.HackType.{HackType}
use Rattle.hack_decls.specs.DeclState.{DeclState, Map, Symbols}
use Rattle.hack_decls.specs.Names.{TypeIn}
use Rattle.hack_rules.specs.Meanings.{Branches, Meaning, plain_branches}
use Rattle.hack_rules.specs.Values.{branches_by, is_branches, test_branches, test_row, tested_row, tests_row}
use Rattle.hack_rules.specs.Walks.{Setting, State, Walk, ◌>>=◌, pure, variables}
use Rattle.hack_walk.specs.Checks.{BranchesIn, Steps, VariablesIn, Walks}
use Rattle.hack_walk.specs.WalkLaws.{of_step, walks_as, walks_next, walks_then}
use Rattle.hack_values.specs.inside.Rows.{is_of, only_is}

-- ---- one test more

-- the variable that stands before a test behind these
abbrev pub subject_after : Option ℕ → List TypeTest → Option ℕ
subject_after subject [] = subject
subject_after subject (t ∷ ts) = None

none_after : (ts : List TypeTest) → subject_after None ts ≡ None
none_after [] = refl
none_after (t ∷ ts) = refl

after_one : (subject : Option ℕ) (ts : List TypeTest) (t : TypeTest) → None ≡ subject_after subject (ts ++ t ∷ [])
after_one subject [] t = refl
after_one subject (x ∷ xs) t = refl

pub subject_next : (subject : Option ℕ) (ts : List TypeTest) (i : ℕ) (t : TypeTest) → i < length ts → t ≡ get_or ts i t → None ≡ subject_after subject (take (i + 1) ts)
subject_next subject ts i t lt at =
    after_one subject (take i ts) t ∙ sym (ap (subject_after subject) (take_more ts i t lt ∙ ap (λ (x : TypeTest). take i ts ++ x ∷ []) (sym at)))

module _ (setting : Setting) (m : Map) where
  tests_more : (subject : Option ℕ) (before : HackType) (ts : List TypeTest) (t : TypeTest) (s : State)
      → tests_row subject before (ts ++ t ∷ []) setting m s ≡ (tests_row subject before ts >>= (λ ty. test_row (subject_after subject ts) t)) setting m s
  unfolding tests_row ◌>>=◌ pure
  tests_more subject before [] t s = refl
  tests_more subject before (x ∷ xs) t s =
      let first = test_row subject x setting m s in
      tests_more None first.0 xs t first.1
      ∙ ap (λ (here : Option ℕ). test_row here t setting m (tests_row None first.0 xs setting m first.1).1) (none_after xs)

module _ {Base Held : Type 0} {setting : Setting} {Names : Symbols → Type 0} {old : DeclState Base Held} {start : State} where
  pub tests_next : {mid new : DeclState Base Held} {between behind : State} {was ty : HackType} {NamesB : Symbols → Type 0} (subject here : Option ℕ) (before : HackType)
      (ts : List TypeTest) (i : ℕ) (t : TypeTest) → i < length ts → t ≡ get_or ts i t → here ≡ subject_after subject (take i ts)
      → Walks (tests_row subject before (take i ts)) setting old start (Ok was) mid between Names TypeIn
      → Walks (test_row here t) setting mid between (Ok ty) new behind NamesB TypeIn
      → ((symbols : Symbols) → Names symbols → NamesB symbols)
      → Walks (tests_row subject before (take (i + 1) ts)) setting old start (Ok ty) new behind Names TypeIn
  tests_next {ty = ty} subject here before ts i t lt at is first second onward =
      walks_as _ (Ok ty)
      (walks_then (λ was. test_row here t) (Ok ty) first second (λ symbols n. n) (λ symbols n g. onward symbols n) (λ symbols b n g h. h))
      (λ m. ap (λ (xs : List TypeTest). tests_row subject before xs setting m start) (take_more ts i t lt ∙ ap (λ (x : TypeTest). take i ts ++ x ∷ []) (sym at))
      ∙ tests_more setting m subject before (take i ts) t start
      ∙ ap (λ (o : Option ℕ). (tests_row subject before (take i ts) >>= (λ (ty : HackType). test_row o t)) setting m start) (sym is))

  pub tests_all : {new : DeclState Base Held} {behind : State} {ty : HackType} (subject : Option ℕ) (before : HackType) (ts : List TypeTest) (i : ℕ) → length ts ≤ i
      → Walks (tests_row subject before (take i ts)) setting old start (Ok ty) new behind Names TypeIn
      → Walks (tests_row subject before ts) setting old start (Ok ty) new behind Names TypeIn
  tests_all {ty = ty} subject before ts i all walks =
      walks_as _ (Ok ty) walks (λ m. sym (ap (λ (xs : List TypeTest). tests_row subject before xs setting m start) (take_all i ts all)))

-- ---- as a condition

only_at : (ts : List TypeTest) (t : TypeTest) → length ts ≡ 1 → t ≡ get_or ts 0 t → only_is ts ≡ is_of t t.operator
only_at [] t one at = absurd (omega (arith, one))
only_at (x ∷ []) t one at = sym (ap (λ (y : TypeTest). is_of y y.operator) at)
only_at (x ∷ y ∷ ys) t one at = absurd (omega (arith, one))

pub is_only : (ts : List TypeTest) (t : TypeTest) (found : Option TypeTest) → length ts ≡ 1 → t ≡ get_or ts 0 t → found ≡ is_of t t.operator → found ≡ only_is ts
is_only ts t found one at is = is ∙ sym (only_at ts t one at)

pub not_only : (ts : List TypeTest) → (length ts ≡ 1 → ⊥) → None ≡ only_is ts
not_only [] other = refl
not_only (t ∷ []) other = absurd (other refl)
not_only (t ∷ u ∷ ts) other = refl

-- the branches by the one `is`
abbrev by_only : Meaning → List TypeTest → Option TypeTest → Walk Branches
by_only operand ts (Some t) = is_branches operand t
by_only operand ts None = plain_branches (tested_row operand ts)

by_one : (operand : Meaning) (t : TypeTest) (operator : TestOperator) → branches_by operand t operator ≡ by_only operand (t ∷ []) (is_of t operator)
by_one operand t test.Is = refl
by_one operand t test.As = refl
by_one operand t test.NullAs = refl

branches_law : (operand : Meaning) (ts : List TypeTest) → test_branches operand ts ≡ by_only operand ts (only_is ts)
branches_law operand [] = refl
branches_law operand (t ∷ []) = by_one operand t t.operator
branches_law operand (t ∷ u ∷ ts) = refl

pub some_is : (operand : Meaning) (ts : List TypeTest) (t : TypeTest) → Some t ≡ only_is ts → test_branches operand ts ≡ is_branches operand t
some_is operand ts t is = branches_law operand ts ∙ sym (ap (by_only operand ts) is)

pub none_is : (operand : Meaning) (ts : List TypeTest) → None ≡ only_is ts → test_branches operand ts ≡ plain_branches (tested_row operand ts)
none_is operand ts is = branches_law operand ts ∙ sym (ap (by_only operand ts) is)

-- the one `is` is among the tests
is_here : (P : TypeTest → Type 0) (t x : TypeTest) (operator : TestOperator) → Some t ≡ is_of x operator → P x → P t
is_here P t x test.Is is here = subst (λ (o : Option TypeTest). IfSome o P) (sym is) here
is_here P t x test.As is here = absurd cc
is_here P t x test.NullAs is here = absurd cc

pub in_only : (P : TypeTest → Type 0) (ts : List TypeTest) (t : TypeTest) → Some t ≡ only_is ts → All P ts → P t
in_only P [] t is all = absurd cc
in_only P (x ∷ []) t is all = is_here P t x x.operator is (All-head P x [] all)
in_only P (x ∷ y ∷ ys) t is all = absurd cc

-- ---- a walk that says nothing of variables

same_both : {setting : Setting} {Names : Symbols → Type 0} (here : State) (branches : Branches) → branches.when_true ≡ here.variables → branches.when_false ≡ here.variables
    → Steps (variables >>= (λ behind. pure (record { when_true = behind; when_false = behind }))) setting here (Ok branches) here Names BranchesIn
unfolding variables ◌>>=◌ pure
same_both here branches so not_so = record {
  is = λ map i. (record { when_true = sym so i; when_false = sym not_so i }, here);
  named = λ symbols body n. (
    body.types,
    record { when_true = subst (VariablesIn symbols) (sym so) body.types; when_false = subst (VariablesIn symbols) (sym not_so) body.types },
  );
}

pub plain_walks : {Base Held : Type 0} {setting : Setting} {Names : Symbols → Type 0} {Gives : Symbols → HackType → Type 0} {walk : Walk HackType} {old new : DeclState Base Held}
    {start behind : State} {ty : HackType} (branches : Branches) → Walks walk setting old start (Ok ty) new behind Names Gives
    → branches.when_true ≡ behind.variables → branches.when_false ≡ behind.variables
    → Walks (plain_branches walk) setting old start (Ok branches) new behind Names BranchesIn
unfolding plain_branches
plain_walks {Names = Names} {behind = behind} branches walks so not_so =
    walks_next {NamesB = Names} _ (Ok branches) walks (of_step _ (same_both behind branches so not_so)) (λ symbols n. n) (λ symbols n g. n) (λ symbols b n g h. h)
