-- What a parser's outcome says of the parsers that it runs, and of the tokens that it takes.
use Rattle.std.proofs.Common.{◌≡◌, ℕ, zero, suc, Bool, true, false, cond, List, [], ◌∷◌, ◌++◌, length, Ok, Err, refl, sym, ap, ◌∙◌, subst, append_assoc}
use Rattle.std.proofs.lemmas.List.{append-nil}
use Rattle.hack_types.specs.declared.place.Place.{Place}
use Rattle.hack_lexer.specs.declared.kind.Mark.TheVariants.{Comma}
use Rattle.hack_parse_expr.specs.declared.lexeme.Lexeme.{Lexeme}
use Rattle.hack_parse_expr.specs.Input.{Input, relative, refusal, shown, past}
use Rattle.hack_parse_expr.specs.Symbols.{Terminal, Mark_}
use Rattle.hack_parse_expr.specs.Rows.{sees, fits}
use Rattle.hack_parse_expr.specs.Parsers.{Outcome, Parser, and_then, token, token_of, expect, place, place_in, eat, many_from, many_of, list_from, list_of}

-- ---- steps

-- a first parser gives something, and what stands behind it the rest
pub record Steps {A B : Type 0} (o : Outcome A) (f : A → Parser B) (y : B) (rest : Input) : Type 0 where
  pub value : A
  pub mid : Input
  pub first : o ≡ Ok (value, mid)
  pub others : f value mid ≡ Ok (y, rest)

-- where both give something
pub steps : {A B : Type 0} (o : Outcome A) (f : A → Parser B) (y : B) (rest : Input) → and_then o f ≡ Ok (y, rest) → Steps o f y rest
steps (Ok p) f y rest e = record { value = p.0; mid = p.1; first = refl; others = e }
steps (Err s) f y rest e = absurd cc

-- the same outcome has the same parts
pub same_value : {A : Type 0} (x y : A) (i j : Input) → ◌≡◌ {A = Outcome A} (Ok (x, i)) (Ok (y, j)) → x ≡ y
same_value x y i j e = let pairs : ◌≡◌ {A = _ × Input} (x, i) (y, j) = cc in ap (λ p. p.0) pairs

-- and the same rest
pub same_rest : {A : Type 0} (x y : A) (i j : Input) → ◌≡◌ {A = Outcome A} (Ok (x, i)) (Ok (y, j)) → i ≡ j
same_rest x y i j e = let pairs : ◌≡◌ {A = _ × Input} (x, i) (y, j) = cc in ap (λ p. p.1) pairs

-- equal lists have the same first
pub same_first : {A : Type 0} (x y : A) (xs ys : List A) → x ∷ xs ≡ y ∷ ys → x ≡ y
same_first x y xs ys e = cc

-- ---- what is always so of what is given

-- this is so of whatever is given
abbrev pub Always : {A : Type 0} → (A → Type 0) → Outcome A → Type 0
Always P (Ok p) = P p.0
Always P (Err e) = Unit {0}

-- what a second parser always gives
pub always_then : {A B : Type 0} (P : B → Type 0) (o : Outcome A) (f : A → Parser B) → ((x : A) (i : Input) → Always P (f x i)) → Always P (and_then o f)
always_then P (Ok p) f h = h p.0 p.1
always_then P (Err s) f h = tt

-- what either of two always gives
pub always_if : {A : Type 0} (P : A → Type 0) (b : Bool) (o other : Outcome A) → Always P o → Always P other → Always P (cond b o other)
always_if P true o other h k = h
always_if P false o other h k = k

-- the same where something is so of what the first parser gives
pub always_with : {A B : Type 0} (P : A → Type 0) (Q : B → Type 0) (o : Outcome A) (f : A → Parser B) → Always P o → ((x : A) → P x → (i : Input) → Always Q (f x i)) → Always Q (and_then o f)
always_with P Q (Ok p) f so h = h p.0 so p.1
always_with P Q (Err s) f so h = tt

-- what is always so is so of what was given
pub always_is : {A : Type 0} (P : A → Type 0) (o : Outcome A) (x : A) (rest : Input) → Always P o → o ≡ Ok (x, rest) → P x
always_is P o x rest h e = subst (Always P) e h

-- ---- tokens

-- one token was taken
pub record Took (i : Input) (l : Lexeme) (rest : Input) : Type 0 where
  pub parts : i.left ≡ l ∷ rest.left
  pub start : rest.start ≡ i.start

-- a token was taken, and told
pub record TookToken (i : Input) (t : Lexeme) (rest : Input) : Type 0 where
  pub l : Lexeme
  pub took : Took i l rest
  pub is : t ≡ shown i l

-- the next token is taken
token_from : (i : Input) (left : List Lexeme) (t : Lexeme) (rest : Input) → i.left ≡ left → token_of i left ≡ Ok (t, rest) → TookToken i t rest
token_from i [] t rest here e = absurd cc
token_from i (l ∷ ls) t rest here e =
    let so = same_rest (shown i l) t (past i l ls) rest e in
    record { l = l; took = record { parts = here ∙ ap (λ (j : Input). l ∷ j.left) so; start = ap (λ (j : Input). j.start) (sym so) }; is = sym (same_value (shown i l) t (past i l ls) rest e) }

-- the next token is taken and told
pub token_takes : (i : Input) (t : Lexeme) (rest : Input) → token i ≡ Ok (t, rest) → TookToken i t rest
unfolding token
token_takes i t rest e = token_from i i.left t rest refl e

-- a token that was expected
pub record TookThis (terminal : Terminal) (i : Input) (t : Lexeme) (rest : Input) : Type 0 where
  pub l : Lexeme
  pub took : Took i l rest
  pub is : t ≡ shown i l
  pub fits_so : fits terminal l ≡ true

-- the token that was expected comes next
expect_by : (terminal : Terminal) (i : Input) (t : Lexeme) (rest : Input) (b : Bool) → sees terminal i.left ≡ b → cond b (token i) (Err (refusal i)) ≡ Ok (t, rest) → TookThis terminal i t rest
expect_by terminal i t rest true b e =
    let k = token_takes i t rest e in
    record { l = k.l; took = k.took; is = k.is; fits_so = ap (sees terminal) (sym k.took.parts) ∙ b }
expect_by terminal i t rest false b e = absurd cc

-- a token that was expected is taken
pub expect_takes : (terminal : Terminal) (i : Input) (t : Lexeme) (rest : Input) → expect terminal i ≡ Ok (t, rest) → TookThis terminal i t rest
unfolding expect
expect_takes terminal i t rest e = expect_by terminal i t rest (sees terminal i.left) refl e

-- the place of the next token takes nothing
place_from : (i : Input) (left : List Lexeme) (at : Place) (rest : Input) → place_in i left ≡ Ok (at, rest) → rest ≡ i
place_from i [] at rest e = absurd cc
place_from i (l ∷ ls) at rest e = sym (same_rest (relative i.start l.at) at i rest e)

-- a place takes nothing
pub place_takes : (i : Input) (at : Place) (rest : Input) → place i ≡ Ok (at, rest) → rest ≡ i
unfolding place
place_takes i at rest e = place_from i i.left at rest e

-- ---- lists

-- these are read one after another
abbrev pub Each : {A : Type 0} → Parser A → Input → List A → Input → Type 0
Each p i [] rest = i ≡ rest
Each p i (x ∷ xs) rest = (mid : Input) × (p i ≡ Ok (x, mid)) × Each p mid xs rest

pub record More {A : Type 0} (p : Parser A) (found all : List A) (i rest : Input) : Type 0 where
  pub more : List A
  pub parts : all ≡ found ++ more
  pub each : Each p i more rest

-- nothing more is read
no_more : {A : Type 0} (p : Parser A) (found all : List A) (i rest : Input) → ◌≡◌ {A = Outcome (List A)} (Ok (found, i)) (Ok (all, rest)) → More p found all i rest
no_more p found all i rest e = record { more = []; parts = sym (same_value found all i rest e) ∙ sym (append-nil found); each = same_rest found all i rest e }

-- more is read one after another
many_more : {A : Type 0} (begins : List Lexeme → Bool) (p : Parser A) (n : ℕ) (found all : List A) (i rest : Input) → many_from begins p n found i ≡ Ok (all, rest) → More p found all i rest
unfolding many_from
many_more begins p zero found all i rest e = no_more p found all i rest e
many_more {A = A} begins p (suc n) found all i rest e = by (begins i.left) (many_more begins p n) e
  where
    by : (b : Bool) → ((so_far whole : List A) (j end : Input) → many_from begins p n so_far j ≡ Ok (whole, end) → More p so_far whole j end) →
        cond b (and_then (p i) (λ x. many_from begins p n (found ++ x ∷ []))) (Ok (found, i)) ≡ Ok (all, rest) → More p found all i rest
    by true again e =
        let s = steps (p i) _ all rest e in
        let others = again (found ++ s.value ∷ []) all s.mid rest s.others in
        record { more = s.value ∷ others.more; parts = others.parts ∙ append_assoc found (s.value ∷ []) others.more; each = (s.mid, s.first, others.each) }
    by false again e = no_more p found all i rest e

-- a list is read one after another
pub many_each : {A : Type 0} (begins : List Lexeme → Bool) (p : Parser A) (all : List A) (i rest : Input) → many_of begins p i ≡ Ok (all, rest) → Each p i all rest
unfolding many_of
many_each begins p all i rest e =
    let m = many_more begins p (length i.left) [] all i rest e in
    subst (λ xs. Each p i xs rest) (sym m.parts) m.each

-- the list has an element
abbrev pub IsMore : {A : Type 0} → List A → Type 0
IsMore [] = ⊥
IsMore (x ∷ xs) = Unit {0}

-- a list with an element behind it has one
pub push_more : {A : Type 0} (xs : List A) (x : A) → IsMore (xs ++ x ∷ [])
push_more [] x = tt
push_more (y ∷ xs) x = tt

-- a list goes on, or has this element last
pub either_more : {A : Type 0} (xs : List A) (x : A) (p : Parser (List A)) (k : Input) (more : Bool) → Always IsMore (p k) → Always IsMore (cond more p (λ i. Ok (xs ++ x ∷ [], i)) k)
either_more xs x p k true h = h
either_more xs x p k false h = push_more xs x

-- a list that has an element goes on to have one
pub list_more : {A : Type 0} (begins : List Lexeme → Bool) (p : Parser A) (n : ℕ) (found : List A) (i : Input) → IsMore found → Always IsMore (list_from begins p n found i)
unfolding list_from
list_more begins p zero found i h = h
list_more begins p (suc n) found i h =
    always_if IsMore (begins i.left) _ _ (always_then IsMore (p i) _ (λ x j. always_then IsMore (eat (Mark_ Comma) j) _ (λ more k.
    either_more found x (list_from begins p n (found ++ x ∷ [])) k more (list_more begins p n (found ++ x ∷ []) k (push_more found x))))) h

-- a list of none takes nothing
pub list_none : {A : Type 0} (begins : List Lexeme → Bool) (p : Parser A) (i rest : Input) → list_of begins p i ≡ Ok ([], rest) → rest ≡ i
unfolding list_of list_from
list_none {A = A} begins p i rest e = from (length i.left) e
  where
    from : (n : ℕ) → list_from begins p n [] i ≡ Ok ([], rest) → rest ≡ i
    from zero e = sym (same_rest [] [] i rest e)
    from (suc n) e = by (begins i.left) e
      where
        by : (b : Bool) → cond b (and_then (p i) (λ x. λ j. and_then (eat (Mark_ Comma) j) (λ more k. cond more (list_from begins p n (x ∷ [])) (λ m. Ok (x ∷ [], m)) k))) (Ok ([], i)) ≡ Ok ([], rest) → rest ≡ i
        by true e = absurd (always_is IsMore _ [] rest (always_then IsMore (p i) _ (λ x j. always_then IsMore (eat (Mark_ Comma) j) _ (λ more k.
            either_more [] x (list_from begins p n (x ∷ [])) k more (list_more begins p n (x ∷ []) k tt)))) e)
        by false e = sym (same_rest [] [] i rest e)
