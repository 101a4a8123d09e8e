-- Parsers that follow the grammar's runs: what a parser reads is what a run reads, and it stops where a run stops.
use Rattle.std.proofs.Common.{◌≡◌, ℕ, suc, ◌+◌, Bool, true, false, List, [], ◌∷◌, ◌++◌, Option, None, Some, Ok, Err, refl, ◌∙◌, sym, subst, arith, nat_le, if◌then◌else◌}
use Rattle.std.proofs.lemmas.Bool.Decides.{nat_tests}
use Rattle.hack_types.specs.declared.place.Place.{Place}
use Rattle.hack_parse_expr.specs.declared.lexeme.Lexeme.{Lexeme}
use Rattle.hack_parse_expr.specs.Input.{Input, refusal, too_deep, shown, past}
use Rattle.hack_parse_expr.specs.Symbols.{Terminal, Decided, Symbol, one, here, close, rule, Rule, Of, Awaits, Row}
use Rattle.hack_parse_expr.specs.Rows.{row_of, fits, sees}
use Rattle.hack_parse_expr.specs.Run.{State, Next, Goes, Stops, step, by_row, takes, marks, opened, nesting, deepest, in_place}
use Rattle.hack_parse_expr.specs.Parsers.{Outcome, Parser, and_then, ◌>>=◌, pure, token, token_of, expect, place, place_in}
use Rattle.hack_parse_expr.proofs.Runs.{Reaches, reached, stepped, then_reached}

-- a run that stands at these open symbols, with this tree and this input
abbrev pub state : {R : Type 0} (pending : List Symbol) → Awaits pending R → Input → Next R
state pending tree i = Goes (record { pending = pending; tree = tree; input = i })

-- what comes of a is what the outcome says: the value in the tree and the input behind it, or the stop
abbrev pub Leads : {A R : Type 0} → Next R → (pending : List Symbol) → (A → Awaits pending R) → Outcome A → Type 0
Leads a pending tree (Ok p) = Reaches a (state pending (tree p.0) p.1)
Leads a pending tree (Err stop) = Reaches a (Stops stop)

-- what a step leads to, its state leads to
pub stepping : {A : Type 0} (R : Type 0) (open_symbols : List Symbol) (onward : Awaits open_symbols R) (i : Input) (pending : List Symbol) (tree : A → Awaits pending R) (o : Outcome A) →
    Leads (step open_symbols onward i) pending tree o → Leads (state open_symbols onward i) pending tree o
stepping R open_symbols onward i pending tree (Ok p) h = stepped (record { pending = open_symbols; tree = onward; input = i }) h
stepping R open_symbols onward i pending tree (Err stop) h = stepped (record { pending = open_symbols; tree = onward; input = i }) h

-- a parser behind another leads on from where that one led
pub binding : {A B : Type 0} (R : Type 0) (a : Next R) (o : Outcome A) (f : A → Parser B) (between : List Symbol) (first : A → Awaits between R) (pending : List Symbol) (tree : B → Awaits pending R) →
    Leads a between first o →
    ((v : A) (j : Input) → o ≡ Ok (v, j) → Reaches a (state between (first v) j) → Leads (state between (first v) j) pending tree (f v j)) →
    Leads a pending tree (and_then o f)
binding R a (Ok p) f between first pending tree h k = joined R a (record { pending = between; tree = first p.0; input = p.1 }) pending tree (f p.0 p.1) h (k p.0 p.1 refl h)
  where
    joined : {B : Type 0} (R : Type 0) (a : Next R) (s : State R) (pending : List Symbol) (tree : B → Awaits pending R) (o : Outcome B) →
        Reaches a (Goes s) → Leads (Goes s) pending tree o → Leads a pending tree o
    joined R a s pending tree (Ok p) h k = then_reached h k
    joined R a s pending tree (Err stop) h k = then_reached h k
binding R a (Err stop) f between first pending tree h k = h

-- where so many rows that count as nesting may still be opened, the parser reads what these parts make
pub record Follows (depth : ℕ) {A : Type 0} (parts : List Symbol) (makes : Awaits parts A) (p : Parser A) : Type 1 where
  pub leads : (R : Type 0) (pending : List Symbol) (tree : A → Awaits pending R) (i : Input) →
      nesting pending + depth ≡ 128 →
      Leads (state (parts ++ pending) (in_place R parts pending makes tree) i) pending tree (p i)
  -- none of the parts is the end of a row
  pub plain : (pending : List Symbol) → nesting (parts ++ pending) ≡ nesting pending

-- it reads what one symbol stands for
abbrev pub FollowsOne : ℕ → (x : Symbol) → Parser (Of x) → Type 1
FollowsOne depth x p = Follows depth {A = Of x} (x ∷ []) (λ v. v) p

-- the same of a symbol's row
pub record RowFollows (depth : ℕ) (x : Symbol) (i : Input) (r : Option (Row x)) (o : Outcome (Of x)) : Type 1 where
  pub leads : (R : Type 0) (pending : List Symbol) (tree : Of x → Awaits pending R) →
      nesting pending + depth ≡ 128 → Leads (by_row x pending tree i r) pending tree o

-- a parser of one symbol
pub record Part (depth : ℕ) (x : Symbol) : Type 1 where
  pub parser : Parser (Of x)
  pub follows : FollowsOne depth x parser

-- a parser for each of these symbols
abbrev pub Plan : ℕ → List Symbol → Type 1
Plan depth [] = Unit {1}
Plan depth (x ∷ parts) = Part depth x × Plan depth parts

-- one parser after the other
abbrev pub in_order : {A : Type 0} (depth : ℕ) (parts : List Symbol) → Plan depth parts → Awaits parts A → Parser A
in_order depth [] plan makes = pure makes
in_order depth (x ∷ parts) plan makes = plan.0.parser >>= (λ v. in_order depth parts plan.1 (makes v))

-- no part: the value
pub nothing_follows : {A : Type 0} (depth : ℕ) (a : A) → Follows depth [] a (pure a)
nothing_follows depth a = record { leads = λ R pending tree i h. reached; plain = λ pending. refl }

-- a parser of a first part, by way of what it reads of it, and a parser of the others
pub first_follows : {A B : Type 0} (depth : ℕ) (x : Symbol) (parts : List Symbol) (reading : Of x → A) (makes : A → Awaits parts B) (p : Parser A) (q : A → Parser B) →
    Follows depth (x ∷ []) reading p → ((a : A) → Follows depth parts (makes a) (q a)) →
    ((pending : List Symbol) → nesting (parts ++ pending) ≡ nesting pending) →
    Follows depth (x ∷ parts) (λ v. makes (reading v)) (p >>= q)
first_follows depth x parts reading makes p q first others plain = record {
  leads = λ R pending tree i h.
      let k : nesting (parts ++ pending) + depth ≡ 128 = rw (plain pending) h in
      binding R _ (p i) q (parts ++ pending) (λ a. in_place R parts pending (makes a) tree) pending tree
      (first.leads R (parts ++ pending) (λ a. in_place R parts pending (makes a) tree) i k)
      (λ a j e r. (others a).leads R pending tree j h);
  plain = λ pending. first.plain (parts ++ pending) ∙ plain pending;
}

-- parts that have parsers have no end of a row among them
plan_plain : (depth : ℕ) (parts : List Symbol) → Plan depth parts → (pending : List Symbol) →
    nesting (parts ++ pending) ≡ nesting pending
plan_plain depth [] plan pending = refl
plan_plain depth (x ∷ parts) plan pending = plan.0.follows.plain (parts ++ pending) ∙ plan_plain depth parts plan.1 pending

-- parsers that follow the parts, one after the other, follow them all
pub plan_follows : {A : Type 0} (depth : ℕ) (parts : List Symbol) (plan : Plan depth parts) (makes : Awaits parts A) →
    Follows depth parts makes (in_order depth parts plan makes)
plan_follows depth [] plan makes = nothing_follows depth makes
plan_follows depth (x ∷ parts) plan makes =
    first_follows depth x parts (λ v. v) makes plan.0.parser (λ v. in_order depth parts plan.1 (makes v)) plan.0.follows
    (λ v. plan_follows depth parts plan.1 (makes v)) (plan_plain depth parts plan.1)

-- ---- rows

-- one more row may be opened where there is room for it
room_left : (n d : ℕ) → n + suc d ≡ 128 → nat_le deepest n ≡ false
room_left n d h = grind (arith, nat_tests)

-- no row may be opened where there is no room
no_room_left : (n : ℕ) → n + 0 ≡ 128 → nat_le deepest n ≡ true
no_room_left n h = grind (arith, nat_tests)

-- a test is as its value says
by_test : {R : Type 0} {A : Type 0} (b c : Bool) (x y : Next R) (pending : List Symbol) (tree : A → Awaits pending R) (o : Outcome A) →
    b ≡ c → Leads (if c then x else y) pending tree o → Leads (if b then x else y) pending tree o
by_test b c x y pending tree o e h = subst (λ d. Leads (if d then x else y) pending tree o) (sym e) h

-- no row: the next token is refused
pub no_row : {depth : ℕ} {x : Symbol} {i : Input} → RowFollows depth x i None (Err (refusal i))
no_row = record { leads = λ R pending tree h. reached }

-- a row that doesn't count: its parts in order
pub row_by : {depth : ℕ} {x : Symbol} {i : Input} {parts : List Symbol} {makes : Awaits parts (Of x)} (p : Parser (Of x)) →
    Follows depth parts makes p →
    RowFollows depth x i (Some (record { counts = false; parts = parts; makes = makes })) (p i)
row_by {i = i} p f = record { leads = λ R pending tree h. f.leads R pending tree i h }

-- a row that counts, where one more may be opened: its parts in order, and one less may be opened in them
pub row_nests_by : {depth : ℕ} {x : Symbol} {i : Input} {parts : List Symbol} {makes : Awaits parts (Of x)} (p : Parser (Of x)) →
    Follows depth parts makes p →
    RowFollows (suc depth) x i (Some (record { counts = true; parts = parts; makes = makes })) (p i)
row_nests_by {depth = depth} {x = x} {i = i} {parts = parts} {makes = makes} p f = record {
  leads = λ R pending tree h.
      let k : nesting (close ∷ pending) + depth ≡ 128 = omega arith in
      by_test (nat_le deepest (nesting pending)) false (Stops (too_deep i)) (opened x pending tree i (record { counts = true; parts = parts; makes = makes })) pending tree (p i) (room_left (nesting pending) depth h)
      (closed R (opened x pending tree i (record { counts = true; parts = parts; makes = makes })) pending tree (p i)
      (f.leads R (close ∷ pending) (λ a _. tree a) i k));
}
  where
    closed : {A : Type 0} (R : Type 0) (a : Next R) (pending : List Symbol) (tree : A → Awaits pending R) (o : Outcome A) →
        Leads a (close ∷ pending) (λ v _. tree v) o → Leads a pending tree o
    closed R a pending tree (Ok p) h = then_reached h (stepped (record { pending = close ∷ pending; tree = λ _. tree p.0; input = p.1 }) reached)
    closed R a pending tree (Err stop) h = h

-- a row that counts, where none may be opened: it is too deep
pub row_too_deep : {x : Symbol} {i : Input} {parts : List Symbol} {makes : Awaits parts (Of x)} →
    RowFollows 0 x i (Some (record { counts = true; parts = parts; makes = makes })) (Err (too_deep i))
row_too_deep {x = x} {i = i} {parts = parts} {makes = makes} = record {
  leads = λ R pending tree h.
      by_test (nat_le deepest (nesting pending)) true (Stops (too_deep i)) (opened x pending tree i (record { counts = true; parts = parts; makes = makes })) pending tree (Err (too_deep i)) (no_room_left (nesting pending) h) reached;
}

-- a row that doesn't count, with a parser for each part
pub row_reads : {depth : ℕ} {x : Symbol} {i : Input} {parts : List Symbol} {makes : Awaits parts (Of x)} (plan : Plan depth parts) →
    RowFollows depth x i (Some (record { counts = false; parts = parts; makes = makes })) (in_order depth parts plan makes i)
row_reads {depth = depth} {parts = parts} {makes = makes} plan = row_by (in_order depth parts plan makes) (plan_follows depth parts plan makes)

-- a row that counts, with a parser for each part
pub row_nests : {depth : ℕ} {x : Symbol} {i : Input} {parts : List Symbol} {makes : Awaits parts (Of x)} (plan : Plan depth parts) →
    RowFollows (suc depth) x i (Some (record { counts = true; parts = parts; makes = makes })) (in_order depth parts plan makes i)
row_nests {depth = depth} {parts = parts} {makes = makes} plan = row_nests_by (in_order depth parts plan makes) (plan_follows depth parts plan makes)

-- a parser that follows the row that each input has follows the name of the grammar
pub rule_follows : (depth : ℕ) (name : Rule) (p : Parser (Of (rule name))) →
    ((i : Input) → RowFollows depth (rule name) i (row_of name i.left) (p i)) → FollowsOne depth (rule name) p
rule_follows depth name p rows = record {
  leads = λ R pending tree i h. stepping R (rule name ∷ pending) tree i pending tree (p i) ((rows i).leads R pending tree h);
  plain = λ pending. refl;
}

-- ---- tokens and places

-- a token that is taken where it fits is what the parser reads
took : (R : Type 0) (terminal : Terminal) (pending : List Symbol) (tree : Lexeme → Awaits pending R) (i : Input) (left : List Lexeme) →
    Leads (takes terminal pending tree i left) pending tree (if sees terminal left then token_of i left else Err (refusal i))
took R terminal pending tree i [] = reached
took R terminal pending tree i (t ∷ left) = by_fit (fits terminal t)
  where
    by_fit : (b : Bool) →
        Leads (if b then state pending (tree (shown i t)) (past i t left) else Stops (refusal i)) pending tree (if b then token_of i (t ∷ left) else Err (refusal i))
    by_fit true = reached
    by_fit false = reached

-- `expect` follows a token
pub expect_follows : (depth : ℕ) (terminal : Terminal) → FollowsOne depth (one terminal) (expect terminal)
unfolding expect token
expect_follows depth terminal = record {
  leads = λ R pending tree i h. stepping R (one terminal ∷ pending) tree i pending tree (expect terminal i) (took R terminal pending tree i i.left);
  plain = λ pending. refl;
}

-- a token that always fits is taken wherever there is one
took_any : (R : Type 0) (pending : List Symbol) (tree : Lexeme → Awaits pending R) (i : Input) (left : List Lexeme) →
    Leads (takes Decided pending tree i left) pending tree (token_of i left)
took_any R pending tree i [] = reached
took_any R pending tree i (t ∷ left) = reached

-- `token` follows the token that decided
pub token_follows : (depth : ℕ) → FollowsOne depth (one Decided) token
unfolding token
token_follows depth = record {
  leads = λ R pending tree i h. stepping R (one Decided ∷ pending) tree i pending tree (token i) (took_any R pending tree i i.left);
  plain = λ pending. refl;
}

-- the place of the next token is read wherever there is one
marked : (R : Type 0) (pending : List Symbol) (tree : Place → Awaits pending R) (i : Input) (left : List Lexeme) →
    Leads (marks pending tree i left) pending tree (place_in i left)
marked R pending tree i [] = reached
marked R pending tree i (t ∷ left) = reached

-- `place` follows a place
pub place_follows : (depth : ℕ) → FollowsOne depth here place
unfolding place
place_follows depth = record {
  leads = λ R pending tree i h. stepping R (here ∷ pending) tree i pending tree (place i) (marked R pending tree i i.left);
  plain = λ pending. refl;
}

-- `expect` as the parser of a token
abbrev pub expect_part : {depth : ℕ} (terminal : Terminal) → Part depth (one terminal)
expect_part {depth = depth} terminal = record { parser = expect terminal; follows = expect_follows depth terminal }

-- `token` as the parser of the token that decided
abbrev pub token_part : {depth : ℕ} → Part depth (one Decided)
token_part {depth = depth} = record { parser = token; follows = token_follows depth }

-- `place` as the parser of a place
abbrev pub place_part : {depth : ℕ} → Part depth here
place_part {depth = depth} = record { parser = place; follows = place_follows depth }

-- the parser of a part, where it follows
abbrev pub part : {depth : ℕ} {x : Symbol} (p : Parser (Of x)) → FollowsOne depth x p → Part depth x
part p f = record { parser = p; follows = f }
