-- Parsers in order, each of which reads one symbol or more, and values that are made of what they read.
use Rattle.std.proofs.Common.{◌≡◌, ℕ, zero, suc, ◌+◌, ◌≤◌, ◌<◌, Bool, true, false, List, [], ◌∷◌, ◌++◌, length, Option, None, Some, Ok, Err, refl, ap, ◌∙◌, sym, subst, arith, ◌||◌, if◌then◌else◌, append_assoc}
use Rattle.hack_parse_expr.specs.declared.lexeme.Lexeme.{Lexeme}
use Rattle.hack_parse_expr.specs.Input.{Input, refusal}
use Rattle.hack_parse_expr.specs.Decides.{is_there}
use Rattle.hack_parse_expr.specs.Symbols.{Terminal, Decided, Symbol, one, close, optional, rule, Rule, Of, Awaits}
use Rattle.hack_parse_expr.specs.Rows.{row_of, begins, sees, reads, at_terminal}
use Rattle.hack_parse_expr.specs.Run.{Next, by_row, nesting, in_place}
use Rattle.hack_parse_expr.specs.Parsers.{Outcome, Parser, and_then, ◌>>=◌, ◌>>◌, ◌<$>◌, pure, token, expect, optionally, many_from, many_of}
use Rattle.hack_parse_expr.proofs.Follows.{state, FollowsOne, Leads, stepping, binding, Follows, first_follows, nothing_follows, expect_follows, token_follows}
use Rattle.hack_parse_expr.proofs.ListsFollow.{Keeps, Shrinks, follows_keeps, token_takes, optional_where, mapped_follows}
use Rattle.hack_parse_expr.proofs.TypesFollow.{if_row}

-- ---- parts in groups

-- the tree of a group of parts and others behind it is the tree of all of them
regroup : {A B R : Type 0} (V : Type 0) (group parts pending : List Symbol) (reading : V → Awaits group A) (makes : A → Awaits parts B) (tree : B → Awaits pending R) (C : (l : List Symbol) → (V → Awaits l R) → Type 0) →
    C (group ++ (parts ++ pending)) (λ v. in_place R group (parts ++ pending) (reading v) (λ a. in_place R parts pending (makes a) tree)) →
    C ((group ++ parts) ++ pending) (λ v. in_place R (group ++ parts) pending (in_place B group parts (reading v) makes) tree)
regroup V [] parts pending reading makes tree C h = h
regroup {R = R} V (x ∷ group) parts pending reading makes tree C h =
    regroup (V × Of x) group parts pending (λ p. reading p.0 p.1) makes tree (λ l t. C (x ∷ l) (λ v w. t (v, w))) h

-- a parser of a group of parts, and a parser of the others
pub group_follows : {A B : Type 0} (depth : ℕ) (group parts : List Symbol) (reading : Awaits group A) (makes : A → Awaits parts B) (p : Parser A) (q : A → Parser B) →
    Follows depth group reading p → ((a : A) → Follows depth parts (makes a) (q a)) →
    ((pending : List Symbol) → nesting (parts ++ pending) ≡ nesting pending) →
    Follows depth (group ++ parts) (in_place B group parts reading makes) (p >>= q)
group_follows depth group parts reading makes p q first others plain = record {
  leads = λ R pending tree i h.
      let k : nesting (parts ++ pending) + depth ≡ 128 = rw (plain pending) h in
      regroup (Unit {0}) group parts pending (λ u. reading) makes tree (λ l t. Leads (state l (t tt) i) pending tree (and_then (p i) q))
      (binding R _ (p i) q (parts ++ pending) (λ a. in_place R parts pending (makes a) tree) pending tree
      (first.leads R (parts ++ pending) (λ a. in_place R parts pending (makes a) tree) i k)
      (λ a j e r. (others a).leads R pending tree j h));
  plain = λ pending. ap nesting (append_assoc group parts pending) ∙ first.plain (parts ++ pending) ∙ plain pending;
}

-- ---- what is left behind parsers in order

-- a parser behind an outcome, and what is left behind both
behind_both : {A B : Type 0} (o : Outcome A) (q : A → Parser B) (v : B) (rest : Input) (n : ℕ) →
    ((a : A) (j : Input) → o ≡ Ok (a, j) → q a j ≡ Ok (v, rest) → length rest.left < n) →
    and_then o q ≡ Ok (v, rest) → length rest.left < n
behind_both (Ok r) q v rest n k e = k r.0 r.1 refl e
behind_both (Err stop) q v rest n k e = absurd (cc)

-- two parsers shorten what is left where the first does
pub shrinks_first : {A B : Type 0} (depth : ℕ) (p : Parser A) (q : A → Parser B) → Shrinks depth p →
    ((a : A) → Keeps depth (q a)) → Shrinks depth (p >>= q)
shrinks_first depth p q first keep pending h i v rest e =
    behind_both (p i) q v rest (length i.left)
    (λ a j o r.
    let k : length j.left < length i.left = first pending h i a j o in
    let l : length rest.left ≤ length j.left = keep a pending h j v rest r in
    omega arith)
    e

-- and where the second does
pub shrinks_later : {A B : Type 0} (depth : ℕ) (p : Parser A) (q : A → Parser B) → Keeps depth p →
    ((a : A) → Shrinks depth (q a)) → Shrinks depth (p >>= q)
shrinks_later depth p q keeps others pending h i v rest e =
    behind_both (p i) q v rest (length i.left)
    (λ a j o r.
    let k : length j.left ≤ length i.left = keeps pending h i a j o in
    let l : length rest.left < length j.left = others a pending h j v rest r in
    omega arith)
    e

-- and where one of them does
pub one_shrinks : {A B : Type 0} (depth : ℕ) (p : Parser A) (q : A → Parser B) (b c : Bool) →
    (b ≡ true → Shrinks depth p) → (c ≡ true → (a : A) → Shrinks depth (q a)) → Keeps depth p →
    ((a : A) → Keeps depth (q a)) → b || c ≡ true → Shrinks depth (p >>= q)
one_shrinks depth p q true c first others keeps keep either = shrinks_first depth p q (first refl) keep
one_shrinks depth p q false c first others keeps keep either = shrinks_later depth p q keeps (others either)

-- a parser that isn't known to take a token
pub not_known : {A : Type 0} (depth : ℕ) (p : Parser A) → false ≡ true → Shrinks depth p
not_known depth p e = absurd (cc)

-- a token that is taken shortens what is left
pub token_shortens : (depth : ℕ) → Shrinks depth token
token_shortens depth pending h i v rest e = token_takes i v rest e

-- a token that is taken where it fits does
pub expect_shortens : (depth : ℕ) (terminal : Terminal) → Shrinks depth (expect terminal)
unfolding expect
expect_shortens depth terminal pending h i v rest e = by_sight i (sees terminal i.left) e
  where
    by_sight : (i : Input) (c : Bool) → (if c then token i else Err (refusal i)) ≡ Ok (v, rest) →
        length rest.left < length i.left
    by_sight i true e = token_takes i v rest e
    by_sight i false e = absurd (cc)

-- ---- pieces

-- a parser of some parts, read through a function, and whether it is known to take a token
pub record Piece (depth : ℕ) : Type 1 where
  pub group : List Symbol
  pub Made : Type 0
  pub reading : Awaits group Made
  pub parser : Parser Made
  pub follows : Follows depth group reading parser
  pub takes : Bool
  pub shrinks : takes ≡ true → Shrinks depth parser

-- the parts of pieces in order, what takes what they read, and its parser
pub record Pieces (depth : ℕ) : Type 1 where
  pub parts : List Symbol
  pub Takes : Type 0 → Type 0
  pub through : (B : Type 0) → Takes B → Awaits parts B
  pub in_turn : (B : Type 0) → Takes B → Parser B
  pub follow : (B : Type 0) (makes : Takes B) → Follows depth parts (through B makes) (in_turn B makes)
  pub plain : (pending : List Symbol) → nesting (parts ++ pending) ≡ nesting pending
  pub takes : Bool
  pub shrink : (B : Type 0) (makes : Takes B) → takes ≡ true → Shrinks depth (in_turn B makes)

-- no piece
abbrev pub done : {depth : ℕ} → Pieces depth
done {depth = depth} = record {
  parts = [];
  Takes = λ B. B;
  through = λ B b. b;
  in_turn = λ B b. pure b;
  follow = λ B b. nothing_follows depth b;
  plain = λ pending. refl;
  takes = false;
  shrink = λ B b e. not_known depth (pure b) e;
}

-- a piece before others
infixr 10 ◌and◌
abbrev pub ◌and◌ : {depth : ℕ} → Piece depth → Pieces depth → Pieces depth
◌and◌ {depth = depth} piece others = record {
  parts = piece.group ++ others.parts;
  Takes = λ B. piece.Made → others.Takes B;
  through = λ B makes. in_place B piece.group others.parts piece.reading (λ a. others.through B (makes a));
  in_turn = λ B makes. piece.parser >>= (λ a. others.in_turn B (makes a));
  follow = λ B makes. group_follows depth piece.group others.parts piece.reading (λ a. others.through B (makes a)) piece.parser (λ a. others.in_turn B (makes a)) piece.follows (λ a. others.follow B (makes a)) others.plain;
  plain = λ pending. ap nesting (append_assoc piece.group others.parts pending) ∙ piece.follows.plain (others.parts ++ pending) ∙ others.plain pending;
  takes = piece.takes || others.takes;
  shrink = λ B makes. one_shrinks depth piece.parser (λ a. others.in_turn B (makes a)) piece.takes others.takes piece.shrinks (λ e a. others.shrink B (makes a) e)
      (follows_keeps depth piece.group piece.reading piece.parser piece.follows)
      (λ a. follows_keeps depth others.parts (others.through B (makes a)) (others.in_turn B (makes a)) (others.follow B (makes a)));
}

-- the token that decided
abbrev pub a_token : {depth : ℕ} → Piece depth
a_token {depth = depth} = record { group = one Decided ∷ []; Made = Lexeme; reading = λ t. t; parser = token; follows = token_follows depth; takes = true; shrinks = λ e. token_shortens depth }

-- a token that has to stand there
abbrev pub the : {depth : ℕ} → Terminal → Piece depth
the {depth = depth} terminal = record { group = one terminal ∷ []; Made = Lexeme; reading = λ t. t; parser = expect terminal; follows = expect_follows depth terminal; takes = true; shrinks = λ e. expect_shortens depth terminal }

-- the same, and what is made of it
abbrev pub the_made : {depth : ℕ} {A : Type 0} → Terminal → (Lexeme → A) → Piece depth
the_made {depth = depth} {A = A} terminal f = record {
  group = one terminal ∷ [];
  Made = A;
  reading = f;
  parser = f <$> expect terminal;
  follows = mapped_follows depth (one terminal) (λ v. v) f (expect terminal) (expect_follows depth terminal);
  takes = true;
  shrinks = λ e. shrinks_first depth (expect terminal) (λ t. pure (f t)) (expect_shortens depth terminal) (λ t. follows_keeps depth [] (f t) (pure (f t)) (nothing_follows depth (f t)));
}

-- a parser that follows these parts
abbrev pub a_parser : {depth : ℕ} {A : Type 0} (parts : List Symbol) (reading : Awaits parts A) (p : Parser A) → Follows depth parts reading p → Piece depth
a_parser {depth = depth} {A = A} parts reading p f = record { group = parts; Made = A; reading = reading; parser = p; follows = f; takes = false; shrinks = λ e. not_known depth p e }

-- a parser that follows one symbol
abbrev pub the_symbol : {depth : ℕ} (x : Symbol) (p : Parser (Of x)) → FollowsOne depth x p → Piece depth
the_symbol x p f = a_parser (x ∷ []) (λ v. v) p f

-- a piece that is known to take a token
abbrev pub taking : {depth : ℕ} (piece : Piece depth) → Shrinks depth piece.parser → Piece depth
taking piece s = record piece { takes = true; shrinks = λ e. s }

-- pieces in order, and what is made of what they read
pub record Turn (depth : ℕ) (A : Type 0) : Type 1 where
  pub pieces : Pieces depth
  pub makes : pieces.Takes A

-- the parser of that
abbrev pub turn : {depth : ℕ} {A : Type 0} → Turn depth A → Parser A
turn {A = A} t = t.pieces.in_turn A t.makes

-- it follows their parts
pub turn_follows : {depth : ℕ} {A : Type 0} (t : Turn depth A) →
    Follows depth t.pieces.parts (t.pieces.through A t.makes) (turn t)
turn_follows {A = A} t = t.pieces.follow A t.makes

-- it shortens what is left, if one of them takes a token
pub turn_shrinks : {depth : ℕ} {A : Type 0} (t : Turn depth A) → t.pieces.takes ≡ true → Shrinks depth (turn t)
turn_shrinks {A = A} t e = t.pieces.shrink A t.makes e

-- a parser behind a token
pub behind_token_follows : {A : Type 0} (depth : ℕ) (x : Symbol) (reading : Of x → A) (p : Parser A) →
    Follows depth (x ∷ []) reading p → Follows depth (one Decided ∷ x ∷ []) (λ _. reading) (token >> p)
behind_token_follows depth x reading p f = first_follows depth (one Decided) (x ∷ []) (λ v. v) (λ _. reading) token (λ _. p) (token_follows depth) (λ _. f) f.plain

-- ---- what stands only at a token

-- what a run leads to, and a function of it
pub mapped_leads : {A B : Type 0} (R : Type 0) (a : Next R) (pending : List Symbol) (tree : B → Awaits pending R) (f : A → B) (o : Outcome A) →
    Leads a pending (λ v. tree (f v)) o → Leads a pending tree (and_then o (λ x. pure (f x)))
mapped_leads R a pending tree f (Ok r) h = h
mapped_leads R a pending tree f (Err stop) h = h

-- a row that is there only at this token, behind a test of the token, by way of what is read of it
pub seen_follows : {A : Type 0} (depth : ℕ) (name : Rule) (terminal : Terminal) (parts : List Symbol) (makes : Awaits parts (Of (rule name))) (reading : Option (Of (rule name)) → A) (q : Parser A) →
    ((ts : List Lexeme) → row_of name ts ≡ at_terminal terminal ts (reads parts makes)) →
    ((ts : List Lexeme) → begins (rule name) ts ≡ is_there (row_of name ts)) →
    ((R : Type 0) (pending : List Symbol) (tree : A → Awaits pending R) (i : Input) → nesting pending + depth ≡ 128 → Leads (state (parts ++ pending) (in_place R parts pending makes (λ v. tree (reading (Some v)))) i) pending tree (q i)) →
    Follows depth (optional (rule name) ∷ []) reading (λ i. if sees terminal i.left then q i else Ok (reading None, i))
seen_follows depth name terminal parts makes reading q rows begin lead =
    optional_where depth (rule name) (sees terminal) reading q
    (λ ts. begin ts ∙ ap is_there (rows ts) ∙ if_row (record { counts = false; parts = parts; makes = makes }) (sees terminal ts))
    (λ R pending tree i h is.
    stepping R (rule name ∷ pending) (λ v. tree (reading (Some v))) i pending tree (q i)
    (subst (λ r. Leads (by_row (rule name) pending (λ v. tree (reading (Some v))) i r) pending tree (q i)) (sym (rows i.left ∙ ap (λ c. if c then reads parts makes else None) is))
    (lead R pending tree i h)))

-- the same for a parser that follows the parts of the row
pub optional_seen : (depth : ℕ) (name : Rule) (terminal : Terminal) (parts : List Symbol) (makes : Awaits parts (Of (rule name))) (p : Parser (Of (rule name))) →
    ((ts : List Lexeme) → row_of name ts ≡ at_terminal terminal ts (reads parts makes)) →
    ((ts : List Lexeme) → begins (rule name) ts ≡ is_there (row_of name ts)) →
    Follows depth parts makes p → FollowsOne depth (optional (rule name)) (optionally (sees terminal) p)
optional_seen depth name terminal parts makes p rows begin f =
    seen_follows depth name terminal parts makes (λ v. v) (Some <$> p) rows begin
    (λ R pending tree i h. mapped_leads R _ pending tree Some (p i) (f.leads R pending (λ v. tree (Some v)) i h))

-- two parsers behind one outcome, with the same outcomes
then_same : {A B : Type 0} (o : Outcome A) (f g : A → Parser B) → ((a : A) (j : Input) → f a j ≡ g a j) →
    and_then o f ≡ and_then o g
then_same (Ok p) f g e = e p.0 p.1
then_same (Err stop) f g e = refl

-- two things under a test that are the same where it holds
if_same : {A : Type 0} (c : Bool) (x y z : A) → (c ≡ true → x ≡ y) → (if c then x else z) ≡ (if c then y else z)
if_same true x y z e = e refl
if_same false x y z e = refl

-- `many_of` with another parser that does the same where an item begins
many_from_same : {A : Type 0} (b : List Lexeme → Bool) (p q : Parser A) → ((i : Input) → b i.left ≡ true → p i ≡ q i) →
    (n : ℕ) (found : List A) (i : Input) → many_from b p n found i ≡ many_from b q n found i
unfolding many_from
many_from_same b p q e zero found i = refl
many_from_same b p q e (suc n) found i =
    if_same (b i.left) (and_then (p i) (λ x. many_from b p n (found ++ x ∷ []))) (and_then (q i) (λ x. many_from b q n (found ++ x ∷ []))) (Ok (found, i))
    (λ is. then_same (p i) (λ x. many_from b p n (found ++ x ∷ [])) (λ x. many_from b q n (found ++ x ∷ [])) (λ x j. many_from_same b p q e n (found ++ x ∷ []) j)
    ∙ ap (λ o. and_then o (λ x. many_from b q n (found ++ x ∷ []))) (e i is))

-- the same of all its turns
pub many_of_same : {A : Type 0} (b : List Lexeme → Bool) (p q : Parser A) → ((i : Input) → b i.left ≡ true → p i ≡ q i) →
    (i : Input) → many_of b p i ≡ many_of b q i
unfolding many_of
many_of_same b p q e i = many_from_same b p q e (length i.left) [] i

-- a token that was seen is the one that has to stand there
pub expected : {A : Type 0} (terminal : Terminal) (q : Lexeme → Parser A) (i : Input) → sees terminal i.left ≡ true →
    (expect terminal >>= q) i ≡ (token >>= q) i
unfolding expect
expected terminal q i is = ap (λ c. and_then (if c then token i else Err (refusal i)) q) is

-- a turn behind a row that counts: one less may be opened in it
pub shrinks_nested : {A : Type 0} (depth : ℕ) (p : Parser A) → Shrinks depth p → Shrinks (suc depth) p
shrinks_nested depth p s pending h i v rest e =
    let k : nesting (close ∷ pending) + depth ≡ 128 = omega arith in s (close ∷ pending) k i v rest e
