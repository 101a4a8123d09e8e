-- Parsers of what may stand or be repeated: they follow the grammar's runs.
use Rattle.std.proofs.Common.{◌≡◌, ℕ, zero, suc, ◌+◌, ◌≤◌, ◌<◌, Bool, true, false, List, [], ◌∷◌, ◌++◌, length, Option, None, Some, Ok, Err, refl, ap, ◌∙◌, sym, subst, arith, if◌then◌else◌, append_assoc, append-nil}
use Rattle.hack_types.specs.declared.place.Place.{Place}
use Rattle.hack_lexer.specs.declared.kind.Mark.TheVariants.{Comma}
use Rattle.hack_parse_expr.specs.declared.lexeme.Lexeme.{Lexeme}
use Rattle.hack_parse_expr.specs.Input.{Input, refusal, shown, past}
use Rattle.hack_parse_expr.specs.Decides.{is_there}
use Rattle.hack_parse_expr.specs.Symbols.{Terminal, Mark_, Decided, Symbol, one, optional, many, list, list1, more, Of, Awaits}
use Rattle.hack_parse_expr.specs.Rows.{fits, sees, begins, reads, at_terminal}
use Rattle.hack_parse_expr.specs.Run.{by_row, nesting, in_place}
use Rattle.hack_parse_expr.specs.Parsers.{Outcome, Parser, and_then, ◌>>=◌, ◌>>◌, pure, ◌<$>◌, token, token_of, expect, next, after, eat, optionally, many_from, many_of, list_from, list_of, refuse}
use Rattle.hack_parse_expr.proofs.Runs.{Reaches, reached, shorter}
use Rattle.hack_parse_expr.proofs.Follows.{state, FollowsOne, Leads, stepping, binding, Follows, first_follows, nothing_follows, expect_follows, RowFollows, row_by, no_row}

-- ---- what is left behind a parser

-- a tree that is nothing
idle : (pending : List Symbol) → Awaits pending (Unit {0})
idle [] = tt
idle (x ∷ pending) = λ v. idle pending

-- where so many rows that count may be opened, what is left behind what the parser reads is no longer, or is shorter
abbrev pub Keeps : {A : Type 0} → ℕ → Parser A → Type 0
Keeps {A = A} depth p = (pending : List Symbol) → nesting pending + depth ≡ 128 → (i : Input) (v : A) (rest : Input) → p i ≡ Ok (v, rest) → length rest.left ≤ length i.left

-- the same, and what is left is shorter
abbrev pub Shrinks : {A : Type 0} → ℕ → Parser A → Type 0
Shrinks {A = A} depth p = (pending : List Symbol) → nesting pending + depth ≡ 128 → (i : Input) (v : A) (rest : Input) → p i ≡ Ok (v, rest) → length rest.left < length i.left

-- a parser that follows a run never lengthens what is left
pub follows_keeps : {A : Type 0} (depth : ℕ) (parts : List Symbol) (makes : Awaits parts A) (p : Parser A) →
    Follows depth parts makes p → Keeps depth p
follows_keeps {A = A} depth parts makes p f pending h i v rest e =
    shorter (record { pending = parts ++ pending; tree = in_place (Unit {0}) parts pending makes (λ a. idle pending); input = i })
    (record { pending = pending; tree = idle pending; input = rest })
    (subst (λ o. Leads {A = A} (state (parts ++ pending) (in_place (Unit {0}) parts pending makes (λ a. idle pending)) i) pending (λ a. idle pending) o) e
    (f.leads (Unit {0}) pending (λ a. idle pending) i h))

-- behind a token that was taken, what is left is shorter
behind_token : {A : Type 0} (q : Lexeme → Parser A) (i : Input) (left : List Lexeme) (v : A) (rest : Input) →
    ((t : Lexeme) (j : Input) → q t j ≡ Ok (v, rest) → length rest.left ≤ length j.left) →
    and_then (token_of i left) q ≡ Ok (v, rest) → length rest.left < length left
behind_token q i [] v rest h e = absurd (cc)
behind_token q i (t ∷ ts) v rest h e =
    let k : length rest.left ≤ length ts = h (shown i t) (past i t ts) e in omega arith

-- a parser that takes a token first shortens what is left
pub token_shrinks : {A : Type 0} (depth : ℕ) (q : Lexeme → Parser A) → ((t : Lexeme) → Keeps depth (q t)) →
    Shrinks depth (token >>= q)
unfolding token
token_shrinks depth q keeps pending h i v rest e = behind_token q i i.left v rest (λ t j. keeps t pending h j v rest) e

-- a token that was taken is gone
shorter_by : (i : Input) (left : List Lexeme) (t : Lexeme) (rest : Input) → token_of i left ≡ Ok (t, rest) →
    length rest.left < length left
shorter_by i left t rest e = behind_token (λ l. pure l) i left t rest (λ l j o. same_length j rest (rest_is l j t rest o)) (ap (λ o. and_then o (λ l. pure l)) e)
  where
    rest_is : (l : Lexeme) (j : Input) (t : Lexeme) (rest : Input) →
        ◌≡◌ {A = Outcome Lexeme} (Ok (l, j)) (Ok (t, rest)) → j ≡ rest
    rest_is l j t rest o = let k : ◌≡◌ {A = Lexeme × Input} (l, j) (t, rest) = cc in ap (λ p. p.1) k

    same_length : (j rest : Input) → j ≡ rest → length rest.left ≤ length j.left
    same_length j rest o = let k : length j.left ≡ length rest.left = ap (λ l. length l.left) o in omega arith

-- a token that is taken shortens what is left
pub token_takes : (i : Input) (t : Lexeme) (rest : Input) → token i ≡ Ok (t, rest) → length rest.left < length i.left
unfolding token
token_takes i t rest e = shorter_by i i.left t rest e

-- a parser that refuses shortens what is left of nothing
pub refuse_shrinks : {A : Type 0} (depth : ℕ) → Shrinks {A = A} depth refuse
refuse_shrinks depth pending h i v rest e = absurd (cc)

-- ---- what may stand or not

-- a list of no length is empty
pub empty : {A : Type 0} (xs : List A) → length xs ≤ 0 → xs ≡ []
empty [] h = refl
empty (x ∷ xs) h = absurd (omega arith)

-- a list that is at its end
pub ended : {A : Type 0} (R : Type 0) (pending : List Symbol) (found : A) (tree : A → Awaits pending R) (last : Awaits pending R) (i : Input) →
    last ≡ tree found → Leads (state pending last i) pending tree (Ok (found, i))
ended R pending found tree last i e = subst (λ t. Reaches (state pending t i) (state pending (tree found) i)) (sym e) reached

-- a row with parts where the symbol begins, and an empty one where it doesn't
pub choosing : {B : Type 0} (R : Type 0) (y : Symbol) (parts : List Symbol) (makes : Awaits parts (Of y)) (empty : Of y) (pending : List Symbol) (tree : Of y → Awaits pending R) (onward : B → Awaits pending R) (i : Input) (c b : Bool) →
    c ≡ b → (read skipped : Outcome B) →
    (c ≡ true → Leads (state (parts ++ pending) (in_place R parts pending makes tree) i) pending onward read) →
    (c ≡ false → Leads (state pending (tree empty) i) pending onward skipped) →
    Leads (by_row y pending tree i (if c then reads parts makes else reads [] empty)) pending onward (if b then read else skipped)
choosing R y parts makes empty pending tree onward i true true e read skipped h k = h refl
choosing R y parts makes empty pending tree onward i false false e read skipped h k = k refl
choosing R y parts makes empty pending tree onward i true false e read skipped h k = absurd (cc)
choosing R y parts makes empty pending tree onward i false true e read skipped h k = absurd (cc)

-- a parser that reads the symbol where it begins and else nothing follows `optional`, by way of what it reads of it
pub optional_where : {A : Type 0} (depth : ℕ) (x : Symbol) (b : List Lexeme → Bool) (reading : Option (Of x) → A) (q : Parser A) →
    ((ts : List Lexeme) → begins x ts ≡ b ts) →
    ((R : Type 0) (pending : List Symbol) (tree : A → Awaits pending R) (i : Input) → nesting pending + depth ≡ 128 → b i.left ≡ true → Leads (state (x ∷ pending) (λ v. tree (reading (Some v))) i) pending tree (q i)) →
    Follows depth (optional x ∷ []) reading (λ i. if b i.left then q i else Ok (reading None, i))
optional_where depth x b reading q begin f = record {
  leads = λ R pending tree i h. stepping R (optional x ∷ pending) (λ v. tree (reading v)) i pending tree (if b i.left then q i else Ok (reading None, i))
      (choosing R (optional x) (x ∷ []) (λ v. Some v) None pending (λ v. tree (reading v)) tree i (begins x i.left) (b i.left) (begin i.left) (q i) (Ok (reading None, i))
      (λ e. f R pending tree i h (sym (begin i.left) ∙ e)) (λ e. reached));
  plain = λ pending. refl;
}

-- the same, where the parser follows the symbol everywhere
pub optional_reads : {A : Type 0} (depth : ℕ) (x : Symbol) (b : List Lexeme → Bool) (reading : Option (Of x) → A) (q : Parser A) →
    ((ts : List Lexeme) → begins x ts ≡ b ts) → Follows depth (x ∷ []) (λ v. reading (Some v)) q →
    Follows depth (optional x ∷ []) reading (λ i. if b i.left then q i else Ok (reading None, i))
optional_reads depth x b reading q begin f = optional_where depth x b reading q begin (λ R pending tree i h e. f.leads R pending tree i h)

-- a parser, read through a function
pub mapped_follows : {A B : Type 0} (depth : ℕ) (x : Symbol) (reading : Of x → A) (f : A → B) (p : Parser A) →
    Follows depth (x ∷ []) reading p → Follows depth (x ∷ []) (λ v. f (reading v)) (f <$> p)
mapped_follows depth x reading f p follows = first_follows depth x [] reading f p (λ a. pure (f a)) follows (λ a. nothing_follows depth (f a)) (λ pending. refl)

-- `optionally` follows `optional`
pub optional_follows : (depth : ℕ) (x : Symbol) (b : List Lexeme → Bool) (p : Parser (Of x)) →
    ((ts : List Lexeme) → begins x ts ≡ b ts) → FollowsOne depth x p →
    FollowsOne depth (optional x) (optionally b p)
optional_follows depth x b p begin f = optional_reads depth x b (λ v. v) (Some <$> p) begin (mapped_follows depth x (λ v. v) Some p f)

-- ---- lists

-- the loop of `many_of`, behind what it has found
many_loop : (depth : ℕ) (x : Symbol) (b : List Lexeme → Bool) (p : Parser (Of x)) →
    ((ts : List Lexeme) → begins x ts ≡ b ts) → b [] ≡ false → FollowsOne depth x p → Shrinks depth p →
    (R : Type 0) (pending : List Symbol) (tree : List (Of x) → Awaits pending R) → nesting pending + depth ≡ 128 →
    (n : ℕ) (found : List (Of x)) (onward : List (Of x) → Awaits pending R) (i : Input) →
    ((vs : List (Of x)) → onward vs ≡ tree (found ++ vs)) → length i.left ≤ n →
    Leads (state (many x ∷ pending) onward i) pending tree (many_from b p n found i)
unfolding many_from
many_loop depth x b p begin none f shrinks R pending tree h zero found onward i e below =
    stepping R (many x ∷ pending) onward i pending tree (Ok (found, i))
    (choosing R (many x) (x ∷ many x ∷ []) (λ v vs. v ∷ vs) [] pending onward tree i (begins x i.left) false
    (begin i.left ∙ ap b (empty i.left below) ∙ none) (Ok (found, i)) (Ok (found, i)) (λ t. absurd (let k : begins x i.left ≡ false = begin i.left ∙ ap b (empty i.left below) ∙ none in cc))
    (λ t. ended R pending found (tree) (onward []) i (e [] ∙ ap tree (append-nil found))))
many_loop depth x b p begin none f shrinks R pending tree h (suc n) found onward i e below =
    stepping R (many x ∷ pending) onward i pending tree (many_from b p (suc n) found i)
    (choosing R (many x) (x ∷ many x ∷ []) (λ v vs. v ∷ vs) [] pending onward tree i (begins x i.left) (b i.left)
    (begin i.left) ((p >>= (λ v. many_from b p n (found ++ v ∷ []))) i) (Ok (found, i))
    (λ t. binding R _ (p i) (λ v. many_from b p n (found ++ v ∷ [])) (many x ∷ pending) (λ v vs. onward (v ∷ vs)) pending tree
    (f.leads R (many x ∷ pending) (λ v vs. onward (v ∷ vs)) i h)
    (λ v j o r. many_loop depth x b p begin none f shrinks R pending tree h n (found ++ v ∷ []) (λ vs. onward (v ∷ vs)) j
    (λ vs. e (v ∷ vs) ∙ ap tree (sym (append_assoc found (v ∷ []) vs)))
    (let k : length j.left < length i.left = shrinks pending h i v j o in omega arith)))
    (λ t. ended R pending found (tree) (onward []) i (e [] ∙ ap tree (append-nil found))))

-- `many_of` follows `many`, if each turn takes a token
pub many_follows : (depth : ℕ) (x : Symbol) (b : List Lexeme → Bool) (p : Parser (Of x)) →
    ((ts : List Lexeme) → begins x ts ≡ b ts) → b [] ≡ false → FollowsOne depth x p → Shrinks depth p →
    FollowsOne depth (many x) (many_of b p)
unfolding many_of
many_follows depth x b p begin none f shrinks = record {
  leads = λ R pending tree i h. many_loop depth x b p begin none f shrinks R pending tree h (length i.left) [] tree i (λ vs. refl) (let k : length i.left ≤ length i.left = omega arith in k);
  plain = λ pending. refl;
}

-- behind an item, with the input in its parts: what is read behind a comma, or the end
comma_or_end : (R : Type 0) (y z : Symbol) (makes : Lexeme → Of z → Of y) (none : Of y) (pending : List Symbol) (onward : Of y → Awaits pending R) {B : Type 0} (tree : B → Awaits pending R) (p : Parser B) (w : B) (left : List Lexeme) (start : Place) (behind : ℕ) (end : Place) →
    onward none ≡ tree w →
    ((l t : Lexeme) (ts : List Lexeme) → left ≡ t ∷ ts → Leads (state (z ∷ pending) (λ v. onward (makes l v)) (record { left = ts; start = start; behind = t.behind; end = end })) pending tree (p (record { left = ts; start = start; behind = t.behind; end = end }))) →
    Leads (by_row y pending onward (record { left = left; start = start; behind = behind; end = end }) (if sees (Mark_ Comma) left then reads (one Decided ∷ z ∷ []) makes else reads [] none)) pending tree ((if sees (Mark_ Comma) left then p else pure w) (after (Mark_ Comma) (record { left = left; start = start; behind = behind; end = end })))
unfolding after next
comma_or_end R y z makes none pending onward tree p w [] start behind end e k = ended R pending w tree (onward none) (record { left = []; start = start; behind = behind; end = end }) e
comma_or_end R y z makes none pending onward {B = B} tree p w (t ∷ ts) start behind end e k = by_fit (fits (Mark_ Comma) t)
  where
    by_fit : (c : Bool) →
        Leads (by_row y pending onward (record { left = t ∷ ts; start = start; behind = behind; end = end }) (if c then reads (one Decided ∷ z ∷ []) makes else reads [] none)) pending tree ((if c then p else pure w) (if c then record { left = ts; start = start; behind = t.behind; end = end } else record { left = t ∷ ts; start = start; behind = behind; end = end }))
    by_fit true = stepping R (one Decided ∷ z ∷ pending) (λ l v. onward (makes l v)) (record { left = t ∷ ts; start = start; behind = behind; end = end }) pending tree (p (record { left = ts; start = start; behind = t.behind; end = end })) (k (shown (record { left = t ∷ ts; start = start; behind = behind; end = end }) t) t ts refl)
    by_fit false = ended R pending w tree (onward none) (record { left = t ∷ ts; start = start; behind = behind; end = end }) e

-- behind an item, in a row that goes on behind a comma: what is read there, or the end
pub comma_follows : (R : Type 0) (y z : Symbol) (makes : Lexeme → Of z → Of y) (none : Of y) (pending : List Symbol) (onward : Of y → Awaits pending R) {B : Type 0} (tree : B → Awaits pending R) (p : Parser B) (w : B) (i : Input) →
    onward none ≡ tree w →
    ((l : Lexeme) (j : Input) → length j.left < length i.left → Leads (state (z ∷ pending) (λ v. onward (makes l v)) j) pending tree (p j)) →
    Leads (by_row y pending onward i (if sees (Mark_ Comma) i.left then reads (one Decided ∷ z ∷ []) makes else reads [] none)) pending tree ((if sees (Mark_ Comma) i.left then p else pure w) (after (Mark_ Comma) i))
comma_follows R y z makes none pending onward tree p w i e k =
    comma_or_end R y z makes none pending onward tree p w i.left i.start i.behind i.end e
    (λ l t ts o. k l (past i t ts) (let m : length i.left ≡ length (t ∷ ts) = ap length o in omega arith))

-- the same for the items of a list
commas : (R : Type 0) (x : Symbol) (pending : List Symbol) (onward : List (Of x) → Awaits pending R) {B : Type 0} (tree : B → Awaits pending R) (p : Parser B) (w : B) (i : Input) →
    onward [] ≡ tree w →
    ((j : Input) → length j.left < length i.left → Leads (state (list x ∷ pending) onward j) pending tree (p j)) →
    Leads (state (more x ∷ pending) onward i) pending tree ((if sees (Mark_ Comma) i.left then p else pure w) (after (Mark_ Comma) i))
commas R x pending onward tree p w i e k =
    stepping R (more x ∷ pending) onward i pending tree ((if sees (Mark_ Comma) i.left then p else pure w) (after (Mark_ Comma) i))
    (comma_follows R (more x) (list x) (λ _ vs. vs) [] pending onward tree p w i e (λ l j h. k j h))

-- the loop of `list_of`, behind what it has found
list_loop : (depth : ℕ) (x : Symbol) (b : List Lexeme → Bool) (p : Parser (Of x)) →
    ((ts : List Lexeme) → begins x ts ≡ b ts) → b [] ≡ false → FollowsOne depth x p →
    (R : Type 0) (pending : List Symbol) (tree : List (Of x) → Awaits pending R) → nesting pending + depth ≡ 128 →
    (n : ℕ) (found : List (Of x)) (onward : List (Of x) → Awaits pending R) (i : Input) →
    ((vs : List (Of x)) → onward vs ≡ tree (found ++ vs)) → length i.left ≤ n →
    Leads (state (list x ∷ pending) onward i) pending tree (list_from b p n found i)
unfolding list_from
list_loop depth x b p begin none f R pending tree h zero found onward i e below =
    stepping R (list x ∷ pending) onward i pending tree (Ok (found, i))
    (choosing R (list x) (x ∷ more x ∷ []) (λ v vs. v ∷ vs) [] pending onward tree i (begins x i.left) false
    (begin i.left ∙ ap b (empty i.left below) ∙ none) (Ok (found, i)) (Ok (found, i))
    (λ t. absurd (let k : begins x i.left ≡ false = begin i.left ∙ ap b (empty i.left below) ∙ none in cc))
    (λ t. ended R pending found tree (onward []) i (e [] ∙ ap tree (append-nil found))))
list_loop depth x b p begin none f R pending tree h (suc n) found onward i e below =
    stepping R (list x ∷ pending) onward i pending tree (list_from b p (suc n) found i)
    (choosing R (list x) (x ∷ more x ∷ []) (λ v vs. v ∷ vs) [] pending onward tree i (begins x i.left) (b i.left)
    (begin i.left) ((p >>= (λ v. eat (Mark_ Comma) >>= (λ further. if further then list_from b p n (found ++ v ∷ []) else pure (found ++ v ∷ [])))) i) (Ok (found, i))
    (λ t. binding R _ (p i) (λ v. eat (Mark_ Comma) >>= (λ further. if further then list_from b p n (found ++ v ∷ []) else pure (found ++ v ∷ []))) (more x ∷ pending) (λ v vs. onward (v ∷ vs)) pending tree
    (f.leads R (more x ∷ pending) (λ v vs. onward (v ∷ vs)) i h)
    (λ v j o r. commas R x pending (λ vs. onward (v ∷ vs)) tree (list_from b p n (found ++ v ∷ [])) (found ++ v ∷ []) j (e (v ∷ []))
    (λ l shorter.
    let k : length j.left ≤ length i.left = follows_keeps depth (x ∷ []) (λ v. v) p f pending h i v j o in
    list_loop depth x b p begin none f R pending tree h n (found ++ v ∷ []) (λ vs. onward (v ∷ vs)) l
    (λ vs. e (v ∷ vs) ∙ ap tree (sym (append_assoc found (v ∷ []) vs)))
    (omega arith))))
    (λ t. ended R pending found tree (onward []) i (e [] ∙ ap tree (append-nil found))))

-- `list_of` follows `list`
pub list_follows : (depth : ℕ) (x : Symbol) (b : List Lexeme → Bool) (p : Parser (Of x)) →
    ((ts : List Lexeme) → begins x ts ≡ b ts) → b [] ≡ false → FollowsOne depth x p →
    FollowsOne depth (list x) (list_of b p)
unfolding list_of
list_follows depth x b p begin none f = record {
  leads = λ R pending tree i h. list_loop depth x b p begin none f R pending tree h (length i.left) [] tree i (λ vs. refl) (let k : length i.left ≤ length i.left = omega arith in k);
  plain = λ pending. refl;
}

-- an item, and behind a comma the loop of a list, follow `list1`
pub list1_follows : (depth : ℕ) (x : Symbol) (b : List Lexeme → Bool) (p : Parser (Of x)) →
    ((ts : List Lexeme) → begins x ts ≡ b ts) → b [] ≡ false → FollowsOne depth x p →
    FollowsOne depth (list1 x) (p >>= (λ v. eat (Mark_ Comma) >>= (λ further. if further then (λ i. list_from b p (length i.left) (v ∷ []) i) else pure (v ∷ []))))
list1_follows depth x b p begin none f = record {
  leads = λ R pending tree i h. stepping R (list1 x ∷ pending) tree i pending tree ((p >>= (λ v. eat (Mark_ Comma) >>= (λ further. if further then (λ i. list_from b p (length i.left) (v ∷ []) i) else pure (v ∷ [])))) i)
      (binding R _ (p i) (λ v. eat (Mark_ Comma) >>= (λ further. if further then (λ i. list_from b p (length i.left) (v ∷ []) i) else pure (v ∷ []))) (more x ∷ pending) (λ v vs. tree (v ∷ vs)) pending tree
      (f.leads R (more x ∷ pending) (λ v vs. tree (v ∷ vs)) i h)
      (λ v j o r. commas R x pending (λ vs. tree (v ∷ vs)) tree (λ i. list_from b p (length i.left) (v ∷ []) i) (v ∷ []) j refl
      (λ l shorter. list_loop depth x b p begin none f R pending tree h (length l.left) (v ∷ []) (λ vs. tree (v ∷ vs)) l (λ vs. refl) (let k : length l.left ≤ length l.left = omega arith in k))));
  plain = λ pending. refl;
}

-- ---- parsers that are written in another way

-- a parser whose outcomes are those of one that follows
pub same_follows : {A : Type 0} (depth : ℕ) (parts : List Symbol) (makes : Awaits parts A) (p q : Parser A) →
    Follows depth parts makes p → ((i : Input) → p i ≡ q i) → Follows depth parts makes q
same_follows depth parts makes p q f e = record {
  leads = λ R pending tree i h. subst (λ o. Leads (state (parts ++ pending) (in_place R parts pending makes tree) i) pending tree o) (e i) (f.leads R pending tree i h);
  plain = f.plain;
}

-- `eat` as a parser that may read a token
eaten : (terminal : Terminal) (left : List Lexeme) (start : Place) (behind : ℕ) (end : Place) →
    (if sees terminal left then ((λ _. true) <$> expect terminal) (record { left = left; start = start; behind = behind; end = end }) else Ok (false, record { left = left; start = start; behind = behind; end = end })) ≡ eat terminal (record { left = left; start = start; behind = behind; end = end })
unfolding expect token after next
eaten terminal [] start behind end = refl
eaten terminal (t ∷ ts) start behind end = by_fit (fits terminal t)
  where
    by_fit : (c : Bool) →
        (if c then and_then (if c then Ok (shown (record { left = t ∷ ts; start = start; behind = behind; end = end }) t, record { left = ts; start = start; behind = t.behind; end = end }) else Err (refusal (record { left = t ∷ ts; start = start; behind = behind; end = end }))) (λ _. pure true) else Ok (false, record { left = t ∷ ts; start = start; behind = behind; end = end })) ≡ Ok (c, (if c then record { left = ts; start = start; behind = t.behind; end = end } else record { left = t ∷ ts; start = start; behind = behind; end = end }))
    by_fit true = refl
    by_fit false = refl

-- `eat` follows a token that may stand, and says whether it stood
pub eat_follows : (depth : ℕ) (terminal : Terminal) →
    Follows depth (optional (one terminal) ∷ []) is_there (eat terminal)
eat_follows depth terminal =
    same_follows depth (optional (one terminal) ∷ []) is_there (λ i. if sees terminal i.left then ((λ _. true) <$> expect terminal) i else Ok (false, i)) (eat terminal)
    (optional_reads depth (one terminal) (sees terminal) is_there ((λ _. true) <$> expect terminal) (λ ts. refl)
    (mapped_follows depth (one terminal) (λ v. v) (λ _. true) (expect terminal) (expect_follows depth terminal)))
    (λ i. eaten terminal i.left i.start i.behind i.end)

-- behind a token that was seen is behind a token
token_after : {A : Type 0} (terminal : Terminal) (q : Parser A) (left : List Lexeme) (start : Place) (behind : ℕ) (end : Place) →
    sees terminal left ≡ true →
    (token >> q) (record { left = left; start = start; behind = behind; end = end }) ≡ q (after terminal (record { left = left; start = start; behind = behind; end = end }))
unfolding token after next
token_after terminal q [] start behind end is = absurd (cc)
token_after terminal q (t ∷ ts) start behind end is =
    ap (λ c. q (if c then record { left = ts; start = start; behind = t.behind; end = end } else record { left = t ∷ ts; start = start; behind = behind; end = end })) (sym is)

-- a parser behind a token that was seen
pub after_seen : {A : Type 0} (terminal : Terminal) (q : Parser A) (i : Input) → sees terminal i.left ≡ true →
    (token >> q) i ≡ q (after terminal i)
after_seen terminal q i is = token_after terminal q i.left i.start i.behind i.end is

-- a row that is there only at this token, with `expect` for the token
pub at_terminal_follows : {x : Symbol} (depth : ℕ) (terminal : Terminal) (i : Input) (parts : List Symbol) (makes : Awaits (one Decided ∷ parts) (Of x)) (q : Lexeme → Parser (Of x)) →
    Follows depth (one Decided ∷ parts) makes (token >>= q) →
    RowFollows depth x i (at_terminal terminal i.left (reads (one Decided ∷ parts) makes)) ((expect terminal >>= q) i)
unfolding expect
at_terminal_follows {x = x} depth terminal i parts makes q f = by_sight (sees terminal i.left)
  where
    by_sight : (c : Bool) →
        RowFollows depth x i (if c then reads (one Decided ∷ parts) makes else None) (and_then (if c then token i else refuse i) q)
    by_sight true = row_by (token >>= q) f
    by_sight false = no_row
