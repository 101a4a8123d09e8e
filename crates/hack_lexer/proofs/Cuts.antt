-- Cuts: one piece more, and that there is only one.
use Rattle.std.specs.Prelude.{if◌then◌else◌}
use Rattle.std.proofs.Common.{◌≡◌, ◌<◌, ◌≤◌, ◌+◌, ◌-◌, ◌^◌, ◌&&◌, ◌==◌, ◌++◌, ◌↔◌, ℕ, zero, suc, List, [], ◌∷◌, length, take, drop, refl, sym, ap, subst, ◌∙◌, arith, Bool, true, false, Option, Some, None, true≢false, inl, inr, codes}
use Rattle.std.proofs.lemmas.Bool.{cases_lt}
use Rattle.std.proofs.lemmas.List.{length-drop, drop_all}
use Rattle.hack_types.specs.Places.{place_of}
use Rattle.hack_types.specs.declared.place.Place.{Place}
use Rattle.hack_lexer.specs.Forms.{value_of_int}
use Rattle.hack_lexer.specs.Tokens.{begins, blank_at, sort_at, BeginsNoBlank, IsLongest, IsInRange, text_of, Piece, Blank, Taken, IsCut, tokens_of, AreTokens, IsStuck, IsTooLarge, IsFaultAt, IsFault}
use Rattle.hack_lexer.specs.Scan.{IsFound}
use Rattle.hack_lexer.specs.declared.scan.Found.{Found}
use Rattle.hack_lexer.specs.declared.token.Token.{Token}
use Rattle.hack_lexer.proofs.Longest.{nothing_here}

-- ---- one piece

pub longest_from : (bytes : List ℕ) (index : ℕ) (found : Found) → index < length bytes → BeginsNoBlank index (drop index bytes) → IsFound (drop index bytes) found
    → IsLongest bytes (record { sort = found.sort; at = index; len = found.len })
longest_from bytes index found l here h =
    let long : length (drop index bytes) ≡ length bytes - index = length-drop index bytes in
    record {
      inside = omega (arith, h.inside);
      here = here;
      sort = h.sort;
      longest = λ len m k. h.longest len m (omega arith);
    }

pub too_large : (v : ℕ) (r : Bool) → ((r ≡ true) ↔ (v < 2 ^ 63)) → r ≡ false → 2 ^ 63 ≤ v
too_large v r h e = elim (cases_lt v (2 ^ 63)) [ inl small ↦ absurd (true≢false (sym (h.1 small) ∙ e)) | inr large ↦ large ]

pub same_slice : (xs : List ℕ) (index len : ℕ) → take (index + len - index) xs ≡ take len xs
same_slice xs index len = let same : index + len - index ≡ len = omega arith in rw same refl

-- ---- one piece more

pub cut_more : (bytes : List ℕ) (from mid to : ℕ) (pieces : List Piece) (piece : Piece) → IsCut bytes from pieces mid → IsCut bytes mid (piece ∷ []) to → IsCut bytes from (pieces ++ piece ∷ []) to
cut_more bytes from mid to [] piece h one = subst (λ n. IsCut bytes n (piece ∷ []) to) (sym h) one
cut_more bytes from mid to (Blank len ∷ pieces) piece h one = (h.0, cut_more bytes (from + len) mid to pieces piece h.1 one)
cut_more bytes from mid to (Taken t ∷ pieces) piece h one = (h.0, h.1, h.2, cut_more bytes (from + t.len) mid to pieces piece h.3 one)

pub tokens_of-blank : (pieces : List Piece) (len : ℕ) → tokens_of (pieces ++ Blank len ∷ []) ≡ tokens_of pieces
tokens_of-blank [] len = refl
tokens_of-blank (Blank n ∷ pieces) len = tokens_of-blank pieces len
tokens_of-blank (Taken t ∷ pieces) len = ap (λ ts. t ∷ ts) (tokens_of-blank pieces len)

pub tokens_of-taken : (pieces : List Piece) (t : Token) → tokens_of (pieces ++ Taken t ∷ []) ≡ tokens_of pieces ++ t ∷ []
tokens_of-taken [] t = refl
tokens_of-taken (Blank n ∷ pieces) t = tokens_of-taken pieces t
tokens_of-taken (Taken u ∷ pieces) t = ap (λ ts. u ∷ ts) (tokens_of-taken pieces t)

-- ---- there is only one

-- no piece begins at this index
record Ends (bytes : List ℕ) (index : ℕ) : Type 0 where
  no_blank : (len : ℕ) → blank_at index (drop index bytes) ≡ Some len → ⊥
  no_token : (t : Token) → t.at ≡ index → IsLongest bytes t → IsInRange bytes t → ⊥

-- a token isn't empty
token_pos : (bytes : List ℕ) (t : Token) → IsLongest bytes t → 0 < t.len
token_pos bytes t h = by t.len h.sort
  where
    by : (len : ℕ) → sort_at (drop t.at bytes) len ≡ Some t.sort → 0 < len
    by zero e = absurd (let none = nothing_here (drop t.at bytes) in let wrong : ◌≡◌ {A = Option ℕ} None (Some t.sort) = sym none ∙ e in cc)
    by (suc n) e = omega arith

none_some : (o : Option ℕ) (n : ℕ) → o ≡ None → o ≡ Some n → ⊥
none_some o n e f = cc

-- of two longest tokens at one index neither is shorter
not_shorter : (bytes : List ℕ) (t u : Token) → t.at ≡ u.at → IsLongest bytes t → IsLongest bytes u → t.len < u.len → ⊥
not_shorter bytes t u e h k l =
    let none : sort_at (drop t.at bytes) u.len ≡ None = h.longest u.len l (omega (arith, k.inside)) in
    none_some (sort_at (drop u.at bytes) u.len) u.sort (subst (λ n. sort_at (drop n bytes) u.len ≡ None) e none) k.sort

-- two longest tokens at one index are the same
same_token : (bytes : List ℕ) (t u : Token) → t.at ≡ u.at → IsLongest bytes t → IsLongest bytes u → t ≡ u
same_token bytes t u e h k =
    let long : t.len ≡ u.len =
    elim (cases_lt t.len u.len) [
      | inl shorter ↦ absurd (not_shorter bytes t u e h k shorter)
      | inr no_shorter ↦ elim (cases_lt u.len t.len) [ inl longer ↦ absurd (not_shorter bytes u t (sym e) k h longer) | inr no_longer ↦ omega arith ]
    ] in
    let there : sort_at (drop u.at bytes) u.len ≡ Some t.sort = subst (λ n. sort_at (drop u.at bytes) n ≡ Some t.sort) long (subst (λ n. sort_at (drop n bytes) t.len ≡ Some t.sort) e h.sort) in
    let sort : t.sort ≡ u.sort = cc (there, k.sort) in
    λ i. record { sort = sort i; at = e i; len = long i }

blank_of_nothing : (index : ℕ) → blank_at index [] ≡ None
blank_of_nothing index = by (index == 0)
  where
    by : (b : Bool) → if◌then◌else◌ {A = Option ℕ} (b && false) (Some 4) None ≡ None
    by true = refl
    by false = refl

ends_length : (bytes : List ℕ) → Ends bytes (length bytes)
ends_length bytes = record {
  no_blank = λ len e.
      let none : drop (length bytes) bytes ≡ [] = drop_all (length bytes) bytes (omega arith) in
      none_some (blank_at (length bytes) []) len (blank_of_nothing (length bytes)) (subst (λ xs. blank_at (length bytes) xs ≡ Some len) none e);
  no_token = λ t e h r. let pos : 0 < t.len = token_pos bytes t h in absurd (omega (arith, h.inside, e));
}

ends_fault : (bytes : List ℕ) (index code : ℕ) → IsFaultAt bytes index code → Ends bytes index
ends_fault bytes index code (inl stuck) = record {
  no_blank = λ len e. none_some (blank_at index (drop index bytes)) len stuck.1.no_blank e;
  no_token = λ t e h r. elim stuck.1.no_token [
    | inl comment ↦ true≢false (sym comment ∙ subst (λ n. begins (codes "/*") (drop n bytes) ≡ false) e h.here.no_comment)
    | inr none ↦ none_some (sort_at (drop index bytes) t.len) t.sort (none t.len (omega (arith, h.inside, e))) (subst (λ n. sort_at (drop n bytes) t.len ≡ Some t.sort) e h.sort)
  ];
}
ends_fault bytes index code (inr large) = record {
  no_blank = λ len e. none_some (blank_at index (drop index bytes)) len (subst (λ n. blank_at n (drop n bytes) ≡ None) large.1.at large.1.longest.here.no_blank) e;
  no_token = λ t e h r.
      let same : t ≡ large.1.int = same_token bytes t large.1.int (e ∙ sym large.1.at) h large.1.longest in
      let small : value_of_int (text_of bytes large.1.int) < 2 ^ 63 = (subst (IsInRange bytes) same r) large.1.sort in
      let above : 2 ^ 63 ≤ value_of_int (text_of bytes large.1.int) = large.1.above in
      absurd (omega arith);
}

-- two cuts that go as far as they can are the same
same_cut : (bytes : List ℕ) (from i j : ℕ) (ps qs : List Piece) → IsCut bytes from ps i → Ends bytes i → IsCut bytes from qs j → Ends bytes j → (ps ≡ qs) × (i ≡ j)
same_cut bytes from i j [] [] h e k f = (refl, sym h ∙ k)
same_cut bytes from i j [] (Blank len ∷ qs) h e k f = absurd (e.no_blank len (subst (λ n. blank_at n (drop n bytes) ≡ Some len) h k.0))
same_cut bytes from i j [] (Taken t ∷ qs) h e k f = absurd (e.no_token t (k.0 ∙ h) k.1 k.2)
same_cut bytes from i j (Blank len ∷ ps) [] h e k f = absurd (f.no_blank len (subst (λ n. blank_at n (drop n bytes) ≡ Some len) k h.0))
same_cut bytes from i j (Taken t ∷ ps) [] h e k f = absurd (f.no_token t (h.0 ∙ k) h.1 h.2)
same_cut bytes from i j (Blank a ∷ ps) (Blank b ∷ qs) h e k f =
    let same : a ≡ b = cc (h.0, k.0) in
    let rest = same_cut bytes (from + a) i j ps qs h.1 e (subst (λ n. IsCut bytes (from + n) qs j) (sym same) k.1) f in
    ((λ x. Blank (same x) ∷ rest.0 x), rest.1)
same_cut bytes from i j (Blank a ∷ ps) (Taken u ∷ qs) h e k f =
    absurd (none_some (blank_at from (drop from bytes)) a (subst (λ n. blank_at n (drop n bytes) ≡ None) k.0 k.1.here.no_blank) h.0)
same_cut bytes from i j (Taken t ∷ ps) (Blank b ∷ qs) h e k f =
    absurd (none_some (blank_at from (drop from bytes)) b (subst (λ n. blank_at n (drop n bytes) ≡ None) h.0 h.1.here.no_blank) k.0)
same_cut bytes from i j (Taken t ∷ ps) (Taken u ∷ qs) h e k f =
    let same : t ≡ u = same_token bytes t u (h.0 ∙ sym k.0) h.1 k.1 in
    let rest = same_cut bytes (from + t.len) i j ps qs h.3 e (subst (λ x. IsCut bytes (from + x.len) qs j) (sym same) k.3) f in
    ((λ x. Taken (same x) ∷ rest.0 x), rest.1)

pub one_list : (bytes : List ℕ) (one other : List Token) → AreTokens bytes one → AreTokens bytes other → one ≡ other
one_list bytes one other a b =
    let same = same_cut bytes 0 (length bytes) (length bytes) a.pieces b.pieces a.cut (ends_length bytes) b.cut (ends_length bytes) in
    a.tokens_are ∙ ap tokens_of same.0 ∙ sym b.tokens_are

fault_inside : (bytes : List ℕ) (index code : ℕ) → IsFaultAt bytes index code → index < length bytes
fault_inside bytes index code (inl stuck) = stuck.1.inside
fault_inside bytes index code (inr large) =
    let pos : 0 < large.1.int.len = token_pos bytes large.1.int large.1.longest in omega (arith, large.1.longest.inside, large.1.at)

pub no_both : (bytes : List ℕ) (tokens : List Token) (place : Place) (code : ℕ) → AreTokens bytes tokens → IsFault bytes place code → ⊥
no_both bytes tokens place code a b =
    let same = same_cut bytes 0 (length bytes) b.index a.pieces b.pieces a.cut (ends_length bytes) b.before (ends_fault bytes b.index code b.fault) in
    let inside : b.index < length bytes = fault_inside bytes b.index code b.fault in
    omega (arith, same.1)

stuck_at_token : (bytes : List ℕ) (index : ℕ) → IsStuck bytes index → IsTooLarge bytes index → ⊥
stuck_at_token bytes index stuck large = elim stuck.no_token [
  | inl comment ↦ true≢false (sym comment ∙ subst (λ n. begins (codes "/*") (drop n bytes) ≡ false) large.at large.longest.here.no_comment)
  | inr none ↦ none_some (sort_at (drop index bytes) large.int.len) large.int.sort (none large.int.len (omega (arith, large.longest.inside, large.at)))
      (subst (λ n. sort_at (drop n bytes) large.int.len ≡ Some large.int.sort) large.at large.longest.sort)
]

same_code : (bytes : List ℕ) (index c d : ℕ) → IsFaultAt bytes index c → IsFaultAt bytes index d → c ≡ d
same_code bytes index c d (inl a) (inl b) = a.0 ∙ sym b.0
same_code bytes index c d (inl a) (inr b) = absurd (stuck_at_token bytes index a.1 b.1)
same_code bytes index c d (inr a) (inl b) = absurd (stuck_at_token bytes index b.1 a.1)
same_code bytes index c d (inr a) (inr b) = a.0 ∙ sym b.0

pub one_fault : (bytes : List ℕ) (one other : Place) (code second : ℕ) → IsFault bytes one code → IsFault bytes other second → (one ≡ other) × (code ≡ second)
one_fault bytes one other code second a b =
    let same = same_cut bytes 0 a.index b.index a.pieces b.pieces a.before (ends_fault bytes a.index code a.fault) b.before (ends_fault bytes b.index second b.fault) in (
      a.place_is ∙ ap (place_of bytes) same.1 ∙ sym b.place_is,
      same_code bytes b.index code second (subst (λ n. IsFaultAt bytes n code) same.1 a.fault) b.fault,
    )

-- ---- the cut up to an index

pub record IsSoFar (bytes : List ℕ) (index : ℕ) (tokens : List Token) : Type 0 where
  pub pieces : List Piece
  pub cut : IsCut bytes 0 pieces index
  pub tokens_are : tokens ≡ tokens_of pieces

pub so_far_none : (bytes : List ℕ) (tokens : List Token) → tokens ≡ [] → IsSoFar bytes 0 tokens
so_far_none bytes tokens e = record { pieces = []; cut = refl; tokens_are = e }

pub so_far_blank : (bytes : List ℕ) (index len : ℕ) (tokens : List Token) → IsSoFar bytes index tokens → blank_at index (drop index bytes) ≡ Some len → IsSoFar bytes (index + len) tokens
so_far_blank bytes index len tokens h e = record {
  pieces = h.pieces ++ Blank len ∷ [];
  cut = cut_more bytes 0 index (index + len) h.pieces (Blank len) h.cut (e, refl);
  tokens_are = h.tokens_are ∙ sym (tokens_of-blank h.pieces len);
}

pub so_far_taken : (bytes : List ℕ) (index : ℕ) (t : Token) (tokens more : List Token) → IsSoFar bytes index tokens → t.at ≡ index → IsLongest bytes t → IsInRange bytes t → more ≡ tokens ++ t ∷ [] → IsSoFar bytes (index + t.len) more
so_far_taken bytes index t tokens more h e longest range put = record {
  pieces = h.pieces ++ Taken t ∷ [];
  cut = cut_more bytes 0 index (index + t.len) h.pieces (Taken t) h.cut (e, longest, range, refl);
  tokens_are = put ∙ ap (λ ts. ts ++ t ∷ []) h.tokens_are ∙ sym (tokens_of-taken h.pieces t);
}

pub so_far_all : (bytes : List ℕ) (index : ℕ) (tokens : List Token) → IsSoFar bytes index tokens → index ≡ length bytes → AreTokens bytes tokens
so_far_all bytes index tokens h e = record { pieces = h.pieces; cut = subst (λ n. IsCut bytes 0 h.pieces n) e h.cut; tokens_are = h.tokens_are }

pub so_far_fault : (bytes : List ℕ) (index code : ℕ) (place : Place) (tokens : List Token) → IsSoFar bytes index tokens → IsFaultAt bytes index code → place ≡ place_of bytes index → IsFault bytes place code
so_far_fault bytes index code place tokens h fault e = record { index = index; pieces = h.pieces; before = h.cut; fault = fault; place_is = e }
