-- The tokens of a text stand in order, none is empty, and their places come one after another.
use Rattle.std.proofs.Common.{◌≡◌, ℕ, zero, suc, ◌+◌, ◌-◌, ◌<◌, ◌≤◌, List, [], ◌∷◌, ◌++◌, length, get_or, take, drop, Option, Some, None, refl, sym, ap, subst, ◌∙◌, arith}
use Rattle.std.proofs.lemmas.List.{take-append-drop, take-take, drop-take, drop_more}
use Rattle.hack_types.specs.declared.place.Place.{Place}
use Rattle.hack_types.specs.Places.{behind, behind_all, place_of}
use Rattle.hack_lexer.specs.declared.token.Token.{Token}
use Rattle.hack_lexer.specs.Tokens.{sort_at, IsLongest, Piece, Blank, Taken, IsCut, tokens_of, AreTokens}
use Rattle.hack_lexer.proofs.Longest.{nothing_here}

-- ---- in order

-- the tokens stand in order inside the bytes, from this index on, and none is empty
abbrev pub StandInOrder : List ℕ → ℕ → List Token → Type 0
StandInOrder bytes from [] = Unit {0}
StandInOrder bytes from (t ∷ ts) = (from ≤ t.at) × (0 < t.len) × (t.at + t.len ≤ length bytes) × StandInOrder bytes (t.at + t.len) ts

-- a token has a byte
has_byte : (bytes : List ℕ) (t : Token) → IsLongest bytes t → 0 < t.len
has_byte bytes t longest = by t.len longest.sort
  where
    by : (len : ℕ) → sort_at (drop t.at bytes) len ≡ Some t.sort → 0 < len
    by zero e = absurd (let wrong : ◌≡◌ {A = Option ℕ} None (Some t.sort) = sym (nothing_here (drop t.at bytes)) ∙ e in cc)
    by (suc n) e = omega arith

sooner : (bytes : List ℕ) (from to : ℕ) (tokens : List Token) → to ≤ from → StandInOrder bytes from tokens → StandInOrder bytes to tokens
sooner bytes from to [] le h = tt
sooner bytes from to (t ∷ tokens) le h = (omega (arith, h.0), h.1, h.2, h.3)

cut_in_order : (bytes : List ℕ) (from to : ℕ) (pieces : List Piece) → IsCut bytes from pieces to → StandInOrder bytes from (tokens_of pieces)
cut_in_order bytes from to [] cut = tt
cut_in_order bytes from to (Blank len ∷ pieces) cut = sooner bytes (from + len) from (tokens_of pieces) (omega arith) (cut_in_order bytes (from + len) to pieces cut.1)
cut_in_order bytes from to (Taken t ∷ pieces) cut =
    let behind : StandInOrder bytes (t.at + t.len) (tokens_of pieces) = subst (λ n. StandInOrder bytes (n + t.len) (tokens_of pieces)) (sym cut.0) (cut_in_order bytes (from + t.len) to pieces cut.3) in
    (omega (arith, cut.0), has_byte bytes t cut.1, cut.1.inside, behind)

pub in_order : (bytes : List ℕ) (tokens : List Token) → AreTokens bytes tokens → StandInOrder bytes 0 tokens
in_order bytes tokens cut = subst (StandInOrder bytes 0) (sym cut.tokens_are) (cut_in_order bytes 0 (length bytes) cut.pieces cut.cut)

-- there are no more tokens than bytes
no_more : (bytes : List ℕ) (from : ℕ) (tokens : List Token) → from ≤ length bytes → StandInOrder bytes from tokens → from + length tokens ≤ length bytes
no_more bytes from [] le h = omega arith
no_more bytes from (t ∷ tokens) le h = let k : t.at + t.len + length tokens ≤ length bytes = no_more bytes (t.at + t.len) tokens h.2 h.3 in omega (arith, h.0, h.1)

pub as_many_bytes : (bytes : List ℕ) (tokens : List Token) → AreTokens bytes tokens → length tokens ≤ length bytes
as_many_bytes bytes tokens cut = let k : 0 + length tokens ≤ length bytes = no_more bytes 0 tokens (omega arith) (in_order bytes tokens cut) in omega arith

-- ---- places

behind_all-append : (at : Place) (a b : List ℕ) → behind_all at (a ++ b) ≡ behind_all (behind_all at a) b
behind_all-append at [] b = refl
behind_all-append at (x ∷ a) b = behind_all-append (behind at x) a b

-- the place further on
place_further : (bytes : List ℕ) (i j : ℕ) → i ≤ j → behind_all (place_of bytes i) (take (j - i) (drop i bytes)) ≡ place_of bytes j
place_further bytes i j le =
    let start : Place = record { line = 1; column = 1 } in
    let whole : take j bytes ≡ take i bytes ++ take (j - i) (drop i bytes) =
    let sum : i + (j - i) ≡ j = omega arith in
    sym (take-append-drop i (take j bytes))
    ∙ (λ k. take-take i j bytes le k ++ (ap (λ n. drop i (take n bytes)) (sym sum) ∙ drop-take i (j - i) bytes) k) in
    sym (behind_all-append start (take i bytes) (take (j - i) (drop i bytes))) ∙ ap (behind_all start) (sym whole)

-- the same of places that are known to be those
pub place_next : (bytes : List ℕ) (i j : ℕ) (at result : Place) → i ≤ j → at ≡ place_of bytes i → result ≡ behind_all at (take (j - i) (drop i bytes)) → result ≡ place_of bytes j
place_next bytes i j at result le here there = there ∙ ap (λ p. behind_all p (take (j - i) (drop i bytes))) here ∙ place_further bytes i j le

-- from this index of the bytes on or later come the tokens from this index on
pub record IsAhead (bytes : List ℕ) (tokens : List Token) (passed index : ℕ) : Type 0 where
  pub from : ℕ
  pub after : passed ≤ from
  pub order : StandInOrder bytes from (drop index tokens)

-- the next token
pub record IsNext (bytes : List ℕ) (tokens : List Token) (passed index : ℕ) (t : Token) : Type 0 where
  pub after : passed ≤ t.at
  pub inside : t.at + t.len ≤ length bytes
  pub ahead : IsAhead bytes tokens t.at (index + 1)

pub next : (bytes : List ℕ) (tokens : List Token) (passed index : ℕ) (d : Token) → index < length tokens → IsAhead bytes tokens passed index → IsNext bytes tokens passed index (get_or tokens index d)
next bytes tokens passed index d lt h =
    let t = get_or tokens index d in
    let more : drop index tokens ≡ get_or tokens index d ∷ drop (index + 1) tokens = drop_more tokens index d lt in
    let c : StandInOrder bytes h.from (get_or tokens index d ∷ drop (index + 1) tokens) = subst (StandInOrder bytes h.from) more h.order in
    record { after = omega (arith, h.after, c.0); inside = c.2; ahead = record { from = t.at + t.len; after = omega arith; order = c.3 } }

-- all tokens are ahead of the first byte
pub start_ahead : (bytes : List ℕ) (tokens : List Token) → AreTokens bytes tokens → IsAhead bytes tokens 0 0
start_ahead bytes tokens cut = record { from = 0; after = omega arith; order = in_order bytes tokens cut }
