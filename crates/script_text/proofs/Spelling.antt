-- Reading the line that begins a command, and how it is spelled.
use Rattle.std.proofs.Common.{◌≡◌, ◌≢◌, ℕ, ◌^◌, ◌<◌, ◌≤◌, ◌&&◌, Bool, true, false, cond, List, [], ◌∷◌, ◌++◌, Some, None, length, take, drop, nat_lt, nat_le, refl, sym, ap, ◌∙◌, subst, arith, append_assoc, take-append-drop, length-append}
use Rattle.std.specs.Prelude.{codes, Option}
use Rattle.std.specs.Str.{bytes_eq}
use Rattle.std.specs.List.{list_all, AllByRecursion}
use Rattle.std.specs.Fmt.{decimal}
use Rattle.std.proofs.lemmas.Bool.Decides.{nat_tests}
use Rattle.std.proofs.lemmas.Fmt.{length-decimal-le}
use Rattle.std.proofs.lemmas.Slice.Eq.{bytes_eq-Decides}
use Rattle.std.proofs.lemmas.List.{take_at, drop_at}
use Rattle.hack_base.specs.Script.{IsNameByte, IsFileName, space}
use Rattle.script_text.specs.Heads.{Head, File, Drop, Check, Begin, Wait, Quit, ◌>>=◌, split_first, behind, number, is_name_byte, is_file_name, file_head, drop_head, word_head, head_by, head_of_line}
use Rattle.script_text.specs.Spelling.{IsWithinLimits, spelling}
use Rattle.script_text.proofs.Splits.{split_first-found, split_first-parts}
use Rattle.script_text.proofs.Numbers.{number-digits, number-decimal}

-- ---- tests

le_test : (m n : ℕ) → m ≤ n → nat_le m n ≡ true
le_test m n h = grind (arith, nat_tests)

le_from : (m n : ℕ) → nat_le m n ≡ true → m ≤ n
le_from m n h = grind (arith, nat_tests)

name_byte-not_space : (b : ℕ) → IsNameByte b → b ≢ 32
name_byte-not_space b h e = grind arith

-- ---- choices

chosen : {A : Type 0} (b : Bool) (x y : A) → cond b (Some x) None ≡ Some y → (b ≡ true) × (x ≡ y)
chosen true x y e = (refl, cc)
chosen false x y e = absurd cc

both : (a b : Bool) → (a && b) ≡ true → (a ≡ true) × (b ≡ true)
both true true e = (refl, refl)
both true false e = absurd cc
both false b e = absurd cc

bound : {A B : Type 0} (o : Option A) (f : A → Option B) (y : B) → (o >>= f) ≡ Some y → (x : A) × (o ≡ Some x) × (f x ≡ Some y)
bound None f y e = absurd cc
bound (Some x) f y e = (x, refl, e)

-- ---- names

name_byte : (b : ℕ) → is_name_byte b ≡ true → IsNameByte b
name_byte b e = grind (arith, nat_tests)

name_byte-test : (b : ℕ) → IsNameByte b → is_name_byte b ≡ true
name_byte-test b h = grind (arith, nat_tests)

name_bytes : (bs : List ℕ) → list_all is_name_byte bs ≡ true → AllByRecursion IsNameByte bs
name_bytes [] e = tt
name_bytes (b ∷ bs) e = let parts = both (is_name_byte b) (list_all is_name_byte bs) e in (name_byte b parts.0, name_bytes bs parts.1)

name_bytes-test : (bs : List ℕ) → AllByRecursion IsNameByte bs → list_all is_name_byte bs ≡ true
name_bytes-test [] h = refl
name_bytes-test (b ∷ bs) h = ap (λ t. t && list_all is_name_byte bs) (name_byte-test b h.0) ∙ name_bytes-test bs h.1

file_name : (name : List ℕ) → is_file_name name ≡ true → IsFileName name
file_name name e =
    let outer = both (nat_le 1 (length name)) (nat_le (length name) 255 && list_all is_name_byte name) e in
    let inner = both (nat_le (length name) 255) (list_all is_name_byte name) outer.1 in
    let low : nat_le 1 (length name) ≡ true = outer.0 in
    let high : nat_le (length name) 255 ≡ true = inner.0 in
    record { not_empty = grind (arith, nat_tests); not_long = grind (arith, nat_tests); each = name_bytes name inner.1 }

file_name-test : (name : List ℕ) → IsFileName name → is_file_name name ≡ true
file_name-test name h =
    let low : nat_le 1 (length name) ≡ true = le_test 1 (length name) h.not_empty in
    let high : nat_le (length name) 255 ≡ true = le_test (length name) 255 h.not_long in
    ap (λ t. t && (nat_le (length name) 255 && list_all is_name_byte name)) low ∙ ap (λ t. t && list_all is_name_byte name) high ∙ name_bytes-test name h.each

-- a name has no space, and so the first space ends it
no_space : (bs : List ℕ) → AllByRecursion IsNameByte bs → AllByRecursion (λ b. b ≢ 32) bs
no_space [] h = tt
no_space (b ∷ bs) h = (name_byte-not_space b h.0, no_space bs h.1)

-- ---- what stands behind a front

behind-parts : (front bytes rest : List ℕ) → behind front bytes ≡ Some rest → bytes ≡ front ++ rest
unfolding behind
behind-parts front bytes rest e =
    let parts = chosen (bytes_eq (take (length front) bytes) front) (drop (length front) bytes) rest e in
    sym (take-append-drop (length front) bytes) ∙ ap (λ xs. xs ++ drop (length front) bytes) ((bytes_eq-Decides (take (length front) bytes) front).0 parts.0) ∙ ap (λ xs. front ++ xs) parts.1

behind-found : (front rest : List ℕ) → behind front (front ++ rest) ≡ Some rest
unfolding behind
behind-found front rest =
    ap (λ t. cond t (Some (drop (length front) (front ++ rest))) None) ((bytes_eq-Decides (take (length front) (front ++ rest)) front).1 (take_at front rest (length front) refl))
    ∙ ap Some (drop_at front rest (length front) refl)

-- ---- each form

abbrev IsSpelled : Head → List ℕ → Type 0
IsSpelled head line = IsWithinLimits head × (line ≡ spelling head)

spelled_file : (name ds : List ℕ) → codes "file " ++ (name ++ 32 ∷ ds) ≡ codes "file " ++ name ++ space ++ ds
spelled_file name ds = simp append_assoc

file-parts : (line words : List ℕ) (head : Head) → line ≡ codes "file " ++ words → file_head words ≡ Some head → IsSpelled head line
unfolding file_head
file-parts line words head is e =
    let split = bound (split_first 32 words) _ head e in
    let parts = split.0 in
    let counted = bound (number parts.1) _ head split.2 in
    let len = counted.0 in
    let ends = chosen (is_file_name parts.0 && nat_le len 1048576) (File parts.0 len) head counted.2 in
    let tests = both (is_file_name parts.0) (nat_le len 1048576) ends.0 in
    let short : len ≤ 2 ^ 20 = le_from len 1048576 tests.1 in
    let whole : line ≡ spelling (File parts.0 len) =
    is ∙ ap (λ ws. codes "file " ++ ws) (split_first-parts 32 words parts split.1 ∙ ap (λ ds. parts.0 ++ 32 ∷ ds) (number-digits parts.1 len counted.1)) ∙ spelled_file parts.0 (decimal len) in
    subst (λ h. IsSpelled h line) ends.1 ((file_name parts.0 tests.0, short), whole)

drop-parts : (line name : List ℕ) (head : Head) → line ≡ codes "drop " ++ name → drop_head name ≡ Some head → IsSpelled head line
unfolding drop_head
drop-parts line name head is e =
    let ends = chosen (is_file_name name) (Drop name) head e in
    subst (λ h. IsSpelled h line) ends.1 (file_name name ends.0, is)

word_step : (line word : List ℕ) (this head : Head) (rest : Option Head) (b : Bool) → bytes_eq line word ≡ b → (line ≡ word → IsSpelled this line) → (rest ≡ Some head → IsSpelled head line)
    → cond b (Some this) rest ≡ Some head → IsSpelled head line
word_step line word this head rest true test now later e = let p : this ≡ head = cc in subst (λ h. IsSpelled h line) p (now ((bytes_eq-Decides line word).0 test))
word_step line word this head rest false test now later e = later e

word-parts : (line : List ℕ) (head : Head) → word_head line ≡ Some head → IsSpelled head line
unfolding word_head
word-parts line head e =
    word_step line (codes "check") Check head _ (bytes_eq line (codes "check")) refl (λ is. (tt, is))
    (word_step line (codes "begin") Begin head _ (bytes_eq line (codes "begin")) refl (λ is. (tt, is))
    (word_step line (codes "wait") Wait head _ (bytes_eq line (codes "wait")) refl (λ is. (tt, is))
    (word_step line (codes "quit") Quit head None (bytes_eq line (codes "quit")) refl (λ is. (tt, is)) (λ none. absurd cc)))) e

by-parts : (line : List ℕ) (head : Head) (o p : Option (List ℕ)) → behind (codes "file ") line ≡ o → behind (codes "drop ") line ≡ p → head_by o p line ≡ Some head → IsSpelled head line
by-parts line head (Some words) p is other e = file-parts line words head (behind-parts (codes "file ") line words is) e
by-parts line head None (Some name) other is e = drop-parts line name head (behind-parts (codes "drop ") line name is) e
by-parts line head None None other is e = word-parts line head e

line_step : (line : List ℕ) (head : Head) (b : Bool) → cond b None (head_by (behind (codes "file ") line) (behind (codes "drop ") line) line) ≡ Some head → IsSpelled head line
line_step line head true e = absurd cc
line_step line head false e = by-parts line head (behind (codes "file ") line) (behind (codes "drop ") line) refl refl e

-- a line that is read as a head is its spelling
pub head-parts : (line : List ℕ) (head : Head) → head_of_line line ≡ Some head → IsWithinLimits head × (line ≡ spelling head)
unfolding head_of_line
head-parts line head e = line_step line head (nat_lt 300 (length line)) e

-- ---- a spelling is read

within : (n : ℕ) → n ≤ 300 → nat_lt 300 n ≡ false
within n h = grind (arith, nat_tests)

file-found : (name : List ℕ) (len : ℕ) → IsWithinLimits (File name len) → file_head (name ++ 32 ∷ decimal len) ≡ Some (File name len)
unfolding file_head
file-found name len limits =
    let short : nat_le len 1048576 ≡ true = le_test len 1048576 limits.1 in
    let few : len < 10 ^ 7 = omega (arith, limits.1) in
    ap (λ o. o >>= λ parts. number parts.1 >>= λ n. cond (is_file_name parts.0 && nat_le n 1048576) (Some (File parts.0 n)) None) (split_first-found 32 name (decimal len) (no_space name limits.0.each))
    ∙ ap (λ o. o >>= λ n. cond (is_file_name name && nat_le n 1048576) (Some (File name n)) None) (number-decimal len few)
    ∙ ap (λ t. cond (t && nat_le len 1048576) (Some (File name len)) None) (file_name-test name limits.0)
    ∙ ap (λ t. cond t (Some (File name len)) None) short

drop-found : (name : List ℕ) → IsFileName name → drop_head name ≡ Some (Drop name)
unfolding drop_head
drop-found name is = ap (λ t. cond t (Some (Drop name)) None) (file_name-test name is)

-- `drop ` isn't `file `
not_file : (name : List ℕ) → behind (codes "file ") (codes "drop " ++ name) ≡ None
unfolding behind
not_file name = refl

file_line : (name : List ℕ) (len : ℕ) → IsWithinLimits (File name len) → head_of_line (codes "file " ++ (name ++ 32 ∷ decimal len)) ≡ Some (File name len)
unfolding head_of_line
file_line name len limits =
    let words : List ℕ = name ++ 32 ∷ decimal len in
    let line : List ℕ = codes "file " ++ words in
    let digits : length (decimal len) ≤ 7 = length-decimal-le 7 len (omega arith) (omega (arith, limits.1)) (omega (arith, limits.1)) in
    let size : length line ≤ 300 = omega (arith, digits, limits.0.not_long, length-append (codes "file ") words, length-append name (32 ∷ decimal len)) in
    ap (λ t. cond t None (head_by (behind (codes "file ") line) (behind (codes "drop ") line) line)) (within (length line) size)
    ∙ ap (λ o. head_by o (behind (codes "drop ") line) line) (behind-found (codes "file ") words) ∙ file-found name len limits

drop_line : (name : List ℕ) → IsFileName name → head_of_line (codes "drop " ++ name) ≡ Some (Drop name)
unfolding head_of_line
drop_line name is =
    let line : List ℕ = codes "drop " ++ name in
    let size : length line ≤ 300 = omega (arith, is.not_long, length-append (codes "drop ") name) in
    ap (λ t. cond t None (head_by (behind (codes "file ") line) (behind (codes "drop ") line) line)) (within (length line) size)
    ∙ ap (λ o. head_by o (behind (codes "drop ") line) line) (not_file name) ∙ ap (λ o. head_by None o line) (behind-found (codes "drop ") name) ∙ drop-found name is

-- a head's spelling is read as the head
pub head-found : (head : Head) → IsWithinLimits head → head_of_line (spelling head) ≡ Some head
unfolding head_of_line behind word_head
head-found (File name len) limits = ap head_of_line (sym (spelled_file name (decimal len))) ∙ file_line name len limits
head-found (Drop name) limits = drop_line name limits
head-found Check limits = refl
head-found Begin limits = refl
head-found Wait limits = refl
head-found Quit limits = refl
