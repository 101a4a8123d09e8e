-- A text is one list of first units at most.
use Rattle.std.proofs.Common.{◌≡◌, ℕ, inl, inr, eqb, List, [], ◌∷◌, ◌++◌, map, length, refl, sym, ap, ◌∙◌, subst}
use Rattle.std.specs.Prelude.{if◌then◌else◌}
use Rattle.std.proofs.lemmas.List.{length-map, append_assoc}
use Rattle.hack_types.specs.declared.place.Place.{Place}
use Rattle.hack_lexer.specs.declared.kind.TokenKind.TheVariants as kind
use Rattle.hack_lexer.specs.declared.kind.Mark.TheVariants as marks
use Rattle.hack_lexer.specs.declared.token.Token.{Token}
use Rattle.hack_lexer.specs.Kinds.{sort_of_kind}
use Rattle.hack_lexer.proofs.Cuts.{one_list}
use Rattle.hack_lexer.proofs.SameKind.{one_kind}
use Rattle.hack_first.specs.declared.unit.Primitive.{Primitive}
use Rattle.hack_first.specs.declared.unit.Primitive.TheVariants.{Int, Str}
use Rattle.hack_first.specs.Functions.{Function, Value, OfType, OfCall}
use Rattle.hack_first.specs.FirstUnits.{Lexeme as Form, lexeme, name, mark, type_keyword, opening, closing, IsSpelled, BeginsAt, SecondAt, IsUnit, AreUnits, IsFirstBody}
use Rattle.hack_first.proofs.Gives.{same_first}

-- equal lists have the same others
same_others : {A : Type 0} (x y : A) (xs ys : List A) → x ∷ xs ≡ y ∷ ys → xs ≡ ys
same_others x y xs ys e = cc

-- lists in two parts, of which the first are as long
same_parts : {A : Type 0} (a b x y : List A) → length a ≡ length b → a ++ x ≡ b ++ y → (a ≡ b) × (x ≡ y)
same_parts [] [] x y long e = (refl, e)
same_parts [] (q ∷ b) x y long e = absurd cc
same_parts (p ∷ a) [] x y long e = absurd cc
same_parts (p ∷ a) (q ∷ b) x y long e =
    let first : p ≡ q = cc in
    let others : a ++ x ≡ b ++ y = cc in
    let shorter : length a ≡ length b = cc in
    let rest = same_parts a b x y shorter others in
    (λ k. first k ∷ rest.0 k, rest.1)

-- ---- values

-- the value that begins with a token of this form, and how many tokens it has behind that
abbrev value_by : Form → Value
value_by form = if eqb form.0 (sort_of_kind kind.Name) then OfCall form.1 else if eqb form.0 (sort_of_kind kind.Int) then OfType Int else OfType Str

abbrev more_by : Form → ℕ
more_by form = if eqb form.0 (sort_of_kind kind.Name) then 2 else 0

record IsValue (value : Value) (forms : List Form) : Type 0 where
  first : Form
  more : List Form
  parts : forms ≡ first ∷ more
  is : value_by first ≡ value
  long : length more ≡ more_by first

is_value : (value : Value) (forms : List Form) → IsSpelled value forms → IsValue value forms
is_value (OfType Int) forms h = record { first = (sort_of_kind kind.Int, h.0); more = []; parts = h.1; is = refl; long = refl }
is_value (OfType Str) forms (inl h) = record { first = (sort_of_kind kind.Text, h.0); more = []; parts = h.1; is = refl; long = refl }
is_value (OfType Str) forms (inr h) = record { first = (sort_of_kind kind.KeyText, h.0); more = []; parts = h.1; is = refl; long = refl }
is_value (OfCall called) forms h = record { first = name called; more = mark marks.OpenParen ∷ mark marks.CloseParen ∷ []; parts = h; is = refl; long = refl }

-- the tokens of one value, whatever follows
one_value : (bytes : List ℕ) (a b x y : List Token) (value other : Value) → IsSpelled value (map (lexeme bytes) a) → IsSpelled other (map (lexeme bytes) b) → a ++ x ≡ b ++ y → (value ≡ other) × (a ≡ b) × (x ≡ y)
one_value bytes a b x y value other h k e = by a b (is_value value (map (lexeme bytes) a) h) (is_value other (map (lexeme bytes) b) k) e
  where
    by : (a b : List Token) → IsValue value (map (lexeme bytes) a) → IsValue other (map (lexeme bytes) b) → a ++ x ≡ b ++ y → (value ≡ other) × (a ≡ b) × (x ≡ y)
    by [] b v w e = absurd (let wrong = v.parts in cc)
    by (t ∷ a) [] v w e = absurd (let wrong = w.parts in cc)
    by (t ∷ a) (u ∷ b) v w e =
        let token : t ≡ u = cc in
        let others : a ++ x ≡ b ++ y = cc in
        let v_parts : lexeme bytes t ∷ map (lexeme bytes) a ≡ v.first ∷ v.more = v.parts in
        let w_parts : lexeme bytes u ∷ map (lexeme bytes) b ≡ w.first ∷ w.more = w.parts in
        let first : v.first ≡ w.first = same_first _ _ _ _ (sym v_parts) ∙ ap (lexeme bytes) token ∙ same_first _ _ _ _ w_parts in
        let long : length a ≡ length b =
        sym (length-map a (lexeme bytes)) ∙ ap length (same_others _ _ _ _ v_parts) ∙ v.long ∙ ap more_by first ∙ sym w.long ∙ ap length (same_others _ _ _ _ (sym w_parts)) ∙ length-map b (lexeme bytes) in
        let rest = same_parts a b x y long others in
        (sym v.is ∙ ap value_by first ∙ w.is, λ k. token k ∷ rest.0 k, rest.1)

-- ---- units

-- a keyword is that of one type
one_type : (p q : Primitive) → sort_of_kind (kind.Keyword (type_keyword p)) ≡ sort_of_kind (kind.Keyword (type_keyword q)) → p ≡ q
one_type Int Int e = refl
one_type Str Str e = refl
one_type Int Str e = absurd (let same = one_kind (kind.Keyword (type_keyword Int)) (kind.Keyword (type_keyword Str)) e in cc)
one_type Str Int e = absurd (let same = one_kind (kind.Keyword (type_keyword Str)) (kind.Keyword (type_keyword Int)) e in cc)

-- what opens a unit tells its name and its type
one_opening : (f g : Function) → opening f ≡ opening g → (f.name ≡ g.name) × (f.result ≡ g.result)
one_opening f g e =
    let names : name f.name ≡ name g.name = cc in
    let types : ◌≡◌ {A = Form} (sort_of_kind (kind.Keyword (type_keyword f.result)), []) (sort_of_kind (kind.Keyword (type_keyword g.result)), []) = cc in
    (ap (λ (w : Form). w.1) names, one_type f.result g.result (ap (λ (w : Form). w.0) types))

one_first : (bytes : List ℕ) (tokens : List Token) (at other : Place) → BeginsAt bytes tokens at → BeginsAt bytes tokens other → at ≡ other
one_first bytes [] at other h k = absurd h
one_first bytes (t ∷ tokens) at other h k = h ∙ sym k

one_second : (bytes : List ℕ) (tokens : List Token) (at other : Place) → SecondAt bytes tokens at → SecondAt bytes tokens other → at ≡ other
one_second bytes [] at other h k = absurd h
one_second bytes (t ∷ []) at other h k = absurd h
one_second bytes (t ∷ u ∷ tokens) at other h k = h ∙ sym k

-- tokens that have the same forms, or as many, are as many
as_many : (bytes : List ℕ) (a b : List Token) (forms others : List Form) → map (lexeme bytes) a ≡ forms → map (lexeme bytes) b ≡ others → length forms ≡ length others → length a ≡ length b
as_many bytes a b forms others h k e = sym (length-map a (lexeme bytes)) ∙ ap length h ∙ e ∙ sym (ap length k) ∙ length-map b (lexeme bytes)

-- the tokens of one unit, whatever follows
one_unit : (bytes : List ℕ) (a b x y : List Token) (f g : Function) → IsUnit bytes a f → IsUnit bytes b g → a ++ x ≡ b ++ y → (f ≡ g) × (x ≡ y)
one_unit bytes a b x y f g u v e =
    let u_parts : a ++ x ≡ u.front ++ (u.value ++ (u.back ++ x)) = ap (λ ts. ts ++ x) u.parts ∙ append_assoc (u.front ++ u.value) u.back x ∙ append_assoc u.front u.value (u.back ++ x) in
    let v_parts : b ++ y ≡ v.front ++ (v.value ++ (v.back ++ y)) = ap (λ ts. ts ++ y) v.parts ∙ append_assoc (v.front ++ v.value) v.back y ∙ append_assoc v.front v.value (v.back ++ y) in
    let fronts = same_parts u.front v.front (u.value ++ (u.back ++ x)) (v.value ++ (v.back ++ y)) (as_many bytes u.front v.front (opening f) (opening g) u.opens v.opens refl) (sym u_parts ∙ e ∙ v_parts) in
    let opens = one_opening f g (sym u.opens ∙ ap (map (lexeme bytes)) fronts.0 ∙ v.opens) in
    let values = one_value bytes u.value v.value (u.back ++ x) (v.back ++ y) f.value g.value u.returns v.returns fronts.1 in
    let backs = same_parts u.back v.back x y (as_many bytes u.back v.back closing closing u.closes v.closes refl) values.2 in
    let named : f.name_at ≡ g.name_at = one_second bytes v.front f.name_at g.name_at (subst (λ ts. SecondAt bytes ts f.name_at) fronts.0 u.named) v.named in
    let placed : f.at ≡ g.at = one_first bytes v.value f.at g.at (subst (λ ts. BeginsAt bytes ts f.at) values.1 u.placed) v.placed in
    (λ k. record { name = opens.0 k; name_at = named k; result = opens.1 k; value = values.0 k; at = placed k }, backs.1)

-- a unit has tokens
some_tokens : (bytes : List ℕ) (a x : List Token) (f : Function) → IsUnit bytes a f → a ++ x ≡ [] → ⊥
some_tokens bytes a x f u e = by u.front u.opens (sym (ap (λ ts. ts ++ x) u.parts ∙ append_assoc (u.front ++ u.value) u.back x ∙ append_assoc u.front u.value (u.back ++ x)) ∙ e)
  where
    by : (front : List Token) → map (lexeme bytes) front ≡ opening f → front ++ (u.value ++ (u.back ++ x)) ≡ [] → ⊥
    by [] h k = absurd cc
    by (t ∷ front) h k = absurd cc

-- the tokens of one list of units
units_once : (bytes : List ℕ) (tokens : List Token) (functions others : List Function) → AreUnits bytes tokens functions → AreUnits bytes tokens others → functions ≡ others
units_once bytes tokens [] [] h k = refl
units_once bytes tokens [] (g ∷ others) h k = absurd (some_tokens bytes k.0 k.1 g k.3 (sym k.2 ∙ h))
units_once bytes tokens (f ∷ functions) [] h k = absurd (some_tokens bytes h.0 h.1 f h.3 (sym h.2 ∙ k))
units_once bytes tokens (f ∷ functions) (g ∷ others) h k =
    let one = one_unit bytes h.0 k.0 h.1 k.1 f g h.3 k.3 (sym h.2 ∙ k.2) in
    let rest = units_once bytes k.1 functions others (subst (λ ts. AreUnits bytes ts functions) one.1 h.4) k.4 in
    λ n. one.0 n ∷ rest n

-- a text is one list of first units at most
pub one_body : (bytes : List ℕ) (functions others : List Function) → IsFirstBody bytes functions → IsFirstBody bytes others → functions ≡ others
one_body bytes functions others h k =
    units_once bytes k.0 functions others (subst (λ ts. AreUnits bytes ts functions) (one_list bytes h.0 k.0 h.1 k.1) h.2) k.2
