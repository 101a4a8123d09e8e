-- The texts of types, piece by piece as the code writes them.
use Rattle.std.proofs.Common.{◌≡◌, ◌≢◌, ◌+◌, ◌<◌, ◌≤◌, ℕ, Bool, true, false, if◌then◌else◌, List, [], ◌∷◌, ◌++◌, OnOk, length, map, drop, get_or, Bor, codes, refl, sym, ap, subst, ◌∙◌}
use Rattle.std.specs.List.{flat_map}
use Rattle.std.specs.declared.result.Result.{Result}
use Rattle.std.proofs.lemmas.Simd.{map-map}
use Rattle.std.proofs.lemmas.List.{append_assoc, append-nil, drop_all, drop_more}
use Rattle.hack_types.specs.declared.fields.Field.{Field}
use Rattle.hack_types.specs.declared.no_memory.NoMemory.{NoMemory}
use Rattle.hack_types.specs.declared.hack_type.HackType.{HackType}
use Rattle.hack_types.specs.declared.hack_type.HackType.TheOpen.{HackType-F}
use Rattle.hack_types.specs.declared.hack_type.HackType.TheFolds.{fold-roll-HackType}
use Rattle.hack_types.specs.declared.hack_type.HackType.TheVariants.{Option, Vector, Dict, Keyset, Class, Union, rolls-Option, rolls-Vector, rolls-Dict, rolls-Keyset, rolls-Class, rolls-Union}
use Rattle.hack_types.specs.formers.fields.Fields.{on_type}
use Rattle.hack_types.specs.TypeText.{arguments_text, by_key, field_text, joined, key_text, name_text, rest_text, shape_text, text_by, type_text}
use Rattle.hack_types.proofs.FieldOrder.{by_key_typed}

-- the texts in a row, each with bytes before it: the first with these, the others with those between each two
abbrev pub spread : List ℕ → List ℕ → List (List ℕ) → List ℕ
spread ahead between [] = []
spread ahead between (text ∷ texts) = ahead ++ text ++ spread between between texts

spread-flat : (between : List ℕ) (texts : List (List ℕ)) → spread between between texts ≡ flat_map (λ text. between ++ text) texts
spread-flat between [] = refl
spread-flat between (text ∷ texts) = ap (λ more. (between ++ text) ++ more) (spread-flat between texts)

pub joined-spread : (between : List ℕ) (texts : List (List ℕ)) → joined between texts ≡ spread [] between texts
joined-spread between [] = refl
joined-spread between (text ∷ texts) = ap (λ more. text ++ more) (sym (spread-flat between texts))

-- the texts of these fields, and of what stands behind them
abbrev pub pieces : List (List ℕ) → List (Bor (Field HackType)) → Bool → List (List ℕ)
pieces names fields rest = map (λ field. field_text names (on_type (type_text names) field.now)) fields ++ rest_text rest

pub taken : (old ahead between text : List ℕ) (texts : List (List ℕ)) → (old ++ ahead ++ text) ++ spread between between texts ≡ old ++ spread ahead between (text ∷ texts)
taken old ahead between text texts =
    ap (λ written. written ++ spread between between texts) (append_assoc old ahead text) ∙ append_assoc old (ahead ++ text) (spread between between texts)

pub dropped : {X Y : Type 0} (h : X → Y) (items : List X) (i : ℕ) (item : X) → i < length items → item ≡ get_or items i item → map h (drop i items) ≡ h item ∷ map h (drop (i + 1) items)
dropped h items i item lt is = ap (map h) (drop_more items i item lt) ∙ ap (λ x. h x ∷ map h (drop (i + 1) items)) (sym is)

-- what stands behind the last field
pub spread_rest : (ahead : List ℕ) (rest : Bool) → spread ahead (codes ", ") (rest_text rest) ≡ (if rest then ahead ++ codes "..." else [])
spread_rest ahead true = append-nil (ahead ++ codes "...")
spread_rest ahead false = refl

-- a text that was written, with one more piece
grow : (old text piece written : List ℕ) → written ≡ old ++ text → written ++ piece ≡ old ++ (text ++ piece)
grow old text piece written e = ap (λ l. l ++ piece) e ∙ append_assoc old text piece

pub around : (old before text behind : List ℕ) → old ++ before ++ text ++ behind ≡ old ++ (before ++ text ++ behind)
around old before text behind = grow old (before ++ text) behind (old ++ before ++ text) (append_assoc old before text)

pub onto : (result : Result (Unit {0}) NoMemory) (new a b : List ℕ) → a ≡ b → OnOk result (new ≡ a) → OnOk result (new ≡ b)
onto result new a b e = subst (λ x. OnOk result (new ≡ x)) e

module _ (names : List (List ℕ)) (type : HackType) where
  abbrev text_of : HackType → List ℕ
  text_of = type_text names

  pub as_option : (t u : HackType) → type ≡ Option t → u ≡ t → codes "?" ++ text_of u ++ [] ≡ text_of type
  as_option t u is same = append-nil (codes "?" ++ text_of u) ∙ ap (λ x. codes "?" ++ text_of x) same
      ∙ sym (ap text_of is ∙ ap text_of (sym (rolls-Option t)) ∙ fold-roll-HackType (List ℕ) (text_by names) (HackType-F.Option t))

  pub as_vector : (t u : HackType) → type ≡ Vector t → u ≡ t → codes "vec<" ++ text_of u ++ codes ">" ≡ text_of type
  as_vector t u is same = ap (λ x. codes "vec<" ++ text_of x ++ codes ">") same
      ∙ sym (ap text_of is ∙ ap text_of (sym (rolls-Vector t)) ∙ fold-roll-HackType (List ℕ) (text_by names) (HackType-F.Vector t))

  pub as_keyset : (t u : HackType) → type ≡ Keyset t → u ≡ t → codes "keyset<" ++ text_of u ++ codes ">" ≡ text_of type
  as_keyset t u is same = ap (λ x. codes "keyset<" ++ text_of x ++ codes ">") same
      ∙ sym (ap text_of is ∙ ap text_of (sym (rolls-Keyset t)) ∙ fold-roll-HackType (List ℕ) (text_by names) (HackType-F.Keyset t))

  pub as_dict : (k v : HackType) → type ≡ Dict k v → codes "dict<" ++ text_of k ++ codes ", " ++ text_of v ++ codes ">" ≡ text_of type
  as_dict k v is = sym (ap text_of is ∙ ap text_of (sym (rolls-Dict k v)) ∙ fold-roll-HackType (List ℕ) (text_by names) (HackType-F.Dict k v))

  pub dict_written : (old middle : List ℕ) (k v l w : HackType) → type ≡ Dict k v → l ≡ k → w ≡ v → middle ≡ old ++ codes "dict<" ++ text_of l ++ codes ", "
      → middle ++ [] ++ text_of w ++ codes ">" ≡ old ++ text_of type
  dict_written old middle k v l w is first second before =
      let opened = append_assoc old (codes "dict<") (text_of l) in
      let comma = grow old (codes "dict<" ++ text_of l) (codes ", ") _ opened in
      let value = grow old (codes "dict<" ++ text_of l ++ codes ", ") (text_of w) (middle ++ []) (append-nil middle ∙ before ∙ comma) in
      grow old (codes "dict<" ++ text_of l ++ codes ", " ++ text_of w) (codes ">") _ value
      ∙ (λ i. old ++ (codes "dict<" ++ text_of (first i) ++ codes ", " ++ text_of (second i) ++ codes ">"))
      ∙ ap (λ text. old ++ text) (as_dict k v is)

  pub as_union : (members : List HackType) → type ≡ Union members → codes "(" ++ joined (codes "|") (map text_of members) ++ codes ")" ≡ text_of type
  as_union members is = sym (ap text_of is ∙ ap text_of (sym (rolls-Union members)) ∙ fold-roll-HackType (List ℕ) (text_by names) (HackType-F.Union members))

  as_arguments : (arguments : List HackType) → arguments ≢ [] → codes "<" ++ joined (codes ", ") (map text_of arguments) ++ codes ">" ≡ arguments_text (map text_of arguments)
  as_arguments [] some = absurd (some refl)
  as_arguments (t ∷ ts) some = refl

  pub class_written : (old middle word : List ℕ) (name : ℕ) (arguments : List HackType) → type ≡ Class name arguments → word ≡ name_text names name → arguments ≢ [] → middle ≡ old ++ word
      → middle ++ codes "<" ++ joined (codes ", ") (map text_of arguments) ++ codes ">" ≡ old ++ text_of type
  class_written old middle word name arguments is found some before =
      let all = joined (codes ", ") (map text_of arguments) in
      around middle (codes "<") all (codes ">")
      ∙ grow old word (codes "<" ++ all ++ codes ">") middle before
      ∙ (λ i. old ++ (found i ++ as_arguments arguments some i))
      ∙ ap (λ text. old ++ text) (sym (ap text_of is ∙ ap text_of (sym (rolls-Class name arguments)) ∙ fold-roll-HackType (List ℕ) (text_by names) (HackType-F.Class name arguments)))

-- the texts of the fields in their order, and what stands last, are those of the definition
pub pieces_are : (names : List (List ℕ)) (fields : List (Field HackType)) (items : List (Bor (Field HackType))) (rest : Bool) → map (λ f. f.now) items ≡ by_key names fields
    → pieces names items rest ≡ map (field_text names) (by_key names (map (on_type (type_text names)) fields)) ++ rest_text rest
pieces_are names fields items rest order =
    ap (λ texts. texts ++ rest_text rest) (sym (map-map (λ f. field_text names (on_type (type_text names) f)) (λ f. f.now) items)
    ∙ ap (map (λ f. field_text names (on_type (type_text names) f))) order
    ∙ sym (map-map (field_text names) (on_type (type_text names)) (by_key names fields))
    ∙ ap (map (field_text names)) (sym (by_key_typed (type_text names) names fields)))

pub field_written : (names : List (List ℕ)) (old ahead word : List ℕ) (field : Field HackType) → word ≡ name_text names field.key
    → old ++ ahead ++ key_text word field.optional ++ type_text names field.ty ≡ old ++ ahead ++ field_text names (on_type (type_text names) field)
field_written names old ahead word field found =
    append_assoc (old ++ ahead) (key_text word field.optional) (type_text names field.ty)
    ∙ (λ i. old ++ ahead ++ (key_text (found i) field.optional ++ type_text names field.ty))

pub shape_written : (names : List (List ℕ)) (fields : List (Field HackType)) (items : List (Bor (Field HackType))) (rest : Bool) (old start written ahead : List ℕ) (i : ℕ)
    → map (λ f. f.now) items ≡ by_key names fields → length items ≤ i → start ≡ old ++ codes "shape("
    → written ++ spread ahead (codes ", ") (pieces names (drop i items) rest) ≡ start ++ joined (codes ", ") (pieces names items rest)
    → written ++ (if rest then ahead ++ codes "..." else []) ++ codes ")" ≡ old ++ shape_text names (map (on_type (type_text names)) fields) rest
shape_written names fields items rest old start written ahead i order over first so_far =
    let last : spread ahead (codes ", ") (pieces names (drop i items) rest) ≡ (if rest then ahead ++ codes "..." else []) =
    ap (λ left. spread ahead (codes ", ") (pieces names left rest)) (drop_all i items over) ∙ spread_rest ahead rest in
    ap (λ texts. texts ++ codes ")") (ap (λ text. written ++ text) (sym last) ∙ so_far ∙ (λ j. first j ++ joined (codes ", ") (pieces_are names fields items rest order j)))
    ∙ around old (codes "shape(") (joined (codes ", ") (map (field_text names) (by_key names (map (on_type (type_text names)) fields)) ++ rest_text rest)) (codes ")")
