-- The fields of a shape, with one more.
use Rattle.std.proofs.Common.{◌≡◌, ◌∙◌, ◌<◌, ◌≤◌, ◌+◌, ℕ, Bool, false, nat_cmp, List, [], ◌∷◌, ◌++◌, length, take, get_or, refl, sym, ap}
use Rattle.std.proofs.lemmas.List.{take_all, take_more}
use Rattle.std.specs.BTreeMap.{insert_entry}
use Rattle.hack_types.specs.Substituted.{limited}
use Rattle.hack_types.specs.declared.fields.Field.{Field}
use Rattle.hack_types.specs.declared.hack_type.HackType.{HackType}
use Rattle.hack_types.specs.declared.hack_type.HackType.TheVariants as type
use Rattle.hack_rules.specs.Indices.{fields_with}
use Rattle.hack_shallow.specs.Resolved.{in_order, with_fields}
use Rattle.hack_targets.specs.inside.Pieces.{shape_made}

abbrev Entries : Type 0
Entries = List (ℕ × (Bool × HackType))

one_more : (entries : Entries) (fields : List (Field HackType)) (f : Field HackType)
    → with_fields entries (fields ++ f ∷ []) ≡ insert_entry nat_cmp (with_fields entries fields) f.key (f.optional, f.ty)
one_more entries [] f = refl
one_more entries (x ∷ xs) f = one_more (insert_entry nat_cmp entries x.key (x.optional, x.ty)) xs f

pub fields_next : (fields : List (Field HackType)) (i : ℕ) (f : Field HackType) → i < length fields → f ≡ get_or fields i f
    → insert_entry nat_cmp (with_fields [] (take i fields)) f.key (f.optional, f.ty) ≡ with_fields [] (take (i + 1) fields)
fields_next fields i f lt at =
    sym (ap (with_fields []) (take_more fields i f lt ∙ ap (λ (x : Field HackType). take i fields ++ x ∷ []) (sym at)) ∙ one_more [] (take i fields) f)

pub fields_all : (fields : List (Field HackType)) (i : ℕ) → length fields ≤ i → with_fields [] (take i fields) ≡ with_fields [] fields
fields_all fields i all = ap (with_fields []) (take_all i fields all)

-- the shape is that of the rule
pub is_made : (fields : List (Field HackType)) (rest : Bool) (key : ℕ) (new : HackType) → shape_made fields rest key new ≡ limited (type.Shape (fields_with fields key new) rest)
is_made fields rest key new =
    ap (λ (entries : Entries). limited (type.Shape (in_order entries) rest)) (sym (one_more [] fields (record { key = key; optional = false; ty = new })))
