-- The field of a key, so far.
use Rattle.std.proofs.Common.{◌≡◌, ◌∙◌, ◌<◌, ◌≤◌, ◌+◌, ◌==◌, ℕ, Bool, true, false, cond, Option, Some, None, IfSome, List, All, length, get_or, drop, sym, ap}
use Rattle.std.proofs.lemmas.List.{at_drop_more, at_drop_all}
use Rattle.std.specs.List.{find}
use Rattle.hack_types.specs.declared.fields.Field.{Field}
use Rattle.hack_types.specs.declared.hack_type.HackType.{HackType}
use Rattle.hack_decls.specs.DeclState.{Symbols}
use Rattle.hack_decls.specs.Names.{TypeIn}
use Rattle.hack_sub.specs.NamesOf.{in_field}

abbrev pub has : ℕ → Field HackType → Bool
has key field = field.key == key

module _ (key : ℕ) (fields : List (Field HackType)) (i : ℕ) where
  pub find_left : length fields ≤ i → find (has key) (drop i fields) ≡ None
  find_left le = at_drop_all (find (has key)) fields i le

  module _ (field : Field HackType) (lt : i < length fields) (at : field ≡ get_or fields i field) where
    find_next : find (has key) (drop i fields) ≡ cond (has key field) (Some field) (find (has key) (drop (i + 1) fields))
    find_next = at_drop_more (find (has key)) fields i field lt ∙ ap (λ (y : Field HackType). cond (has key y) (Some y) (find (has key) (drop (i + 1) fields))) (sym at)

    pub find_passed : has key field ≡ false → find (has key) (drop i fields) ≡ find (has key) (drop (i + 1) fields)
    find_passed e = find_next ∙ ap (λ (b : Bool). cond b (Some field) (find (has key) (drop (i + 1) fields))) e

    pub find_here : has key field ≡ true → find (has key) (drop i fields) ≡ Some field
    find_here e = find_next ∙ ap (λ (b : Bool). cond b (Some field) (find (has key) (drop (i + 1) fields))) e

-- what it names the fields name
pub in_found : (symbols : Symbols) (key : ℕ) (fields : List (Field HackType)) (found : Option (Field HackType)) → found ≡ find (λ (field : Field HackType). field.key == key) fields
    → All (λ (field : Field HackType). TypeIn symbols field.ty) fields → IfSome found (λ (field : Field HackType). TypeIn symbols field.ty)
in_found symbols key fields None is all = tt
in_found symbols key fields (Some field) is all = in_field symbols key fields field is all
