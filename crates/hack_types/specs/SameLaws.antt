-- The test of two types is true exactly where they are equal.
use Rattle.std.proofs.Common.{◌≡◌, ◌&&◌, Bool, true, false, refl, sym, ap, ◌∙◌}
use Rattle.std.proofs.lemmas.Bool.{eqb-true, eq-eqb, true≢false}
use base.Stored.{Gv, gnil, gnum, gcons}
use Rattle.hack_types.specs.SameType.{same_code, same_type}
use Rattle.hack_types.specs.contracts.hack_type.HackType as hack_type
use Rattle.hack_types.specs.declared.hack_type.HackType.{HackType}

both : (a b : Bool) → (a && b) ≡ true → (a ≡ true) × (b ≡ true)
both true b e = (refl, e)
both false b e = absurd (true≢false (sym e))

equal_codes : (a b : Gv) → same_code a b ≡ true → a ≡ b
unfolding same_code
equal_codes gnil gnil e = refl
equal_codes gnil (gnum m) e = absurd (true≢false (sym e))
equal_codes gnil (gcons c d) e = absurd (true≢false (sym e))
equal_codes (gnum n) gnil e = absurd (true≢false (sym e))
equal_codes (gnum n) (gnum m) e = ap gnum (eqb-true n m e)
equal_codes (gnum n) (gcons c d) e = absurd (true≢false (sym e))
equal_codes (gcons a b) gnil e = absurd (true≢false (sym e))
equal_codes (gcons a b) (gnum m) e = absurd (true≢false (sym e))
equal_codes (gcons a b) (gcons c d) e =
    let parts = both (same_code a c) (same_code b d) e in
    ap (λ x. gcons x b) (equal_codes a c parts.0) ∙ ap (λ x. gcons c x) (equal_codes b d parts.1)

code_of_itself : (a : Gv) → same_code a a ≡ true
unfolding same_code
code_of_itself gnil = refl
code_of_itself (gnum n) = eq-eqb n n refl
code_of_itself (gcons a b) = rw (code_of_itself a) (code_of_itself b)

pub same_is_equal : (type other : HackType) → same_type type other ≡ true → type ≡ other
unfolding same_type
same_is_equal type other e = hack_type.the_row.coded.inj type other (equal_codes _ _ e)

pub same_of_itself : (type : HackType) → same_type type type ≡ true
unfolding same_type
same_of_itself type = code_of_itself _

pub equal_is_same : (type other : HackType) → type ≡ other → same_type type other ≡ true
equal_is_same type other e = ap (same_type type) (sym e) ∙ same_of_itself type

pub differ_not_same : (type other : HackType) → (type ≡ other → ⊥) → same_type type other ≡ false
differ_not_same type other apart = by (same_type type other) (same_is_equal type other)
  where
    by : (b : Bool) → (b ≡ true → type ≡ other) → b ≡ false
    by true e = absurd (apart (e refl))
    by false e = refl
