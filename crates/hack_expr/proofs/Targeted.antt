-- A check of what a form of expression is as a target is a check of the form as a target.
use Rattle.std.proofs.Common.{◌≡◌, ◌∙◌, ◌≤◌, ℕ, Result, List, All, length, refl, sym, ap, subst}
use Rattle.hack_decls.specs.DeclState.{DeclState}
use Rattle.hack_decls.specs.declared.stop.DeclStop.{DeclStop}
use Rattle.hack_parts.specs.ExprIn.{ExprIn, ReferenceIn, SuffixIn}
use Rattle.hack_parts.specs.ExprMeanings as one
use Rattle.hack_parts.specs.Forms.{member_of}
use Rattle.hack_parts.specs.PartNames as names
use Rattle.hack_parts.specs.Parts.{walk_by}
use Rattle.hack_parts.specs.UseNames as uses
use Rattle.hack_parts.specs.declared.reading.Reading.{Reading}
use Rattle.hack_parts.specs.declared.reading.Reading.TheVariants as reading
use Rattle.hack_rules.specs.Expressions.{ScopedMeaning, meaning_of}
use Rattle.hack_rules.specs.Meanings.{Aim, Meaning, no_aim, variable}
use Rattle.hack_rules.specs.Uses.{property_aim, static_property}
use Rattle.hack_rules.specs.Walks.{Setting, State, Walk, pure}
use Rattle.hack_targets.specs.AimIn.{AimIn}
use Rattle.hack_tree.specs.declared.expression.ClassReference.{ClassReference}
use Rattle.hack_tree.specs.declared.expression.Expr.{Expr}
use Rattle.hack_tree.specs.declared.expression.Expr.TheVariants as e
use Rattle.hack_tree.specs.declared.expression.Operand.{Operand}
use Rattle.hack_tree.specs.declared.expression.ScopedMember.{ScopedMember}
use Rattle.hack_tree.specs.declared.expression.ScopedMember.TheVariants as member
use Rattle.hack_tree.specs.declared.expression.Suffix.{Suffix}
use Rattle.hack_types.specs.declared.place.Place.{Place}
use Rattle.hack_uses.specs.Aims.{aim_by, behind as under}
use Rattle.hack_walk.specs.Checks.{Walks}
use Rattle.hack_expr.proofs.Behind.{no_chain}
use Rattle.hack_expr.proofs.Tied.{whole_of}

-- what says the same in both readings
in_both : (r : Reading) (m : Meaning) (aim : Walk Aim) → m.aim ≡ aim → m.left_aim ≡ aim → aim_by r m ≡ aim
in_both reading.Value m aim one left = one
in_both reading.Left m aim one left = left

by_form : (r : Reading) {whole form : Expr} {m : Meaning} (aim : Walk Aim) → whole ≡ form → meaning_of form ≡ m → m.aim ≡ aim → m.left_aim ≡ aim → aim_by r (meaning_of whole) ≡ aim
by_form r {m = m} aim is means one left = ap (λ (x : Expr). aim_by r (meaning_of x)) is ∙ ap (aim_by r) means ∙ in_both r m aim one left

module _ {Base Held : Type 0} {setting : Setting} {old new : DeclState Base Held} {before behind : State} {result : Result Aim DeclStop} (r : Reading) where
  module _ {whole : Expr} where
    pub of_variable : {at : Place} {name : ℕ} → whole ≡ e.Variable at name
        → Walks (pure (variable at name)) setting old before result new behind (λ symbols. Unit {0}) AimIn
        → Walks (aim_by r (meaning_of whole)) setting old before result new behind (λ symbols. ExprIn setting.scope symbols whole) AimIn
    of_variable {at = at} {name = name} is check = whole_of whole _ check (by_form r (pure (variable at name)) is (one.variable at name) refl refl) (λ symbols all. tt)

    pub of_postfix : {at : Place} {operand x : Expr} {suffixes xs : List Suffix} → whole ≡ e.Postfix at operand suffixes → x ≡ operand → xs ≡ suffixes
        → Walks (aim_by r (under (meaning_of x) xs)) setting old before result new behind (λ symbols. ExprIn setting.scope symbols x × All (SuffixIn setting.scope symbols) xs) AimIn
        → Walks (aim_by r (meaning_of whole)) setting old before result new behind (λ symbols. ExprIn setting.scope symbols whole) AimIn
    of_postfix {at = at} {operand = operand} {suffixes = suffixes} is same more check =
        whole_of whole _ check
        (ap (λ (x : Expr). aim_by r (meaning_of x)) is ∙ ap (aim_by r) (one.postfix at operand suffixes)
        ∙ (λ i. aim_by r (under (meaning_of (sym same i)) (sym more i))))
        (λ symbols all. let parts = uses.in_postfix setting.scope symbols at operand suffixes (subst (ExprIn setting.scope symbols) is all) in
        (subst (ExprIn setting.scope symbols) (sym same) parts.0, subst (All (SuffixIn setting.scope symbols)) (sym more) parts.1))

    pub of_property : {at : Place} {class c : ClassReference} {what : ScopedMember} (name : ℕ) → whole ≡ e.Scoped at class what → what ≡ member.Property name → c ≡ class
        → Walks (property_aim (static_property at c name)) setting old before result new behind (λ symbols. ReferenceIn symbols c) AimIn
        → Walks (aim_by r (meaning_of whole)) setting old before result new behind (λ symbols. ExprIn setting.scope symbols whole) AimIn
    of_property {at = at} {class = class} {what = what} name is of_member of_class check =
        whole_of whole _ check
        (by_form r (property_aim (static_property at class name)) is
        (one.scoped at class what ∙ ap (λ (m : ScopedMember). member_of m at class) of_member ∙ ap (λ (f : ScopedMeaning). f at class) (one.property name)) refl refl
        ∙ ap (λ (c : ClassReference). property_aim (static_property at c name)) (sym of_class))
        (λ symbols all. subst (ReferenceIn symbols) (sym of_class) (uses.in_scoped setting.scope symbols at class what (subst (ExprIn setting.scope symbols) is all)).0)

    pub of_no_chain : {at : Place} {first x : Expr} (others : List Operand) → whole ≡ e.Chain at first others → x ≡ first → length others ≤ 0
        → Walks (aim_by r (meaning_of x)) setting old before result new behind (λ symbols. ExprIn setting.scope symbols x) AimIn
        → Walks (aim_by r (meaning_of whole)) setting old before result new behind (λ symbols. ExprIn setting.scope symbols whole) AimIn
    of_no_chain {at = at} {first = first} others is front none check =
        whole_of whole _ check
        (ap (λ (x : Expr). aim_by r (meaning_of x)) is ∙ ap (aim_by r) (no_chain at first others none) ∙ ap (λ (x : Expr). aim_by r (meaning_of x)) (sym front))
        (λ symbols all. subst (ExprIn setting.scope symbols) (sym front) (names.in_first setting.scope symbols at first others (subst (ExprIn setting.scope symbols) is all)))

  -- what can't be assigned to
  pub of_no_target : (whole : Expr) → aim_by r (meaning_of whole) ≡ no_aim (meaning_of whole).at (walk_by r (meaning_of whole))
      → Walks (no_aim (meaning_of whole).at (walk_by r (meaning_of whole))) setting old before result new behind (λ symbols. ExprIn setting.scope symbols whole) AimIn
      → Walks (aim_by r (meaning_of whole)) setting old before result new behind (λ symbols. ExprIn setting.scope symbols whole) AimIn
  of_no_target whole same check = whole_of whole _ check same (λ symbols all. all)
