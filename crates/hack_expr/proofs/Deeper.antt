-- The parts of an expression are less deep than it is.
use Rattle.std.proofs.Common.{◌≡◌, ◌∙◌, ◌<◌, ℕ, Bool, Option, Some, None, List, All, length, get_or, rules, refl, sym, subst, arith}
use Rattle.hack_tree.specs.declared.expression.AssignOperator.{AssignOperator}
use Rattle.hack_tree.specs.declared.expression.ClassReference.{ClassReference}
use Rattle.hack_tree.specs.declared.expression.Entry.{Entry}
use Rattle.hack_tree.specs.declared.expression.Expr.{Expr, size-Expr, the_lemmas}
use Rattle.hack_tree.specs.declared.expression.Expr.TheOpen.{ScopedMember-F, Suffix-F}
use Rattle.hack_tree.specs.declared.expression.Expr.TheVariants as e
use Rattle.hack_tree.specs.declared.expression.FieldValue.{FieldValue}
use Rattle.hack_tree.specs.declared.expression.Operand.{Operand}
use Rattle.hack_tree.specs.declared.expression.ScopedMember.{ScopedMember, out-ScopedMember, roll-ScopedMember, size-ScopedMember}
use Rattle.hack_tree.specs.declared.expression.ScopedMember.TheVariants as member
use Rattle.hack_tree.specs.declared.expression.Suffix.{Suffix, out-Suffix, roll-Suffix, size-Suffix}
use Rattle.hack_tree.specs.declared.expression.Suffix.TheVariants as suffix
use Rattle.hack_tree.specs.declared.written_type.Container.{Container}
use Rattle.hack_tree.specs.declared.written_type.WrittenType.{WrittenType}
use Rattle.hack_types.specs.declared.place.Place.{Place}
use Rattle.hack_uses.specs.SubParts.{AllInMember, AllInSuffix, all_in_member_by, all_in_suffix_by}

-- what is below the whole of a list is so where the list is another's
of_list : {A : Type 0} (less : A → Type 0) {xs ys : List A} → ys ≡ xs → ((k : ℕ) (d : A) → k < length xs → less (get_or xs k d)) → (k : ℕ) (d : A) → k < length ys → less (get_or ys k d)
of_list {A = A} less same all = subst (λ (zs : List A). (k : ℕ) (d : A) → k < length zs → less (get_or zs k d)) (sym same) all

operand_at : (whole : Expr) (at : Place) (operands : List Expr) → whole ≡ e.Power at operands → (k : ℕ) (d : Expr) → k < length operands
    → size-Expr (get_or operands k d) < size-Expr whole
operand_at whole at operands is k d lt = search (rules, the_lemmas)

element_at : (whole : Expr) (at : Place) (c : Container) (elements : List Expr) → whole ≡ e.Container at c elements → (k : ℕ) (d : Expr) → k < length elements
    → size-Expr (get_or elements k d) < size-Expr whole
element_at whole at c elements is k d lt = search (rules, the_lemmas)

other_at : (whole : Expr) (at : Place) (first : Expr) (others : List Operand) → whole ≡ e.Chain at first others → (k : ℕ) (d : Operand) → k < length others
    → size-Expr (get_or others k d).operand < size-Expr whole
other_at whole at first others is k d lt = search (rules, the_lemmas)

key_at : (whole : Expr) (at : Place) (entries : List Entry) → whole ≡ e.Dict at entries → (k : ℕ) (d : Entry) → k < length entries
    → size-Expr (get_or entries k d).key < size-Expr whole
key_at whole at entries is k d lt = search (rules, the_lemmas)

value_at : (whole : Expr) (at : Place) (entries : List Entry) → whole ≡ e.Dict at entries → (k : ℕ) (d : Entry) → k < length entries
    → size-Expr (get_or entries k d).value < size-Expr whole
value_at whole at entries is k d lt = search (rules, the_lemmas)

field_at : (whole : Expr) (at : Place) (fields : List FieldValue) → whole ≡ e.Shape at fields → (k : ℕ) (d : FieldValue) → k < length fields
    → size-Expr (get_or fields k d).value < size-Expr whole
field_at whole at fields is k d lt = search (rules, the_lemmas)

last_in : (whole : Expr) (at : Place) (c : Expr) (middle : Option Expr) (other : Expr) → whole ≡ e.Conditional at c middle other → size-Expr other < size-Expr whole
last_in whole at c middle other is = search (rules, the_lemmas)

target_in : (whole : Expr) (at : Place) (target : Expr) (operator : AssignOperator) (value : Expr) → whole ≡ e.Assign at target operator value → size-Expr target < size-Expr whole
target_in whole at target operator value is = search (rules, the_lemmas)

value_in : (whole : Expr) (at : Place) (target : Expr) (operator : AssignOperator) (value : Expr) → whole ≡ e.Assign at target operator value → size-Expr value < size-Expr whole
value_in whole at target operator value is = search (rules, the_lemmas)

behind_in : (whole : Expr) (at : Place) (operand : Expr) (suffixes : List Suffix) → whole ≡ e.Postfix at operand suffixes → size-Expr operand < size-Expr whole
behind_in whole at operand suffixes is = search (rules, the_lemmas)

argument_at : (whole : Expr) (at : Place) (name : ℕ) (arguments : List Expr) → whole ≡ e.Call at name arguments → (k : ℕ) (d : Expr) → k < length arguments
    → size-Expr (get_or arguments k d) < size-Expr whole
argument_at whole at name arguments is k d lt = search (rules, the_lemmas)

given_at : (whole : Expr) (at class_at : Place) (class : ClassReference) (types : List WrittenType) (arguments : List Expr) → whole ≡ e.New at class_at class types arguments
    → (k : ℕ) (d : Expr) → k < length arguments → size-Expr (get_or arguments k d) < size-Expr whole
given_at whole at class_at class types arguments is k d lt = search (rules, the_lemmas)

-- ---- what stands behind an operand, and behind `::`

suffix_at : (whole : Expr) (at : Place) (operand : Expr) (suffixes : List Suffix) → whole ≡ e.Postfix at operand suffixes → (k : ℕ) (d : Suffix) → k < length suffixes
    → size-Suffix (get_or suffixes k d) < size-Expr whole
suffix_at whole at operand suffixes is k d lt = search (rules, the_lemmas)

index_in : (s : Suffix) (index : Option Expr) (x : Expr) → s ≡ suffix.Index index → index ≡ Some x → size-Expr x < size-Suffix s
index_in s index x is there = search (rules, the_lemmas)

method_in : (s : Suffix) (null_safe : Bool) (name : ℕ) (given : Option (List Expr)) (arguments : List Expr) → s ≡ suffix.Member null_safe name given → given ≡ Some arguments
    → (k : ℕ) (d : Expr) → k < length arguments → size-Expr (get_or arguments k d) < size-Suffix s
method_in s null_safe name given arguments is there k d lt = search (rules, the_lemmas)

member_in : (whole : Expr) (at : Place) (class : ClassReference) (what : ScopedMember) → whole ≡ e.Scoped at class what → size-ScopedMember what < size-Expr whole
member_in whole at class what is = search (rules, the_lemmas)

word_in : (m : ScopedMember) (name : ℕ) (given : Option (List Expr)) (arguments : List Expr) → m ≡ member.Word name given → given ≡ Some arguments
    → (k : ℕ) (d : Expr) → k < length arguments → size-Expr (get_or arguments k d) < size-ScopedMember m
word_in m name given arguments is there k d lt = search (rules, the_lemmas)

rolled_suffix : (s : Suffix) → s ≡ roll-Suffix (out-Suffix s)
rolled_suffix s = search (rules, the_lemmas)

rolled_member : (m : ScopedMember) → m ≡ roll-ScopedMember (out-ScopedMember m)
rolled_member m = search (rules, the_lemmas)

-- less deep than this
abbrev Below : ℕ → Expr → Type 0
Below n x = size-Expr x < n

in_suffix : (s : Suffix) (n : ℕ) → size-Suffix s < n → (layer : Suffix-F Expr ScopedMember Suffix Entry FieldValue Operand) → s ≡ roll-Suffix layer → all_in_suffix_by (Below n) layer
in_suffix s n small (Suffix-F.Index None) is = tt
in_suffix s n small (Suffix-F.Index (Some index)) is =
    let less = index_in s (Some index) index (is ∙ suffix.rolls-Index (Some index)) refl in omega (arith, less, small)
in_suffix s n small (Suffix-F.Member null_safe name None) is = tt
in_suffix s n small (Suffix-F.Member null_safe name (Some arguments)) is =
    λ k d lt. let less = method_in s null_safe name (Some arguments) arguments (is ∙ suffix.rolls-Member null_safe name (Some arguments)) refl k d lt in omega (arith, less, small)
in_suffix s n small Suffix-F.Increment is = tt
in_suffix s n small Suffix-F.Decrement is = tt

in_member : (m : ScopedMember) (n : ℕ) → size-ScopedMember m < n → (layer : ScopedMember-F Expr ScopedMember Suffix Entry FieldValue Operand) → m ≡ roll-ScopedMember layer
    → all_in_member_by (Below n) layer
in_member m n small (ScopedMember-F.Property name) is = tt
in_member m n small (ScopedMember-F.Word name None) is = tt
in_member m n small (ScopedMember-F.Word name (Some arguments)) is =
    λ k d lt. let less = word_in m name (Some arguments) arguments (is ∙ member.rolls-Word name (Some arguments)) refl k d lt in omega (arith, less, small)

-- ---- what holds of an expression that is less deep holds of those in a suffix, and in a member

module _ {P Q : Expr → Type 0} (gives : (x : Expr) → P x → Q x) where
  suffix_gives : (layer : Suffix-F Expr ScopedMember Suffix Entry FieldValue Operand) → all_in_suffix_by P layer → all_in_suffix_by Q layer
  suffix_gives (Suffix-F.Index None) all = tt
  suffix_gives (Suffix-F.Index (Some index)) all = gives index all
  suffix_gives (Suffix-F.Member null_safe name None) all = tt
  suffix_gives (Suffix-F.Member null_safe name (Some arguments)) all = λ k d lt. gives (get_or arguments k d) (all k d lt)
  suffix_gives Suffix-F.Increment all = tt
  suffix_gives Suffix-F.Decrement all = tt

  member_gives : (layer : ScopedMember-F Expr ScopedMember Suffix Entry FieldValue Operand) → all_in_member_by P layer → all_in_member_by Q layer
  member_gives (ScopedMember-F.Property name) all = tt
  member_gives (ScopedMember-F.Word name None) all = tt
  member_gives (ScopedMember-F.Word name (Some arguments)) all = λ k d lt. gives (get_or arguments k d) (all k d lt)

module _ {whole : Expr} where
  pub of_operand : {at : Place} {operands xs : List Expr} → whole ≡ e.Power at operands → xs ≡ operands → (k : ℕ) (d : Expr) → k < length xs
      → size-Expr (get_or xs k d) < size-Expr whole
  of_operand {at = at} {operands = operands} is same = of_list (λ (x : Expr). size-Expr x < size-Expr whole) same (operand_at whole at operands is)

  pub of_element : {at : Place} {c : Container} {elements xs : List Expr} → whole ≡ e.Container at c elements → xs ≡ elements → (k : ℕ) (d : Expr) → k < length xs
      → size-Expr (get_or xs k d) < size-Expr whole
  of_element {at = at} {c = c} {elements = elements} is same = of_list (λ (x : Expr). size-Expr x < size-Expr whole) same (element_at whole at c elements is)

  pub of_other : {at : Place} (first : Expr) {others xs : List Operand} → whole ≡ e.Chain at first others → xs ≡ others → (k : ℕ) (d : Operand) → k < length xs
      → size-Expr (get_or xs k d).operand < size-Expr whole
  of_other {at = at} first {others = others} is same = of_list (λ (o : Operand). size-Expr o.operand < size-Expr whole) same (other_at whole at first others is)

  pub of_key : {at : Place} {entries xs : List Entry} → whole ≡ e.Dict at entries → xs ≡ entries → (k : ℕ) (d : Entry) → k < length xs
      → size-Expr (get_or xs k d).key < size-Expr whole
  of_key {at = at} {entries = entries} is same = of_list (λ (entry : Entry). size-Expr entry.key < size-Expr whole) same (key_at whole at entries is)

  pub of_value : {at : Place} {entries xs : List Entry} → whole ≡ e.Dict at entries → xs ≡ entries → (k : ℕ) (d : Entry) → k < length xs
      → size-Expr (get_or xs k d).value < size-Expr whole
  of_value {at = at} {entries = entries} is same = of_list (λ (entry : Entry). size-Expr entry.value < size-Expr whole) same (value_at whole at entries is)

  pub of_field : {at : Place} {fields xs : List FieldValue} → whole ≡ e.Shape at fields → xs ≡ fields → (k : ℕ) (d : FieldValue) → k < length xs
      → size-Expr (get_or xs k d).value < size-Expr whole
  of_field {at = at} {fields = fields} is same = of_list (λ (field : FieldValue). size-Expr field.value < size-Expr whole) same (field_at whole at fields is)

  pub of_last : {at : Place} (c : Expr) (middle : Option Expr) {other x : Expr} → whole ≡ e.Conditional at c middle other → x ≡ other → size-Expr x < size-Expr whole
  of_last {at = at} c middle {other = other} is same = subst (λ (y : Expr). size-Expr y < size-Expr whole) (sym same) (last_in whole at c middle other is)

  pub of_argument : {at : Place} {name : ℕ} {arguments xs : List Expr} → whole ≡ e.Call at name arguments → xs ≡ arguments → (k : ℕ) (d : Expr) → k < length xs
      → size-Expr (get_or xs k d) < size-Expr whole
  of_argument {at = at} {name = name} {arguments = arguments} is same = of_list (λ (x : Expr). size-Expr x < size-Expr whole) same (argument_at whole at name arguments is)

  pub of_given : {at class_at : Place} {class : ClassReference} {types : List WrittenType} {arguments xs : List Expr} → whole ≡ e.New at class_at class types arguments → xs ≡ arguments
      → (k : ℕ) (d : Expr) → k < length xs → size-Expr (get_or xs k d) < size-Expr whole
  of_given {at = at} {class_at = class_at} {class = class} {types = types} {arguments = arguments} is same =
      of_list (λ (x : Expr). size-Expr x < size-Expr whole) same (given_at whole at class_at class types arguments is)

  pub of_target : {at : Place} {target : Expr} (operator : AssignOperator) (value : Expr) {x : Expr} → whole ≡ e.Assign at target operator value → x ≡ target → size-Expr x < size-Expr whole
  of_target {at = at} {target = target} operator value is same = subst (λ (y : Expr). size-Expr y < size-Expr whole) (sym same) (target_in whole at target operator value is)

  pub of_assigned : {at : Place} (target : Expr) (operator : AssignOperator) {value x : Expr} → whole ≡ e.Assign at target operator value → x ≡ value → size-Expr x < size-Expr whole
  of_assigned {at = at} target operator {value = value} is same = subst (λ (y : Expr). size-Expr y < size-Expr whole) (sym same) (value_in whole at target operator value is)

  pub of_behind : {at : Place} {operand : Expr} (suffixes : List Suffix) {x : Expr} → whole ≡ e.Postfix at operand suffixes → x ≡ operand → size-Expr x < size-Expr whole
  of_behind {at = at} {operand = operand} suffixes is same = subst (λ (y : Expr). size-Expr y < size-Expr whole) (sym same) (behind_in whole at operand suffixes is)

  module _ {Q : Expr → Type 0} (gives : (x : Expr) → size-Expr x < size-Expr whole → Q x) where
    -- all that stands behind an operand
    pub of_suffixes : {at : Place} (operand : Expr) {suffixes xs : List Suffix} → whole ≡ e.Postfix at operand suffixes → xs ≡ suffixes → All (AllInSuffix Q) xs
    of_suffixes {at = at} operand {suffixes = suffixes} is same =
        of_list (AllInSuffix Q) same
        (λ k d lt. let s = get_or suffixes k d in suffix_gives gives (out-Suffix s) (in_suffix s (size-Expr whole) (suffix_at whole at operand suffixes is k d lt) (out-Suffix s) (rolled_suffix s)))

    -- what stands behind `::`
    pub of_member : {at : Place} {class : ClassReference} {what x : ScopedMember} → whole ≡ e.Scoped at class what → x ≡ what → AllInMember Q x
    of_member {at = at} {class = class} {what = what} is same =
        subst (AllInMember Q) (sym same) (member_gives gives (out-ScopedMember what) (in_member what (size-Expr whole) (member_in whole at class what is) (out-ScopedMember what) (rolled_member what)))
