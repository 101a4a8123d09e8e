-- Each expression goes well, along its tree.
use Rattle.std.proofs.Common.{◌≡◌, Option, Some, None, List, [], ◌∷◌, map, sym, subst}
use Rattle.std.specs.List.{AllByRecursion, fold}
use Rattle.std.specs.Option.{option_map}
use Rattle.hack_tree.specs.declared.expression.ClassReference.{ClassReference}
use Rattle.hack_tree.specs.declared.expression.Entry.{Entry, roll-Entry}
use Rattle.hack_tree.specs.declared.expression.Expr.{Expr, roll-Expr}
use Rattle.hack_tree.specs.declared.expression.FieldValue.{FieldValue, roll-FieldValue}
use Rattle.hack_tree.specs.declared.expression.Operand.{Operand, roll-Operand}
use Rattle.hack_tree.specs.declared.expression.ScopedMember.{ScopedMember, roll-ScopedMember}
use Rattle.hack_tree.specs.declared.expression.Suffix.{Suffix, roll-Suffix}
use Rattle.hack_tree.specs.declared.expression.Expr.TheOpen.{Expr-F, ScopedMember-F, Suffix-F, Entry-F, FieldValue-F, Operand-F}
use Rattle.hack_tree.specs.declared.expression.Expr.TheFolds.{fold-ScopedMember, fold-Suffix, fold-Entry, fold-FieldValue, fold-Operand, fold-roll-Expr, fold-roll-ScopedMember, fold-roll-Suffix, fold-roll-Entry, fold-roll-FieldValue, fold-roll-Operand, ind-Expr, map-Expr, map-ScopedMember, map-Suffix, map-Entry, map-FieldValue, map-Operand}
use Rattle.hack_types.specs.declared.place.Place.{Place}
use Rattle.hack_rules.specs.Chains.{Joined}
use Rattle.hack_rules.specs.Expressions.{ScopedMeaning, SuffixMeaning, entry_by, expression_by, field_by, judged, meaning_of, operand_by, scoped_by, suffix_by}
use Rattle.hack_rules.specs.Meanings.{Meaning}
use Rattle.hack_rules.specs.Operators.{add, subtract}
use Rattle.hack_rules.specs.Values.{Given, Pair}
use Rattle.hack_rules.specs.Variables.{Variables}
use Rattle.hack_rules.proofs.Chains.{SoundJoined, sound_chain, sound_conditional, sound_power, sound_prefix}
use Rattle.hack_rules.proofs.Meanings.{AllSound, MaySound, Sound}
use Rattle.hack_rules.proofs.News.{sound_new}
use Rattle.hack_rules.proofs.Steps.{Free, Goes}
use Rattle.hack_rules.proofs.Targets.{sound_assignment, sound_increment}
use Rattle.hack_rules.proofs.Uses.{sound_call, sound_index, sound_member, sound_static_property, sound_word}
use Rattle.hack_rules.proofs.Values.{SoundGiven, SoundPair, sound_bracketed, sound_cast, sound_constant, sound_container, sound_dict, sound_literal, sound_shape, sound_test, sound_this, sound_variable}

abbrev scoped_of : ScopedMember → ScopedMeaning
scoped_of = fold-ScopedMember Meaning ScopedMeaning SuffixMeaning Pair Given Joined expression_by scoped_by suffix_by entry_by field_by operand_by

abbrev suffix_of : Suffix → SuffixMeaning
suffix_of = fold-Suffix Meaning ScopedMeaning SuffixMeaning Pair Given Joined expression_by scoped_by suffix_by entry_by field_by operand_by

abbrev pair_of : Entry → Pair
pair_of = fold-Entry Meaning ScopedMeaning SuffixMeaning Pair Given Joined expression_by scoped_by suffix_by entry_by field_by operand_by

abbrev given_of : FieldValue → Given
given_of = fold-FieldValue Meaning ScopedMeaning SuffixMeaning Pair Given Joined expression_by scoped_by suffix_by entry_by field_by operand_by

abbrev joined_of : Operand → Joined
joined_of = fold-Operand Meaning ScopedMeaning SuffixMeaning Pair Given Joined expression_by scoped_by suffix_by entry_by field_by operand_by

module _ (base : Variables) where
  -- what stands behind `::`
  abbrev GoodScoped : ScopedMeaning → Type 0
  GoodScoped member = (at : Place) (class : ClassReference) → Sound base (member at class)

  -- what stands behind an operand
  abbrev GoodSuffix : SuffixMeaning → Type 0
  GoodSuffix suffix = (under : Meaning) → Sound base under → Sound base (suffix under)

  abbrev OfExpr : Expr → Type 0
  OfExpr e = Sound base (meaning_of e)

  abbrev OfScoped : ScopedMember → Type 0
  OfScoped m = GoodScoped (scoped_of m)

  abbrev OfSuffix : Suffix → Type 0
  OfSuffix s = GoodSuffix (suffix_of s)

  abbrev OfEntry : Entry → Type 0
  OfEntry e = SoundPair base (pair_of e)

  abbrev OfField : FieldValue → Type 0
  OfField f = SoundGiven base (given_of f)

  abbrev OfOperand : Operand → Type 0
  OfOperand o = SoundJoined base (joined_of o)

  abbrev ToldExpr : Type 0
  ToldExpr = (e : Expr) × OfExpr e

  abbrev ToldScoped : Type 0
  ToldScoped = (m : ScopedMember) × OfScoped m

  abbrev ToldSuffix : Type 0
  ToldSuffix = (s : Suffix) × OfSuffix s

  abbrev ToldEntry : Type 0
  ToldEntry = (e : Entry) × OfEntry e

  abbrev ToldField : Type 0
  ToldField = (f : FieldValue) × OfField f

  abbrev ToldOperand : Type 0
  ToldOperand = (o : Operand) × OfOperand o

  -- ---- lists and options of them

  abbrev meanings : List ToldExpr → List Meaning
  meanings told = map meaning_of (map (λ (e : ToldExpr). e.0) told)

  all_sound : (told : List ToldExpr) → AllSound base (meanings told)
  all_sound [] = tt
  all_sound (e ∷ told) = (e.1, all_sound told)

  abbrev pairs : List ToldEntry → List Pair
  pairs told = map pair_of (map (λ (e : ToldEntry). e.0) told)

  all_pairs : (told : List ToldEntry) → AllByRecursion (SoundPair base) (pairs told)
  all_pairs [] = tt
  all_pairs (e ∷ told) = (e.1, all_pairs told)

  abbrev givens : List ToldField → List Given
  givens told = map given_of (map (λ (e : ToldField). e.0) told)

  all_given : (told : List ToldField) → AllByRecursion (SoundGiven base) (givens told)
  all_given [] = tt
  all_given (e ∷ told) = (e.1, all_given told)

  abbrev operands : List ToldOperand → List Joined
  operands told = map joined_of (map (λ (e : ToldOperand). e.0) told)

  all_operands : (told : List ToldOperand) → AllByRecursion (SoundJoined base) (operands told)
  all_operands [] = tt
  all_operands (e ∷ told) = (e.1, all_operands told)

  sound_suffixes : (under : Meaning) (told : List ToldSuffix) → Sound base under
      → Sound base (fold (λ (operand : Meaning) (suffix : SuffixMeaning). suffix operand) under (map suffix_of (map (λ (e : ToldSuffix). e.0) told)))
  sound_suffixes under [] u = u
  sound_suffixes under (e ∷ told) u = sound_suffixes (suffix_of e.0 under) told (e.1 under u)

  -- ---- each layer

  abbrev LayerExpr : Type 0
  LayerExpr = Expr-F ToldExpr ToldScoped ToldSuffix ToldEntry ToldField ToldOperand

  abbrev bare_expr : LayerExpr → Expr-F Expr ScopedMember Suffix Entry FieldValue Operand
  bare_expr = map-Expr ToldExpr ToldScoped ToldSuffix ToldEntry ToldField ToldOperand Expr ScopedMember Suffix Entry FieldValue Operand
      (λ (e : ToldExpr). e.0) (λ (e : ToldScoped). e.0) (λ (e : ToldSuffix). e.0) (λ (e : ToldEntry). e.0) (λ (e : ToldField). e.0) (λ (e : ToldOperand). e.0)

  abbrev layer_expr : LayerExpr → Expr-F Meaning ScopedMeaning SuffixMeaning Pair Given Joined
  layer_expr y = map-Expr Expr ScopedMember Suffix Entry FieldValue Operand Meaning ScopedMeaning SuffixMeaning Pair Given Joined
      meaning_of scoped_of suffix_of pair_of given_of joined_of (bare_expr y)

  sound_layer : (y : LayerExpr) → Sound base (expression_by (layer_expr y))
  unfolding expression_by
  sound_layer (Expr-F.Assign at target operator value) = sound_assignment _ operator target.1 value.1
  sound_layer (Expr-F.Conditional at condition None other) = sound_conditional _ None condition.1 tt other.1
  sound_layer (Expr-F.Conditional at condition (Some middle) other) = sound_conditional _ (Some (meaning_of middle.0)) condition.1 middle.1 other.1
  sound_layer (Expr-F.Chain at first others) = sound_chain (meaning_of first.0) (operands others) first.1 (all_operands others)
  sound_layer (Expr-F.Prefix at operator operand) = sound_prefix _ operator operand.1
  sound_layer (Expr-F.Cast at to operand) = sound_cast _ _ operand.1
  sound_layer (Expr-F.Power at operands) = sound_power _ (meanings operands) (all_sound operands)
  sound_layer (Expr-F.Test at operand tests) = sound_test _ (meaning_of operand.0) tests operand.1
  sound_layer (Expr-F.Postfix at operand suffixes) = sound_suffixes (meaning_of operand.0) suffixes operand.1
  sound_layer (Expr-F.Bracketed at inner) = sound_bracketed _ inner.1
  sound_layer (Expr-F.Literal at literal) = sound_literal _ _
  sound_layer (Expr-F.Variable at name) = sound_variable _ _
  sound_layer (Expr-F.This at) = sound_this _
  sound_layer (Expr-F.Constant at name) = sound_constant _ _
  sound_layer (Expr-F.Call at name arguments) = sound_call _ _ (meanings arguments) (all_sound arguments)
  sound_layer (Expr-F.Scoped at class member) = member.1 at class
  sound_layer (Expr-F.New at class_at class types arguments) = sound_new _ _ class types (meanings arguments) (all_sound arguments)
  sound_layer (Expr-F.Container at container elements) = sound_container _ container (meanings elements) (all_sound elements)
  sound_layer (Expr-F.Dict at entries) = sound_dict _ (pairs entries) (all_pairs entries)
  sound_layer (Expr-F.Shape at fields) = sound_shape _ (givens fields) (all_given fields)

  of_expr : (x : Expr-F Expr ScopedMember Suffix Entry FieldValue Operand) (y : LayerExpr) → bare_expr y ≡ x → OfExpr (roll-Expr x)
  of_expr x y is = subst (λ z. OfExpr (roll-Expr z)) is
      (subst (Sound base) (sym (fold-roll-Expr Meaning ScopedMeaning SuffixMeaning Pair Given Joined expression_by scoped_by suffix_by entry_by field_by operand_by (bare_expr y)))
      (sound_layer y))

  abbrev LayerScoped : Type 0
  LayerScoped = ScopedMember-F ToldExpr ToldScoped ToldSuffix ToldEntry ToldField ToldOperand

  abbrev bare_scoped : LayerScoped → ScopedMember-F Expr ScopedMember Suffix Entry FieldValue Operand
  bare_scoped = map-ScopedMember ToldExpr ToldScoped ToldSuffix ToldEntry ToldField ToldOperand Expr ScopedMember Suffix Entry FieldValue Operand
      (λ (e : ToldExpr). e.0) (λ (e : ToldScoped). e.0) (λ (e : ToldSuffix). e.0) (λ (e : ToldEntry). e.0) (λ (e : ToldField). e.0) (λ (e : ToldOperand). e.0)

  good_scoped : (y : LayerScoped) → GoodScoped (scoped_by (map-ScopedMember Expr ScopedMember Suffix Entry FieldValue Operand Meaning ScopedMeaning SuffixMeaning Pair Given Joined
      meaning_of scoped_of suffix_of pair_of given_of joined_of (bare_scoped y)))
  unfolding scoped_by
  good_scoped (ScopedMember-F.Property name) = λ at class. sound_static_property _ _ class
  good_scoped (ScopedMember-F.Word name None) = λ at class. sound_word _ _ class None tt
  good_scoped (ScopedMember-F.Word name (Some arguments)) = λ at class. sound_word _ _ class (Some (meanings arguments)) (all_sound arguments)

  of_scoped : (x : ScopedMember-F Expr ScopedMember Suffix Entry FieldValue Operand) (y : LayerScoped) → bare_scoped y ≡ x → OfScoped (roll-ScopedMember x)
  of_scoped x y is = subst (λ z. OfScoped (roll-ScopedMember z)) is
      (subst GoodScoped (sym (fold-roll-ScopedMember Meaning ScopedMeaning SuffixMeaning Pair Given Joined expression_by scoped_by suffix_by entry_by field_by operand_by (bare_scoped y)))
      (good_scoped y))

  abbrev LayerSuffix : Type 0
  LayerSuffix = Suffix-F ToldExpr ToldScoped ToldSuffix ToldEntry ToldField ToldOperand

  abbrev bare_suffix : LayerSuffix → Suffix-F Expr ScopedMember Suffix Entry FieldValue Operand
  bare_suffix = map-Suffix ToldExpr ToldScoped ToldSuffix ToldEntry ToldField ToldOperand Expr ScopedMember Suffix Entry FieldValue Operand
      (λ (e : ToldExpr). e.0) (λ (e : ToldScoped). e.0) (λ (e : ToldSuffix). e.0) (λ (e : ToldEntry). e.0) (λ (e : ToldField). e.0) (λ (e : ToldOperand). e.0)

  good_suffix : (y : LayerSuffix) → GoodSuffix (suffix_by (map-Suffix Expr ScopedMember Suffix Entry FieldValue Operand Meaning ScopedMeaning SuffixMeaning Pair Given Joined
      meaning_of scoped_of suffix_of pair_of given_of joined_of (bare_suffix y)))
  unfolding suffix_by
  good_suffix (Suffix-F.Index None) = λ under u. sound_index None u tt
  good_suffix (Suffix-F.Index (Some index)) = λ under u. sound_index (Some (meaning_of index.0)) u index.1
  good_suffix (Suffix-F.Member null_safe name None) = λ under u. sound_member _ _ None u tt
  good_suffix (Suffix-F.Member null_safe name (Some arguments)) = λ under u. sound_member _ _ (Some (meanings arguments)) u (all_sound arguments)
  good_suffix Suffix-F.Increment = λ under u. sound_increment _ add u
  good_suffix Suffix-F.Decrement = λ under u. sound_increment _ subtract u

  of_suffix : (x : Suffix-F Expr ScopedMember Suffix Entry FieldValue Operand) (y : LayerSuffix) → bare_suffix y ≡ x → OfSuffix (roll-Suffix x)
  of_suffix x y is = subst (λ z. OfSuffix (roll-Suffix z)) is
      (subst GoodSuffix (sym (fold-roll-Suffix Meaning ScopedMeaning SuffixMeaning Pair Given Joined expression_by scoped_by suffix_by entry_by field_by operand_by (bare_suffix y)))
      (good_suffix y))

  abbrev bare_entry : Entry-F ToldExpr ToldScoped ToldSuffix ToldEntry ToldField ToldOperand → Entry-F Expr ScopedMember Suffix Entry FieldValue Operand
  bare_entry = map-Entry ToldExpr ToldScoped ToldSuffix ToldEntry ToldField ToldOperand Expr ScopedMember Suffix Entry FieldValue Operand
      (λ (e : ToldExpr). e.0) (λ (e : ToldScoped). e.0) (λ (e : ToldSuffix). e.0) (λ (e : ToldEntry). e.0) (λ (e : ToldField). e.0) (λ (e : ToldOperand). e.0)

  of_entry : (x : Entry-F Expr ScopedMember Suffix Entry FieldValue Operand) (y : Entry-F ToldExpr ToldScoped ToldSuffix ToldEntry ToldField ToldOperand)
      → bare_entry y ≡ x → OfEntry (roll-Entry x)
  of_entry x y is = subst (λ z. OfEntry (roll-Entry z)) is
      (subst (SoundPair base) (sym (fold-roll-Entry Meaning ScopedMeaning SuffixMeaning Pair Given Joined expression_by scoped_by suffix_by entry_by field_by operand_by (bare_entry y)))
      (record { key = y.key.1; value = y.value.1 }))

  abbrev bare_field : FieldValue-F ToldExpr ToldScoped ToldSuffix ToldEntry ToldField ToldOperand → FieldValue-F Expr ScopedMember Suffix Entry FieldValue Operand
  bare_field = map-FieldValue ToldExpr ToldScoped ToldSuffix ToldEntry ToldField ToldOperand Expr ScopedMember Suffix Entry FieldValue Operand
      (λ (e : ToldExpr). e.0) (λ (e : ToldScoped). e.0) (λ (e : ToldSuffix). e.0) (λ (e : ToldEntry). e.0) (λ (e : ToldField). e.0) (λ (e : ToldOperand). e.0)

  of_field : (x : FieldValue-F Expr ScopedMember Suffix Entry FieldValue Operand) (y : FieldValue-F ToldExpr ToldScoped ToldSuffix ToldEntry ToldField ToldOperand)
      → bare_field y ≡ x → OfField (roll-FieldValue x)
  of_field x y is = subst (λ z. OfField (roll-FieldValue z)) is
      (subst (SoundGiven base) (sym (fold-roll-FieldValue Meaning ScopedMeaning SuffixMeaning Pair Given Joined expression_by scoped_by suffix_by entry_by field_by operand_by (bare_field y)))
      (record { value = y.value.1 }))

  abbrev bare_operand : Operand-F ToldExpr ToldScoped ToldSuffix ToldEntry ToldField ToldOperand → Operand-F Expr ScopedMember Suffix Entry FieldValue Operand
  bare_operand = map-Operand ToldExpr ToldScoped ToldSuffix ToldEntry ToldField ToldOperand Expr ScopedMember Suffix Entry FieldValue Operand
      (λ (e : ToldExpr). e.0) (λ (e : ToldScoped). e.0) (λ (e : ToldSuffix). e.0) (λ (e : ToldEntry). e.0) (λ (e : ToldField). e.0) (λ (e : ToldOperand). e.0)

  of_operand : (x : Operand-F Expr ScopedMember Suffix Entry FieldValue Operand) (y : Operand-F ToldExpr ToldScoped ToldSuffix ToldEntry ToldField ToldOperand)
      → bare_operand y ≡ x → OfOperand (roll-Operand x)
  of_operand x y is = subst (λ z. OfOperand (roll-Operand z)) is
      (subst (SoundJoined base) (sym (fold-roll-Operand Meaning ScopedMeaning SuffixMeaning Pair Given Joined expression_by scoped_by suffix_by entry_by field_by operand_by (bare_operand y)))
      (record { operand = y.operand.1 }))

  pub sound : (e : Expr) → Sound base (meaning_of e)
  sound = ind-Expr OfExpr OfScoped OfSuffix OfEntry OfField OfOperand of_expr of_scoped of_suffix of_entry of_field of_operand

  pub all_of : (es : List Expr) → AllSound base (map meaning_of es)
  all_of [] = tt
  all_of (e ∷ es) = (sound e, all_of es)

  pub may_of : (e : Option Expr) → MaySound base (option_map meaning_of e)
  may_of None = tt
  may_of (Some e) = sound e

pub goes_judged : {base : Variables} (e : Expr) → Goes base Free (judged e)
unfolding judged
goes_judged {base = base} e = (sound base e).walk
