-- Mentions and words: the steps that tell what is wrong, and then the answer.
use Rattle.std.proofs.Common.{◌≡◌, ◌∙◌, ◌⊎◌, ℕ, Bool, true, false, Option, Some, None, List, refl, sym, ap, inl, inr}
use Rattle.std.specs.Option.{option_and_then, option_map}
use Rattle.std.specs.List.{find}
use Rattle.hack_tree.specs.declared.expression.ClassReference.{ClassReference}
use Rattle.hack_tree.specs.declared.expression.ClassReference.TheVariants as reference
use Rattle.hack_types.specs.declared.hack_type.HackType.{HackType}
use Rattle.hack_types.specs.declared.place.Place.{Place}
use Rattle.hack_types.specs.declared.signature.TypeParam.{TypeParam}
use Rattle.hack_decls.specs.DeclState.{Map}
use Rattle.hack_decls.specs.Names.{class_symbol}
use Rattle.hack_decls.specs.declared.folded.Ancestor.{Ancestor}
use Rattle.hack_decls.specs.declared.folded.ClassFolded.{ClassFolded}
use Rattle.hack_decls.specs.declared.folded.Folded.{Folded}
use Rattle.hack_decls.specs.declared.folded.Folded.TheVariants as folded
use Rattle.hack_sub.specs.Knowing.{is_trait}
use Rattle.hack_sub.specs.declared.scope.Scope.{Scope}
use Rattle.hack_rules.specs.Classes.{allowed_by, ancestors_by, class_named, class_with_any, is_class, mentioned, mentioned_by, mentioned_trait, parent_type, referred}
use Rattle.hack_rules.specs.Walks.{Setting, State, ◌>>=◌, ◌>>◌, pure, reads, unless}
use Rattle.hack_calls.specs.Named.{declared_as, mention}
use Rattle.hack_calls.specs.inside.Rows.{ancestor_type, ancestors_of, by_name, by_word, expect_allowed, expect_declared, first_of, type_by}
use Rattle.hack_calls.proofs.Heading.{ancestors_law}

module _ (at : Place) (name : ℕ) (setting : Setting) (map : Map) (s : State) where
  -- the state behind a mention
  trait_told : (class : ClassFolded) (is : Bool) → is_trait class.sort ≡ is
      → (mentioned_trait at name (folded.ClassLike class) is setting map s).1 ≡ (expect_declared at name (declared_as (Some (folded.ClassLike class))) setting map s).1
  unfolding ◌>>=◌ ◌>>◌ pure unless
  trait_told class true is = rw is refl
  trait_told class false is = rw is refl

  told : (entry : Option Folded) → (mentioned_by at name entry setting map s).1 ≡ (expect_declared at name (declared_as entry) setting map s).1
  unfolding ◌>>=◌ ◌>>◌ pure unless
  told None = refl
  told (Some (folded.ClassLike class)) = trait_told class (is_trait class.sort) refl
  told (Some (folded.Enum sig)) = refl
  told (Some (folded.Alias sig)) = refl
  told (Some (folded.Function sig)) = refl
  told (Some (folded.Constant ty)) = refl

  pub mention_law : mention at name setting map s
      ≡ (reads (λ (m : Map) (scope : Scope). declared_as (m (class_symbol name))) >>= (λ declared. expect_declared at name declared >>= (λ done. pure declared))) setting map s
  unfolding mentioned ◌>>=◌ ◌>>◌ reads pure
  mention_law = ap (λ (t : State). (declared_as (map (class_symbol name)), t)) (told (map (class_symbol name)))

  -- the type of what goes on from a mention
  trait_type : (class : ClassFolded) (is : Bool) → is_trait class.sort ≡ is
      → option_map (class_with_any name) (mentioned_trait at name (folded.ClassLike class) is setting map s).0 ≡ type_by name (declared_as (Some (folded.ClassLike class)))
  unfolding ◌>>=◌ ◌>>◌ pure
  trait_type class true is = rw is refl
  trait_type class false is = rw is refl

  type_is : (entry : Option Folded) → option_map (class_with_any name) (mentioned_by at name entry setting map s).0 ≡ type_by name (declared_as entry)
  unfolding ◌>>=◌ ◌>>◌ pure
  type_is None = refl
  type_is (Some (folded.ClassLike class)) = trait_type class (is_trait class.sort) refl
  type_is (Some (folded.Enum sig)) = refl
  type_is (Some (folded.Alias sig)) = refl
  type_is (Some (folded.Function sig)) = refl
  type_is (Some (folded.Constant ty)) = refl

  pub name_law : referred at (reference.Named name) setting map s ≡ by_name at name setting map s
  unfolding referred mentioned ◌>>=◌ ◌>>◌ reads pure
  name_law = ap (λ (ty : Option HackType). (ty, (mentioned_by at name (map (class_symbol name)) setting map s).1)) (type_is (map (class_symbol name)))

module _ (at : Place) (word : ClassReference) (setting : Setting) (map : Map) (s : State) where
  pub allowed_law : (ty : Option HackType) → allowed_by at word ty setting map s ≡ (expect_allowed at word ty >>= (λ done. pure ty)) setting map s
  unfolding allowed_by ◌>>=◌ ◌>>◌ pure
  allowed_law (Some ty) = refl
  allowed_law None = refl

  -- of a word, whichever it is
  pub word_law : (word ≡ reference.Self_) ⊎ ((word ≡ reference.Static) ⊎ (word ≡ reference.Parent)) → referred at word setting map s ≡ by_word at word setting map s
  unfolding referred
  word_law (inl is) = rw is refl
  word_law (inr (inl is)) = rw is refl
  word_law (inr (inr is)) = rw is refl

-- ---- parents

module _ (map : Map) (scope : Scope) where
  abbrev above : Option (ℕ × List TypeParam) → Option HackType
  above class = option_map ancestor_type (find (λ (ancestor : Ancestor). is_class map ancestor.name)
      (ancestors_by (option_and_then (class_named map) (option_map (λ (c : ℕ × List TypeParam). c.0) class))))

  pub parent_law : (class : ℕ × List TypeParam) → scope.class ≡ Some class → first_of map (ancestors_of (map (class_symbol class.0))) ≡ parent_type map scope
  unfolding parent_type
  parent_law class is = sym (ap above is ∙ ap (first_of map) (ancestors_law (map (class_symbol class.0))))

  pub no_parent : scope.class ≡ None → None ≡ parent_type map scope
  unfolding parent_type
  no_parent is = sym (ap above is)
