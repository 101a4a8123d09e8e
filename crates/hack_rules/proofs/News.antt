-- `new` goes well.
use Rattle.std.proofs.Common.{ℕ, ◌==◌, not, Option, Some, None, List, [], ◌∷◌, length, map}
use Rattle.std.specs.Bool.{nat_le}
use Rattle.hack_tree.specs.declared.expression.ClassReference.{ClassReference}
use Rattle.hack_tree.specs.declared.expression.ClassReference.TheVariants as reference
use Rattle.hack_tree.specs.declared.written_type.WrittenType.{WrittenType}
use Rattle.hack_types.specs.Substituted.{most_nodes}
use Rattle.hack_types.specs.TypeNodes.{nodes}
use Rattle.hack_types.specs.declared.hack_type.HackType.{HackType}
use Rattle.hack_types.specs.declared.hack_type.HackType.TheVariants as type
use Rattle.hack_types.specs.declared.place.Place.{Place}
use Rattle.hack_types.specs.declared.shallow.Member.{Member}
use Rattle.hack_types.specs.declared.shallow.MemberKind.{MemberKind}
use Rattle.hack_types.specs.declared.shallow.MemberKind.TheVariants as kind
use Rattle.hack_types.specs.declared.signature.Signature.{Signature}
use Rattle.hack_types.specs.declared.signature.TypeParam.{TypeParam}
use Rattle.hack_decls.specs.declared.folded.Folded.{Folded}
use Rattle.hack_sub.specs.Knowing.{parameters_by}
use Rattle.hack_rules.specs.Meanings.{Meaning}
use Rattle.hack_rules.specs.News.{called_by, construct_by, constructed, expect_instance, expect_number, expect_parent, new_by, new_class, new_declared, new_named, new_row, new_value, new_with, new_without, new_word, solved_by, solved_class, solved_kind, solved_or, type_argument, type_arguments, without_constructor}
use Rattle.hack_rules.specs.Variables.{Variables}
use Rattle.hack_rules.specs.WrittenTypes.{Argument, Mention, mention}
use Rattle.hack_rules.proofs.Calls.{goes_arguments, goes_call_with, goes_expect_count, goes_solved_types}
use Rattle.hack_rules.proofs.Classes.{goes_mentioned, goes_referred}
use Rattle.hack_rules.proofs.Meanings.{AllSound, Sound, sound_plain}
use Rattle.hack_rules.proofs.Members.{goes_expect_usable}
use Rattle.hack_rules.proofs.Mentions.{good_mention}
use Rattle.hack_rules.proofs.Steps.{Free, Goes, free_reads, goes_each, goes_either, goes_next, goes_pure, goes_refuse, goes_then, goes_unless}
use Rattle.hack_rules.proofs.WrittenTypes.{GoodMention, goes_expect_arguments, goes_whole}
use Rattle.std.specs.List.{AllByRecursion}
use Rattle.hack_shallow.specs.Scope.{Scope as Names}

all_good : (base : Variables) (names : Names) (types : List WrittenType) → AllByRecursion (GoodMention base) (map (mention names) types)
all_good base names [] = tt
all_good base names (ty ∷ types) = (good_mention base names ty, all_good base names types)

module _ {base : Variables} where
  goes_called_by : (at : Place) (class : Option (List HackType)) (this : List HackType → Option HackType) (given : List Argument) (k : MemberKind)
      → Goes base Free (called_by at class this given k)
  goes_called_by _ _ _ _ (kind.Method signature) = goes_call_with _ _ _
  goes_called_by _ _ _ _ _ = goes_pure _ tt

  goes_without_constructor : (at : Place) (name : ℕ) (given : List Argument) → Goes base Free (without_constructor at name given)
  unfolding without_constructor
  goes_without_constructor _ _ _ = goes_then (free_reads _) (λ partial g. goes_either partial (goes_pure _ tt) (goes_expect_count _ _ _ _))

  goes_construct_by : (at : Place) (name : ℕ) (arguments : List HackType) (this : HackType) (given : List Argument) (member : Option Member)
      → Goes base Free (construct_by at name arguments this given member)
  goes_construct_by _ _ _ _ _ None = goes_next (goes_without_constructor _ _ _) (goes_pure _ tt)
  goes_construct_by _ _ _ _ _ (Some member) = goes_next (goes_expect_usable _ _ _) (goes_next (goes_called_by _ _ _ _ member.kind) (goes_pure _ tt))

  goes_constructed : (at : Place) (name : ℕ) (arguments : List HackType) (this : HackType) (given : List Argument) → Goes base Free (constructed at name arguments this given)
  unfolding constructed
  goes_constructed _ _ _ _ _ = goes_then (free_reads _) (λ member g. goes_construct_by _ _ _ _ _ member)

  goes_solved_by : (at : Place) (name : ℕ) (params : List TypeParam) (given : List Argument) (signature : Signature) → Goes base Free (solved_by at name params given signature)
  unfolding solved_by
  goes_solved_by _ _ _ _ _ = goes_then (goes_solved_types _ _) (λ solved g. goes_next (goes_call_with _ _ _) (goes_pure _ tt))

  goes_solved_kind : (at : Place) (name : ℕ) (params : List TypeParam) (given : List Argument) (k : MemberKind) → Goes base Free (solved_kind at name params given k)
  goes_solved_kind _ _ _ _ (kind.Method signature) = goes_solved_by _ _ _ _ _
  goes_solved_kind _ _ _ _ _ = goes_pure _ tt

  goes_solved_or : (at : Place) (name : ℕ) (params : List TypeParam) (given : List Argument) (member : Option Member) → Goes base Free (solved_or at name params given member)
  goes_solved_or _ _ _ _ None = goes_next (goes_without_constructor _ _ _) (goes_pure _ tt)
  goes_solved_or _ _ _ _ (Some member) = goes_next (goes_expect_usable _ _ _) (goes_solved_kind _ _ _ _ member.kind)

  goes_solved_class : (at : Place) (name : ℕ) (params : List TypeParam) (given : List Argument) → Goes base Free (solved_class at name params given)
  unfolding solved_class
  goes_solved_class _ _ _ _ = goes_then (free_reads _) (λ member g. goes_solved_or _ _ _ _ member)

  goes_expect_instance : (at : Place) (name : ℕ) → Goes base Free (expect_instance at name)
  unfolding expect_instance
  goes_expect_instance _ _ = goes_then (free_reads _) (λ fits g. goes_unless _ _ _)

  goes_new_with : (at name_at : Place) (params : List TypeParam) (given : List Argument) (name : ℕ) (types : List Argument) → Goes base Free (new_with at name_at name params types given)
  unfolding new_with
  goes_new_with _ _ _ _ name types = goes_either (not (nat_le (nodes (type.Class name (map (λ a. a.ty) types))) most_nodes)) (goes_refuse _ _)
      (goes_next (goes_expect_arguments _ _) (goes_next (goes_expect_instance _ _) (goes_constructed _ _ _ _ _)))

  goes_new_without : (at : Place) (name : ℕ) (given : List Argument) (params : List TypeParam) → Goes base Free (new_without at name params given)
  unfolding new_without
  goes_new_without _ _ _ [] = goes_next (goes_expect_instance _ _) (goes_constructed _ _ _ _ _)
  goes_new_without _ _ _ (param ∷ params) = goes_next (goes_expect_instance _ _) (goes_solved_class _ _ _ _)

  goes_new_declared : (at name_at : Place) (name : ℕ) (given : List Argument) (params : List TypeParam) (types : List Argument)
      → Goes base Free (new_declared at name_at name params types given)
  goes_new_declared _ _ _ _ params [] = goes_new_without _ _ _ params
  goes_new_declared _ _ name _ params (ty ∷ types) = goes_either (length params == length (ty ∷ types)) (goes_new_with _ _ _ _ name (ty ∷ types)) (goes_pure _ tt)

  goes_new_by : (at name_at : Place) (name : ℕ) (given : List Argument) (types : List Argument) (goes_on : Option Folded) → Goes base Free (new_by at name_at name types given goes_on)
  goes_new_by _ _ _ _ types None = goes_pure _ tt
  goes_new_by _ _ _ _ types (Some declaration) = goes_new_declared _ _ _ _ (parameters_by (Some declaration)) types

  goes_expect_number : (name_at : Place) (name : ℕ) (types : List Argument) (declaration : Option Folded) → Goes base Free (expect_number name_at name types declaration)
  goes_expect_number _ _ [] declaration = goes_pure _ tt
  goes_expect_number _ _ (ty ∷ types) None = goes_pure _ tt
  goes_expect_number _ _ (ty ∷ types) (Some declaration) = goes_unless _ _ _

  goes_type_argument : {m : Mention} → GoodMention base m → Goes base Free (type_argument m)
  unfolding type_argument
  goes_type_argument good = goes_then (goes_whole _ _ good.checks) (λ ty g. goes_pure _ tt)

  goes_type_arguments : (types : List WrittenType) → Goes base Free (type_arguments types)
  unfolding type_arguments
  goes_type_arguments types = goes_then (free_reads _) (λ names g.
      goes_each (GoodMention base) (λ m good. goes_type_argument good) (map (mention names) types) (all_good base names types))

  goes_new_named : (at name_at : Place) (name : ℕ) (given : List Argument) (types : List WrittenType) → Goes base Free (new_named at name_at name types given)
  unfolding new_named
  goes_new_named _ _ _ _ types = goes_then (goes_mentioned _ _) (λ goes_on g. goes_then (goes_type_arguments types) (λ arguments h.
      goes_then (free_reads _) (λ declaration i. goes_next (goes_expect_number _ _ arguments declaration) (goes_new_by _ _ _ _ arguments goes_on))))

  goes_expect_parent : (at : Place) (ty : HackType) (class : ClassReference) → Goes base Free (expect_parent at class ty)
  goes_expect_parent _ _ reference.Parent = goes_expect_instance _ _
  goes_expect_parent _ _ _ = goes_pure _ tt

  goes_new_word : (at : Place) (given : List Argument) (word : ClassReference) (ty : Option HackType) → Goes base Free (new_word at word given ty)
  goes_new_word _ _ word None = goes_pure _ tt
  goes_new_word _ _ word (Some ty) = goes_next (goes_expect_parent _ _ word) (goes_then (free_reads _) (λ class g. goes_constructed _ _ _ _ _))

  goes_new_class : (at class_at : Place) (given : List Argument) (class : ClassReference) (types : List WrittenType) → Goes base Free (new_class at class_at class types given)
  goes_new_class _ _ _ (reference.Named name) types = goes_new_named _ _ _ _ types
  goes_new_class _ _ _ word types = goes_then (goes_referred _ word) (λ ty g. goes_new_word _ _ word ty)

  goes_new_row : (at class_at : Place) (class : ClassReference) (types : List WrittenType) (arguments : List Meaning) → AllSound base arguments
      → Goes base Free (new_row at class_at class types arguments)
  unfolding new_row
  goes_new_row _ _ class types arguments all = goes_then (goes_arguments arguments all) (λ given g. goes_new_class _ _ _ class types)

  pub sound_new : (at class_at : Place) (class : ClassReference) (types : List WrittenType) (arguments : List Meaning) → AllSound base arguments
      → Sound base (new_value at class_at class types arguments)
  sound_new _ _ class types arguments all = sound_plain (goes_new_row _ _ class types arguments all)
