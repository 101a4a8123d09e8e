-- Members go well.
use Rattle.std.proofs.Common.{ℕ, zero, suc, ◌==◌, ◌&&◌, Bool, true, false, Option, Some, None, List}
use Rattle.std.specs.List.{find, list_any}
use Rattle.hack_types.specs.declared.hack_type.HackType.{HackType, out-HackType}
use Rattle.hack_types.specs.declared.hack_type.HackType.TheOpen.{HackType-F}
use Rattle.hack_types.specs.declared.place.Place.{Place}
use Rattle.hack_types.specs.declared.shallow.Member.{Member}
use Rattle.hack_types.specs.declared.shallow.MemberKind.{MemberKind}
use Rattle.hack_types.specs.declared.shallow.MemberKind.TheVariants as kind
use Rattle.hack_types.specs.Substituted.{most_nodes}
use Rattle.hack_decls.specs.Picks.{is_member}
use Rattle.hack_decls.specs.declared.folded.Folded.{Folded}
use Rattle.hack_decls.specs.declared.folded.Folded.TheVariants as folded
use Rattle.hack_sub.specs.Parts.{arguments_of}
use Rattle.hack_infer.specs.Seeing.{most_steps}
use Rattle.hack_rules.specs.Members.{StaticUse, Wanted, call_of_member, called_by, constant_of, each_member, expect_usable, found_or, is_constant, member_by, member_of, member_of_head, members_by, members_within, method_of, option_inside_by, property_of, through_null, type_of_member}
use Rattle.hack_rules.specs.Variables.{Variables}
use Rattle.hack_rules.specs.Walks.{Walk}
use Rattle.hack_rules.specs.WrittenTypes.{Argument}
use Rattle.hack_rules.proofs.Calls.{goes_call_with}
use Rattle.hack_rules.proofs.Steps.{Free, Goes, free_each, free_reads, goes_either, goes_next, goes_pure, goes_refuse, goes_report, goes_then, goes_unless}

-- what is looked for gives what goes well
pub record Gives (base : Variables) (wanted : Wanted) : Type 0 where
  pub gives : (member : Member) (arguments : List HackType) (receiver : HackType) → Goes base Free (wanted.gives member arguments receiver)

module _ {base : Variables} where
  pub goes_expect_usable : (at : Place) (use_ : StaticUse) (member : Member) → Goes base Free (expect_usable at use_ member)
  unfolding expect_usable
  goes_expect_usable _ _ _ = goes_then (free_reads _) (λ visible g. goes_next (goes_unless _ _ _) (goes_unless _ _ _))

  goes_type_of_member : (member : Member) (arguments : List HackType) (receiver : HackType) → Goes base Free (type_of_member member arguments receiver)
  unfolding type_of_member
  goes_type_of_member _ _ _ = goes_pure _ tt

  goes_called_by : (at : Place) (given : List Argument) (arguments : List HackType) (receiver : HackType) (k : MemberKind) → Goes base Free (called_by at given k arguments receiver)
  goes_called_by _ _ _ _ (kind.Method signature) = goes_call_with _ _ _
  goes_called_by _ _ _ _ _ = goes_pure _ tt

  goes_call_of_member : (at : Place) (given : List Argument) (member : Member) (arguments : List HackType) (receiver : HackType)
      → Goes base Free (call_of_member at given member arguments receiver)
  unfolding call_of_member
  goes_call_of_member at given member arguments receiver = goes_called_by _ _ _ _ member.kind

  pub gives_property : (static : StaticUse) (null_safe : Bool) (name : ℕ) → Gives base (property_of static null_safe name)
  gives_property _ _ _ = record { gives = λ member arguments receiver. (goes_type_of_member _ _ _) }

  pub gives_method : (at : Place) (static : StaticUse) (null_safe : Bool) (name : ℕ) (given : List Argument) → Gives base (method_of at static null_safe name given)
  gives_method _ _ _ _ _ = record { gives = λ member arguments receiver. (goes_call_of_member _ _ _ _ _) }

  pub gives_constant : (shown name : ℕ) → Gives base (constant_of shown name)
  gives_constant _ _ = record { gives = λ member arguments receiver. (goes_type_of_member _ _ _) }

  goes_found_or : (at : Place) {wanted : Wanted} → Gives base wanted → (receiver head : HackType) (partial : Bool) (member : Option Member)
      → Goes base Free (found_or at wanted receiver head partial member)
  goes_found_or _ w receiver head true (Some member) = goes_next (goes_expect_usable _ _ _) (w.gives member (arguments_of head) receiver)
  goes_found_or _ w receiver head false (Some member) = goes_next (goes_expect_usable _ _ _) (w.gives member (arguments_of head) receiver)
  goes_found_or _ w receiver head true None = goes_pure _ tt
  goes_found_or _ w receiver head false None = goes_refuse _ _

  goes_member_by : (at : Place) (wanted : Wanted) → Gives base wanted → (receiver head : HackType) (declaration : Option Folded)
      → Goes base Free (member_by at wanted receiver head declaration)
  goes_member_by _ wanted w receiver head (Some (folded.ClassLike class)) =
      goes_found_or _ w receiver head class.partial (find (is_member wanted.tag wanted.name) class.members)
  goes_member_by _ wanted w receiver head (Some (folded.Enum sig)) =
      goes_either (is_constant wanted.tag && list_any (λ name. name == wanted.name) sig.cases) (goes_pure _ tt) (goes_refuse _ _)
  goes_member_by _ wanted w receiver head _ = goes_refuse _ _

  goes_member_of_head : (at : Place) (wanted : Wanted) → Gives base wanted → (receiver head : HackType) → Goes base Free (member_of_head at wanted receiver head)
  unfolding member_of_head
  goes_member_of_head _ wanted w receiver head = goes_then (free_reads _) (λ declaration g. goes_member_by _ wanted w receiver head declaration)

  goes_through_null : (at : Place) (safe : Bool) {inside : Walk HackType} → Goes base Free inside → Goes base Free (through_null at safe inside)
  unfolding through_null
  goes_through_null _ true p = goes_then p (λ ty g. goes_pure _ tt)
  goes_through_null _ false p = goes_next (goes_report _ _) p

  goes_option_inside : {go_on : ℕ → HackType → Walk HackType} → ((options : ℕ) (ty : HackType) → Goes base Free (go_on options ty)) → (options : ℕ) (inside : HackType)
      → Goes base Free (option_inside_by go_on options inside)
  goes_option_inside p zero inside = goes_pure _ tt
  goes_option_inside p (suc options) inside = p options inside

  goes_each_member : {go_on : HackType → Walk HackType} (members : List HackType) → ((ty : HackType) → Goes base Free (go_on ty)) → Goes base Free (each_member go_on members)
  unfolding each_member
  goes_each_member _ p = goes_then (free_each p _) (λ types g. goes_pure _ tt)

  goes_members_by : {go_on : ℕ → HackType → Walk HackType} → ((options : ℕ) (ty : HackType) → Goes base Free (go_on options ty)) → (at : Place) (options : ℕ) (wanted : Wanted)
      → Gives base wanted → (receiver head : HackType) (layer : HackType-F HackType) → Goes base Free (members_by go_on options at wanted receiver head layer)
  goes_members_by p _ options wanted w receiver head HackType-F.Any = goes_pure _ tt
  goes_members_by p _ options wanted w receiver head HackType-F.Nothing = goes_pure _ tt
  goes_members_by p _ options wanted w receiver head (HackType-F.Union members) = goes_each_member _ (p options)
  goes_members_by p _ options wanted w receiver head (HackType-F.Option inside) = goes_through_null _ wanted.null_safe (goes_option_inside p options inside)
  goes_members_by p _ options wanted w receiver head HackType-F.Null = goes_through_null _ wanted.null_safe (goes_pure _ tt)
  goes_members_by p _ options wanted w receiver head _ = goes_member_of_head _ wanted w receiver head

  goes_within : (at : Place) (turns : ℕ) (wanted : Wanted) → Gives base wanted → (options : ℕ) (ty : HackType) → Goes base Free (members_within turns at wanted options ty)
  unfolding members_within
  goes_within _ zero wanted w options ty = goes_pure _ tt
  goes_within _ (suc turns) wanted w options ty =
      goes_then (free_reads _) (λ head g. goes_members_by (λ o t. goes_within _ turns wanted w o t) _ options wanted w ty head (out-HackType head))

  pub goes_member_of : (at : Place) {wanted : Wanted} → Gives base wanted → (ty : HackType) → Goes base Free (member_of at wanted ty)
  unfolding member_of
  goes_member_of at {wanted = wanted} w ty = goes_within _ most_nodes wanted w most_steps ty
