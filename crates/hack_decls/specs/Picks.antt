-- What the narrow lookups pick from a folded declaration.
use Rattle.std.specs.Prelude.{ℕ, ◌==◌, ◌&&◌, Bool, Option, Some, None}
use Rattle.std.specs.List.{find}
use Rattle.hack_types.specs.MembersRise.{kind_rank}
use Rattle.hack_types.specs.declared.shallow.Member.{Member}
use Rattle.hack_decls.specs.declared.folded.Ancestor.{Ancestor}
use Rattle.hack_decls.specs.declared.folded.ClassFolded.{ClassFolded}
use Rattle.hack_decls.specs.declared.folded.Folded.{Folded}
use Rattle.hack_decls.specs.declared.folded.Folded.TheVariants as folded
use Rattle.hack_decls.specs.declared.answers.MemberTag.{MemberTag}
use Rattle.hack_decls.specs.declared.answers.MemberTag.TheVariants as tag
use Rattle.hack_decls.specs.declared.answers.MemberAnswer.{MemberAnswer}
use Rattle.hack_decls.specs.declared.answers.MemberAnswer.TheVariants as member
use Rattle.hack_decls.specs.declared.answers.AncestorAnswer.{AncestorAnswer}
use Rattle.hack_decls.specs.declared.answers.AncestorAnswer.TheVariants as ancestor
use Rattle.hack_decls.specs.declared.answers.ClassHeading.{ClassHeading}
use Rattle.hack_decls.specs.declared.answers.HeadingAnswer.{HeadingAnswer}
use Rattle.hack_decls.specs.declared.answers.HeadingAnswer.TheVariants as heading

-- constants, then properties, then methods, as members are in order
abbrev pub tag_rank : MemberTag → ℕ
tag_rank tag.Constant = 0
tag_rank tag.Property = 1
tag_rank tag.Method = 2

abbrev pub is_member : MemberTag → ℕ → Member → Bool
is_member t name m = (kind_rank m.kind == tag_rank t) && (m.name == name)

abbrev pub member_or : Bool → Option Member → MemberAnswer
member_or partial (Some m) = member.At m
member_or partial None = member.Missing partial

abbrev pub member_answer : MemberTag → ℕ → Option Folded → MemberAnswer
member_answer t name None = member.Absent
member_answer t name (Some (folded.ClassLike class)) = member_or class.partial (find (is_member t name) class.members)
member_answer t name (Some other) = member.NotClass

abbrev pub ancestor_or : Bool → Option Ancestor → AncestorAnswer
ancestor_or partial (Some a) = ancestor.At a.arguments
ancestor_or partial None = ancestor.Missing partial

abbrev pub ancestor_answer : ℕ → Option Folded → AncestorAnswer
ancestor_answer name None = ancestor.Absent
ancestor_answer name (Some (folded.ClassLike class)) = ancestor_or class.partial (find (λ a. a.name == name) class.ancestors)
ancestor_answer name (Some other) = ancestor.NotClass

abbrev pub heading_of : ClassFolded → ClassHeading
heading_of class = record {
  sort = class.sort;
  is_abstract = class.is_abstract;
  is_final = class.is_final;
  cyclic = class.cyclic;
  partial = class.partial;
  type_params = class.type_params;
}

abbrev pub heading_answer : Option Folded → HeadingAnswer
heading_answer None = heading.Absent
heading_answer (Some (folded.ClassLike class)) = heading.ClassLike (heading_of class)
heading_answer (Some (folded.Enum sig)) = heading.Enum sig
heading_answer (Some (folded.Alias sig)) = heading.Alias sig
heading_answer (Some (folded.Function sig)) = heading.Function sig
heading_answer (Some (folded.Constant ty)) = heading.Constant ty
