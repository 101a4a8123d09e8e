-- What headings and ancestors say, as the definitions read it off the declaration, and what it names.
use Rattle.std.proofs.Common.{◌≡◌, ◌==◌, ◌||◌, ℕ, Bool, true, false, not, cond, Option, Some, None, List, [], ◌∷◌, length, map, All, IfSome, refl, sym, ap, option_map}
use Rattle.std.proofs.lemmas.List.Elements.{All-head}
use Rattle.std.specs.List.{find, flat_map}
use Rattle.hack_types.specs.Substituted.{limited, substitute}
use Rattle.hack_types.specs.declared.hack_type.HackType.{HackType}
use Rattle.hack_decls.specs.DeclState.{Symbols}
use Rattle.hack_decls.specs.NameLaws.{back, types_of_ancestor_answer, types_of_heading_answer}
use Rattle.hack_decls.specs.Names.{TypeIn, types_of_param}
use Rattle.hack_decls.specs.Picks.{ancestor_answer, ancestor_or, heading_answer}
use Rattle.hack_decls.specs.declared.answers.AncestorAnswer.{AncestorAnswer}
use Rattle.hack_decls.specs.declared.answers.AncestorAnswer.TheVariants as ancestor
use Rattle.hack_decls.specs.declared.answers.HeadingAnswer.{HeadingAnswer}
use Rattle.hack_decls.specs.declared.answers.HeadingAnswer.TheVariants as heading
use Rattle.hack_decls.specs.declared.folded.Ancestor.{Ancestor}
use Rattle.hack_decls.specs.declared.folded.Folded.{Folded}
use Rattle.hack_decls.specs.declared.folded.Folded.TheVariants as folded
use Rattle.hack_sub.specs.Knowing.{ancestor_by, is_bad, is_trait}
use Rattle.hack_infer.proofs.PutLaws.{in_put_each, in_put_in}
use Rattle.hack_infer.specs.inside.Calls.{given_in, looked_at, next_of, sight_in}
use Rattle.hack_infer.specs.Named.{SightIn}
use Rattle.hack_infer.specs.Seeing.{put_in, sight_by}
use Rattle.hack_infer.specs.declared.sight.Sight.{Sight}
use Rattle.hack_infer.specs.declared.sight.Sight.TheVariants as sight

-- one of two, by a test, and whether it is bad
module _ {K : Type 0} (bad : K → Bool) (x y : K) where
  first_bad : bad x ≡ true → bad y ≡ false → (b : Bool) → cond b sight.Bad sight.Other ≡ cond (bad (cond b x y)) sight.Bad sight.Other
  first_bad is isnt true = sym (ap (λ (c : Bool). cond c sight.Bad sight.Other) is)
  first_bad is isnt false = sym (ap (λ (c : Bool). cond c sight.Bad sight.Other) isnt)

  second_bad : bad x ≡ false → bad y ≡ true → (b : Bool) → cond b sight.Other sight.Bad ≡ cond (bad (cond b x y)) sight.Bad sight.Other
  second_bad isnt is true = sym (ap (λ (c : Bool). cond c sight.Bad sight.Other) isnt)
  second_bad isnt is false = sym (ap (λ (c : Bool). cond c sight.Bad sight.Other) is)

  alias_law : bad y ≡ true → (b : Bool) (body : HackType)
      → cond b (sight.Alias (limited body)) sight.Bad ≡ sight_by (bad (cond b x y)) (option_map limited (cond b (Some body) None))
  alias_law is true body = refl
  alias_law is false body = sym (ap (λ (c : Bool). cond c sight.Bad sight.Other) is)

pub sight_law : (arguments : List HackType) (entry : Option Folded) → sight_in arguments (heading_answer entry) ≡ looked_at arguments entry
sight_law arguments None = refl
sight_law arguments (Some (folded.ClassLike class)) = first_bad is_bad _ _ refl refl (is_trait class.sort || not (length arguments == length class.type_params))
sight_law arguments (Some (folded.Enum sig)) = second_bad is_bad _ _ refl refl (length arguments == 0)
sight_law arguments (Some (folded.Alias sig)) = alias_law is_bad _ _ refl (length arguments == length sig.type_params) (substitute arguments sig.body)
sight_law arguments (Some (folded.Function sig)) = refl
sight_law arguments (Some (folded.Constant ty)) = refl

bad_or_other : (bad : Bool) → next_of (cond bad sight.Bad sight.Other) ≡ None
bad_or_other true = refl
bad_or_other false = refl

-- what an alias stands for
pub next_law : (bad : Bool) (next : Option HackType) → next_of (sight_by bad next) ≡ next
next_law bad (Some next) = refl
next_law bad None = bad_or_other bad

-- of a class, the arguments of the ancestor of this name
given_or : (arguments : List HackType) (partial : Bool) (found : Option Ancestor)
    → given_in arguments (ancestor_or partial found) ≡ option_map (map (put_in arguments)) (option_map (λ a. a.arguments) found)
given_or arguments partial None = refl
given_or arguments partial (Some a) = refl

pub given_law : (arguments : List HackType) (name : ℕ) (entry : Option Folded)
    → given_in arguments (ancestor_answer name entry) ≡ option_map (map (put_in arguments)) (ancestor_by name entry)
given_law arguments name None = refl
given_law arguments name (Some (folded.ClassLike class)) = given_or arguments class.partial (find (λ a. a.name == name) class.ancestors)
given_law arguments name (Some (folded.Enum sig)) = refl
given_law arguments name (Some (folded.Alias sig)) = refl
given_law arguments name (Some (folded.Function sig)) = refl
given_law arguments name (Some (folded.Constant ty)) = refl

module _ (symbols : Symbols) where
  bad_named : (bad : Bool) → SightIn symbols (cond bad sight.Bad sight.Other)
  bad_named true = tt
  bad_named false = tt

  enum_named : (none : Bool) → SightIn symbols (cond none sight.Other sight.Bad)
  enum_named true = tt
  enum_named false = tt

  alias_named : (as_many : Bool) (body : HackType) → TypeIn symbols body → SightIn symbols (cond as_many (sight.Alias body) sight.Bad)
  alias_named true body here = here
  alias_named false body here = tt

  -- and what is made of it
  pub sight_named : (arguments : List HackType) → All (TypeIn symbols) arguments → (h : HeadingAnswer) → All (TypeIn symbols) (types_of_heading_answer h) → SightIn symbols (sight_in arguments h)
  sight_named arguments all (heading.Alias sig) w =
      alias_named (length arguments == length sig.type_params) (put_in arguments sig.body) (in_put_in symbols arguments all sig.body
      (All-head (TypeIn symbols) sig.body [] (back (TypeIn symbols) (flat_map types_of_param sig.type_params) (sig.body ∷ []) w)))
  sight_named arguments all (heading.ClassLike class) w = bad_named (is_trait class.sort || not (length arguments == length class.type_params))
  sight_named arguments all (heading.Enum sig) w = enum_named (length arguments == 0)
  sight_named arguments all (heading.Function sig) w = tt
  sight_named arguments all (heading.Constant ty) w = tt
  sight_named arguments all heading.Absent w = tt

  pub next_named : (s : Sight) → SightIn symbols s → IfSome (next_of s) (TypeIn symbols)
  next_named (sight.Alias next) here = here
  next_named sight.Bad here = tt
  next_named sight.Other here = tt

  pub given_named : (arguments : List HackType) → All (TypeIn symbols) arguments → (a : AncestorAnswer) → All (TypeIn symbols) (types_of_ancestor_answer a) → IfSome (given_in arguments a) (All (TypeIn symbols))
  given_named arguments all (ancestor.At types) w = in_put_each symbols arguments all types w
  given_named arguments all ancestor.Absent w = tt
  given_named arguments all ancestor.NotClass w = tt
  given_named arguments all (ancestor.Missing partial) w = tt
