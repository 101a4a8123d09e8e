-- The rows of `new` without type arguments in the pieces that its functions are.
use Rattle.std.proofs.Common.{◌≡◌, ◌∙◌, ◌⊎◌, inl, inr, ℕ, zero, suc, Bool, Option, Some, None, List, [], ◌∷◌, length, map, take, All, IsTrue, refl, ap, arith}
use Rattle.std.proofs.lemmas.List.Elements.{All-cons, All-head, All-tail}
use Rattle.hack_types.specs.Substituted.{limited}
use Rattle.hack_types.specs.declared.hack_type.HackType.{HackType}
use Rattle.hack_types.specs.declared.hack_type.HackType.TheVariants.{Any}
use Rattle.hack_types.specs.declared.place.Place.{Place}
use Rattle.hack_types.specs.declared.shallow.Member.{Member}
use Rattle.hack_types.specs.declared.shallow.MemberKind.{MemberKind}
use Rattle.hack_types.specs.declared.shallow.MemberKind.TheVariants as kinds
use Rattle.hack_types.specs.declared.signature.Signature.{Signature}
use Rattle.hack_types.specs.declared.signature.TypeParam.{TypeParam}
use Rattle.hack_shallow.specs.Members.{construct}
use Rattle.hack_decls.specs.DeclState.{Map, Symbols}
use Rattle.hack_decls.specs.Names.{TypeIn, class_symbol}
use Rattle.hack_decls.specs.Picks.{is_member, member_or}
use Rattle.hack_decls.specs.declared.answers.MemberTag.TheVariants as tag
use Rattle.hack_decls.specs.declared.folded.Folded.{Folded}
use Rattle.hack_decls.specs.declared.folded.Folded.TheVariants as folded
use Rattle.hack_rules.specs.Calls.{solved_types}
use Rattle.hack_rules.specs.Classes.{class_by}
use Rattle.hack_rules.specs.News.{class_of_solved, constructor_by, constructor_of, is_partial_class, lifted_signature, partial_by, solved_by, solved_class, solved_kind, solved_or, without_constructor}
use Rattle.hack_rules.specs.Walks.{Setting, State, Walk, ◌>>=◌, ◌>>◌, pure, reads}
use Rattle.hack_rules.specs.WrittenTypes.{Argument}
use Rattle.hack_sub.specs.NamesOf.{of_class}
use Rattle.hack_sub.specs.NamesPut.{of_any}
use Rattle.hack_calls.specs.CallLaws.{call_is_solved}
use Rattle.std.specs.List.{find}
use Rattle.hack_new.specs.inside.Rows.{constructor_in, found_by, without}
use Rattle.hack_new.specs.inside.Solving.{call_as, class_of_any, made_as, made_by, made_for, made_without, solved_row, with_constructor}

module _ (at : Place) (name : ℕ) (params : List TypeParam) (given : List Argument) where
  -- with a constructor or without
  abbrev by_own : Option Member → Bool → Walk HackType
  by_own None partial = made_without at name params given partial
  by_own (Some own) partial = with_constructor at name params given own

  of_found : (own : Option Member) (partial : Bool) → by_own own partial ≡ made_for at name params given (found_by (member_or partial own))
  of_found None partial = refl
  of_found (Some own) partial = refl

  of_entry : (entry : Option Folded) → by_own (constructor_by (class_by entry)) (partial_by (class_by entry)) ≡ made_for at name params given (constructor_in entry)
  of_entry None = refl
  of_entry (Some (folded.ClassLike class)) = of_found (find (is_member tag.Method construct) class.members) class.partial
  of_entry (Some (folded.Enum sig)) = refl
  of_entry (Some (folded.Alias sig)) = refl
  of_entry (Some (folded.Function sig)) = refl
  of_entry (Some (folded.Constant ty)) = refl

  module _ (setting : Setting) (m : Map) (s : State) where
    of_own : (own : Option Member) → solved_or at name params given own setting m s ≡ by_own own (is_partial_class m name) setting m s
    unfolding without_constructor made_without without with_constructor ◌>>=◌ ◌>>◌ reads
    of_own None = refl
    of_own (Some own) = refl

    -- one look-up says which constructor there is, and else whether the class is partial
    pub row_law : solved_class at name params given setting m s ≡ solved_row at name params given setting m s
    unfolding solved_class solved_row ◌>>=◌ reads
    row_law = of_own (constructor_of m name) ∙ ap (λ (walk : Walk HackType). walk setting m s) (of_entry (m (class_symbol name)))

    -- a constructor is a method
    pub other_law : (kind : MemberKind) → ((ty : HackType) × (kind ≡ kinds.Constant ty)) ⊎ ((ty : HackType) × (kind ≡ kinds.Property ty))
        → solved_kind at name params given kind setting m s ≡ (Any, s)
    unfolding pure
    other_law kind (inl is) = ap (λ (k : MemberKind). solved_kind at name params given k setting m s) is.1
    other_law kind (inr is) = ap (λ (k : MemberKind). solved_kind at name params given k setting m s) is.1

    -- the types are solved once, and the call goes on with them
    pub solved_law : (signature : Signature) → solved_by at name params given signature setting m s ≡ made_by at name params given (lifted_signature params signature) setting m s
    unfolding solved_by made_by made_as call_as solved_types ◌>>=◌ ◌>>◌ pure reads
    solved_law signature =
        let sig = lifted_signature params signature in
        let solved = (solved_types sig given setting m s).0 in
        ap (λ (end : HackType × State). (limited (class_of_solved name params solved), end.1))
        (call_is_solved at (record { signature = sig; class = None; this = λ types. Some (class_of_solved name params types) }) given setting m s)

-- ---- what the class names

module _ (symbols : Symbols) where
  in_first : (n : ℕ) (types : List HackType) → All (TypeIn symbols) types → All (TypeIn symbols) (take n types)
  in_first zero types all = λ k d lt. absurd (omega (arith, lt))
  in_first (suc n) [] all = λ k d lt. absurd (omega (arith, lt))
  in_first (suc n) (t ∷ ts) all = All-cons (TypeIn symbols) t (take n ts) (All-head (TypeIn symbols) t ts all) (in_first n ts (All-tail (TypeIn symbols) t ts all))

  in_any : (params : List TypeParam) → All (TypeIn symbols) (map (λ param. Any) params)
  in_any [] = λ k d lt. absurd (omega (arith, lt))
  in_any (p ∷ params) = All-cons (TypeIn symbols) Any (map (λ param. Any) params) (of_any symbols) (in_any params)

  pub in_class_of_solved : (name : ℕ) (params : List TypeParam) (solved : List HackType) → IsTrue (symbols (class_symbol name)) → All (TypeIn symbols) solved
      → TypeIn symbols (class_of_solved name params solved)
  in_class_of_solved name params solved here all = of_class symbols name (take (length params) solved) here (in_first (length params) solved all)

  pub in_class_of_any : (name : ℕ) (params : List TypeParam) → IsTrue (symbols (class_symbol name)) → TypeIn symbols (class_of_any name params)
  in_class_of_any name params here = of_class symbols name (map (λ param. Any) params) here (in_any params)
