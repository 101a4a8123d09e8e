-- What is behind `::`, in the pieces that are called.
use Rattle.std.proofs.Common.{◌≡◌, ◌∙◌, ℕ, false, List, refl, sym, ap}
use Rattle.hack_decls.specs.DeclState.{Map}
use Rattle.hack_rules.specs.Calls.{arguments_of}
use Rattle.hack_rules.specs.Classes.{referred, shown_name}
use Rattle.hack_rules.specs.Meanings.{Meaning}
use Rattle.hack_rules.specs.Members.{constant_of, member_of, method_of}
use Rattle.hack_rules.specs.Uses.{constant_walk, static_call, static_use, through}
use Rattle.hack_rules.specs.Walks.{Setting, State, ◌>>=◌, reads}
use Rattle.hack_tree.specs.declared.expression.ClassReference.{ClassReference}
use Rattle.hack_types.specs.declared.hack_type.HackType.{HackType}
use Rattle.hack_types.specs.declared.place.Place.{Place}

module _ (at : Place) (class : ClassReference) (name : ℕ) (setting : Setting) (m : Map) (here : State) where
  shown_there : (ty : HackType) → constant_walk at class name ty setting m here ≡ member_of at (constant_of (shown_name class ty setting.scope) name) ty setting m here
  unfolding constant_walk ◌>>=◌ reads
  shown_there ty = refl

  pub constant_as : (ty : HackType) (shown : ℕ) → shown ≡ shown_name class ty setting.scope
      → constant_walk at class name ty setting m here ≡ member_of at (constant_of shown name) ty setting m here
  constant_as ty shown is = shown_there ty ∙ ap (λ (s : ℕ). member_of at (constant_of s name) ty setting m here) (sym is)

  pub call_as : (arguments : List Meaning) → static_call at class name arguments setting m here
      ≡ (referred at class >>= (λ ty. arguments_of arguments >>= (λ given. through (member_of at (method_of at (static_use class setting.scope) false name given)) ty))) setting m here
  unfolding static_call ◌>>=◌ reads
  call_as arguments = refl
