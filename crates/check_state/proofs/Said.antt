-- What diagnostics say by ids and types, and by texts.
use Rattle.std.proofs.Common.{◌≡◌, ℕ, List, [], Result, IfOk, sym, ap, subst, ◌∙◌}
use Rattle.std.proofs.lemmas.Option.{unwrap_or-slice_get}
use Rattle.hack_codes.specs.declared.code.Code.TheVariants as code
use Rattle.hack_types.specs.declared.diag.Diag.{Diag}
use Rattle.hack_types.specs.declared.hack_type.HackType.{HackType}
use Rattle.hack_types.specs.declared.hack_type.HackType.TheOpen.{HackType-F}
use Rattle.hack_types.specs.declared.hack_type.HackType.TheFolds.{fold-roll-HackType}
use Rattle.hack_types.specs.declared.hack_type.HackType.TheVariants.{rolls-Int, rolls-Str}
use Rattle.hack_types.specs.declared.no_memory.NoMemory.{NoMemory}
use Rattle.hack_types.specs.declared.place.Place.{Place}
use Rattle.hack_types.specs.TypeText.{name_text, text_by, type_text}
use Rattle.hack_diag.specs.Messages as message
use Rattle.hack_diag.specs.Messages.{diag, diag_of}
use Rattle.hack_diag.specs.Texts as text
use Rattle.hack_first.specs.Functions as first
use Rattle.hack_first.specs.Functions.{named}
use Rattle.hack_first.specs.declared.unit.Primitive.{Primitive}
use Rattle.hack_first.specs.declared.unit.Primitive.TheVariants.{Int, Str}
use Rattle.check_state.specs.Inside.{type_of}

named_is : (names : List (List ℕ)) (id : ℕ) → name_text names id ≡ named names id
named_is names id = unwrap_or-slice_get names id []

type_is : (names : List (List ℕ)) (primitive : Primitive) → type_text names (type_of primitive) ≡ first.type_text primitive
type_is names Int = ap (type_text names) (sym rolls-Int) ∙ fold-roll-HackType (List ℕ) (text_by names) HackType-F.Int
type_is names Str = ap (type_text names) (sym rolls-Str) ∙ fold-roll-HackType (List ℕ) (text_by names) HackType-F.Str

module _ (names : List (List ℕ)) (at : Place) (result : Result Diag NoMemory) where
  pub taken_said : (id : ℕ) → IfOk result (λ d. d ≡ diag_of names at (message.name_taken id))
      → IfOk result (λ d. d ≡ diag at code.NameTaken (text.name_taken (named names id)))
  taken_said id = subst (λ name. IfOk result (λ d. d ≡ diag at code.NameTaken (text.name_taken name))) (named_is names id)

  pub unbound_said : (id : ℕ) → IfOk result (λ d. d ≡ diag_of names at (message.unbound_function id))
      → IfOk result (λ d. d ≡ diag at code.UnboundFunction (text.unbound_function (named names id)))
  unbound_said id = subst (λ name. IfOk result (λ d. d ≡ diag at code.UnboundFunction (text.unbound_function name))) (named_is names id)

  pub mismatch_said : (wanted found : Primitive) (S T : HackType) → S ≡ type_of wanted → T ≡ type_of found
      → IfOk result (λ d. d ≡ diag_of names at (message.expected S T))
      → IfOk result (λ d. d ≡ diag at code.Expected (text.expected (first.type_text wanted) (first.type_text found)))
  mismatch_said wanted found S T first_is second_is said =
      let one : type_text names S ≡ first.type_text wanted = ap (type_text names) first_is ∙ type_is names wanted in
      let two : type_text names T ≡ first.type_text found = ap (type_text names) second_is ∙ type_is names found in
      subst (λ (texts : List ℕ × List ℕ). IfOk result (λ d. d ≡ diag at code.Expected (text.expected texts.0 texts.1))) (λ i. (one i, two i)) said
