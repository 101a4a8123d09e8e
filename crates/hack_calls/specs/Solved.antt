-- A call whose type parameters are solved (docs/language.md, Typing expressions, Calls).
use Rattle.std.specs.Prelude.{Option, Some, List, length, map}
use Rattle.hack_types.specs.declared.hack_type.HackType.{HackType}
use Rattle.hack_types.specs.declared.place.Place.{Place}
use Rattle.hack_types.specs.declared.signature.Signature.{Signature}
use Rattle.hack_decls.specs.DeclState.{Map}
use Rattle.hack_infer.specs.Filling.{Filling, filled_limited}
use Rattle.hack_infer.specs.Matching.{match_params}
use Rattle.hack_infer.specs.Solving.{solve}
use Rattle.hack_rules.specs.Calls.{ended, expect_all, expect_count, least_of}
use Rattle.hack_rules.specs.Walks.{Walk, ◌>>◌, for_pairs, pure}
use Rattle.hack_rules.specs.WrittenTypes.{Argument, expect_within}

-- what the parameters of a signature become with these arguments
abbrev pub solved_of : Map → Signature → List Argument → List HackType
solved_of m signature given =
    solve (match_params m (map (λ param. param.ty) signature.params) (map (λ a. a.ty) given) (length signature.type_params))

-- the number of arguments, each argument, the bounds of each solved type, and the result, all with the same put in
unfoldable pub call_filled : Place → Signature → Filling → List HackType → List Argument → Walk HackType
call_filled at signature filling solved given = do
  expect_count at (least_of 0 signature.params) (length signature.params) given
  expect_all filling signature.params given
  for_pairs (λ param ty. expect_within (filled_limited filling) at param ty) signature.type_params solved
  pure (ended (filled_limited filling signature.result))

-- what stands for the class's parameters, the solved types, and what stands for `this`
abbrev pub solved_filling : Option (List HackType) → Option HackType → List HackType → Filling
solved_filling class own solved = record { class = class; function = Some solved; this = own }

-- a call once the function's own parameters are solved
abbrev pub call_solved : Place → Signature → Option (List HackType) → Option HackType → List HackType → List Argument → Walk HackType
call_solved at signature class own solved given = call_filled at signature (solved_filling class own solved) solved given
