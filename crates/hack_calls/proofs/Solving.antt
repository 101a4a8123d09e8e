-- What parameters of a call become.
use Rattle.std.proofs.Common.{◌≡◌, ℕ, List, [], length, map, ap}
use Rattle.hack_types.specs.declared.hack_type.HackType.{HackType}
use Rattle.hack_types.specs.declared.signature.Param.{Param}
use Rattle.hack_types.specs.declared.signature.Signature.{Signature}
use Rattle.hack_decls.specs.DeclState.{Map}
use Rattle.hack_infer.specs.Matching.{match_params}
use Rattle.hack_infer.specs.Solving.{solve}
use Rattle.hack_rules.specs.WrittenTypes.{Argument}
use Rattle.hack_calls.specs.Solved.{solved_of}

module _ (m : Map) (signature : Signature) (given : List Argument) where
  abbrev types_wanted : List HackType
  types_wanted = map (λ (param : Param). param.ty) signature.params

  abbrev types_given : List HackType
  types_given = map (λ (a : Argument). a.ty) given

  -- without parameters there is nothing to solve
  pub none_solved : length signature.type_params ≡ 0 → solved_of m signature given ≡ []
  none_solved is = ap (λ (count : ℕ). solve (match_params m types_wanted types_given count)) is

  pub same_solved : (wanted found : List HackType) (count : ℕ) → wanted ≡ types_wanted → found ≡ types_given → count ≡ length signature.type_params
      → solve (match_params m wanted found count) ≡ solved_of m signature given
  same_solved wanted found count w f n = λ i. solve (match_params m (w i) (f i) (n i))
