-- Calls: what arguments are measured against, and what a call gives (docs/language.md, Typing expressions, Calls).
use Rattle.std.specs.Prelude.{ℕ, suc, nat_le, ◌&&◌, if◌then◌else◌, Option, Some, List, [], ◌∷◌, length, map, max}
use Rattle.hack_types.specs.declared.hack_type.HackType.{HackType, out-HackType}
use Rattle.hack_types.specs.declared.hack_type.HackType.TheOpen.{HackType-F}
use Rattle.hack_types.specs.declared.hack_type.HackType.TheVariants.{Nothing}
use Rattle.hack_types.specs.declared.place.Place.{Place}
use Rattle.hack_types.specs.declared.signature.Param.{Param}
use Rattle.hack_types.specs.declared.signature.Signature.{Signature}
use Rattle.hack_infer.specs.Filling.{Filling, filled_limited}
use Rattle.hack_infer.specs.Matching.{match_params}
use Rattle.hack_infer.specs.Solving.{solve}
use Rattle.hack_rules.specs.Meanings.{Meaning}
use Rattle.hack_diag.specs.Messages.{other_count}
use Rattle.hack_rules.specs.Walks.{Walk, ◌>>=◌, ◌>>◌, pure, reads, expect, unless, each, for_pairs}
use Rattle.hack_rules.specs.WrittenTypes.{Argument, expect_within}

-- arguments are typed first, from left to right
unfoldable pub argument : Meaning → Walk Argument
argument meaning = do
  ty ← meaning.walk
  pure (record { at = meaning.at; ty = ty })

-- the arguments, in order
unfoldable pub arguments_of : List Meaning → Walk (List Argument)
arguments_of meanings = each argument meanings

-- up to the last parameter without a default
unfoldable pub least_of : ℕ → List Param → ℕ
least_of position [] = 0
least_of position (param ∷ params) = max (if param.optional then 0 else suc position) (least_of (suc position) params)

-- 4004 where the number of arguments is outside of these
unfoldable pub expect_count : Place → ℕ → ℕ → List Argument → Walk (Unit {0})
expect_count at least most arguments =
    unless (nat_le least (length arguments) && nat_le (length arguments) most) at (other_count least most (length arguments))

-- what is called: a signature, and what stands for the class's parameters and for `this`, by the solved types
pub record Callee : Type 0 where
  pub signature : Signature
  pub class : Option (List HackType)
  pub this : List HackType → Option HackType

-- of a function parameter's types: what matching gave them
unfoldable pub solved_types : Signature → List Argument → Walk (List HackType)
solved_types signature arguments =
    reads (λ m scope. solve (match_params m (map (λ param. param.ty) signature.params) (map (λ a. a.ty) arguments) (length signature.type_params)))

-- what stands for parameters and for `this`, once the function's own are solved
abbrev pub filling_of : Callee → List HackType → Filling
filling_of callee solved = record { class = callee.class; function = Some solved; this = callee.this solved }

-- each argument expects its parameter's type, as far as both lists go
unfoldable pub expect_all : Filling → List Param → List Argument → Walk (Unit {0})
expect_all filling params arguments =
    for_pairs (λ param argument. expect argument.at (filled_limited filling param.ty) argument.ty) params arguments

-- `nothing` in the place of `noreturn`
abbrev pub ended_by : HackType → HackType-F HackType → HackType
ended_by ty HackType-F.Noreturn = Nothing
ended_by ty _ = ty

-- `noreturn` itself gives `nothing`
abbrev pub ended : HackType → HackType
ended ty = ended_by ty (out-HackType ty)

-- the number of arguments, each argument, and the bounds of each solved type; whatever these say, the result stays
unfoldable pub call_with : Place → Callee → List Argument → Walk HackType
call_with at callee arguments = do
  expect_count at (least_of 0 callee.signature.params) (length callee.signature.params) arguments
  solved ← solved_types callee.signature arguments
  expect_all (filling_of callee solved) callee.signature.params arguments
  for_pairs (λ param ty. expect_within (filled_limited (filling_of callee solved)) at param ty) callee.signature.type_params solved
  pure (ended (filled_limited (filling_of callee solved) callee.signature.result))
