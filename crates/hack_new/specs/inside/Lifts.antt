-- What the parts of a lifted signature are.
use Rattle.std.specs.Prelude.{ℕ}
use Rattle.hack_types.specs.declared.signature.Param.{Param}
use Rattle.hack_rules.specs.Lifting.{lifted}

-- a parameter with its type lifted
abbrev pub lifted_one : ℕ → Param → Param
lifted_one count param = record { ty = lifted count param.ty; optional = param.optional }
