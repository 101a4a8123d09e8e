use Rattle.std.proofs.Common.{IfOk, sym, subst}
use Rattle.hack_shallow.specs.Shallow.{IsShallow, IsShallowEnum}
use Rattle.hack_shallow.proofs.shallow.shallow_of.Goals as goal

pub returns-in-Enum : goal.returns-in-Enum
returns-in-Enum c =
    subst (λ tree. IfOk c.enumeration.result (λ s. IsShallow tree s)) (sym c.in-Enum.is)
    (subst (λ cases. IfOk c.enumeration.result (λ s. IsShallowEnum c.in-Enum.base c.in-Enum.bound cases s)) c.as_slice-in-Enum.ensures c.enumeration.ensures)
