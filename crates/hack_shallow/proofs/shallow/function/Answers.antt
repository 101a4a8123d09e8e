use Rattle.std.proofs.Common.{◌≡◌, ◌∙◌, ap}
use Rattle.hack_types.specs.declared.hack_type.HackType.TheVariants.{Any}
use Rattle.hack_types.specs.declared.shallow.Shallow.TheVariants.{Function}
use Rattle.hack_shallow.specs.Scope.{names_of}
use Rattle.hack_shallow.specs.Signatures.{signature}
use Rattle.hack_shallow.proofs.shallow.function.Goals as goal

pub returns : goal.returns
returns c =
    let own : c.in_ok-function.function ≡ names_of c.args.callable.now.type_parameters = c.in_ok-function.ensures ∙ ap names_of c.as_slice.ensures in
    ap Function (c.in_ok-signature.ensures ∙ (λ i. signature (record { class = c.in_ok-none.ensures i; function = own i }) Any c.args.callable.now))
