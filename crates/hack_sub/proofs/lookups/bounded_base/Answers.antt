use Rattle.std.proofs.Common.{◌≡◌, ◌∙◌, ℕ, length, ap}
use Rattle.std.specs.Option.{option_and_then}
use Rattle.hack_decls.specs.Names.{class_symbol}
use Rattle.hack_sub.specs.NamesOf.{in_class}
use Rattle.hack_sub.proofs.Tells.{restated}
use Rattle.hack_sub.specs.IsBelow.{bound_of}
use Rattle.hack_sub.specs.Knowing.{enum_by}
use Rattle.hack_sub.specs.Parts.{arguments_of}
use Rattle.hack_sub.proofs.lookups.bounded_base.Goals as goal

pub returns-in-Some : goal.returns-in-Some
returns-in-Some g c =
    let T = c.args.ty.now in
    let us : c.arguments_of.result.now ≡ arguments_of T = c.arguments_of.ensures in
    restated c.base_by.result c.base_by.ensures
    (λ m a e. e ∙ ap (λ (k : ℕ). option_and_then bound_of (enum_by k (m (class_symbol c.in-Some.name)))) (ap (λ xs. length xs) us)
    ∙ ap (λ o. option_and_then bound_of (option_and_then (λ name. enum_by (length (arguments_of T)) (m (class_symbol name))) o)) c.in-Some.ensures)
    (λ symbols n. (in_class symbols T c.in-Some.name c.in-Some.ensures n).0)
    (λ symbols a n given. given)
