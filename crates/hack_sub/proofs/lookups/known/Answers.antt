use Rattle.std.proofs.Common.{◌≡◌, ◌∙◌, ℕ, length, ap}
use Rattle.hack_decls.specs.Names.{class_symbol}
use Rattle.hack_sub.specs.NamesOf.{in_class}
use Rattle.hack_sub.proofs.Tells.{restated}
use Rattle.hack_sub.specs.Knowing.{known_as, known_by}
use Rattle.hack_sub.specs.Parts.{arguments_of}
use Rattle.hack_sub.proofs.lookups.known.Goals as goal

pub returns-in-Some : goal.returns-in-Some
returns-in-Some g c =
    let T = c.args.ty.now in
    let us : c.arguments_of.result.now ≡ arguments_of T = c.arguments_of.ensures in
    restated c.known_by.result c.known_by.ensures
    (λ m a e. e ∙ ap (λ (k : ℕ). known_by k (m (class_symbol c.in-Some.name))) (ap (λ xs. length xs) us)
    ∙ ap (λ o. known_as m (length (arguments_of T)) o) c.in-Some.ensures)
    (λ symbols n. (in_class symbols T c.in-Some.name c.in-Some.ensures n).0)
    (λ symbols a n given. tt)
