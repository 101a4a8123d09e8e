use Rattle.std.proofs.Common.{◌≡◌, ◌∙◌, Ok}
use Rattle.std.proofs.lemmas.Result.{err_from_is_err_and}
use Rattle.hack_decls.specs.AskLaws.{said, then}
use Rattle.hack_rules.specs.Meanings.{Branches}
use Rattle.hack_rules.specs.Refining.{where_is, where_is_not}
use Rattle.hack_rules.specs.Variables.{Variables, refined}
use Rattle.hack_walk.specs.Checks.{VariablesIn}
use Rattle.hack_walk.specs.WalkLaws.{asked_refused}
use Rattle.hack_walk.specs.inside.Calls.{TestIn, branches_with}
use Rattle.hack_walk.proofs.Subjects.{both_in, branches_are}
use Rattle.hack_walk.proofs.branches.both.Goals as goal

pub returns : goal.returns
returns g c =
    let scope = c.args.scope.now in let here = c.args.here.now in let subject = c.args.subject in let T = c.args.tested.now in
    let holding = c.in_ok-when_true.when_true in let other = c.in_ok-when_false.when_false in
    let made = c.new.result in
    said {MeansB = λ m (b : Branches). b ≡ branches_with (refined here subject (where_is m scope T)) (refined here subject (where_is_not m scope T))} made
    (then {MeansC = λ m (v : Variables). (holding ≡ refined here subject (where_is m scope T)) × (v ≡ refined here subject (where_is_not m scope T))}
    {NamesC = λ symbols. TestIn symbols scope here T} {GivesC = λ symbols (v : Variables). VariablesIn symbols holding × VariablesIn symbols v}
    (Ok other) c.in_ok-when_true.ensures c.in_ok-when_false.ensures
    (λ m v one two. (one, two)) (λ symbols n. n) (λ symbols n one. n) (λ symbols v n one two. (one, two)))
    (λ m is. branches_are made _ _ (c.new.ensures.when_true ∙ is.0) (c.new.ensures.when_false ∙ is.1)) (λ symbols n. n)
    (λ symbols n both. both_in symbols made holding other c.new.ensures.when_true c.new.ensures.when_false both.0 both.1)

pub returns-in_err-when_false : goal.returns-in_err-when_false
returns-in_err-when_false g c =
    let p = err_from_is_err_and c.from_residual-in_err-when_false.result c.from_residual-in_err-when_false.ensures.1 in
    rw (p.1, p.2) (asked_refused c.in_ok-when_true.ensures c.in_err-when_false.ensures (λ symbols n one. n))
