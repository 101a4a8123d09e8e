use Rattle.std.proofs.Common.{◌≡◌, ◌∙◌, Some, None, sym, refl}
use Rattle.hack_rules.specs.Walks.{◌>>=◌, pure}
use Rattle.hack_written.specs.inside.Rows.{expect_declared, names_in, parameter_of, setting_in, types_in}
use Rattle.hack_written.proofs.ParameterNames.{in_declared, in_parameter, no_parameter, some_parameter}
use Rattle.hack_written.proofs.Walking.{walked, walks_as}
use Rattle.hack_written.proofs.parts.named.Goals as goal

pub returns-in-Some : goal.returns-in-Some
unfolding ◌>>=◌ pure
returns-in-Some g c =
    let around = c.args.around.now in let names = names_in around in let class = c.args.class.now in
    let s = c.args.state.now in let p = c.in-Some.parameter in
    let is : Some p ≡ parameter_of names class.name = sym c.in-Some.is ∙ c.parameter.ensures in
    walked _ _ s s p
    (λ m. some_parameter names class.name p (types_in names class.arguments) (expect_declared names around.bounds class c.args.traits) (setting_in around) m s is)
    refl (λ symbols n. in_parameter symbols names class.name p is)

pub returns-in-None : goal.returns-in-None
unfolding ◌>>=◌ pure
returns-in-None g c =
    let around = c.args.around.now in let names = names_in around in let class = c.args.class.now in
    let s = c.args.state.now in
    let is : None ≡ parameter_of names class.name = sym c.in-None.is ∙ c.parameter.ensures in
    walks_as _ c.declared_type.result c.declared_type.ensures
    (λ m. no_parameter names class.name (types_in names class.arguments) (expect_declared names around.bounds class c.args.traits) (setting_in around) m s is)
    (λ symbols n. (in_declared symbols names class.name is n.0, n.1)) (λ symbols a n w. w)
