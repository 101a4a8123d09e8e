use Rattle.std.proofs.Common.{◌∙◌, refl}
use Rattle.hack_types.specs.declared.hack_type.HackType.{HackType}
use Rattle.hack_decls.specs.DeclState.{Symbols}
use Rattle.hack_decls.specs.Names.{TypeIn}
use Rattle.hack_rules.specs.Expressions.{meaning_of}
use Rattle.hack_rules.specs.Variables.{Variables}
use Rattle.hack_rules.specs.Walks.{◌>>=◌, ◌>>◌, replace, variables}
use Rattle.hack_walk.specs.Checks.{BranchesIn}
use Rattle.hack_walk.specs.WalkLaws.{walks_then, weaker}
use Rattle.hack_parts.specs.ExprIn.{ExprIn}
use Rattle.hack_parts.specs.PartLaws.{value_walks}
use Rattle.hack_chains.specs.inside.Rest.{other_on, parts_on}
use Rattle.hack_chains.proofs.Turning.{exchanged, replaced}
use Rattle.hack_chains.proofs.choice.parts_on.Goals as goal

pub returns : goal.returns
unfolding parts_on
returns g c =
    let branches = c.args.branches in let middle = meaning_of c.args.middle.now in let other = meaning_of c.args.other.now in let first = c.in_ok-first.first in
    let both : Symbols → Type 0 = λ symbols. BranchesIn symbols branches × ExprIn c.args.setting.now.scope.now symbols c.args.middle.now × ExprIn c.args.setting.now.scope.now symbols c.args.other.now in
    replaced (middle.walk >>= (λ (ty : HackType). variables >>= (λ (all : Variables). replace branches.when_false >> other_on other all ty))) c.other_on.result
    c.args.state.now c.replace.new.self branches.when_true (c.replace.ensures.variables ∙ c.into_parts-when_true.ensures.when_true) c.replace.ensures.found
    (walks_then {NamesB = λ symbols. both symbols × TypeIn symbols first}
    (λ (ty : HackType). variables >>= (λ (all : Variables). replace branches.when_false >> other_on other all ty)) c.other_on.result (value_walks c.requires.middle refl c.in_ok-first.ensures)
    (exchanged (λ (all : Variables). other_on other all first) c.other_on.result _ c.exchange-behind.new.state c.exchange-behind.result branches.when_false c.exchange-behind.ensures.taken
    (c.exchange-behind.ensures.variables ∙ c.into_parts-when_true.ensures.when_false) c.exchange-behind.ensures.found
    (weaker c.other_on.result c.other_on.ensures (λ symbols n. (n.0.0.2, n.1, n.0.1)) (λ symbols b n t. t))
    (λ symbols n. n.0.0.when_false))
    (λ symbols n. n.1) (λ symbols n t. (n, t)) (λ symbols b n t h. h))
    (λ symbols n. n.0.when_true)
