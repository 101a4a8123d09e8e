use Rattle.std.proofs.Common.{◌||◌, ◌∙◌, true, sym, ap}
use Rattle.hack_sub.specs.IsBelow.{by_known, is_below, is_looked, some_way}
use Rattle.hack_sub.proofs.Tells.{answered, told}
use Rattle.hack_sub.proofs.sub.by_known.Goals as goal

pub returns-then-is_looked : goal.returns-then-is_looked
returns-then-is_looked g c = let S = c.args.lower.now in let T = c.args.upper.now in
    answered _ true (λ map. by_known map c.args.level.now.scope.now c.args.lower_is c.args.upper_is (is_below map c.args.level.now.scope.now c.args.level.now.height) S T)
    (λ map. ap (λ b. b || some_way map c.args.level.now.scope.now c.args.lower_is c.args.upper_is (is_below map c.args.level.now.scope.now c.args.level.now.height) S T)
    (sym c.if-is_looked.true ∙ c.is_looked.ensures ∙ ap (is_looked c.args.lower_is c.args.upper_is) c.top_of.ensures))

pub returns : goal.returns
returns g c = let S = c.args.lower.now in let T = c.args.upper.now in
    told (λ map. by_known map c.args.level.now.scope.now c.args.lower_is c.args.upper_is (is_below map c.args.level.now.scope.now c.args.level.now.height) S T) c.by_some_way.result c.by_some_way.ensures
    (λ map. ap (λ b. b || some_way map c.args.level.now.scope.now c.args.lower_is c.args.upper_is (is_below map c.args.level.now.scope.now c.args.level.now.height) S T)
    (sym c.if-is_looked.false ∙ c.is_looked.ensures ∙ ap (is_looked c.args.lower_is c.args.upper_is) c.top_of.ensures))
    (λ symbols n. n)
