use Rattle.std.proofs.Common.{◌&&◌, ◌||◌, ◌∙◌, true, false, sym, ap}
use Rattle.hack_types.specs.SameType.{same_type}
use Rattle.hack_sub.specs.IsBelow.{by_known, by_rules, is_below, is_plain}
use Rattle.hack_sub.specs.Knowing.{known}
use Rattle.hack_sub.specs.Parts.{top_of}
use Rattle.hack_sub.proofs.Tells.{answered, told}
use Rattle.hack_sub.proofs.sub.by_rules.Goals as goal

pub returns-then-not-are_small : goal.returns-then-not-are_small
returns-then-not-are_small g c = let S = c.args.lower.now in let T = c.args.upper.now in
    answered _ false (λ map. by_rules map c.args.level.now.scope.now (is_below map c.args.level.now.scope.now c.args.level.now.height) S T)
    (λ map. ap (λ b. b && ((same_type S T || is_plain (top_of S) (top_of T)) || by_known map c.args.level.now.scope.now (known map S) (known map T) (is_below map c.args.level.now.scope.now c.args.level.now.height) S T))
    (sym c.if-not-are_small.true ∙ c.are_small.ensures))

pub returns-then-is_told : goal.returns-then-is_told
returns-then-is_told g c = let S = c.args.lower.now in let T = c.args.upper.now in
    let told_is = same_type S T || is_plain (top_of S) (top_of T) in
    answered _ true (λ map. by_rules map c.args.level.now.scope.now (is_below map c.args.level.now.scope.now c.args.level.now.height) S T)
    (λ map. ap (λ b. b || by_known map c.args.level.now.scope.now (known map S) (known map T) (is_below map c.args.level.now.scope.now c.args.level.now.height) S T) (sym c.if-is_told.true ∙ c.is_told.ensures)
    ∙ ap (λ b. b && (told_is || by_known map c.args.level.now.scope.now (known map S) (known map T) (is_below map c.args.level.now.scope.now c.args.level.now.height) S T)) (sym c.if-not-are_small.false ∙ c.are_small.ensures))

pub returns : goal.returns
returns g c = let S = c.args.lower.now in let T = c.args.upper.now in
    let told_is = same_type S T || is_plain (top_of S) (top_of T) in
    told (λ map. by_rules map c.args.level.now.scope.now (is_below map c.args.level.now.scope.now c.args.level.now.height) S T) c.by_lower.result c.by_lower.ensures
    (λ map. ap (λ b. b || by_known map c.args.level.now.scope.now (known map S) (known map T) (is_below map c.args.level.now.scope.now c.args.level.now.height) S T) (sym c.if-is_told.false ∙ c.is_told.ensures)
    ∙ ap (λ b. b && (told_is || by_known map c.args.level.now.scope.now (known map S) (known map T) (is_below map c.args.level.now.scope.now c.args.level.now.height) S T)) (sym c.if-not-are_small.false ∙ c.are_small.ensures))
    (λ symbols n. n)
