use Rattle.std.proofs.Common.{◌&&◌, is_some, ap}
use Rattle.hack_sub.proofs.Tells.{told}
use Rattle.hack_sub.specs.IsBelow.{into_keyed, is_below, some_and}
use Rattle.hack_sub.specs.Parts.{as_keyed}
use Rattle.hack_sub.proofs.containers.into_keyed.Goals as goal

pub returns-in-Some : goal.returns-in-Some
returns-in-Some g c = let S = c.args.lower.now in let T = c.args.upper.now in
    told (λ map. into_keyed (is_below map c.args.level.now.scope.now c.args.level.now.height) S T) c.keyed_below.result c.keyed_below.ensures
    (λ map. ap (λ name. is_some name && some_and (as_keyed S) (λ U. is_below map c.args.level.now.scope.now c.args.level.now.height U T)) c.in-Some.ensures) (λ symbols n. n)
