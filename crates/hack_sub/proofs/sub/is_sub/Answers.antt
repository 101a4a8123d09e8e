use Rattle.std.proofs.Common.{◌∙◌, sym}
use Rattle.hack_sub.proofs.Decided.{decided}
use Rattle.hack_sub.proofs.Tells.{restated}
use Rattle.hack_sub.proofs.Trees.{sub_of, tree_of}
use Rattle.hack_sub.specs.Sub.{most_height}
use Rattle.hack_sub.proofs.sub.is_sub.Goals as goal

pub returns : goal.returns
returns g c =
    let scope = c.args.scope.now in let S = c.args.lower.now in let T = c.args.upper.now in
    restated c.related.result c.related.ensures
    (λ map b e. (λ t. tree_of map scope most_height S T ((decided map scope most_height S T).0 (sym e ∙ t)), λ d. e ∙ (decided map scope most_height S T).1 (sub_of map scope d)))
    (λ symbols n. n) (λ symbols b n w. tt)
