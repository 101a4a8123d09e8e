use Rattle.std.proofs.Common.{refl}
use Rattle.hack_infer.specs.WithoutNull.{without_null}
use Rattle.hack_rules.specs.Chains.{short_row}
use Rattle.hack_rules.specs.Expressions.{meaning_of}
use Rattle.hack_rules.specs.Targets.{coalesced}
use Rattle.hack_rules.specs.Variables.{union_of_two}
use Rattle.hack_rules.specs.Walks.{◌>>=◌}
use Rattle.hack_types.specs.declared.hack_type.HackType.{HackType}
use Rattle.hack_decls.specs.Names.{TypeIn}
use Rattle.hack_parts.specs.ExprIn.{ExprIn}
use Rattle.hack_walk.specs.WalkLaws.{walks_reads, walks_then}
use Rattle.hack_parts.specs.PartLaws.{value_walks}
use Rattle.hack_chains.proofs.choice.short.Goals as goal

pub returns : goal.returns
unfolding short_row coalesced
returns g c =
    walks_then {NamesB = λ symbols. ExprIn c.args.setting.now.scope.now symbols c.args.other.now × TypeIn symbols c.in_ok-first.first} (λ (first : HackType). (meaning_of c.args.other.now).walk >>= coalesced first) c.coalesced.result (value_walks c.requires.c refl c.in_ok-first.ensures)
    (walks_reads (λ (second : HackType) map scope. union_of_two (without_null map c.in_ok-first.first) second) c.coalesced.result (value_walks c.requires.other refl c.in_ok-second.ensures)
    c.coalesced.ensures (λ symbols n. n.0) (λ symbols around n t. (n.1, t)) (λ symbols b n t h. h))
    (λ symbols n. n.0) (λ symbols n t. (n.1, t)) (λ symbols b n t h. h)
