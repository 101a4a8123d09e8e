use Rattle.std.proofs.Common.{Ok, IfSome}
use Rattle.hack_decls.specs.Names.{TypeIn}
use Rattle.hack_rules.specs.Classes.{allowed_by, word_type}
use Rattle.hack_rules.specs.Walks.{pure}
use Rattle.hack_walk.specs.Checks.{setting_of}
use Rattle.hack_walk.specs.WalkLaws.{of_step, reads_walks, step_pure, step_step, walks_as}
use Rattle.hack_calls.proofs.Mentioning.{allowed_law}
use Rattle.hack_calls.proofs.mentions.by_word.Goals as goal

pub returns : goal.returns
returns g c =
    let at = c.args.at in let word = c.args.word.now in let s = c.args.state.now in let ty = c.in_ok-ty.ty in
    reads_walks {NamesB = λ symbols. IfSome ty (TypeIn symbols)} (word_type word) (allowed_by at word) (Ok ty) c.in_ok-ty.ensures
    (walks_as (allowed_by at word ty) (Ok ty)
    (of_step _ (step_step {GivesB = λ symbols o. IfSome o (TypeIn symbols)} (λ done. pure ty) c.in_ok-expect_allowed.ensures (step_pure c.expect_allowed.new.state ty (λ symbols n. n.0)) (λ symbols n. tt) (λ symbols n g h. h)))
    (λ map. allowed_law at word (setting_of c.args.setting.now) map s ty))
    (λ symbols around n. around) (λ symbols n g. g) (λ symbols b n g h. h)
