use Rattle.std.proofs.Common.{Ok}
use Rattle.hack_rules.specs.Members.{through_null}
use Rattle.hack_rules.specs.Walks.{pure}
use Rattle.hack_sub.specs.NamesPut.{in_option_of, of_any}
use Rattle.hack_types.specs.OptionOf.{option_of}
use Rattle.hack_types.specs.Substituted.{limited}
use Rattle.hack_decls.specs.Names.{TypeIn}
use Rattle.hack_types.specs.declared.hack_type.HackType.{HackType}
use Rattle.hack_types.specs.declared.hack_type.HackType.TheVariants.{Any}
use Rattle.hack_walk.specs.Checks.{setting_of}
use Rattle.hack_walk.specs.NamesKept.{in_limited}
use Rattle.hack_walk.specs.WalkLaws.{step_pure, step_step}
use Rattle.hack_members.proofs.Nulls.{null_safe_law, null_law}
use Rattle.hack_members.proofs.Stepping.{steps_as}
use Rattle.hack_members.proofs.heads.of_null.Goals as goal

pub returns-then-null_safe : goal.returns-then-null_safe
returns-then-null_safe c =
    rw c.in_ok-option_in_limits.ensures (steps_as (through_null c.args.at c.args.null_safe (pure Any)) (Ok (limited (option_of Any)))
    (step_pure c.args.state.now (limited (option_of Any)) (λ symbols n. in_limited symbols (option_of Any) (in_option_of symbols Any (of_any symbols))))
    (λ m. null_safe_law c.args.at c.args.null_safe (setting_of c.args.setting.now) m c.args.state.now c.if-null_safe.true))

pub returns : goal.returns
returns c =
    steps_as (through_null c.args.at c.args.null_safe (pure Any)) (Ok Any)
    (step_step {GivesB = λ symbols (ty : HackType). TypeIn symbols ty} (λ _. pure Any) c.in_ok-report_null.ensures (step_pure _ Any (λ symbols n. of_any symbols)) (λ symbols n. n) (λ symbols n g h. h))
    (λ m. null_law c.args.at c.args.null_safe (setting_of c.args.setting.now) m c.args.state.now c.if-null_safe.false)
