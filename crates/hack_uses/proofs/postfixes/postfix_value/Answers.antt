use Rattle.std.proofs.Common.{sym}
use Rattle.hack_parts.specs.Parts.{walk_by}
use Rattle.hack_rules.specs.Expressions.{meaning_of}
use Rattle.hack_rules.specs.Targets.{read}
use Rattle.hack_walk.specs.Checks.{setting_of}
use Rattle.hack_walk.specs.WalkLaws.{walks_as, walks_then}
use Rattle.hack_uses.specs.Aims.{behind}
use Rattle.hack_uses.specs.inside.Steps.{is_left}
use Rattle.hack_uses.proofs.Behind.{read_as}
use Rattle.hack_uses.proofs.Readable.{behind_readable, readable}
use Rattle.hack_uses.proofs.postfixes.postfix_value.Goals as goal

pub returns : goal.returns
returns g c =
    let m = behind (meaning_of c.args.operand.now) c.args.suffixes.now in
    walks_as (walk_by c.args.reading m) c.into_value.result
    (walks_then (λ aim. read (is_left c.args.reading) aim) c.into_value.result c.in_ok-whole.ensures (rw (sym c.is_left.ensures) c.into_value.ensures) (λ symbols n. n) (λ symbols n aim. aim) (λ symbols b n aim h. h))
    (λ map. read_as c.args.reading m (behind_readable _ c.args.suffixes.now (readable c.args.operand.now)) (setting_of c.args.setting.now) map c.args.state.now)
