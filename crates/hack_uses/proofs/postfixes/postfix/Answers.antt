use Rattle.hack_rules.specs.Expressions.{meaning_of}
use Rattle.hack_uses.proofs.Behind.{aim_behind}
use Rattle.hack_uses.proofs.postfixes.postfix.Goals as goal

pub returns-then-suffixes-gt0 : goal.returns-then-suffixes-gt0
returns-then-suffixes-gt0 g c =
    rw (aim_behind c.args.reading (meaning_of c.args.operand.now) c.args.suffixes.now c.if-suffixes-gt0.true) c.with_suffixes.ensures
