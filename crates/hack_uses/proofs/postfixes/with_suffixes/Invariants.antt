use Rattle.std.proofs.Common.{Ok, All, take}
use Rattle.hack_parts.specs.ExprIn.{ExprIn, SuffixIn}
use Rattle.hack_rules.specs.Expressions.{meaning_of}
use Rattle.hack_targets.specs.AimIn.{AimIn}
use Rattle.hack_walk.specs.Checks.{Walks, setting_of}
use Rattle.hack_uses.specs.Aims.{behind}
use Rattle.hack_uses.proofs.postfixes.with_suffixes.Given as goal

abbrev pub invariant-loop-suffix : goal.invariant-loop-suffix
invariant-loop-suffix g l =
    Walks (behind (meaning_of l.fn.operand) (take l.suffix-index l.suffixes)).aim (setting_of l.setting) (g.D.Decls.state l.fn.decls) l.fn.state (Ok l.so_far) (g.D.Decls.state l.decls) l.state
    (λ symbols. ExprIn l.setting.scope.now symbols l.fn.operand × All (SuffixIn l.setting.scope.now symbols) l.suffixes) AimIn
