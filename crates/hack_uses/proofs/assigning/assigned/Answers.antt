use Rattle.std.proofs.Common.{◌∙◌, sym}
use Rattle.hack_rules.specs.Expressions.{meaning_of}
use Rattle.hack_uses.proofs.AssignedBy.{with_coalesce, with_neither, with_operation}
use Rattle.hack_uses.proofs.assigning.assigned.Goals as goal

pub returns-in-Some : goal.returns-in-Some
returns-in-Some g c =
    rw (with_operation c.args.at (meaning_of c.args.to.now) (meaning_of c.args.e.now) c.args.operator c.assigning.result c.in-Some.operation c.in-Some.is c.assigning.ensures) c.operated.ensures

pub returns-then-is_coalesce : goal.returns-then-is_coalesce
returns-then-is_coalesce g c =
    rw (with_coalesce c.args.at (meaning_of c.args.to.now) (meaning_of c.args.e.now) c.args.operator (sym c.is_coalesce.ensures ∙ c.if-is_coalesce.true)) c.coalesce.ensures

pub returns-else-is_coalesce : goal.returns-else-is_coalesce
returns-else-is_coalesce g c =
    rw (with_neither c.args.at (meaning_of c.args.to.now) (meaning_of c.args.e.now) c.args.operator c.assigning.result c.in-None.is c.assigning.ensures (sym c.is_coalesce.ensures ∙ c.if-is_coalesce.false)) c.assign.ensures
