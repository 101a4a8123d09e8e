use Rattle.std.proofs.Common.{Ok, ap, sym}
use Rattle.hack_walk.specs.WalkLaws.{of_step, weaker}
use Rattle.hack_calls.specs.inside.Rows.{function_by, function_in}
use Rattle.hack_calls.proofs.Heading.{in_signature}
use Rattle.hack_calls.proofs.Stepping.{steps_more, walks_same}
use Rattle.hack_calls.proofs.functions.function_in.Goals as goal

pub returns-in-Some : goal.returns-in-Some
returns-in-Some g c =
    let at = c.args.at in let name = c.args.name in let given = c.args.given.now in let h = c.args.heading.now in let signature = c.in-Some.signature.now in
    walks_same (function_in at name given h) c.call_alone.result (ap (function_by at name given) (sym c.in-Some.ensures))
    (weaker c.call_alone.result c.call_alone.ensures (λ symbols n. (in_signature symbols h signature c.in-Some.ensures n.0, n.1)) (λ symbols a n g. g))

pub returns-in_ok-refuse_function-in-None : goal.returns-in_ok-refuse_function-in-None
returns-in_ok-refuse_function-in-None g c =
    let at = c.args.at in let name = c.args.name in let given = c.args.given.now in let h = c.args.heading.now in
    walks_same (function_in at name given h) (Ok c.in_ok-refuse_function-in-None.field-0) (ap (function_by at name given) (sym c.in-None.ensures))
    (of_step _ (steps_more (Ok c.in_ok-refuse_function-in-None.field-0) c.in_ok-refuse_function-in-None.ensures (λ symbols n. tt)))
