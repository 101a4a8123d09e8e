use Rattle.std.proofs.Common.{Ok, Err, refl}
use Rattle.std.proofs.lemmas.Result.{err_from_is_err_and}
use Rattle.hack_decls.specs.Asks.{Nothing}
use Rattle.hack_infer.specs.Filling.{filled_limited, filling_of}
use Rattle.hack_rules.specs.Calls.{ended, expect_all}
use Rattle.hack_rules.specs.Walks.{◌>>◌, pure}
use Rattle.hack_walk.specs.WalkLaws.{then_out_of_memory, then_refused, walks_next, walks_pure}
use Rattle.hack_written.specs.NamesFilled.{in_filled_limited}
use Rattle.hack_calls.specs.Solved.{call_filled}
use Rattle.hack_calls.specs.inside.Rows.{expect_bounds}
use Rattle.hack_calls.proofs.Calling.{CallIn, all_as, bounds_as, counted_as}
use Rattle.hack_calls.proofs.Naming.{in_ended, in_result}
use Rattle.hack_calls.proofs.calls.call_filled.Goals as goal

pub returns : goal.returns
unfolding call_filled
returns g c =
    let at = c.args.at in let signature = c.args.signature.now in let filling = filling_of c.args.filling.now in
    let solved = c.args.solved.now in let given = c.args.given.now in
    let names = CallIn signature filling solved given in
    let result = ended (filled_limited filling signature.result) in
    let last = pure result in
    let bounds = expect_bounds filling at signature.type_params solved in
    let arguments = expect_all filling signature.params given in
    rw c.in_ok-result_of.ensures (walks_next {NamesC = names} (arguments >> (bounds >> last)) (Ok result)
    (counted_as signature filling solved given at _ _ _ _ c.as_slice-params.ensures c.least_of.ensures refl c.in_ok-expect_count.ensures)
    (walks_next {NamesC = names} (bounds >> last) (Ok result) (all_as signature filling solved given (Ok tt) _ c.as_slice-params.ensures c.in_ok-expect_all.ensures)
    (walks_next {NamesC = names} last (Ok result) (bounds_as signature filling solved given (Ok tt) at _ c.as_slice-type_params.ensures c.in_ok-expect_bounds.ensures)
    (walks_pure {Names = names} _ _ result (λ symbols n. in_ended symbols (filled_limited filling signature.result) (in_filled_limited symbols filling n.1 signature.result (in_result symbols signature n.0))))
    (λ symbols n. n) (λ symbols n g. n) (λ symbols b n g h. h))
    (λ symbols n. n) (λ symbols n g. n) (λ symbols b n g h. h))
    (λ symbols n. n) (λ symbols n g. n) (λ symbols b n g h. h))

pub returns-in_err-expect_all : goal.returns-in_err-expect_all
returns-in_err-expect_all g c =
    let at = c.args.at in let signature = c.args.signature.now in let filling = filling_of c.args.filling.now in
    let solved = c.args.solved.now in let given = c.args.given.now in
    let p = err_from_is_err_and c.from_residual-in_err-expect_all.result c.from_residual-in_err-expect_all.ensures.1 in
    rw (p.1, p.2) (then_refused {NamesC = CallIn signature filling solved given}
    (counted_as signature filling solved given at _ _ _ _ c.as_slice-params.ensures c.least_of.ensures refl c.in_ok-expect_count.ensures)
    (all_as signature filling solved given (Err _) _ c.as_slice-params.ensures c.in_err-expect_all.ensures)
    (λ symbols n. n) (λ symbols n g. n))

pub returns-in_err-expect_bounds : goal.returns-in_err-expect_bounds
returns-in_err-expect_bounds g c =
    let at = c.args.at in let signature = c.args.signature.now in let filling = filling_of c.args.filling.now in
    let solved = c.args.solved.now in let given = c.args.given.now in
    let names = CallIn signature filling solved given in
    let p = err_from_is_err_and c.from_residual-in_err-expect_bounds.result c.from_residual-in_err-expect_bounds.ensures.1 in
    rw (p.1, p.2) (then_refused {NamesC = names}
    (walks_next {NamesC = names} {GivesC = Nothing} (expect_all filling signature.params given) (Ok tt)
    (counted_as signature filling solved given at _ _ _ _ c.as_slice-params.ensures c.least_of.ensures refl c.in_ok-expect_count.ensures)
    (all_as signature filling solved given (Ok tt) _ c.as_slice-params.ensures c.in_ok-expect_all.ensures)
    (λ symbols n. n) (λ symbols n g. n) (λ symbols b n g h. h))
    (bounds_as signature filling solved given (Err _) at _ c.as_slice-type_params.ensures c.in_err-expect_bounds.ensures)
    (λ symbols n. n) (λ symbols n g. n))

pub returns-in_err-result_of : goal.returns-in_err-result_of
returns-in_err-result_of g c =
    let at = c.args.at in let signature = c.args.signature.now in let filling = filling_of c.args.filling.now in
    let solved = c.args.solved.now in let given = c.args.given.now in
    let names = CallIn signature filling solved given in
    let p = err_from_is_err_and c.from_residual-in_err-result_of.result c.from_residual-in_err-result_of.ensures.1 in
    rw (p.1, p.2) (then_out_of_memory {NamesC = names}
    (walks_next {NamesC = names} {GivesC = Nothing} (expect_all filling signature.params given) (Ok tt)
    (counted_as signature filling solved given at _ _ _ _ c.as_slice-params.ensures c.least_of.ensures refl c.in_ok-expect_count.ensures)
    (all_as signature filling solved given (Ok tt) _ c.as_slice-params.ensures c.in_ok-expect_all.ensures)
    (λ symbols n. n) (λ symbols n g. n) (λ symbols b n g h. h))
    (bounds_as signature filling solved given (Ok tt) at _ c.as_slice-type_params.ensures c.in_ok-expect_bounds.ensures)
    (λ symbols n. n) (λ symbols n g. n))
