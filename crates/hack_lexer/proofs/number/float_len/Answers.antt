use Rattle.std.proofs.Common.{◌≡◌, ◌+◌, drop, Some, None, sym, subst}
use Rattle.std.proofs.lemmas.List.{take_rest}
use Rattle.std.specs.List.{prefix_len}
use Rattle.hack_lexer.specs.Bytes.{is_digit}
use Rattle.hack_lexer.specs.Forms.{is_float, is_behind_whole}
use Rattle.hack_lexer.specs.Scan.{HasLongest, IsLongestPass}
use Rattle.hack_lexer.proofs.Numbers.{float_from}
use Rattle.hack_lexer.proofs.number.float_len.Goals as goal

pub returns-in-Some : goal.returns-in-Some
returns-in-Some c =
    let run : c.run_len-whole.result ≡ prefix_len is_digit c.args.rest.now = c.run_len-whole.ensures.run in
    let behind : IsLongestPass (is_behind_whole c.run_len-whole.result) (drop c.run_len-whole.result c.args.rest.now) c.in-Some.len =
    subst (λ xs. IsLongestPass (is_behind_whole c.run_len-whole.result) xs c.in-Some.len) (take_rest c.args.rest.now c.run_len-whole.result) c.in-Some.ensures in
    subst (λ n. IsLongestPass is_float c.args.rest.now (n + c.in-Some.len)) (sym run)
    (float_from c.args.rest.now (Some c.in-Some.len) (subst (λ n. IsLongestPass (is_behind_whole n) (drop n c.args.rest.now) c.in-Some.len) run behind))

pub returns-in-None : goal.returns-in-None
returns-in-None c =
    let run : c.run_len-whole.result ≡ prefix_len is_digit c.args.rest.now = c.run_len-whole.ensures.run in
    let behind : HasLongest (is_behind_whole c.run_len-whole.result) (drop c.run_len-whole.result c.args.rest.now) None =
    subst (λ xs. HasLongest (is_behind_whole c.run_len-whole.result) xs None) (take_rest c.args.rest.now c.run_len-whole.result) c.in-None.ensures in
    float_from c.args.rest.now None (subst (λ n. HasLongest (is_behind_whole n) (drop n c.args.rest.now) None) run behind)
