use Rattle.std.proofs.Common.{◌≡◌, ◌-◌, ◌^◌, ap, arith}
use Rattle.std.proofs.lemmas.Result.{err_from_is_err_and}
use Rattle.script_text.specs.Reader.{Reader}
use Rattle.script_text.proofs.Takes.{Stops-no_end}
use Rattle.script_text.proofs.reader.ScriptReader.pull_into.Goals as goal

pub returns-in_err-meet_end-clause-stopped : goal.returns-in_err-meet_end-clause-stopped
returns-in_err-meet_end-clause-stopped g c =
    let p = err_from_is_err_and c.from_residual.result c.from_residual.ensures.1 in
    let taken : c.self.inside.taken ≡ c.args.self.now.taken = ap (λ (r : Reader). r.taken) c.self.view_is in
    let all : c.args.self.now.taken ≡ 2 ^ 31 - 1 = omega (arith, taken, c.if-left-eq0.true, c.self.invariant.few) in
    rw (p.1, p.2) (Stops-no_end _ _ _ _ c.args.self.now _ all c.requires.unended c.in_err-meet_end.ensures.stopped)
