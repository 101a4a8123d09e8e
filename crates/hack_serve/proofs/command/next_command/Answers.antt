use Rattle.std.proofs.Common.{◌≡◌, ◌+◌, ◌-◌, arith}
use Rattle.std.proofs.lemmas.Result.{err_from_is_err_and}
use Rattle.hack_serve.proofs.Reading.{gives_file, body_stops}
use Rattle.hack_serve.proofs.command.next_command.Goals as goal

pub returns-in_err-body-in-File-clause-stopped : goal.returns-in_err-body-in-File-clause-stopped
returns-in_err-body-in-File-clause-stopped g c =
    let a = c.args.reader.now in
    let b = c.read_head.new.self in
    let d = c.read_body.new.self in
    let head = rw c.in-File.is at (c.in_ok-name.ensures.head c.requires) in
    let p = err_from_is_err_and c.from_residual-in_err-body-in-File.result c.from_residual-in_err-body-in-File.ensures.1 in
    rw (p.1, p.2) (body_stops (g.S.Source.faults c.args.source.now) (g.S.Source.faults c.read_head.new.source) (g.S.Source.faults c.read_body.new.source)
    (g.S.Source.left c.args.source.now) (g.S.Source.left c.read_head.new.source) (g.S.Source.left c.read_body.new.source) a b d c.in-File.len c.in-File.name.items _
    head c.in_ok-name.ensures.faults c.in_err-body-in-File.ensures.stopped)

pub returns-in_ok-body-in-File-clause-command : goal.returns-in_ok-body-in-File-clause-command
returns-in_ok-body-in-File-clause-command g c =
    let a = c.args.reader.now in
    let b = c.read_head.new.self in
    let d = c.read_body.new.self in
    let head = rw c.in-File.is at (c.in_ok-name.ensures.head c.requires) in
    let line : (c.line-line.result - 1) + 1 ≡ b.line = omega (arith, c.line-line.ensures, head.holds.2) in
    gives_file (g.S.Source.left c.args.source.now) (g.S.Source.left c.read_head.new.source) (g.S.Source.left c.read_body.new.source) a b d (c.line-line.result - 1) c.in-File.len
    c.in-File.name c.in_ok-body-in-File.body head line c.in_ok-body-in-File.ensures.body
