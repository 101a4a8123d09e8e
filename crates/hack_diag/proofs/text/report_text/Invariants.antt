use Rattle.std.proofs.Common.{◌≡◌, ◌++◌, drop}
use Rattle.std.specs.List.{flat_map}
use Rattle.hack_types.specs.Report.{diag_line, report_text}
use Rattle.hack_diag.proofs.text.report_text.Given as goal

abbrev pub invariant-loop-d : goal.invariant-loop-d
invariant-loop-d l = l.text.items ++ flat_map diag_line (drop l.d-index l.list) ≡ report_text l.fn.k l.list
