use Rattle.std.proofs.Common.{sym, subst, refl}
use Rattle.hack_parse_file.specs.Files.{IsFileStop}
use Rattle.check_state.specs.Stands.{IsParsed}
use Rattle.hack_parse_file.proofs.OneTree.{is_tree, is_fault}
use Rattle.check_state.proofs.file.File.read.Goals as goal
use Rattle.check_state.proofs.file.File.read.Goals.{in-Ok, in-Err-Fault}

pub returns-clause-file : goal.returns-clause-file
returns-clause-file c = record {
  short = c.requires.short;
  len = refl;
  parsed = elim c.match-parse_file.branch [
    | in-Ok w ↦ subst (IsParsed c.parse_file.new.names c.args.bytes.now) (sym w.parsed-is) (is_tree c.args.names.now c.parse_file.new.names c.args.bytes.now w.in-Ok.tree w.in-Ok.ensures.tree)
    | in-Err-Fault w ↦ subst (IsParsed c.parse_file.new.names c.args.bytes.now) (sym w.parsed-is)
        (is_fault c.args.names.now c.parse_file.new.names c.args.bytes.now _ _
        (subst (IsFileStop c.args.names.now c.parse_file.new.names c.args.bytes.now) w.in-Err-Fault.field-0-is w.in-Err-Fault.ensures.fault))
  ];
}
