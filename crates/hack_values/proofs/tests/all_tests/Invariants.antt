use Rattle.std.proofs.Common.{◌≡◌, Ok, All, take}
use Rattle.hack_decls.specs.Names.{TypeIn}
use Rattle.hack_rules.specs.Values.{tests_row}
use Rattle.hack_walk.specs.Checks.{Walks, setting_of}
use Rattle.hack_parts.specs.ExprIn.{TestIn}
use Rattle.hack_values.proofs.Testing.{subject_after}
use Rattle.hack_values.proofs.tests.all_tests.Given as goal

abbrev pub invariant-loop-test : goal.invariant-loop-test
invariant-loop-test g l = record {
  walked : Walks (tests_row l.fn.subject l.fn.before (take l.test-index l.fn.tests)) (setting_of l.fn.setting) (g.D.Decls.state l.initial.decls) l.initial.state (Ok l.ty) (g.D.Decls.state l.decls) l.state
      (λ symbols. TypeIn symbols l.fn.before × All (TestIn l.setting.scope.now symbols) l.fn.tests) TypeIn;
  here : l.here ≡ subject_after l.fn.subject (take l.test-index l.fn.tests);
}
