use Rattle.std.proofs.Common.{◌≡◌, true, All, drop}
use Rattle.hack_walk.specs.Checks.{setting_of}
use Rattle.hack_flow.specs.Settled.{inside_of}
use Rattle.hack_flow.specs.StmtIn.{StmtIn}
use Rattle.hack_flow.proofs.Following.{Goes}
use Rattle.hack_flow.proofs.blocks.block.Given as goal

abbrev pub invariant-loop-next : goal.invariant-loop-next
invariant-loop-next g l = record {
  reached : l.so_far.reached ≡ true;
  goes : Goes (setting_of l.fn.setting) (inside_of l.fn.inside) l.fn.statements (drop l.next-index l.fn.statements) l.so_far (g.D.Decls.state l.initial.decls) (g.D.Decls.state l.decls) l.initial.state l.state
      (λ symbols. All (StmtIn l.fn.setting.scope.now symbols) l.fn.statements);
}
