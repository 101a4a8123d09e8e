use Rattle.phase_core.proofs.copied.CoreStateCopied.copied.Goals as goal

pub returns : goal.returns
returns c =
    λ i. record {
      world = c.in_ok-copied.ensures i;
      records = c.in_ok-copied-2.ensures i;
      edges = c.in_ok-copied-3.ensures i;
      stale = c.in_ok-copied-4.ensures i;
      verdicts = c.in_ok-copied-5.ensures i;
      workers = c.in_ok-copied-6.ensures i;
      raised = c.args.self.now.raised;
    }
