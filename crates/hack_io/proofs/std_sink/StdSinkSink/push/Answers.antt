use Rattle.hack_io.proofs.Moves.{pushed_more}
use Rattle.hack_io.proofs.std_sink.StdSinkSink.push.Goals as goal

pub loop-rest-preserved : goal.loop-rest-preserved
loop-rest-preserved g c =
    let before = c.loop-rest.invariant.taken in
    record {
      taken = pushed_more _ _ _ c.args.piece.now c.loop-rest.rest.now before.0 c.in-Ok.count before.1 before.2 before.3 c.in-Ok.ensures.bound c.in-Ok.ensures.bytes;
      faults = c.loop-rest.invariant.faults;
    }
