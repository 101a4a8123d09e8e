use Rattle.std.proofs.Common.{◌∙◌}
use Rattle.hack_fold.specs.ShallowMap.{shallows_of}
use Rattle.hack_fold.proofs.WalkLemmas.{is_long, is_reached}
use Rattle.hack_fold.proofs.line.line_of.Goals as goal
use Rattle.hack_fold.proofs.line.line_of.Goals.{else-reaches, then-reaches}

pub returns-clause-cyclic : goal.returns-clause-cyclic
returns-clause-cyclic c =
    let shallows = shallows_of c.args.map.now in
    let names = c.in_ok-names.names in
    elim c.if-reaches.branch [
      | then-reaches w ↦
          w.cyclic-is ∙ w.if-reaches.true ∙ is_reached shallows c.args.s c.as_slice.result.now names.items c.reaches.result c.reaches.ensures c.as_slice.ensures.value c.in_ok-names.ensures w.if-reaches.true
      | else-reaches w ↦
          w.cyclic-is
          ∙ is_long shallows c.args.s c.as_slice.result.now names.items c.reaches.result c.reaches.ensures c.as_slice.ensures.value c.in_ok-names.ensures w.if-reaches.false
          w.len.result (w.len.ensures ∙ names.ok.0)
    ]
