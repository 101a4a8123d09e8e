use Rattle.std.proofs.Common.{drop}
use Rattle.std.specs.List.{fold}
use Rattle.hack_infer.specs.inside.Calls.{Left, MembersIn}
use Rattle.hack_infer.specs.Matching.{match_in}
use Rattle.hack_infer.proofs.steps.each_member.Given as goal

abbrev pub invariant-loop-member : goal.invariant-loop-member
invariant-loop-member g l = Left (g.D.Decls.state l.initial.decls) (g.D.Decls.state l.decls) l.initial.taken l.taken
    (λ map. fold (λ so_far member. match_in l.fn.deeper.depth map l.fn.wanted member so_far) l.initial.taken l.fn.members)
    (λ map. fold (λ so_far member. match_in l.fn.deeper.depth map l.fn.wanted member so_far) l.taken (drop l.member-index l.fn.members))
    (λ symbols. MembersIn symbols l.fn.wanted l.fn.members)
