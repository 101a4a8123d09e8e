use Rattle.std.proofs.Common.{◌≡◌, Ok, All, take}
use Rattle.hack_decls.specs.Asks.{Asks}
use Rattle.hack_decls.specs.Names.{TypeIn}
use Rattle.hack_walk.specs.inside.Calls.{ManyIn, members_apart}
use Rattle.hack_walk.proofs.refining.members_apart.Given as goal

abbrev pub invariant-loop-member : goal.invariant-loop-member
invariant-loop-member g l = Asks (g.D.Decls.state l.initial.decls) (Ok tt) (g.D.Decls.state l.decls)
    (λ m (told : Unit {0}). l.apart.items ≡ members_apart m l.fn.scope l.fn.tested (take l.member-index l.fn.members))
    (λ symbols. ManyIn symbols l.fn.scope l.fn.members l.fn.tested)
    (λ symbols told. All (TypeIn symbols) l.apart.items)
