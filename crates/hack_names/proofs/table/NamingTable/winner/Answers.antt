use Rattle.std.proofs.Common.{Some, ap, ◌≡◌, Option, List, ℕ, ◌∙◌}
use Rattle.hack_names.specs.Declarations.{winner, Declaration}
use Rattle.hack_names.proofs.Chosen.{winner_first, winner_none}
use Rattle.hack_names.specs.Inside.{table_of}
use Rattle.hack_names.proofs.table.NamingTable.winner.Goals as goal

pub returns-in-Some : goal.returns-in-Some
returns-in-Some c =
    let first = winner_first (table_of c.self.inside.files.entries) c.self.inside.index c.args.symbol c.in-Some.key.now c.in-Some.head.now c.self.invariant c.in-Some.ensures.found in
    let file : ◌≡◌ {A = Option Declaration} (Some (record { file = c.as_slice.result.now; head = c.in-Some.head.now })) (Some (record { file = c.in-Some.key.now.spot.file; head = c.in-Some.head.now })) =
    ap (λ (f : List ℕ). let one : Declaration = record { file = f; head = c.in-Some.head.now } in Some one) c.as_slice.ensures in
    file ∙ first ∙ (λ i. winner (c.self.view_is i) c.args.symbol)

pub returns-in-None : goal.returns-in-None
returns-in-None c = winner_none (table_of c.self.inside.files.entries) c.self.inside.index c.args.symbol c.self.invariant c.in-None.ensures.none ∙ (λ i. winner (c.self.view_is i) c.args.symbol)
