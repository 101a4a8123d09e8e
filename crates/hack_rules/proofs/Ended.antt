-- The laws of walks from what goes well.
use Rattle.std.proofs.Common.{Option, Some, None, List, [], map}
use Rattle.std.specs.Option.{IfSome}
use Rattle.hack_tree.specs.declared.expression.Expr.{Expr}
use Rattle.hack_tree.specs.declared.statement.Stmt.{Stmt}
use Rattle.hack_types.specs.declared.hack_type.HackType.{HackType}
use Rattle.hack_types.specs.declared.place.Place.{Place}
use Rattle.hack_rules.specs.Behind.{Adds, AtEnds}
use Rattle.hack_rules.specs.Bodies.{body_row, value_row}
use Rattle.hack_rules.specs.Ends.{Ends, outside}
use Rattle.hack_rules.specs.Statements.{doing_of}
use Rattle.hack_rules.specs.Variables.{Variables}
use Rattle.hack_rules.specs.Walks.{Walk, ◌>>=◌, ◌>>◌, replace}
use Rattle.hack_rules.proofs.Ends.{GoodEnds, goes_block}
use Rattle.hack_rules.proofs.Environments.{Follows, MayFollow, follows_self}
use Rattle.hack_rules.proofs.Expressions.{sound}
use Rattle.hack_rules.proofs.Statements.{all_statements}
use Rattle.hack_rules.proofs.Steps.{Free, Goes, answer_of, free_reads, goes_expect, goes_then, goes_unless, run_adds}

if_follows : (R : Variables → Variables → Type 0) → ((base behind : Variables) → Follows base behind → R base behind)
    → (base : Variables) (end : Option Variables) → MayFollow base end → IfSome end (R base)
if_follows R says base None m = tt
if_follows R says base (Some here) m = says base here m

pub ends_of : {walk : Walk Ends} (R : Variables → Variables → Type 0) → ((base behind : Variables) → Follows base behind → R base behind)
    → ((base : Variables) → Goes base (GoodEnds base) walk) → AtEnds R walk
ends_of {walk = walk} R says p setting map state =
    let good = answer_of GoodEnds p setting map state in (
      if_follows R says state.variables (walk setting map state).0.normal good.0,
      if_follows R says state.variables (walk setting map state).0.breaks good.1,
      if_follows R says state.variables (walk setting map state).0.continues good.2,
    )

-- whatever the variables were before
adds_from : {A : Type 0} {walk : Walk A} (start : Variables) → Goes start Free walk → Adds (replace start >> walk)
unfolding ◌>>◌ ◌>>=◌ replace
adds_from start p setting map here found = run_adds (p.runs setting map start follows_self) found

pub adds_body : (name_at : Place) (parameters : Variables) (statements : List Stmt) → Adds (body_row name_at parameters statements)
unfolding body_row
adds_body name_at parameters statements = adds_from parameters (goes_then (goes_block (map doing_of statements) (all_statements parameters statements) outside) (λ ends e.
    goes_then (free_reads _) (λ result g. goes_unless _ _ _)))

pub adds_value : (ty : HackType) (value : Expr) → Adds (value_row ty value)
unfolding value_row
adds_value ty value = adds_from [] (goes_then (sound [] value).walk (λ found g. goes_expect _ _ _))
