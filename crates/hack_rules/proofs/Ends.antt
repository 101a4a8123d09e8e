-- How statements end, and blocks of them.
use Rattle.std.proofs.Common.{Option, Some, None, List, [], ◌∷◌}
use Rattle.std.specs.List.{AllByRecursion}
use Rattle.hack_rules.specs.Ends.{Doing, Ends, Inside, block, block_from, block_on, either_end, ends_here, no_ends, with_leaves}
use Rattle.hack_rules.specs.Variables.{Variables}
use Rattle.hack_rules.specs.Walks.{Walk}
use Rattle.hack_rules.proofs.Environments.{MayFollow, follows_either}
use Rattle.hack_rules.proofs.Steps.{Goes, goes_next, goes_pure, goes_replace, goes_then, goes_variables}

-- all ends follow
abbrev pub GoodEnds : Variables → Ends → Type 0
GoodEnds base ends = MayFollow base ends.normal × MayFollow base ends.breaks × MayFollow base ends.continues

pub record GoodDoing (base : Variables) (statement : Doing) : Type 0 where
  pub ends : (inside : Inside) → Goes base (GoodEnds base) (statement.ends inside)

-- of a list
abbrev pub AllGood : Variables → List Doing → Type 0
AllGood base statements = AllByRecursion (GoodDoing base) statements

module _ (base : Variables) where
  pub good_either : (left right : Ends) → GoodEnds base left → GoodEnds base right → GoodEnds base (either_end left right)
  good_either left right l r = (
    follows_either base left.normal right.normal l.0 r.0,
    follows_either base left.breaks right.breaks l.1 r.1,
    follows_either base left.continues right.continues l.2 r.2,
  )

  pub good_leaves : (so_far ends : Ends) (normal : Option Variables) → GoodEnds base so_far → GoodEnds base ends → MayFollow base normal
      → GoodEnds base (with_leaves so_far ends normal)
  good_leaves so_far ends normal s e n = (n, follows_either base so_far.breaks ends.breaks s.1 e.1, follows_either base so_far.continues ends.continues s.2 e.2)

module _ {base : Variables} where
  pub goes_ends_here : Goes base (GoodEnds base) ends_here
  unfolding ends_here
  goes_ends_here = goes_then goes_variables (λ here f. goes_pure _ (f, tt, tt))

  goes_block_on : {rest : Ends → Walk Ends} → ((ends : Ends) → GoodEnds base ends → Goes base (GoodEnds base) (rest ends))
      → (ends : Ends) → GoodEnds base ends → (normal : Option Variables) → MayFollow base normal → Goes base (GoodEnds base) (block_on rest ends normal)
  goes_block_on p ends e None n = goes_pure _ e
  goes_block_on p ends e (Some here) n = goes_next (goes_replace n) (p ends e)

  goes_block_from : (statements : List Doing) → AllGood base statements → (inside : Inside) (so_far : Ends) → GoodEnds base so_far
      → Goes base (GoodEnds base) (block_from statements inside so_far)
  unfolding block_from
  goes_block_from [] all inside so_far s = goes_then goes_variables (λ here f. goes_pure _ (f, s.1, s.2))
  goes_block_from (statement ∷ statements) all inside so_far s = goes_then (all.0.ends inside) (λ ends e.
      goes_block_on (λ so t. goes_block_from statements all.1 inside so t) (with_leaves so_far ends ends.normal)
      (good_leaves base so_far ends ends.normal s e e.0) ends.normal e.0)

  pub goes_block : (statements : List Doing) → AllGood base statements → (inside : Inside) → Goes base (GoodEnds base) (block statements inside)
  unfolding block
  goes_block statements all inside = goes_block_from statements all inside no_ends (tt, tt, tt)
