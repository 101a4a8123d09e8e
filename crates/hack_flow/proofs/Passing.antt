-- The passes of a loop.
use Rattle.std.proofs.Common.{◌≡◌, ℕ, Bool, true, false, List, [], ◌∷◌, All, cond, nat_le, refl, ap}
use Rattle.std.proofs.lemmas.List.Elements.{All-head, All-tail}
use Rattle.hack_decls.specs.DeclState.{Map, Symbols}
use Rattle.hack_rules.specs.Ends.{Ends}
use Rattle.hack_rules.specs.Loops.{Turn, most_loops, refuse_loop, three_passes, unless_deep}
use Rattle.hack_rules.specs.Variables.{Variables, joined, joined_with}
use Rattle.hack_rules.specs.Walks.{Setting, State, Walk, ◌>>=◌, ◌>>◌, pure, quietly, replace, variables}
use Rattle.hack_types.specs.declared.place.Place.{Place}
use Rattle.hack_walk.specs.Checks.{VariablesIn}
use Rattle.hack_walk.specs.NamesKept.{in_joined}
use Rattle.hack_flow.specs.Settled.{emptied, settled}
use Rattle.hack_flow.specs.inside.Rows.{last_pass, passed, third_entry}

-- joining keeps what is named
pub in_joined_with : (symbols : Symbols) (here : Variables) (ends : List Variables) → VariablesIn symbols here → All (VariablesIn symbols) ends → VariablesIn symbols (joined_with here ends)
unfolding joined_with
in_joined_with symbols here [] all others = all
in_joined_with symbols here (end ∷ ends) all others =
    in_joined_with symbols (joined here end) ends (in_joined symbols here end all (All-head (VariablesIn symbols) end ends others)) (All-tail (VariablesIn symbols) end ends others)

-- the three passes in pieces
pub in_pieces : (turn : Walk Turn) (setting : Setting) (map : Map) (state : State)
    → settled (three_passes turn) setting map state
    ≡ (variables >>= (λ first. passed first turn >>= (λ second. third_entry second turn >>= (λ third. replace third >> settled (last_pass turn))))) setting map state
unfolding settled three_passes passed third_entry last_pass ◌>>=◌ ◌>>◌ pure quietly replace variables
in_pieces turn setting map state = refl

-- a turn over a state of its own may leave it with no variables
pub quietly_emptied : {A : Type 0} (from : Variables) (walk : Walk A) (setting : Setting) (map : Map) (state : State)
    → quietly from walk setting map state ≡ quietly from (emptied walk) setting map state
unfolding emptied quietly ◌>>=◌ ◌>>◌ pure replace
quietly_emptied from walk setting map state = refl

-- the bound of loops
pub is_deep : (at : Place) (loops : ℕ) (breakable : Bool) (loop : Walk Ends) → nat_le most_loops loops ≡ true → unless_deep at (record { loops = loops; breakable = breakable }) loop ≡ refuse_loop at
unfolding unless_deep
is_deep at loops breakable loop is = ap (λ (b : Bool). cond b (refuse_loop at) loop) is

pub is_shallow : (at : Place) (loops : ℕ) (breakable : Bool) (loop : Walk Ends) → nat_le most_loops loops ≡ false → unless_deep at (record { loops = loops; breakable = breakable }) loop ≡ loop
unfolding unless_deep
is_shallow at loops breakable loop is = ap (λ (b : Bool). cond b (refuse_loop at) loop) is
