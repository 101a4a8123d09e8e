-- Statements in a row: what the rest of a block gives, the whole gives.
use Rattle.std.proofs.Common.{◌≡◌, ◌<◌, ◌+◌, ◌∙◌, ℕ, Bool, true, false, Result, Ok, Option, Some, None, List, [], ◌∷◌, length, get_or, drop, map, refl, sym, ap, subst}
use Rattle.std.proofs.lemmas.List.{drop_more}
use Rattle.hack_decls.specs.DeclState.{DeclState, Map, Symbols}
use Rattle.hack_decls.specs.declared.stop.DeclStop.{DeclStop}
use Rattle.hack_rules.specs.Ends.{Doing, Ends, Inside, block, block_from, block_on, with_leaves}
use Rattle.hack_rules.specs.Statements.{doing_of}
use Rattle.hack_rules.specs.Variables.{Variables, either}
use Rattle.hack_rules.specs.Walks.{Setting, State, Walk, ◌>>=◌, ◌>>◌, pure, replace, variables}
use Rattle.hack_tree.specs.declared.statement.Stmt.{Stmt}
use Rattle.hack_walk.specs.Checks.{Walks}
use Rattle.hack_walk.specs.NamesKept.{in_either}
use Rattle.hack_walk.specs.WalkLaws.{of_step, walks_as, weaker}
use Rattle.hack_flow.specs.Settled.{ExitsIn, ends_of, exits_of, is_reached, normal_of, settled, variables_of}
use Rattle.hack_flow.specs.SettledLaws.{Forgets, pure_forgets, replace_forgets, settled_then}
use Rattle.hack_flow.specs.declared.exits.Exits.{Exits}

-- the ends so far, of which the normal one isn't asked
abbrev leaving : Exits → Ends
leaving exits = record { normal = None; breaks = exits.breaks; continues = exits.continues }

-- what is left of a block
abbrev pub rest : List Stmt → Inside → Exits → Walk Exits
rest statements inside so_far = settled (block_from (map doing_of statements) inside (leaving so_far))

-- both leaves together
abbrev pub together : Exits → Exits → Exits
together so_far exits = exits_of (with_leaves (ends_of so_far []) (ends_of exits []) (ends_of exits []).normal)

abbrev go_on : List Doing → Inside → Exits → Ends → Walk Exits
go_on doings inside so_far ends = settled (block_on (block_from doings inside) (with_leaves (leaving so_far) ends ends.normal) ends.normal)

go_by : (f : Ends → Walk Ends) (ends : Ends) (normal : Option Variables) → Forgets (settled (block_on f ends normal))
go_by f ends None = pure_forgets ends
go_by f ends (Some here) = replace_forgets here (f ends)

go_forgets : (doings : List Doing) (inside : Inside) (so_far : Exits) (ends : Ends) → Forgets (go_on doings inside so_far ends)
go_forgets doings inside so_far ends = go_by (block_from doings inside) (with_leaves (leaving so_far) ends ends.normal) ends.normal

without_normal : (doings : List Doing) (inside : Inside) (ends : Ends) (setting : Setting) (m : Map) (state : State)
    → block_from doings inside ends setting m state ≡ block_from doings inside (record { normal = None; breaks = ends.breaks; continues = ends.continues }) setting m state
unfolding block_from
without_normal [] inside ends setting m state = refl
without_normal (d ∷ ds) inside ends setting m state = refl

next_pieces : (d : Doing) (ds : List Doing) (inside : Inside) (so_far : Exits) (setting : Setting) (m : Map) (state : State)
    → settled (block_from (d ∷ ds) inside (leaving so_far)) setting m state ≡ (d.ends inside >>= go_on ds inside so_far) setting m state
unfolding settled block_from ◌>>=◌ ◌>>◌
next_pieces d ds inside so_far setting m state = refl

reached_back : (b : Bool) → is_reached (normal_of b []) ≡ b
reached_back true = refl
reached_back false = refl

on_reached : (ds : List Doing) (inside : Inside) (so_far exits : Exits) (reached : Bool) (setting : Setting) (m : Map) (here : State) → reached ≡ true
    → go_on ds inside so_far (record { normal = normal_of reached here.variables; breaks = exits.breaks; continues = exits.continues }) setting m here
    ≡ settled (block_from ds inside (leaving (together so_far exits))) setting m here
unfolding settled ◌>>=◌ ◌>>◌ replace pure
on_reached ds inside so_far exits true setting m here is =
    ap (λ (end : Ends × State). (exits_of end.0, record end.1 { variables = variables_of end.0.normal })) (without_normal ds inside _ setting m here)
on_reached ds inside so_far exits false setting m here is = absurd cc

-- exits in a state, by whether a path goes on
abbrev left_with : Exits → Exits → State → Bool → Exits × State
left_with so_far exits here reached = (record { reached = reached; breaks = either so_far.breaks exits.breaks; continues = either so_far.continues exits.continues }, here)

on_left : (ds : List Doing) (inside : Inside) (so_far exits : Exits) (reached : Bool) (setting : Setting) (m : Map) (here : State) → reached ≡ false → here.variables ≡ []
    → go_on ds inside so_far (record { normal = normal_of reached here.variables; breaks = exits.breaks; continues = exits.continues }) setting m here
    ≡ left_with so_far exits here reached
unfolding settled ◌>>=◌ ◌>>◌ replace pure
on_left ds inside so_far exits false setting m here is none =
    λ i. (record { reached = false; breaks = either so_far.breaks exits.breaks; continues = either so_far.continues exits.continues }, record here { variables = sym none i })
on_left ds inside so_far exits true setting m here is none = absurd cc

at_end : (inside : Inside) (so_far : Exits) (setting : Setting) (m : Map) (here : State) → so_far.reached ≡ true → rest [] inside so_far setting m here ≡ (so_far, here)
unfolding settled block_from ◌>>=◌ ◌>>◌ replace pure variables
at_end inside so_far setting m here is = λ i. (record { reached = sym is i; breaks = so_far.breaks; continues = so_far.continues }, here)

gone : (normal : Option Variables) → is_reached normal ≡ false → variables_of normal ≡ []
gone None is = refl
gone (Some here) is = absurd cc

in_together : (symbols : Symbols) (so_far exits : Exits) → ExitsIn symbols so_far → ExitsIn symbols exits → ExitsIn symbols (together so_far exits)
in_together symbols so_far exits one other = record {
  breaks = in_either symbols so_far.breaks exits.breaks one.breaks other.breaks;
  continues = in_either symbols so_far.continues exits.continues one.continues other.continues;
}

-- whatever the check of the rest of a block gives, that of the whole gives
pub record Goes {Base Held : Type 0} (setting : Setting) (inside : Inside) (all left : List Stmt) (so_far : Exits) (old mid : DeclState Base Held) (before here : State) (Names : Symbols → Type 0) : Type 0 where
  pub onward : (result : Result Exits DeclStop) (new : DeclState Base Held) (behind : State)
      → Walks (rest left inside so_far) setting mid here result new behind (λ symbols. Names symbols × ExitsIn symbols so_far) ExitsIn
      → Walks (settled (block (map doing_of all) inside)) setting old before result new behind Names ExitsIn

module _ {Base Held : Type 0} {setting : Setting} where
  -- where no path goes on, no variables are left
  none_left : {Names : Symbols → Type 0} (walk : Walk Ends) {old new : DeclState Base Held} {before behind : State} {exits : Exits}
      → Walks (settled walk) setting old before (Ok exits) new behind Names ExitsIn → exits.reached ≡ false → behind.variables ≡ []
  unfolding settled ◌>>=◌ ◌>>◌ replace pure
  none_left walk {old = old} {before = before} check is =
      let end = walk setting old.map before in let so = check.asks.means old.map (λ s noted. refl) in
      ap (λ (e : Exits × State). e.1.variables) (sym so)
      ∙ gone end.0.normal (ap (λ (e : Exits × State). e.0.reached) so ∙ is)

  module _ {Names : Symbols → Type 0} (inside : Inside) (all : List Stmt) where
    pub starts : (old : DeclState Base Held) (before : State) → Goes setting inside all all (record { reached = true; breaks = None; continues = None }) old old before before Names
    unfolding block
    starts old before = record {
      onward = λ result new behind walks. weaker result walks (λ symbols n. (n, record { breaks = tt; continues = tt })) (λ symbols e n g. g);
    }

    -- one more statement
    one_more : {NamesX : Symbols → Type 0} {old mid here_decls : DeclState Base Held} {before between here : State} {exits : Exits} (so_far : Exits) (i : ℕ) (x : Stmt)
        → i < length all → x ≡ get_or all i x → Goes setting inside all (drop i all) so_far old mid before between Names
        → Walks (settled ((doing_of x).ends inside)) setting mid between (Ok exits) here_decls here NamesX ExitsIn
        → ((symbols : Symbols) → Names symbols → NamesX symbols)
        → (result : Result Exits DeclStop) (new : DeclState Base Held) (behind : State) {NamesB : Symbols → Type 0}
        → Walks (go_on (map doing_of (drop (i + 1) all)) inside so_far (ends_of exits here.variables)) setting here_decls here result new behind NamesB ExitsIn
        → ((symbols : Symbols) → Names symbols → ExitsIn symbols so_far → ExitsIn symbols exits → NamesB symbols)
        → Walks (settled (block (map doing_of all) inside)) setting old before result new behind Names ExitsIn
    one_more {NamesX = NamesX} {mid = mid} {between = between} so_far i x lt is goes first onward result new behind second more =
        let left = drop (i + 1) all in
        let pieces : drop i all ≡ x ∷ left = drop_more all i x lt ∙ ap (λ (y : Stmt). y ∷ left) (sym is) in
        goes.onward result new behind
        (walks_as _ result
        (settled_then {NamesC = λ symbols. Names symbols × ExitsIn symbols so_far} ((doing_of x).ends inside) (go_on (map doing_of left) inside so_far) (go_forgets (map doing_of left) inside so_far) result first second
        (λ symbols n. onward symbols n.0) (λ symbols n e. more symbols n.0 n.1 e) (λ symbols b n e g. g))
        (λ m. ap (λ (ys : List Stmt). rest ys inside so_far setting m between) pieces ∙ next_pieces (doing_of x) (map doing_of left) inside so_far setting m between))

    -- a path goes on behind it
    pub goes_on : {NamesX : Symbols → Type 0} {old mid here_decls : DeclState Base Held} {before between here : State} {exits : Exits} (so_far next : Exits) (i : ℕ) (x : Stmt)
        → i < length all → x ≡ get_or all i x → Goes setting inside all (drop i all) so_far old mid before between Names
        → Walks (settled ((doing_of x).ends inside)) setting mid between (Ok exits) here_decls here NamesX ExitsIn
        → ((symbols : Symbols) → Names symbols → NamesX symbols) → next ≡ together so_far exits → next.reached ≡ true
        → Goes setting inside all (drop (i + 1) all) next old here_decls before here Names
    goes_on {here = here} {exits = exits} so_far next i x lt is goes first onward so reached = record {
      onward = λ result new behind walks.
          let on : exits.reached ≡ true = sym (reached_back exits.reached) ∙ ap (λ (e : Exits). e.reached) (sym so) ∙ reached in
          one_more so_far i x lt is goes first onward result new behind
          (walks_as _ result walks
          (λ m. on_reached (map doing_of (drop (i + 1) all)) inside so_far exits exits.reached setting m here on
          ∙ ap (λ (e : Exits). rest (drop (i + 1) all) inside e setting m here) (sym so)))
          (λ symbols n one other. (n, subst (ExitsIn symbols) (sym so) (in_together symbols so_far exits one other)));
    }

    -- no path goes on behind it
    pub goes_out : {NamesX : Symbols → Type 0} {old mid here_decls : DeclState Base Held} {before between here : State} {exits : Exits} (so_far next : Exits) (i : ℕ) (x : Stmt)
        → i < length all → x ≡ get_or all i x → Goes setting inside all (drop i all) so_far old mid before between Names
        → Walks (settled ((doing_of x).ends inside)) setting mid between (Ok exits) here_decls here NamesX ExitsIn
        → ((symbols : Symbols) → Names symbols → NamesX symbols) → next ≡ together so_far exits → next.reached ≡ false
        → Walks (settled (block (map doing_of all) inside)) setting old before (Ok next) here_decls here Names ExitsIn
    goes_out {here_decls = here_decls} {here = here} {exits = exits} so_far next i x lt is goes first onward so reached =
        let off : exits.reached ≡ false = sym (reached_back exits.reached) ∙ ap (λ (e : Exits). e.reached) (sym so) ∙ reached in
        one_more so_far i x lt is goes first onward (Ok next) here_decls here
        {NamesB = λ symbols. ExitsIn symbols next}
        (of_step here_decls (record {
          is = λ m. on_left (map doing_of (drop (i + 1) all)) inside so_far exits exits.reached setting m here off (none_left ((doing_of x).ends inside) first off)
              ∙ ap (λ (b : Bool). left_with so_far exits here b) (sym (reached_back exits.reached)) ∙ ap (λ (e : Exits). (e, here)) (sym so);
          named = λ symbols body n. (body.types, n);
        }))
        (λ symbols n one other. subst (ExitsIn symbols) (sym so) (in_together symbols so_far exits one other))

    -- the end of the block
    pub goes_through : {old mid : DeclState Base Held} {before here : State} (so_far : Exits) (i : ℕ) → drop i all ≡ [] → so_far.reached ≡ true
        → Goes setting inside all (drop i all) so_far old mid before here Names
        → Walks (settled (block (map doing_of all) inside)) setting old before (Ok so_far) mid here Names ExitsIn
    goes_through {mid = mid} {here = here} so_far i none reached goes =
        goes.onward (Ok so_far) mid here
        (of_step mid (record {
          is = λ m. ap (λ (ys : List Stmt). rest ys inside so_far setting m here) none ∙ at_end inside so_far setting m here reached;
          named = λ symbols body n. (body.types, n.1);
        }))
