-- How a row over the ends of its parts is taken apart over parts that leave the variables of their normal end in the state: what stands there
-- behind a part is never read before other variables are put in its place.
use Rattle.std.proofs.Common.{◌≡◌, ◌<◌, ◌∙◌, ℕ, Result, Ok, Option, Some, None, List, length, get_or, All, refl, sym, ap, subst}
use Rattle.std.specs.declared.alloc.Global.{Global}
use denote.Ref.{Bor, MutBor}
use Rattle.hack_decls.specs.DeclState.{DeclState, Map, Symbols}
use Rattle.hack_decls.specs.declared.stop.DeclStop.{DeclStop}
use Rattle.hack_rules.specs.Ends.{Ends}
use Rattle.hack_rules.specs.Variables.{Variables}
use Rattle.hack_rules.specs.Walks.{Setting, State, Walk, ◌>>=◌, ◌>>◌, pure, replace}
use Rattle.hack_rules.specs.Statements.{doing_of}
use Rattle.hack_tree.specs.declared.statement.Stmt.{Stmt}
use Rattle.hack_walk.specs.Checks.{Walks, setting_of}
use Rattle.hack_walk.specs.declared.setting.Setting.{Setting as Given}
use Rattle.hack_walk.specs.WalkLaws.{walks_as, walks_then}
use Rattle.hack_flow.specs.Doings.{Doings}
use Rattle.hack_flow.specs.Settled.{ExitsIn, emptied, ends_of, exits_of, inside_of, is_reached, normal_of, settled, variables_of}
use Rattle.hack_flow.specs.StmtIn.{StmtIn}
use Rattle.hack_flow.specs.declared.exits.Exits.{Exits}
use Rattle.hack_flow.specs.declared.inside.Inside.{Inside as Where}

-- a walk to which it is all one which variables it begins with
abbrev pub Forgets : {A : Type 0} → Walk A → Type 0
Forgets walk = (setting : Setting) (map : Map) (state : State) (here : Variables) → walk setting map state ≡ walk setting map (record state { variables = here })

-- ends are those that their exits and variables say
normal_back : (normal : Option Variables) → normal_of (is_reached normal) (variables_of normal) ≡ normal
normal_back None = refl
normal_back (Some here) = refl

pub ends_back : (ends : Ends) → ends_of (exits_of ends) (variables_of ends.normal) ≡ ends
ends_back ends = λ i. record { normal = normal_back ends.normal i; breaks = ends.breaks; continues = ends.continues }

-- what goes on from ends may go on from exits, with the variables that stand behind them
abbrev pub from_exits : {B : Type 0} → (Ends → Walk B) → Exits → Walk B
from_exits f exits = λ setting map state. f (ends_of exits state.variables) setting map state

module _ {B : Type 0} where
  pub over_settled : (walk : Walk Ends) (f : Ends → Walk B) → ((ends : Ends) → Forgets (f ends)) → (setting : Setting) (map : Map) (state : State)
      → (walk >>= f) setting map state ≡ (settled walk >>= from_exits f) setting map state
  unfolding settled ◌>>=◌ ◌>>◌ replace pure
  over_settled walk f forgets setting map state =
      let end = walk setting map state in let here = variables_of end.0.normal in
      forgets end.0 setting map end.1 here
      ∙ ap (λ (ends : Ends). f ends setting map (record end.1 { variables = here })) (sym (ends_back end.0))

  pub over_emptied : {A : Type 0} (walk : Walk A) (f : A → Walk B) → ((a : A) → Forgets (f a)) → (setting : Setting) (map : Map) (state : State)
      → (walk >>= f) setting map state ≡ (emptied walk >>= f) setting map state
  unfolding emptied ◌>>=◌ ◌>>◌ replace pure
  over_emptied walk f forgets setting map state = let end = walk setting map state in forgets end.0 setting map end.1 _

-- a statement, and then what goes on from its ends
module _ {Base Held B : Type 0} {setting : Setting} {Names NamesB NamesC : Symbols → Type 0} {GivesB GivesC : Symbols → B → Type 0}
    {before between behind : State} {exits : Exits} {old mid new : DeclState Base Held} where
  pub settled_then : (walk : Walk Ends) (f : Ends → Walk B) → ((ends : Ends) → Forgets (f ends)) → (result : Result B DeclStop)
      → Walks (settled walk) setting old before (Ok exits) mid between Names ExitsIn
      → Walks (f (ends_of exits between.variables)) setting mid between result new behind NamesB GivesB
      → ((symbols : Symbols) → NamesC symbols → Names symbols) → ((symbols : Symbols) → NamesC symbols → ExitsIn symbols exits → NamesB symbols)
      → ((symbols : Symbols) (b : B) → NamesC symbols → ExitsIn symbols exits → GivesB symbols b → GivesC symbols b)
      → Walks (walk >>= f) setting old before result new behind NamesC GivesC
  settled_then walk f forgets result first second more onward gives =
      walks_as (walk >>= f) result
      (walks_then (from_exits f) result first (walks_as (from_exits f exits) result second (λ map. refl)) more onward gives)
      (λ map. over_settled walk f forgets setting map before)

-- a turn, and then what goes on from it
module _ {Base Held A B : Type 0} {setting : Setting} {Names NamesB NamesC : Symbols → Type 0} {Gives : Symbols → A → Type 0} {GivesB GivesC : Symbols → B → Type 0}
    {before between behind : State} {a : A} {old mid new : DeclState Base Held} where
  pub emptied_then : (walk : Walk A) (f : A → Walk B) → ((a : A) → Forgets (f a)) → (result : Result B DeclStop)
      → Walks (emptied walk) setting old before (Ok a) mid between Names Gives
      → Walks (f a) setting mid between result new behind NamesB GivesB
      → ((symbols : Symbols) → NamesC symbols → Names symbols) → ((symbols : Symbols) → NamesC symbols → Gives symbols a → NamesB symbols)
      → ((symbols : Symbols) (b : B) → NamesC symbols → Gives symbols a → GivesB symbols b → GivesC symbols b)
      → Walks (walk >>= f) setting old before result new behind NamesC GivesC
  emptied_then walk f forgets result first second more onward gives =
      walks_as (walk >>= f) result (walks_then f result first second more onward gives) (λ map. over_emptied walk f forgets setting map before)

-- a settled row begins as the row does
module _ {A : Type 0} where
  pub settled_row : (walk : Walk A) (f : A → Walk Ends) (setting : Setting) (map : Map) (state : State)
      → settled (walk >>= f) setting map state ≡ (walk >>= (λ a. settled (f a))) setting map state
  unfolding settled ◌>>=◌ ◌>>◌
  settled_row walk f setting map state = refl

  pub emptied_row : {B : Type 0} (walk : Walk A) (f : A → Walk B) (setting : Setting) (map : Map) (state : State)
      → emptied (walk >>= f) setting map state ≡ (walk >>= (λ a. emptied (f a))) setting map state
  unfolding emptied ◌>>=◌ ◌>>◌
  emptied_row walk f setting map state = refl

-- what is settled forgets, once the variables are replaced or where nothing is left to do
pub pure_forgets : (ends : Ends) → Forgets (settled (pure ends))
unfolding settled ◌>>=◌ ◌>>◌ replace pure
pure_forgets ends setting map state here = refl

pub replace_forgets : (new : Variables) (walk : Walk Ends) → Forgets (settled (replace new >> walk))
unfolding settled ◌>>=◌ ◌>>◌ replace pure
replace_forgets new walk setting map state here = refl

pub emptied_pure_forgets : {A : Type 0} (a : A) → Forgets (emptied (pure a))
unfolding emptied ◌>>=◌ ◌>>◌ replace pure
emptied_pure_forgets a setting map state here = refl

pub emptied_replace_forgets : {A : Type 0} (new : Variables) (walk : Walk A) → Forgets (emptied (replace new >> walk))
unfolding emptied ◌>>=◌ ◌>>◌ replace pure
emptied_replace_forgets new walk setting map state here = refl

-- what a check that was handed down says of a statement, and of one of a list
module _ {D Base Held : Type 0} {seen : D → DeclState Base Held} {pre : Global → Bor Given → MutBor D → MutBor State → Where → Bor Stmt → Type 0}
    {post : Global → Bor Given → MutBor D → MutBor State → Where → Bor Stmt → Result Exits DeclStop → MutBor D → MutBor State → Type 0} where
  pub doing_at : (parts : List Stmt) (i : ℕ) (x : Stmt) → i < length parts → x ≡ get_or parts i x → All (λ s. Doings seen s pre post) parts → Doings seen x pre post
  doing_at parts i x lt is all = subst (λ (s : Stmt). Doings seen s pre post) (sym is) (all i x lt)

  pub doing_walks : {s : Stmt} → Doings seen s pre post → {alloc : Global} {setting : Bor Given} {decls : MutBor D} {state : MutBor State} {inside : Where} {x : Bor Stmt}
      {result : Result Exits DeclStop} {new : MutBor D} {behind : MutBor State} → x.now ≡ s → post alloc setting decls state inside x result new behind
      → Walks (settled ((doing_of s).ends (inside_of inside))) (setting_of setting.now) (seen decls.now) state.now result (seen new.now) behind.now
      (λ symbols. StmtIn setting.now.scope.now symbols s) ExitsIn
  doing_walks part is gives = part.walks _ _ _ _ _ _ _ _ _ is gives
