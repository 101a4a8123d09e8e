-- The types of key and value in a `foreach`, and its turns.
use Rattle.std.proofs.Common.{◌≡◌, ◌∙◌, ◌++◌, ◌==◌, ℕ, Bool, true, false, cond, Result, Ok, Option, Some, None, IfSome, List, [], ◌∷◌, All, option_and_then, refl, sym, ap, subst}
use Rattle.std.proofs.lemmas.List.Elements.{All-head, All-tail}
use Rattle.hack_types.specs.Substituted.{limited}
use Rattle.hack_types.specs.declared.hack_type.HackType.{HackType, out-HackType, roll-HackType}
use Rattle.hack_types.specs.declared.hack_type.HackType.TheFolds.{fold-roll-HackType}
use Rattle.hack_types.specs.declared.hack_type.HackType.TheOpen.{HackType-F}
use Rattle.hack_types.specs.declared.hack_type.HackType.TheVariants as type
use Rattle.hack_types.specs.declared.hack_type.HackType.TheViews.{out-roll-HackType}
use Rattle.hack_types.specs.declared.ids.SymbolId.{SymbolId}
use Rattle.hack_types.specs.declared.place.Place.{Place}
use Rattle.hack_decls.specs.AskLaws.{unasked}
use Rattle.hack_decls.specs.DeclState.{DeclState, Map, Symbols}
use Rattle.hack_decls.specs.Names.{TypeIn, symbols_by, symbols_in}
use Rattle.hack_decls.specs.declared.stop.DeclStop.{DeclStop}
use Rattle.hack_diag.specs.Messages.{Message, diag_of, not_iterated}
use Rattle.hack_infer.specs.Seeing.{ancestor_given, given, seen_as}
use Rattle.hack_rules.specs.Ends.{Doing, Inside}
use Rattle.hack_rules.specs.Loops.{assign_key, foreach_loop, foreach_turn, foreach_types, keyed_by, three_passes, traversed, unknown_types, values_by}
use Rattle.hack_rules.specs.Meanings.{Meaning}
use Rattle.hack_rules.specs.Variables.{Variables}
use Rattle.hack_rules.specs.Walks.{Setting, State, Walk, ◌>>=◌, ◌>>◌, assign, pure, report, replace, variables}
use Rattle.hack_sub.specs.NamesOf.{alone}
use Rattle.hack_sub.specs.NamesPut.{of_any}
use Rattle.hack_sub.specs.Parts.{arguments_by, name_by}
use Rattle.hack_walk.specs.Checks.{Steps, VariablesIn, Walks}
use Rattle.hack_flow.specs.Settled.{emptied, settled}
use Rattle.hack_flow.specs.inside.ForeachRows.{TypesIn, head_types, one_of, two_of}
use Rattle.hack_flow.specs.inside.Rows.{body_turn}

-- the former of a type that is known
pub out_of : (head variant : HackType) (layer : HackType-F HackType) → head ≡ variant → roll-HackType layer ≡ variant → out-HackType head ≡ layer
out_of head variant layer is rolls = ap out-HackType (is ∙ sym rolls) ∙ out-roll-HackType layer

-- what a class is seen as
module _ (m : Map) (name_of : ℕ) (head : HackType) where
  pub seen_class : (class : ℕ) (own : List HackType) → out-HackType head ≡ HackType-F.Class class own → seen_as m name_of head ≡ given m class own name_of
  seen_class class own is = ap (λ (layer : HackType-F HackType). option_and_then (λ c. given m c (arguments_by layer) name_of) (name_by layer)) is

module _ (m : Map) (class name : ℕ) (own : List HackType) where
  pub own_given : (class == name) ≡ true → given m class own name ≡ Some own
  own_given is = ap (λ (b : Bool). cond b (Some own) (ancestor_given m class own name)) is

  pub other_given : (class == name) ≡ false → given m class own name ≡ ancestor_given m class own name
  other_given is = ap (λ (b : Bool). cond b (Some own) (ancestor_given m class own name)) is

-- by two arguments, and by one
abbrev pub by_two : Place → HackType → Option (HackType × HackType) → Walk (HackType × HackType)
by_two at head (Some pair) = pure (limited pair.0, limited pair.1)
by_two at head None = traversed at head

pub keyed_two : (at : Place) (head : HackType) (given : Option (List HackType)) → keyed_by at head given ≡ by_two at head (two_of given)
keyed_two at head None = refl
keyed_two at head (Some []) = refl
keyed_two at head (Some (a ∷ [])) = refl
keyed_two at head (Some (a ∷ b ∷ [])) = refl
keyed_two at head (Some (a ∷ b ∷ c ∷ more)) = refl

abbrev pub by_one : Place → HackType → Option HackType → Walk (HackType × HackType)
by_one at head (Some value) = pure (type.Mixed, limited value)
by_one at head None = report at (not_iterated head) >> pure unknown_types

pub values_one : (at : Place) (head : HackType) (given : Option (List HackType)) → values_by at head given ≡ by_one at head (one_of given)
values_one at head None = refl
values_one at head (Some []) = refl
values_one at head (Some (a ∷ [])) = refl
values_one at head (Some (a ∷ b ∷ more)) = refl

module _ (symbols : Symbols) where
  pub in_two : (pair : HackType × HackType) (given : Option (List HackType)) → Some pair ≡ two_of given → IfSome given (All (TypeIn symbols)) → TypesIn symbols pair
  in_two pair None is all = absurd cc
  in_two pair (Some []) is all = absurd cc
  in_two pair (Some (a ∷ [])) is all = absurd cc
  in_two pair (Some (a ∷ b ∷ [])) is all =
      let same : pair ≡ (a, b) = cc in
      subst (TypesIn symbols) (sym same) (All-head (TypeIn symbols) a (b ∷ []) all, All-head (TypeIn symbols) b [] (All-tail (TypeIn symbols) a (b ∷ []) all))
  in_two pair (Some (a ∷ b ∷ c ∷ more)) is all = absurd cc

  pub in_one_of : (value : HackType) (given : Option (List HackType)) → Some value ≡ one_of given → IfSome given (All (TypeIn symbols)) → TypeIn symbols value
  in_one_of value None is all = absurd cc
  in_one_of value (Some []) is all = absurd cc
  in_one_of value (Some (a ∷ [])) is all =
      let same : value ≡ a = cc in
      subst (TypeIn symbols) (sym same) (All-head (TypeIn symbols) a [] all)
  in_one_of value (Some (a ∷ b ∷ more)) is all = absurd cc

  pub of_mixed : TypeIn symbols type.Mixed
  unfolding symbols_in
  of_mixed = alone symbols HackType-F.Mixed type.Mixed (sym type.rolls-Mixed) (fold-roll-HackType (List SymbolId) symbols_by HackType-F.Mixed)

  pub in_unknown : TypesIn symbols unknown_types
  in_unknown = (of_any symbols, of_any symbols)

-- both types, and nothing else
module _ {Base Held : Type 0} {setting : Setting} {Names : Symbols → Type 0} where
  pub walks_given : (walk : Walk (HackType × HackType)) (state : DeclState Base Held) (here : State) (types got : HackType × HackType) → walk ≡ pure types → got ≡ types
      → ((symbols : Symbols) → Names symbols → TypesIn symbols types) → Walks walk setting state here (Ok got) state here Names TypesIn
  unfolding pure
  walks_given walk state here types got is same gives = record {
    asks = unasked state got (λ map. ap (λ (w : Walk (HackType × HackType)). w setting map here) is ∙ ap (λ (t : HackType × HackType). (t, here)) (sym same))
        (λ symbols n. (n.0.types, subst (TypesIn symbols) (sym same) (gives symbols n.1)));
  }

module _ {setting : Setting} {Names : Symbols → Type 0} where
  -- a diagnostic, and both types are `_`
  pub steps_unknown : (walk : Walk (HackType × HackType)) (before behind : State) (at : Place) (message : Message) → walk ≡ (report at message >> pure unknown_types)
      → behind.variables ≡ before.variables → behind.found ≡ before.found ++ diag_of setting.names at message ∷ []
      → Steps walk setting before (Ok unknown_types) behind Names TypesIn
  unfolding report ◌>>=◌ ◌>>◌ pure
  steps_unknown walk before behind at message is same found = record {
    is = λ map. ap (λ (w : Walk (HackType × HackType)). w setting map before) is ∙ (λ i. (unknown_types, record { variables = sym same i; found = sym found i }));
    named = λ symbols body n. (subst (VariablesIn symbols) (sym same) body.types, in_unknown symbols);
  }

-- steps that are given more
pub steps_more : {A : Type 0} {setting : Setting} {Names NamesB : Symbols → Type 0} {Gives : Symbols → A → Type 0} {walk : Walk A} {before behind : State} {a : A}
    → Steps walk setting before (Ok a) behind Names Gives → ((symbols : Symbols) → NamesB symbols → Names symbols) → Steps walk setting before (Ok a) behind NamesB Gives
steps_more steps more = record { is = steps.is; named = λ symbols body n. steps.named symbols body (more symbols n) }

-- a check of a walk is one of the same walk, otherwise written
pub walks_same : {Base Held A : Type 0} {setting : Setting} {Names : Symbols → Type 0} {Gives : Symbols → A → Type 0} {walk : Walk A} {old new : DeclState Base Held} {before behind : State}
    (other : Walk A) (result : Result A DeclStop) → other ≡ walk → Walks walk setting old before result new behind Names Gives → Walks other setting old before result new behind Names Gives
walks_same {setting = setting} {Names = Names} {Gives = Gives} {old = old} {new = new} {before = before} {behind = behind} other result is walks =
    subst (λ w. Walks w setting old before result new behind Names Gives) (sym is) walks

-- the turn in pieces
pub turn_pieces : (types : HackType × HackType) (key : Option ℕ) (value : ℕ) (body : Doing) (inside : Inside) (setting : Setting) (m : Map) (state : State)
    → emptied (foreach_turn types key value body inside) setting m state
    ≡ (variables >>= (λ (entry : Variables). assign_key key types.0 >> (assign value types.1 >> emptied (body_turn body inside entry)))) setting m state
unfolding emptied foreach_turn body_turn ◌>>=◌ ◌>>◌ pure replace variables
turn_pieces types key value body inside setting m state = refl

-- the subject, and then the passes
pub foreach_pieces : (subject : Meaning) (key : Option ℕ) (value : ℕ) (body : Doing) (inside : Inside) (setting : Setting) (m : Map) (state : State)
    → settled (foreach_loop subject key value body inside) setting m state
    ≡ (foreach_types subject >>= (λ (types : HackType × HackType). settled (three_passes (foreach_turn types key value body inside)))) setting m state
unfolding settled foreach_loop ◌>>=◌ ◌>>◌ pure
foreach_pieces subject key value body inside setting m state = refl

-- the subject's type, and then its head
pub types_pieces : (subject : Meaning) → foreach_types subject ≡ (subject.walk >>= head_types subject.at)
unfolding foreach_types head_types
types_pieces subject = refl
