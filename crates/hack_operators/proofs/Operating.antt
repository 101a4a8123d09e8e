-- What operators do once the classes of their operands are known, and how the clauses of their checks are put together.
use Rattle.std.proofs.Common.{◌≡◌, ◌∙◌, ◌||◌, Bool, true, false, Option, Some, None, Result, Ok, Err, IfSome, sym, ap, subst}
use Rattle.std.specs.Bool.{if◌then◌else◌}
use Rattle.hack_types.specs.declared.hack_type.HackType.{HackType}
use Rattle.hack_types.specs.declared.hack_type.HackType.TheVariants.{Any}
use Rattle.hack_types.specs.declared.place.Place.{Place}
use Rattle.hack_decls.specs.AskLaws.{failed, said, without_memory}
use Rattle.hack_decls.specs.Asks.{Asks, Nothing}
use Rattle.hack_decls.specs.DeclState.{DeclState, Map, Symbols}
use Rattle.hack_decls.specs.Names.{TypeIn}
use Rattle.hack_decls.specs.declared.stop.DeclStop.{DeclStop}
use Rattle.hack_decls.specs.declared.stop.DeclStop.TheVariants as stop
use Rattle.hack_diag.specs.Messages.{operator_refuses, sign_refuses}
use Rattle.hack_rules.specs.Operators as rules
use Rattle.hack_rules.specs.Operators.{class_of, given_or, is_error, operate, operate_alone, operation_text, result_of, sign_of, sign_text, signed_or}
use Rattle.hack_rules.specs.Walks.{Setting, State, ◌>>=◌, pure, reads, refuse}
use Rattle.hack_sub.specs.NamesPut.{of_any}
use Rattle.hack_walk.specs.Checks.{BodyIn, Reads, Steps, Walks}
use Rattle.hack_walk.specs.WalkLaws.{asked_out_of_memory, asked_refused, of_step, reads_walks, step_pure}
use Rattle.hack_operators.proofs.Naming.{Plain, results, signs}
use Rattle.hack_operators.proofs.Stepping.{steps_as}
use Rattle.hack_operators.specs.Operands.{OperandIn, OperandsIn}
use Rattle.hack_operators.specs.Seen.{class_seen}
use Rattle.hack_operators.specs.declared.class.OperandClass.{OperandClass}
use Rattle.hack_operators.specs.inside.Calls.{operated, signed}

of_some : (ty : HackType) (o : Option HackType) → Some ty ≡ o → IfSome o Plain → Plain ty
of_some ty o is plain = subst (λ (x : Option HackType). IfSome x Plain) (sym is) plain

-- ---- once the classes are known

module _ (at : Place) (operation : rules.Operation) (left right : HackType) (first second : rules.OperandClass) (setting : Setting) (before : State) where
  abbrev by_error : Map → Bool → HackType × State
  by_error map b = (if b then pure Any else given_or at operation left right (result_of operation first second)) setting map before

  abbrev by_table : Map → Option HackType → HackType × State
  by_table map o = given_or at operation left right o setting map before

  pub error_given : {Names : Symbols → Type 0} → true ≡ (is_error first || is_error second) → Steps (operated at operation left right first second) setting before (Ok Any) before Names TypeIn
  error_given e = steps_as (operated at operation left right first second) (Ok Any) (step_pure before Any (λ symbols n. of_any symbols)) (λ map. sym (ap (by_error map) e))

  pub type_given : {Names : Symbols → Type 0} → false ≡ (is_error first || is_error second) → (ty : HackType) → Some ty ≡ result_of operation first second
      → Steps (operated at operation left right first second) setting before (Ok ty) before Names TypeIn
  type_given e ty is =
      steps_as (operated at operation left right first second) (Ok ty)
      (step_pure before ty (λ symbols n. of_some ty (result_of operation first second) is (results operation first second) symbols))
      (λ map. sym (ap (by_error map) e) ∙ sym (ap (by_table map) is))

  pub none_given : false ≡ (is_error first || is_error second) → None ≡ result_of operation first second → (map : Map)
      → operated at operation left right first second setting map before ≡ refuse at (operator_refuses (operation_text operation) left right) setting map before
  none_given e is map = sym (ap (by_error map) e) ∙ sym (ap (by_table map) is)

module _ (at : Place) (sign : rules.Sign) (operand : HackType) (class : rules.OperandClass) (setting : Setting) (before : State) where
  abbrev alone_by : Map → Bool → HackType × State
  alone_by map b = (if b then pure Any else signed_or at sign operand (sign_of sign class)) setting map before

  abbrev alone_table : Map → Option HackType → HackType × State
  alone_table map o = signed_or at sign operand o setting map before

  pub error_alone : {Names : Symbols → Type 0} → true ≡ is_error class → Steps (signed at sign operand class) setting before (Ok Any) before Names TypeIn
  error_alone e = steps_as (signed at sign operand class) (Ok Any) (step_pure before Any (λ symbols n. of_any symbols)) (λ map. sym (ap (alone_by map) e))

  pub type_alone : {Names : Symbols → Type 0} → false ≡ is_error class → (ty : HackType) → Some ty ≡ sign_of sign class → Steps (signed at sign operand class) setting before (Ok ty) before Names TypeIn
  type_alone e ty is =
      steps_as (signed at sign operand class) (Ok ty) (step_pure before ty (λ symbols n. of_some ty (sign_of sign class) is (signs sign class) symbols))
      (λ map. sym (ap (alone_by map) e) ∙ sym (ap (alone_table map) is))

  pub none_alone : false ≡ is_error class → None ≡ sign_of sign class → (map : Map)
      → signed at sign operand class setting map before ≡ refuse at (sign_refuses (sign_text sign) operand) setting map before
  none_alone e is map = sym (ap (alone_by map) e) ∙ sym (ap (alone_table map) is)

-- ---- the checks

-- a call that asks for the class of an operand
abbrev pub Classed : {Base Held : Type 0} → Setting → HackType → DeclState Base Held → Result OperandClass DeclStop → DeclState Base Held → Type 0
Classed setting operand old result new =
    Asks old result new (λ map class. class_seen class ≡ class_of map setting.scope operand) (λ symbols. OperandIn symbols setting.scope operand) Nothing

module _ {Base Held : Type 0} {old new : DeclState Base Held} (setting : Setting) (operand : HackType) where
  -- as the row reads it
  read : (class : OperandClass) → Classed setting operand old (Ok class) new
      → Reads (λ map scope. class_of map scope operand) setting.scope old (Ok (class_seen class)) new (λ symbols. OperandIn symbols setting.scope operand) Nothing
  read class asks = said (class_seen class) asks (λ map is. is) (λ symbols n. n) (λ symbols n g. tt)

-- what the whole is given is what each question is given
module _ (setting : Setting) (here : State) where
  abbrev Both : HackType → HackType → Symbols → Type 0
  Both left right symbols = BodyIn symbols setting.scope here.variables × OperandsIn symbols left right

  abbrev One : HackType → Symbols → Type 0
  One operand symbols = BodyIn symbols setting.scope here.variables × TypeIn symbols operand

  lower : (left right : HackType) (symbols : Symbols) → Both left right symbols → OperandIn symbols setting.scope left
  lower left right symbols n = record { around = n.0.around; operand = n.1.left }

  upper : (left right : HackType) (symbols : Symbols) → Both left right symbols → OperandIn symbols setting.scope right
  upper left right symbols n = record { around = n.0.around; operand = n.1.right }

  alone : (operand : HackType) (symbols : Symbols) → One operand symbols → OperandIn symbols setting.scope operand
  alone operand symbols n = record { around = n.0.around; operand = n.1 }

  -- the first question, given both operands
  widely : {Base Held : Type 0} {old new : DeclState Base Held} (left right : HackType) (first : OperandClass) → Classed setting left old (Ok first) new
      → Asks old (Ok first) new (λ map class. class_seen class ≡ class_of map setting.scope left) (Both left right) Nothing
  widely left right first asks = said first asks (λ map is. is) (lower left right) (λ symbols n g. tt)

module _ {Base Held : Type 0} {old new : DeclState Base Held} {before behind : State} (setting : Setting) (at : Place) where
  module _ (operation : rules.Operation) (left right : HackType) where
    pub operate_answers : {mid : DeclState Base Held} (first second : OperandClass) (answer : HackType) → Classed setting left old (Ok first) mid → Classed setting right mid (Ok second) new
        → Steps (operated at operation left right (class_seen first) (class_seen second)) setting before (Ok answer) behind (λ symbols. OperandsIn symbols left right) TypeIn
        → Walks (operate at operation left right) setting old before (Ok answer) new behind (λ symbols. OperandsIn symbols left right) TypeIn
    unfolding operate
    operate_answers first second answer one two steps =
        reads_walks {NamesB = λ symbols. OperandsIn symbols left right} {GivesB = TypeIn} (λ map scope. class_of map scope left)
        (λ a. reads (λ map scope. class_of map scope right) >>= (λ b. operated at operation left right a b)) (Ok answer) (read setting left first one)
        (reads_walks {NamesB = λ symbols. OperandsIn symbols left right} {GivesB = TypeIn} (λ map scope. class_of map scope right) (λ b. operated at operation left right (class_seen first) b)
        (Ok answer) (read setting right second two) (of_step new steps)
        (λ symbols around n. record { around = around; operand = n.right }) (λ symbols n g. n) (λ symbols b n g h. h))
        (λ symbols around n. record { around = around; operand = n.left }) (λ symbols n g. n) (λ symbols b n g h. h)

    pub left_fails : (e : DeclStop) → Classed setting left old (Err e) new
        → Walks (operate at operation left right) setting old before (Err e) new behind (λ symbols. OperandsIn symbols left right) TypeIn
    left_fails e one = record { asks = failed one (lower setting before left right) }

    pub right_fails : {mid : DeclState Base Held} (first : OperandClass) (e : DeclStop) → Classed setting left old (Ok first) mid → Classed setting right mid (Err e) new
        → Walks (operate at operation left right) setting old before (Err e) new behind (λ symbols. OperandsIn symbols left right) TypeIn
    right_fails first e one two = record { asks = asked_refused (widely setting before left right first one) two (λ symbols n g. upper setting before left right symbols n) }

    pub operate_without_memory : {mid : DeclState Base Held} (first second : OperandClass) → Classed setting left old (Ok first) mid → Classed setting right mid (Ok second) new
        → Walks (operate at operation left right) setting old before (Err stop.NoMemory) new behind (λ symbols. OperandsIn symbols left right) TypeIn
    operate_without_memory first second one two = record { asks = asked_out_of_memory (widely setting before left right first one) two (λ symbols n g. upper setting before left right symbols n) }

module _ {Base Held : Type 0} {old new : DeclState Base Held} {before behind : State} (setting : Setting) (at : Place) (sign : rules.Sign) (operand : HackType) where
  pub alone_answers : (class : OperandClass) (answer : HackType) → Classed setting operand old (Ok class) new
      → Steps (signed at sign operand (class_seen class)) setting before (Ok answer) behind (λ symbols. TypeIn symbols operand) TypeIn
      → Walks (operate_alone at sign operand) setting old before (Ok answer) new behind (λ symbols. TypeIn symbols operand) TypeIn
  unfolding operate_alone
  alone_answers class answer asks steps =
      reads_walks {NamesB = λ symbols. TypeIn symbols operand} {GivesB = TypeIn} (λ map scope. class_of map scope operand) (λ c. signed at sign operand c) (Ok answer)
      (read setting operand class asks) (of_step new steps) (λ symbols around n. record { around = around; operand = n }) (λ symbols n g. n) (λ symbols b n g h. h)

  pub alone_fails : (e : DeclStop) → Classed setting operand old (Err e) new
      → Walks (operate_alone at sign operand) setting old before (Err e) new behind (λ symbols. TypeIn symbols operand) TypeIn
  alone_fails e asks = record { asks = failed asks (alone setting before operand) }

  pub alone_without_memory : (class : OperandClass) → Classed setting operand old (Ok class) new
      → Walks (operate_alone at sign operand) setting old before (Err stop.NoMemory) new behind (λ symbols. TypeIn symbols operand) TypeIn
  alone_without_memory class asks = record { asks = without_memory asks (alone setting before operand) }
