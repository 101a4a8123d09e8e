-- Each statement goes well, along its tree.
use Rattle.std.proofs.Common.{◌≡◌, ℕ, Bool, true, false, Option, Some, None, List, [], ◌∷◌, ◌++◌, map, sym, subst}
use Rattle.std.specs.Bool.{if◌then◌else◌}
use Rattle.std.specs.List.{AllByRecursion, list_any}
use Rattle.std.specs.Option.{is_none, option_map}
use Rattle.hack_tree.specs.declared.statement.Case.{Case, roll-Case}
use Rattle.hack_tree.specs.declared.statement.Catch.{Catch, roll-Catch}
use Rattle.hack_tree.specs.declared.statement.Stmt.{Stmt, roll-Stmt}
use Rattle.hack_tree.specs.declared.statement.Stmt.TheOpen.{Stmt-F, Case-F, Catch-F}
use Rattle.hack_tree.specs.declared.statement.Stmt.TheFolds.{fold-Case, fold-Catch, fold-roll-Stmt, fold-roll-Case, fold-roll-Catch, ind-Stmt, map-Stmt, map-Case, map-Catch}
use Rattle.hack_types.specs.SameType.{same_type}
use Rattle.hack_types.specs.declared.hack_type.HackType.TheVariants as type
use Rattle.hack_types.specs.declared.place.Place.{Place}
use Rattle.hack_rules.specs.Ends.{Doing, Ends, Inside, either_end, no_ends, with_leaves}
use Rattle.hack_rules.specs.Expressions.{meaning_of}
use Rattle.hack_rules.specs.Meanings.{Meaning}
use Rattle.hack_rules.specs.Statements.{CaseMeaning, CatchMeaning, assigned_in_block, assigned_in_catches, behind_last, break_ends, case_by, cases_from, catch_by, catch_ends, catches_from, continue_ends, doing_of, echo_ends, expression_ends, if_ends, key_name, last_ends, meanings_of, otherwise_ends, return_ends, start_of, statement, statement_by, switch_ends, throw_ends, try_ends, value_by, without_default}
use Rattle.hack_rules.specs.Variables.{Variables, either, taking}
use Rattle.hack_rules.proofs.Ends.{AllGood, GoodDoing, GoodEnds, goes_block, goes_ends_here, good_either, good_leaves}
use Rattle.hack_rules.proofs.Environments.{Follows, MayFollow, follows_either, follows_joined, follows_mixed, follows_taking}
use Rattle.hack_rules.proofs.Expressions.{all_of, may_of, sound}
use Rattle.hack_rules.proofs.Loops.{goes_do, goes_for, goes_foreach, goes_while}
use Rattle.hack_rules.proofs.Meanings.{AllSound, MaySound, Sound}
use Rattle.hack_rules.proofs.Mentions.{goes_written_class}
use Rattle.hack_rules.proofs.Steps.{Free, Goes, free_reads, goes_assign, goes_each, goes_either, goes_expect, goes_next, goes_pure, goes_replace, goes_then, goes_unless, goes_variables}

-- a statement where there is one
abbrev MayGood : Variables → Option Doing → Type 0
MayGood base None = Unit {0}
MayGood base (Some statement) = GoodDoing base statement

-- statements where there are some
abbrev MayAllGood : Variables → Option (List Doing) → Type 0
MayAllGood base None = Unit {0}
MayAllGood base (Some statements) = AllGood base statements

-- a case
record GoodCase (base : Variables) (c : CaseMeaning) : Type 0 where
  pub value : MaySound base c.value
  pub body : AllGood base c.body

-- a catch
record GoodCatch (base : Variables) (c : CatchMeaning) : Type 0 where
  pub body : AllGood base c.body

module _ (base : Variables) where
  may_default : (default : Bool) (behind : Variables) → Follows base behind → MayFollow base (if default then None else Some behind)
  may_default true behind f = tt
  may_default false behind f = f

  may_taking : (assigned : List ℕ) (from : Variables) (before : Option Variables) → MayFollow base before → MayFollow base (option_map (taking assigned from) before)
  may_taking assigned from None b = tt
  may_taking assigned from (Some before) b = follows_taking assigned from before b

  may_behind_last : (assigned : List ℕ) (last before : Option Variables) → MayFollow base before → MayFollow base (behind_last assigned last before)
  may_behind_last assigned None before b = tt
  may_behind_last assigned (Some last) before b = may_taking assigned last before b

module _ {base : Variables} where
  -- ---- if

  goes_otherwise : (other : Option Doing) → MayGood base other → (inside : Inside) → Goes base (GoodEnds base) (otherwise_ends other inside)
  goes_otherwise None o inside = goes_ends_here
  goes_otherwise (Some statement) o inside = o.ends inside

  goes_if : {condition : Meaning} {body : Doing} (other : Option Doing) → Sound base condition → GoodDoing base body → MayGood base other → (inside : Inside)
      → Goes base (GoodEnds base) (if_ends condition body other inside)
  unfolding if_ends
  goes_if other c b o inside = goes_then c.branches (λ branches f. goes_next (goes_replace f.0) (goes_then (b.ends inside) (λ first g.
      goes_next (goes_replace f.1) (goes_then (goes_otherwise other o inside) (λ second h. goes_pure _ (good_either base first second g h))))))

  -- ---- switch

  goes_value_by : (value : Option Meaning) → MaySound base value → Goes base Free (value_by value)
  goes_value_by None v = goes_pure _ tt
  goes_value_by (Some value) v = goes_next v.walk (goes_pure _ tt)

  follows_start : (start : Variables) (before : Option Variables) → Follows base start → MayFollow base before → Follows base (start_of start before)
  follows_start start None s b = s
  follows_start start (Some before) s b = follows_joined s b

  goes_cases : (start : Variables) → Follows base start → (inside : Inside) (cases : List CaseMeaning) → AllByRecursion (GoodCase base) cases → (so_far : Ends) → GoodEnds base so_far
      → Goes base (GoodEnds base) (cases_from start inside cases so_far)
  unfolding cases_from
  goes_cases start s inside [] all so_far g = goes_pure _ g
  goes_cases start s inside (c ∷ cases) all so_far g = goes_next (goes_replace (follows_start start so_far.normal s g.0))
      (goes_then (goes_block c.body all.0.body (record inside { breakable = true })) (λ ends e.
      goes_cases start s inside cases all.1 (with_leaves so_far ends ends.normal) (good_leaves base so_far ends ends.normal g e e.0)))

  goes_switch : {subject : Meaning} (cases : List CaseMeaning) → Sound base subject → AllByRecursion (GoodCase base) cases → (inside : Inside)
      → Goes base (GoodEnds base) (switch_ends subject cases inside)
  unfolding switch_ends
  goes_switch cases s all inside = goes_next s.walk (goes_then goes_variables (λ behind f.
      goes_next (goes_each (GoodCase base) (λ c good. goes_value_by c.value good.value) cases all) (goes_then goes_variables (λ start g.
      goes_then (goes_cases start g inside cases all no_ends (tt, tt, tt)) (λ ends e. goes_pure _ (
        follows_either base (either ends.breaks ends.normal) (without_default cases behind) (follows_either base ends.breaks ends.normal e.1 e.0)
            (may_default base (list_any (λ c. is_none c.value) cases) behind f),
        tt,
        e.2,
      ))))))

  -- ---- try

  goes_catch : (assigned : List ℕ) (entry : Variables) → Follows base entry → (c : CatchMeaning) → GoodCatch base c → (inside : Inside)
      → Goes base (GoodEnds base) (catch_ends assigned entry c inside)
  unfolding catch_ends
  goes_catch assigned entry f c good inside = goes_next (goes_replace (follows_mixed assigned f)) (goes_then (goes_written_class c.class) (λ caught g.
      goes_next (goes_expect _ _ _) (goes_next (goes_assign _ _) (goes_block c.body good.body inside))))

  goes_catches : (assigned : List ℕ) (entry : Variables) → Follows base entry → (catches : List CatchMeaning) → AllByRecursion (GoodCatch base) catches → (inside : Inside) (so_far : Ends)
      → GoodEnds base so_far → Goes base (GoodEnds base) (catches_from assigned entry catches inside so_far)
  unfolding catches_from
  goes_catches assigned entry f [] all inside so_far g = goes_pure _ g
  goes_catches assigned entry f (c ∷ catches) all inside so_far g = goes_then (goes_catch assigned entry f c all.0 inside) (λ ends e.
      goes_catches assigned entry f catches all.1 inside (either_end so_far ends) (good_either base so_far ends g e))

  goes_last : (assigned : List ℕ) (entry : Variables) → Follows base entry → (so_far : Ends) → GoodEnds base so_far → (last : Option (List Doing)) → MayAllGood base last → (inside : Inside)
      → Goes base (GoodEnds base) (last_ends assigned entry so_far last inside)
  unfolding last_ends
  goes_last assigned entry f so_far g None l inside = goes_pure _ g
  goes_last assigned entry f so_far g (Some body) l inside = goes_next (goes_replace (follows_mixed assigned f)) (goes_then (goes_block body l inside) (λ ends e.
      goes_pure _ (good_leaves base so_far ends (behind_last (assigned_in_block body) ends.normal so_far.normal) g e
      (may_behind_last base (assigned_in_block body) ends.normal so_far.normal g.0))))

  goes_try : (body : List Doing) (catches : List CatchMeaning) (last : Option (List Doing)) → AllGood base body → AllByRecursion (GoodCatch base) catches → MayAllGood base last
      → (inside : Inside) → Goes base (GoodEnds base) (try_ends body catches last inside)
  unfolding try_ends
  goes_try body catches last b all l inside = goes_then goes_variables (λ entry f. goes_then (goes_block body b inside) (λ ends e.
      goes_then (goes_catches (assigned_in_block body) entry f catches all inside ends e) (λ caught g.
      goes_last (assigned_in_block body ++ assigned_in_catches catches) entry f caught g last l inside)))

  -- ---- what leaves a body or a loop, and expressions

  goes_return : (at : Place) (value : Option Meaning) → MaySound base value → Goes base (GoodEnds base) (return_ends at value)
  unfolding return_ends
  goes_return _ None v = goes_then (free_reads _) (λ result g. goes_next (goes_expect _ _ _) (goes_pure _ (tt, tt, tt)))
  goes_return _ (Some value) v = goes_then v.walk (λ ty g. goes_then (free_reads _) (λ result h. goes_next (goes_expect _ _ _) (goes_pure _ (tt, tt, tt))))

  goes_throw : {value : Meaning} → Sound base value → Goes base (GoodEnds base) (throw_ends value)
  unfolding throw_ends
  goes_throw v = goes_then v.walk (λ ty g. goes_next (goes_expect _ _ _) (goes_pure _ (tt, tt, tt)))

  goes_break : (at : Place) (inside : Inside) → Goes base (GoodEnds base) (break_ends at inside)
  unfolding break_ends
  goes_break _ _ = goes_next (goes_unless _ _ _) (goes_then goes_variables (λ here f. goes_pure _ (tt, f, tt)))

  goes_continue : (at : Place) (inside : Inside) → Goes base (GoodEnds base) (continue_ends at inside)
  unfolding continue_ends
  goes_continue _ _ = goes_next (goes_unless _ _ _) (goes_then goes_variables (λ here f. goes_pure _ (tt, tt, f)))

  goes_echo : (values : List Meaning) → AllSound base values → Goes base (GoodEnds base) (echo_ends values)
  unfolding echo_ends
  goes_echo values all = goes_next (goes_each (Sound base) (λ value good. good.walk) values all) goes_ends_here

  goes_expression : {expression : Meaning} → Sound base expression → Goes base (GoodEnds base) (expression_ends expression)
  unfolding expression_ends
  goes_expression e = goes_then e.walk (λ ty g. goes_either (same_type type.Nothing ty) (goes_pure _ (tt, tt, tt)) goes_ends_here)

module _ (base : Variables) where
  -- ---- the tree

  abbrev case_of : Case → CaseMeaning
  case_of = fold-Case Doing CaseMeaning CatchMeaning statement_by case_by catch_by

  abbrev catch_of : Catch → CatchMeaning
  catch_of = fold-Catch Doing CaseMeaning CatchMeaning statement_by case_by catch_by

  abbrev OfStmt : Stmt → Type 0
  OfStmt s = GoodDoing base (doing_of s)

  abbrev OfCase : Case → Type 0
  OfCase c = GoodCase base (case_of c)

  abbrev OfCatch : Catch → Type 0
  OfCatch c = GoodCatch base (catch_of c)

  abbrev ToldStmt : Type 0
  ToldStmt = (s : Stmt) × OfStmt s

  abbrev ToldCase : Type 0
  ToldCase = (c : Case) × OfCase c

  abbrev ToldCatch : Type 0
  ToldCatch = (c : Catch) × OfCatch c

  abbrev doings : List ToldStmt → List Doing
  doings told = map doing_of (map (λ (e : ToldStmt). e.0) told)

  all_doings : (told : List ToldStmt) → AllGood base (doings told)
  all_doings [] = tt
  all_doings (e ∷ told) = (e.1, all_doings told)

  abbrev cases_of : List ToldCase → List CaseMeaning
  cases_of told = map case_of (map (λ (e : ToldCase). e.0) told)

  all_cases : (told : List ToldCase) → AllByRecursion (GoodCase base) (cases_of told)
  all_cases [] = tt
  all_cases (e ∷ told) = (e.1, all_cases told)

  abbrev catches_of : List ToldCatch → List CatchMeaning
  catches_of told = map catch_of (map (λ (e : ToldCatch). e.0) told)

  all_catches : (told : List ToldCatch) → AllByRecursion (GoodCatch base) (catches_of told)
  all_catches [] = tt
  all_catches (e ∷ told) = (e.1, all_catches told)

  abbrev LayerStmt : Type 0
  LayerStmt = Stmt-F ToldStmt ToldCase ToldCatch

  abbrev bare_stmt : LayerStmt → Stmt-F Stmt Case Catch
  bare_stmt = map-Stmt ToldStmt ToldCase ToldCatch Stmt Case Catch (λ (e : ToldStmt). e.0) (λ (e : ToldCase). e.0) (λ (e : ToldCatch). e.0)

  good_layer : (y : LayerStmt) → GoodDoing base (statement_by (map-Stmt Stmt Case Catch Doing CaseMeaning CatchMeaning doing_of case_of catch_of (bare_stmt y)))
  unfolding statement_by
  good_layer (Stmt-F.Block at body) = record { ends = λ inside. goes_block (doings body) (all_doings body) inside }
  good_layer (Stmt-F.Empty at) = record { ends = λ inside. goes_ends_here }
  good_layer (Stmt-F.If at condition body None) = record { ends = λ inside. goes_if None (sound base condition) body.1 tt inside }
  good_layer (Stmt-F.If at condition body (Some other)) = record { ends = λ inside. goes_if (Some (doing_of other.0)) (sound base condition) body.1 other.1 inside }
  good_layer (Stmt-F.While at condition body) = record { ends = λ inside. goes_while _ inside (sound base condition) body.1 }
  good_layer (Stmt-F.DoWhile at body condition) = record { ends = λ inside. goes_do _ inside body.1 (sound base condition) }
  good_layer (Stmt-F.For at start condition steps body) = record {
    ends = λ inside. goes_for _ (meanings_of start) (option_map meaning_of condition) (meanings_of steps) inside (all_of base start) (may_of base condition) (all_of base steps) body.1;
  }
  good_layer (Stmt-F.Foreach at subject key value body) = record { ends = λ inside. goes_foreach _ _ (key_name key) inside (sound base subject) body.1 }
  good_layer (Stmt-F.Switch at subject cases) = record { ends = λ inside. goes_switch (cases_of cases) (sound base subject) (all_cases cases) inside }
  good_layer (Stmt-F.Return at value) = record { ends = λ inside. goes_return _ (option_map meaning_of value) (may_of base value) }
  good_layer (Stmt-F.Throw at value) = record { ends = λ inside. goes_throw (sound base value) }
  good_layer (Stmt-F.Break at) = record { ends = λ inside. (goes_break _ _) }
  good_layer (Stmt-F.Continue at) = record { ends = λ inside. (goes_continue _ _) }
  good_layer (Stmt-F.Echo at values) = record { ends = λ inside. goes_echo (meanings_of values) (all_of base values) }
  good_layer (Stmt-F.Expression at expression) = record { ends = λ inside. goes_expression (sound base expression) }
  good_layer (Stmt-F.Try at body catches None) = record {
    ends = λ inside. goes_try (doings body) (catches_of catches) None (all_doings body) (all_catches catches) tt inside;
  }
  good_layer (Stmt-F.Try at body catches (Some last)) = record {
    ends = λ inside. goes_try (doings body) (catches_of catches) (Some (doings last)) (all_doings body) (all_catches catches) (all_doings last) inside;
  }

  of_stmt : (x : Stmt-F Stmt Case Catch) (y : LayerStmt) → bare_stmt y ≡ x → OfStmt (roll-Stmt x)
  of_stmt x y is = subst (λ z. OfStmt (roll-Stmt z)) is
      (subst (GoodDoing base) (sym (fold-roll-Stmt Doing CaseMeaning CatchMeaning statement_by case_by catch_by (bare_stmt y))) (good_layer y))

  abbrev bare_case : Case-F ToldStmt ToldCase ToldCatch → Case-F Stmt Case Catch
  bare_case = map-Case ToldStmt ToldCase ToldCatch Stmt Case Catch (λ (e : ToldStmt). e.0) (λ (e : ToldCase). e.0) (λ (e : ToldCatch). e.0)

  of_case : (x : Case-F Stmt Case Catch) (y : Case-F ToldStmt ToldCase ToldCatch) → bare_case y ≡ x → OfCase (roll-Case x)
  of_case x y is = subst (λ z. OfCase (roll-Case z)) is
      (subst (GoodCase base) (sym (fold-roll-Case Doing CaseMeaning CatchMeaning statement_by case_by catch_by (bare_case y)))
      (record { value = may_of base y.value; body = all_doings y.body }))

  abbrev bare_catch : Catch-F ToldStmt ToldCase ToldCatch → Catch-F Stmt Case Catch
  bare_catch = map-Catch ToldStmt ToldCase ToldCatch Stmt Case Catch (λ (e : ToldStmt). e.0) (λ (e : ToldCase). e.0) (λ (e : ToldCatch). e.0)

  of_catch : (x : Catch-F Stmt Case Catch) (y : Catch-F ToldStmt ToldCase ToldCatch) → bare_catch y ≡ x → OfCatch (roll-Catch x)
  of_catch x y is = subst (λ z. OfCatch (roll-Catch z)) is
      (subst (GoodCatch base) (sym (fold-roll-Catch Doing CaseMeaning CatchMeaning statement_by case_by catch_by (bare_catch y)))
      (record { body = all_doings y.body }))

  good : (s : Stmt) → GoodDoing base (doing_of s)
  good = ind-Stmt OfStmt OfCase OfCatch of_stmt of_case of_catch

  pub all_statements : (ss : List Stmt) → AllGood base (map doing_of ss)
  all_statements [] = tt
  all_statements (s ∷ ss) = (good s, all_statements ss)

pub goes_statement : {base : Variables} (s : Stmt) (inside : Inside) → Goes base (GoodEnds base) (statement s inside)
unfolding statement
goes_statement {base = base} s inside = (good base s).ends inside
