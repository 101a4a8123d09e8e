-- What environments name: the types that are found in them, put into them and joined.
use Rattle.std.proofs.Common.{◌==◌, ℕ, Bool, true, false, cond, nat_le, Option, Some, None, IfSome, List, [], ◌∷◌, All, Ordering, Less, Equal, Greater, nat_cmp, option_map, sym, arith}
use Rattle.std.proofs.lemmas.List.Elements.{All-cons, All-head, All-tail}
use Rattle.std.specs.BTreeMap.{insert_entry}
use Rattle.std.specs.List.{cons_option, find}
use Rattle.std.specs.Ordering.{match_ordering}
use Rattle.hack_types.specs.SameType.{same_type}
use Rattle.hack_types.specs.Substituted.{limited, most_nodes}
use Rattle.hack_types.specs.TypeNodes.{nodes}
use Rattle.hack_types.specs.UnionOf.{union_of}
use Rattle.hack_types.specs.declared.hack_type.HackType.{HackType}
use Rattle.hack_types.specs.declared.hack_type.HackType.TheFolds.{fold-roll-HackType}
use Rattle.hack_types.specs.declared.hack_type.HackType.TheOpen.{HackType-F}
use Rattle.hack_types.specs.declared.hack_type.HackType.TheVariants as type
use Rattle.hack_types.specs.declared.ids.SymbolId.{SymbolId}
use Rattle.hack_decls.specs.DeclState.{Symbols}
use Rattle.hack_decls.specs.Names.{TypeIn, symbols_by, symbols_in}
use Rattle.hack_sub.specs.NamesOf.{alone}
use Rattle.hack_sub.specs.NamesPut.{in_union_of, of_any}
use Rattle.hack_rules.specs.Variables.{Variables, either, is_among, joined, joined_entry, mixed_in, refined, refined_by, taken_by, taking, type_in, union_of_two, widened, widened_entry, with_variable}
use Rattle.hack_walk.specs.Checks.{VariablesIn}

abbrev Entry : Type 0
Entry = ℕ × HackType

module _ (symbols : Symbols) where
  abbrev In : Entry → Type 0
  In entry = TypeIn symbols entry.1

  pub no_variables : VariablesIn symbols []
  no_variables = λ k d lt. absurd (omega (arith, lt))

  -- ---- a type that is found

  found_type : (is : Bool) (e : Entry) (found : Option Entry) → TypeIn symbols e.1 → IfSome (option_map (λ (entry : Entry). entry.1) found) (TypeIn symbols)
      → IfSome (option_map (λ (entry : Entry). entry.1) (cond is (Some e) found)) (TypeIn symbols)
  found_type true e found here there = here
  found_type false e found here there = there

  pub in_type_in : (variables : Variables) (name : ℕ) → VariablesIn symbols variables → IfSome (type_in variables name) (TypeIn symbols)
  unfolding type_in
  in_type_in [] name all = tt
  in_type_in (e ∷ es) name all =
      found_type (e.0 == name) e (find (λ (entry : Entry). entry.0 == name) es) (All-head In e es all) (in_type_in es name (All-tail In e es all))

  -- ---- a type that is put

  by_size : (b : Bool) (ty : HackType) → TypeIn symbols ty → TypeIn symbols (cond b ty type.Any)
  by_size true ty here = here
  by_size false ty here = of_any symbols

  pub in_limited : (ty : HackType) → TypeIn symbols ty → TypeIn symbols (limited ty)
  in_limited ty here = by_size (nat_le (nodes ty) most_nodes) ty here

  put_at : (o : Ordering) (name : ℕ) (ty : HackType) (e : Entry) (es more : Variables) → TypeIn symbols ty → In e → All In es → All In more
      → All In (match_ordering o ((name, ty) ∷ e ∷ es) ((e.0, ty) ∷ es) (e ∷ more))
  put_at Less name ty e es more here first rest put = All-cons In (name, ty) (e ∷ es) here (All-cons In e es first rest)
  put_at Equal name ty e es more here first rest put = All-cons In (e.0, ty) es here rest
  put_at Greater name ty e es more here first rest put = All-cons In e more first put

  put_in : (es : Variables) (name : ℕ) (ty : HackType) → All In es → TypeIn symbols ty → All In (insert_entry nat_cmp es name ty)
  put_in [] name ty all here = All-cons In (name, ty) [] here all
  put_in (e ∷ es) name ty all here =
      let rest = All-tail In e es all in
      put_at (nat_cmp name e.0) name ty e es (insert_entry nat_cmp es name ty) here (All-head In e es all) rest (put_in es name ty rest here)

  pub in_with_variable : (variables : Variables) (name : ℕ) (ty : HackType) → VariablesIn symbols variables → TypeIn symbols ty
      → VariablesIn symbols (with_variable variables name ty)
  unfolding with_variable
  in_with_variable variables name ty all here = put_in variables name (limited ty) all (in_limited ty here)

  refined_at : (variables : Variables) (name : ℕ) (f : HackType → HackType) (own : Option HackType) → VariablesIn symbols variables → IfSome own (TypeIn symbols)
      → ((ty : HackType) → TypeIn symbols ty → TypeIn symbols (f ty)) → VariablesIn symbols (refined_by variables name f own)
  refined_at variables name f None all here keeps = all
  refined_at variables name f (Some ty) all here keeps = in_with_variable variables name (f ty) all (keeps ty here)

  pub in_refined : (variables : Variables) (subject : Option ℕ) (f : HackType → HackType) → VariablesIn symbols variables
      → ((ty : HackType) → TypeIn symbols ty → TypeIn symbols (f ty)) → VariablesIn symbols (refined variables subject f)
  unfolding refined
  in_refined variables None f all keeps = all
  in_refined variables (Some name) f all keeps = refined_at variables name f (type_in variables name) all (in_type_in variables name all) keeps

  -- ---- a join

  pub in_union_of_two : (left right : HackType) → TypeIn symbols left → TypeIn symbols right → TypeIn symbols (union_of_two left right)
  unfolding union_of_two
  in_union_of_two left right one other =
      let both = All-cons (TypeIn symbols) left (right ∷ []) one (All-cons (TypeIn symbols) right [] other (λ k d lt. absurd (omega (arith, lt)))) in
      in_limited (union_of (left ∷ right ∷ [])) (in_union_of symbols (left ∷ right ∷ []) both)

  joined_one : (e : Entry) (other : Option HackType) (more : Variables) → In e → IfSome other (TypeIn symbols) → All In more → All In (cons_option (joined_entry e other) more)
  joined_one e None more here there rest = rest
  joined_one e (Some ty) more here there rest = All-cons In (e.0, union_of_two e.1 ty) more (in_union_of_two e.1 ty here there) rest

  pub in_joined : (left right : Variables) → VariablesIn symbols left → VariablesIn symbols right → VariablesIn symbols (joined left right)
  unfolding joined
  in_joined [] right all others = no_variables
  in_joined (e ∷ es) right all others =
      joined_one e (type_in right e.0) (joined es right) (All-head In e es all) (in_type_in right e.0 others) (in_joined es right (All-tail In e es all) others)

  pub in_either : (left right : Option Variables) → IfSome left (VariablesIn symbols) → IfSome right (VariablesIn symbols) → IfSome (either left right) (VariablesIn symbols)
  unfolding either
  in_either None right all others = others
  in_either (Some left) None all others = all
  in_either (Some left) (Some right) all others = in_joined left right all others

  -- ---- other types

  of_mixed : TypeIn symbols type.Mixed
  unfolding symbols_in
  of_mixed = alone symbols HackType-F.Mixed type.Mixed (sym type.rolls-Mixed) (fold-roll-HackType (List SymbolId) symbols_by HackType-F.Mixed)

  mixed_by : (b : Bool) (e : Entry) → In e → In (cond b (e.0, type.Mixed) e)
  mixed_by true e here = of_mixed
  mixed_by false e here = here

  pub in_mixed_in : (names : List ℕ) (variables : Variables) → VariablesIn symbols variables → VariablesIn symbols (mixed_in names variables)
  unfolding mixed_in
  in_mixed_in names [] all = no_variables
  in_mixed_in names (e ∷ es) all =
      All-cons In _ (mixed_in names es) (mixed_by (is_among names e.0) e (All-head In e es all)) (in_mixed_in names es (All-tail In e es all))

  same_or_mixed : (b : Bool) (e : Entry) → In e → In (cond b e (e.0, type.Mixed))
  same_or_mixed true e here = here
  same_or_mixed false e here = of_mixed

  widened_one : (e : Entry) (was : Option HackType) → In e → In (widened_entry e was)
  widened_one e None here = here
  widened_one e (Some before) here = same_or_mixed (same_type before e.1) e here

  pub in_widened : (before variables : Variables) → VariablesIn symbols variables → VariablesIn symbols (widened before variables)
  unfolding widened
  in_widened before [] all = no_variables
  in_widened before (e ∷ es) all =
      All-cons In _ (widened before es) (widened_one e (type_in before e.0) (All-head In e es all)) (in_widened before es (All-tail In e es all))

  taken_one : (variables : Variables) (name : ℕ) (ty : Option HackType) → VariablesIn symbols variables → IfSome ty (TypeIn symbols)
      → VariablesIn symbols (taken_by variables name ty)
  taken_one variables name None all here = all
  taken_one variables name (Some ty) all here = in_with_variable variables name ty all here

  pub in_taking : (names : List ℕ) (from variables : Variables) → VariablesIn symbols from → VariablesIn symbols variables
      → VariablesIn symbols (taking names from variables)
  unfolding taking
  in_taking [] from variables others all = all
  in_taking (name ∷ names) from variables others all =
      in_taking names from (taken_by variables name (type_in from name)) others (taken_one variables name (type_in from name) all (in_type_in from name others))
