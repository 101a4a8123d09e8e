-- What the parts of an expression name, it names too.
use Rattle.std.proofs.Common.{◌≡◌, ◌∙◌, ℕ, IsTrue, Some, None, List, [], ◌∷◌, ◌++◌, All, map, sym, ap, subst, arith}
use Rattle.std.proofs.lemmas.List.Elements.{All-cons, All-head}
use Rattle.std.specs.List.{flat_map}
use Rattle.hack_types.specs.declared.ids.Kind.TheVariants.{Const}
use Rattle.hack_types.specs.declared.ids.SymbolId.{SymbolId}
use Rattle.hack_rules.specs.WrittenTypes.{names_of}
use Rattle.hack_decls.specs.DeclState.{Symbols}
use Rattle.hack_decls.specs.NameLaws.{back, front}
use Rattle.hack_sub.specs.declared.scope.Scope.{Scope}
use Rattle.hack_written.specs.WrittenIn.{WrittenIn}
use Rattle.hack_tree.specs.declared.expression.CastType.{CastType}
use Rattle.hack_tree.specs.declared.expression.Entry.{Entry}
use Rattle.hack_tree.specs.declared.expression.Expr.{Expr}
use Rattle.hack_tree.specs.declared.expression.Expr.TheFolds.{fold-roll-Expr, fold_out-Entry, fold_out-FieldValue, fold_out-Operand}
use Rattle.hack_tree.specs.declared.expression.Expr.TheOpen.{Expr-F}
use Rattle.hack_tree.specs.declared.expression.Expr.TheVariants as e
use Rattle.hack_tree.specs.declared.expression.FieldValue.{FieldValue}
use Rattle.hack_tree.specs.declared.expression.Operand.{Operand}
use Rattle.hack_tree.specs.declared.expression.PrefixOperator.{PrefixOperator}
use Rattle.hack_tree.specs.declared.expression.TypeTest.{TypeTest}
use Rattle.hack_tree.specs.declared.written_type.Container.{Container}
use Rattle.hack_types.specs.declared.place.Place.{Place}
use Rattle.hack_parts.specs.ExprIn.{EntryIn, ExprIn, FieldIn, Mentioned, OperandIn, TestIn, entry_symbols_by, entry_symbols_of, field_symbols_by, field_symbols_of, member_symbols_by, of_all, of_any, of_test, operand_symbols_by, operand_symbols_of, suffix_symbols_by, symbols_by, symbols_of}

short_symbols : (scope : Scope) (at : Place) (condition other : Expr) → symbols_of scope (e.Conditional at condition None other) ≡ symbols_of scope condition ++ of_any None ++ symbols_of scope other
short_symbols scope at condition other =
    ap (symbols_of scope) (sym (e.rolls-Conditional at condition None other)) ∙ fold-roll-Expr Mentioned Mentioned Mentioned Mentioned Mentioned Mentioned (symbols_by (names_of scope)) member_symbols_by suffix_symbols_by entry_symbols_by field_symbols_by operand_symbols_by (Expr-F.Conditional at condition None other)

conditional_symbols : (scope : Scope) (at : Place) (condition middle other : Expr)
    → symbols_of scope (e.Conditional at condition (Some middle) other) ≡ symbols_of scope condition ++ of_any (Some (symbols_of scope middle)) ++ symbols_of scope other
conditional_symbols scope at condition middle other =
    ap (symbols_of scope) (sym (e.rolls-Conditional at condition (Some middle) other)) ∙ fold-roll-Expr Mentioned Mentioned Mentioned Mentioned Mentioned Mentioned (symbols_by (names_of scope)) member_symbols_by suffix_symbols_by entry_symbols_by field_symbols_by operand_symbols_by (Expr-F.Conditional at condition (Some middle) other)

chain_symbols : (scope : Scope) (at : Place) (first : Expr) (others : List Operand) → symbols_of scope (e.Chain at first others) ≡ symbols_of scope first ++ of_all (map (operand_symbols_of scope) others)
chain_symbols scope at first others = ap (symbols_of scope) (sym (e.rolls-Chain at first others)) ∙ fold-roll-Expr Mentioned Mentioned Mentioned Mentioned Mentioned Mentioned (symbols_by (names_of scope)) member_symbols_by suffix_symbols_by entry_symbols_by field_symbols_by operand_symbols_by (Expr-F.Chain at first others)

prefix_symbols : (scope : Scope) (at : Place) (operator : PrefixOperator) (operand : Expr) → symbols_of scope (e.Prefix at operator operand) ≡ symbols_of scope operand
prefix_symbols scope at operator operand = ap (symbols_of scope) (sym (e.rolls-Prefix at operator operand)) ∙ fold-roll-Expr Mentioned Mentioned Mentioned Mentioned Mentioned Mentioned (symbols_by (names_of scope)) member_symbols_by suffix_symbols_by entry_symbols_by field_symbols_by operand_symbols_by (Expr-F.Prefix at operator operand)

cast_symbols : (scope : Scope) (at : Place) (to : CastType) (operand : Expr) → symbols_of scope (e.Cast at to operand) ≡ symbols_of scope operand
cast_symbols scope at to operand = ap (symbols_of scope) (sym (e.rolls-Cast at to operand)) ∙ fold-roll-Expr Mentioned Mentioned Mentioned Mentioned Mentioned Mentioned (symbols_by (names_of scope)) member_symbols_by suffix_symbols_by entry_symbols_by field_symbols_by operand_symbols_by (Expr-F.Cast at to operand)

power_symbols : (scope : Scope) (at : Place) (operands : List Expr) → symbols_of scope (e.Power at operands) ≡ of_all (map (symbols_of scope) operands)
power_symbols scope at operands = ap (symbols_of scope) (sym (e.rolls-Power at operands)) ∙ fold-roll-Expr Mentioned Mentioned Mentioned Mentioned Mentioned Mentioned (symbols_by (names_of scope)) member_symbols_by suffix_symbols_by entry_symbols_by field_symbols_by operand_symbols_by (Expr-F.Power at operands)

test_symbols : (scope : Scope) (at : Place) (operand : Expr) (tests : List TypeTest) → symbols_of scope (e.Test at operand tests) ≡ symbols_of scope operand ++ flat_map (of_test (names_of scope)) tests
test_symbols scope at operand tests = ap (symbols_of scope) (sym (e.rolls-Test at operand tests)) ∙ fold-roll-Expr Mentioned Mentioned Mentioned Mentioned Mentioned Mentioned (symbols_by (names_of scope)) member_symbols_by suffix_symbols_by entry_symbols_by field_symbols_by operand_symbols_by (Expr-F.Test at operand tests)

bracketed_symbols : (scope : Scope) (at : Place) (inner : Expr) → symbols_of scope (e.Bracketed at inner) ≡ symbols_of scope inner
bracketed_symbols scope at inner = ap (symbols_of scope) (sym (e.rolls-Bracketed at inner)) ∙ fold-roll-Expr Mentioned Mentioned Mentioned Mentioned Mentioned Mentioned (symbols_by (names_of scope)) member_symbols_by suffix_symbols_by entry_symbols_by field_symbols_by operand_symbols_by (Expr-F.Bracketed at inner)

constant_symbols : (scope : Scope) (at : Place) (name : ℕ) → symbols_of scope (e.Constant at name) ≡ record { kind = Const; name = name } ∷ []
constant_symbols scope at name = ap (symbols_of scope) (sym (e.rolls-Constant at name)) ∙ fold-roll-Expr Mentioned Mentioned Mentioned Mentioned Mentioned Mentioned (symbols_by (names_of scope)) member_symbols_by suffix_symbols_by entry_symbols_by field_symbols_by operand_symbols_by (Expr-F.Constant at name)

container_symbols : (scope : Scope) (at : Place) (c : Container) (elements : List Expr) → symbols_of scope (e.Container at c elements) ≡ of_all (map (symbols_of scope) elements)
container_symbols scope at c elements = ap (symbols_of scope) (sym (e.rolls-Container at c elements)) ∙ fold-roll-Expr Mentioned Mentioned Mentioned Mentioned Mentioned Mentioned (symbols_by (names_of scope)) member_symbols_by suffix_symbols_by entry_symbols_by field_symbols_by operand_symbols_by (Expr-F.Container at c elements)

dict_symbols : (scope : Scope) (at : Place) (entries : List Entry) → symbols_of scope (e.Dict at entries) ≡ of_all (map (entry_symbols_of scope) entries)
dict_symbols scope at entries = ap (symbols_of scope) (sym (e.rolls-Dict at entries)) ∙ fold-roll-Expr Mentioned Mentioned Mentioned Mentioned Mentioned Mentioned (symbols_by (names_of scope)) member_symbols_by suffix_symbols_by entry_symbols_by field_symbols_by operand_symbols_by (Expr-F.Dict at entries)

shape_symbols : (scope : Scope) (at : Place) (fields : List FieldValue) → symbols_of scope (e.Shape at fields) ≡ of_all (map (field_symbols_of scope) fields)
shape_symbols scope at fields = ap (symbols_of scope) (sym (e.rolls-Shape at fields)) ∙ fold-roll-Expr Mentioned Mentioned Mentioned Mentioned Mentioned Mentioned (symbols_by (names_of scope)) member_symbols_by suffix_symbols_by entry_symbols_by field_symbols_by operand_symbols_by (Expr-F.Shape at fields)

module _ (scope : Scope) (symbols : Symbols) where
  abbrev In : SymbolId → Type 0
  In s = IsTrue (symbols s)

  pub in_prefix : (at : Place) (operator : PrefixOperator) (operand : Expr) → ExprIn scope symbols (e.Prefix at operator operand) → ExprIn scope symbols operand
  unfolding ExprIn
  in_prefix at operator operand all = subst (λ (s : List SymbolId). All In s) (prefix_symbols scope at operator operand) all

  pub in_cast : (at : Place) (to : CastType) (operand : Expr) → ExprIn scope symbols (e.Cast at to operand) → ExprIn scope symbols operand
  unfolding ExprIn
  in_cast at to operand all = subst (λ (s : List SymbolId). All In s) (cast_symbols scope at to operand) all

  pub in_bracketed : (at : Place) (inner : Expr) → ExprIn scope symbols (e.Bracketed at inner) → ExprIn scope symbols inner
  unfolding ExprIn
  in_bracketed at inner all = subst (λ (s : List SymbolId). All In s) (bracketed_symbols scope at inner) all

  -- lists of parts
  pub each : (es : List Expr) → All In (of_all (map (symbols_of scope) es)) → All (ExprIn scope symbols) es
  unfolding ExprIn
  each [] all = λ k d lt. absurd (omega (arith, lt))
  each (x ∷ xs) all = All-cons (ExprIn scope symbols) x xs (front In (symbols_of scope x) (of_all (map (symbols_of scope) xs)) all) (each xs (back In (symbols_of scope x) (of_all (map (symbols_of scope) xs)) all))

  each_operand : (es : List Operand) → All In (of_all (map (operand_symbols_of scope) es)) → All (OperandIn scope symbols) es
  unfolding OperandIn
  each_operand [] all = λ k d lt. absurd (omega (arith, lt))
  each_operand (x ∷ xs) all =
      All-cons (OperandIn scope symbols) x xs (front In (operand_symbols_of scope x) (of_all (map (operand_symbols_of scope) xs)) all)
      (each_operand xs (back In (operand_symbols_of scope x) (of_all (map (operand_symbols_of scope) xs)) all))

  each_entry : (es : List Entry) → All In (of_all (map (entry_symbols_of scope) es)) → All (EntryIn scope symbols) es
  unfolding EntryIn
  each_entry [] all = λ k d lt. absurd (omega (arith, lt))
  each_entry (x ∷ xs) all =
      All-cons (EntryIn scope symbols) x xs (front In (entry_symbols_of scope x) (of_all (map (entry_symbols_of scope) xs)) all)
      (each_entry xs (back In (entry_symbols_of scope x) (of_all (map (entry_symbols_of scope) xs)) all))

  each_field : (es : List FieldValue) → All In (of_all (map (field_symbols_of scope) es)) → All (FieldIn scope symbols) es
  unfolding FieldIn
  each_field [] all = λ k d lt. absurd (omega (arith, lt))
  each_field (x ∷ xs) all =
      All-cons (FieldIn scope symbols) x xs (front In (field_symbols_of scope x) (of_all (map (field_symbols_of scope) xs)) all)
      (each_field xs (back In (field_symbols_of scope x) (of_all (map (field_symbols_of scope) xs)) all))

  each_test : (tests : List TypeTest) → All In (flat_map (of_test (names_of scope)) tests) → All (TestIn scope symbols) tests
  unfolding WrittenIn
  each_test [] all = λ k d lt. absurd (omega (arith, lt))
  each_test (t ∷ ts) all =
      All-cons (TestIn scope symbols) t ts (front In (of_test (names_of scope) t) (flat_map (of_test (names_of scope)) ts) all) (each_test ts (back In (of_test (names_of scope) t) (flat_map (of_test (names_of scope)) ts) all))

  pub in_operands : (at : Place) (operands : List Expr) → ExprIn scope symbols (e.Power at operands) → All (ExprIn scope symbols) operands
  unfolding ExprIn
  in_operands at operands all = each operands (subst (λ (s : List SymbolId). All In s) (power_symbols scope at operands) all)

  pub in_elements : (at : Place) (c : Container) (elements : List Expr) → ExprIn scope symbols (e.Container at c elements) → All (ExprIn scope symbols) elements
  unfolding ExprIn
  in_elements at c elements all = each elements (subst (λ (s : List SymbolId). All In s) (container_symbols scope at c elements) all)

  pub in_entries : (at : Place) (entries : List Entry) → ExprIn scope symbols (e.Dict at entries) → All (EntryIn scope symbols) entries
  unfolding ExprIn
  in_entries at entries all = each_entry entries (subst (λ (s : List SymbolId). All In s) (dict_symbols scope at entries) all)

  pub in_fields : (at : Place) (fields : List FieldValue) → ExprIn scope symbols (e.Shape at fields) → All (FieldIn scope symbols) fields
  unfolding ExprIn
  in_fields at fields all = each_field fields (subst (λ (s : List SymbolId). All In s) (shape_symbols scope at fields) all)

  pub in_first : (at : Place) (first : Expr) (others : List Operand) → ExprIn scope symbols (e.Chain at first others) → ExprIn scope symbols first
  unfolding ExprIn
  in_first at first others all = front In (symbols_of scope first) (of_all (map (operand_symbols_of scope) others)) (subst (λ (s : List SymbolId). All In s) (chain_symbols scope at first others) all)

  pub in_others : (at : Place) (first : Expr) (others : List Operand) → ExprIn scope symbols (e.Chain at first others) → All (OperandIn scope symbols) others
  unfolding ExprIn
  in_others at first others all = each_operand others (back In (symbols_of scope first) (of_all (map (operand_symbols_of scope) others)) (subst (λ (s : List SymbolId). All In s) (chain_symbols scope at first others) all))

  pub in_operand : (at : Place) (operand : Expr) (tests : List TypeTest) → ExprIn scope symbols (e.Test at operand tests) → ExprIn scope symbols operand
  unfolding ExprIn
  in_operand at operand tests all = front In (symbols_of scope operand) (flat_map (of_test (names_of scope)) tests) (subst (λ (s : List SymbolId). All In s) (test_symbols scope at operand tests) all)

  pub in_tests : (at : Place) (operand : Expr) (tests : List TypeTest) → ExprIn scope symbols (e.Test at operand tests) → All (TestIn scope symbols) tests
  unfolding ExprIn
  in_tests at operand tests all = each_test tests (back In (symbols_of scope operand) (flat_map (of_test (names_of scope)) tests) (subst (λ (s : List SymbolId). All In s) (test_symbols scope at operand tests) all))

  pub in_constant : (at : Place) (name : ℕ) → ExprIn scope symbols (e.Constant at name) → IsTrue (symbols (record { kind = Const; name = name }))
  unfolding ExprIn
  in_constant at name all = All-head In (record { kind = Const; name = name }) [] (subst (λ (s : List SymbolId). All In s) (constant_symbols scope at name) all)

  -- `c ?: b`
  pub in_short : (at : Place) (condition other : Expr) → ExprIn scope symbols (e.Conditional at condition None other) → ExprIn scope symbols condition × ExprIn scope symbols other
  unfolding ExprIn
  in_short at condition other all =
      let both = subst (λ (s : List SymbolId). All In s) (short_symbols scope at condition other) all in
      (front In (symbols_of scope condition) [] (front In (symbols_of scope condition ++ []) (symbols_of scope other) both), back In (symbols_of scope condition ++ []) (symbols_of scope other) both)

  -- `c ? a : b`
  pub in_conditional : (at : Place) (condition middle other : Expr) → ExprIn scope symbols (e.Conditional at condition (Some middle) other)
      → ExprIn scope symbols condition × ExprIn scope symbols middle × ExprIn scope symbols other
  unfolding ExprIn
  in_conditional at condition middle other all =
      let whole = subst (λ (s : List SymbolId). All In s) (conditional_symbols scope at condition middle other) all in
      let first = front In (symbols_of scope condition ++ symbols_of scope middle) (symbols_of scope other) whole in
      (front In (symbols_of scope condition) (symbols_of scope middle) first, back In (symbols_of scope condition) (symbols_of scope middle) first, back In (symbols_of scope condition ++ symbols_of scope middle) (symbols_of scope other) whole)

  -- the parts of parts
  entry_symbols : (entry : Entry) → entry_symbols_of scope entry ≡ symbols_of scope entry.key ++ symbols_of scope entry.value
  entry_symbols entry = fold_out-Entry Mentioned Mentioned Mentioned Mentioned Mentioned Mentioned (symbols_by (names_of scope)) member_symbols_by suffix_symbols_by entry_symbols_by field_symbols_by operand_symbols_by entry

  pub in_key : (entry : Entry) → EntryIn scope symbols entry → ExprIn scope symbols entry.key
  unfolding ExprIn EntryIn
  in_key entry all = front In (symbols_of scope entry.key) (symbols_of scope entry.value) (subst (λ (s : List SymbolId). All In s) (entry_symbols entry) all)

  pub in_entry_value : (entry : Entry) → EntryIn scope symbols entry → ExprIn scope symbols entry.value
  unfolding ExprIn EntryIn
  in_entry_value entry all = back In (symbols_of scope entry.key) (symbols_of scope entry.value) (subst (λ (s : List SymbolId). All In s) (entry_symbols entry) all)

  pub in_field_value : (field : FieldValue) → FieldIn scope symbols field → ExprIn scope symbols field.value
  unfolding ExprIn FieldIn
  in_field_value field all = subst (λ (s : List SymbolId). All In s) (fold_out-FieldValue Mentioned Mentioned Mentioned Mentioned Mentioned Mentioned (symbols_by (names_of scope)) member_symbols_by suffix_symbols_by entry_symbols_by field_symbols_by operand_symbols_by field) all

  pub in_chained : (operand : Operand) → OperandIn scope symbols operand → ExprIn scope symbols operand.operand
  unfolding ExprIn OperandIn
  in_chained operand all = subst (λ (s : List SymbolId). All In s) (fold_out-Operand Mentioned Mentioned Mentioned Mentioned Mentioned Mentioned (symbols_by (names_of scope)) member_symbols_by suffix_symbols_by entry_symbols_by field_symbols_by operand_symbols_by operand) all
