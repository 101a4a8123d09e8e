-- What the parts of assignments, calls, members, indices and `new` name, these name too.
use Rattle.std.proofs.Common.{◌≡◌, ◌∙◌, ℕ, Bool, IsTrue, Some, List, [], ◌∷◌, ◌++◌, All, map, sym, ap, subst, arith}
use Rattle.std.proofs.lemmas.List.Elements.{All-cons, All-head, All-tail}
use Rattle.std.specs.List.{flat_map}
use Rattle.hack_types.specs.declared.ids.Kind.TheVariants.{Func}
use Rattle.hack_types.specs.declared.ids.SymbolId.{SymbolId}
use Rattle.hack_rules.specs.WrittenTypes.{names_of}
use Rattle.hack_decls.specs.DeclState.{Symbols}
use Rattle.hack_decls.specs.NameLaws.{back, front}
use Rattle.hack_sub.specs.declared.scope.Scope.{Scope}
use Rattle.hack_written.specs.WrittenIn.{WrittenIn, symbols_of as written_symbols}
use Rattle.hack_tree.specs.declared.expression.AssignOperator.{AssignOperator}
use Rattle.hack_tree.specs.declared.expression.ClassReference.{ClassReference}
use Rattle.hack_tree.specs.declared.expression.Expr.{Expr}
use Rattle.hack_tree.specs.declared.expression.Expr.TheFolds.{fold-roll-Expr, fold-roll-ScopedMember, fold-roll-Suffix}
use Rattle.hack_tree.specs.declared.expression.Expr.TheOpen.{Expr-F, ScopedMember-F, Suffix-F}
use Rattle.hack_tree.specs.declared.expression.Expr.TheVariants as e
use Rattle.hack_tree.specs.declared.expression.ScopedMember.{ScopedMember}
use Rattle.hack_tree.specs.declared.expression.ScopedMember.TheVariants as member
use Rattle.hack_tree.specs.declared.expression.Suffix.{Suffix}
use Rattle.hack_tree.specs.declared.expression.Suffix.TheVariants as suffix
use Rattle.hack_tree.specs.declared.written_type.WrittenType.{WrittenType}
use Rattle.hack_types.specs.declared.place.Place.{Place}
use Rattle.hack_parts.specs.ExprIn.{ExprIn, MemberIn, Mentioned, ReferenceIn, SuffixIn, entry_symbols_by, field_symbols_by, member_symbols_by, member_symbols_of, of_all, of_reference, operand_symbols_by, suffix_symbols_by, suffix_symbols_of, symbols_by, symbols_of}
use Rattle.hack_parts.specs.PartNames.{each}

assign_symbols : (scope : Scope) (at : Place) (target : Expr) (operator : AssignOperator) (value : Expr) → symbols_of scope (e.Assign at target operator value) ≡ symbols_of scope target ++ symbols_of scope value
assign_symbols scope at target operator value =
    ap (symbols_of scope) (sym (e.rolls-Assign at target operator value)) ∙ fold-roll-Expr Mentioned Mentioned Mentioned Mentioned Mentioned Mentioned (symbols_by (names_of scope)) member_symbols_by suffix_symbols_by entry_symbols_by field_symbols_by operand_symbols_by (Expr-F.Assign at target operator value)

postfix_symbols : (scope : Scope) (at : Place) (operand : Expr) (suffixes : List Suffix) → symbols_of scope (e.Postfix at operand suffixes) ≡ symbols_of scope operand ++ of_all (map (suffix_symbols_of scope) suffixes)
postfix_symbols scope at operand suffixes =
    ap (symbols_of scope) (sym (e.rolls-Postfix at operand suffixes)) ∙ fold-roll-Expr Mentioned Mentioned Mentioned Mentioned Mentioned Mentioned (symbols_by (names_of scope)) member_symbols_by suffix_symbols_by entry_symbols_by field_symbols_by operand_symbols_by (Expr-F.Postfix at operand suffixes)

call_symbols : (scope : Scope) (at : Place) (name : ℕ) (arguments : List Expr) → symbols_of scope (e.Call at name arguments) ≡ record { kind = Func; name = name } ∷ of_all (map (symbols_of scope) arguments)
call_symbols scope at name arguments =
    ap (symbols_of scope) (sym (e.rolls-Call at name arguments)) ∙ fold-roll-Expr Mentioned Mentioned Mentioned Mentioned Mentioned Mentioned (symbols_by (names_of scope)) member_symbols_by suffix_symbols_by entry_symbols_by field_symbols_by operand_symbols_by (Expr-F.Call at name arguments)

scoped_symbols : (scope : Scope) (at : Place) (class : ClassReference) (what : ScopedMember) → symbols_of scope (e.Scoped at class what) ≡ of_reference class ++ member_symbols_of scope what
scoped_symbols scope at class what =
    ap (symbols_of scope) (sym (e.rolls-Scoped at class what)) ∙ fold-roll-Expr Mentioned Mentioned Mentioned Mentioned Mentioned Mentioned (symbols_by (names_of scope)) member_symbols_by suffix_symbols_by entry_symbols_by field_symbols_by operand_symbols_by (Expr-F.Scoped at class what)

new_symbols : (scope : Scope) (at class_at : Place) (class : ClassReference) (types : List WrittenType) (arguments : List Expr) → symbols_of scope (e.New at class_at class types arguments) ≡ of_reference class ++ flat_map (written_symbols (names_of scope)) types ++ of_all (map (symbols_of scope) arguments)
new_symbols scope at class_at class types arguments =
    ap (symbols_of scope) (sym (e.rolls-New at class_at class types arguments)) ∙ fold-roll-Expr Mentioned Mentioned Mentioned Mentioned Mentioned Mentioned (symbols_by (names_of scope)) member_symbols_by suffix_symbols_by entry_symbols_by field_symbols_by operand_symbols_by (Expr-F.New at class_at class types arguments)

index_symbols : (scope : Scope) (index : Expr) → suffix_symbols_of scope (suffix.Index (Some index)) ≡ symbols_of scope index
index_symbols scope index =
    ap (suffix_symbols_of scope) (sym (suffix.rolls-Index (Some index))) ∙ fold-roll-Suffix Mentioned Mentioned Mentioned Mentioned Mentioned Mentioned (symbols_by (names_of scope)) member_symbols_by suffix_symbols_by entry_symbols_by field_symbols_by operand_symbols_by (Suffix-F.Index (Some index))

method_symbols : (scope : Scope) (null_safe : Bool) (name : ℕ) (arguments : List Expr) → suffix_symbols_of scope (suffix.Member null_safe name (Some arguments)) ≡ of_all (map (symbols_of scope) arguments)
method_symbols scope null_safe name arguments =
    ap (suffix_symbols_of scope) (sym (suffix.rolls-Member null_safe name (Some arguments))) ∙ fold-roll-Suffix Mentioned Mentioned Mentioned Mentioned Mentioned Mentioned (symbols_by (names_of scope)) member_symbols_by suffix_symbols_by entry_symbols_by field_symbols_by operand_symbols_by (Suffix-F.Member null_safe name (Some arguments))

word_symbols : (scope : Scope) (name : ℕ) (arguments : List Expr) → member_symbols_of scope (member.Word name (Some arguments)) ≡ of_all (map (symbols_of scope) arguments)
word_symbols scope name arguments =
    ap (member_symbols_of scope) (sym (member.rolls-Word name (Some arguments))) ∙ fold-roll-ScopedMember Mentioned Mentioned Mentioned Mentioned Mentioned Mentioned (symbols_by (names_of scope)) member_symbols_by suffix_symbols_by entry_symbols_by field_symbols_by operand_symbols_by (ScopedMember-F.Word name (Some arguments))

module _ (scope : Scope) (symbols : Symbols) where
  abbrev In : SymbolId → Type 0
  In s = IsTrue (symbols s)

  -- lists of parts
  each_suffix : (suffixes : List Suffix) → All In (of_all (map (suffix_symbols_of scope) suffixes)) → All (SuffixIn scope symbols) suffixes
  unfolding SuffixIn
  each_suffix [] all = λ k d lt. absurd (omega (arith, lt))
  each_suffix (x ∷ xs) all =
      All-cons (SuffixIn scope symbols) x xs (front In (suffix_symbols_of scope x) (of_all (map (suffix_symbols_of scope) xs)) all)
      (each_suffix xs (back In (suffix_symbols_of scope x) (of_all (map (suffix_symbols_of scope) xs)) all))

  each_type : (types : List WrittenType) → All In (flat_map (written_symbols (names_of scope)) types) → All (WrittenIn (names_of scope) symbols) types
  unfolding WrittenIn
  each_type [] all = λ k d lt. absurd (omega (arith, lt))
  each_type (t ∷ ts) all =
      All-cons (WrittenIn (names_of scope) symbols) t ts (front In (written_symbols (names_of scope) t) (flat_map (written_symbols (names_of scope)) ts) all)
      (each_type ts (back In (written_symbols (names_of scope) t) (flat_map (written_symbols (names_of scope)) ts) all))

  -- the target and the value
  pub in_assign : (at : Place) (target : Expr) (operator : AssignOperator) (value : Expr) → ExprIn scope symbols (e.Assign at target operator value)
      → ExprIn scope symbols target × ExprIn scope symbols value
  unfolding ExprIn
  in_assign at target operator value all =
      let both = subst (λ (s : List SymbolId). All In s) (assign_symbols scope at target operator value) all in
      (front In (symbols_of scope target) (symbols_of scope value) both, back In (symbols_of scope target) (symbols_of scope value) both)

  -- the operand and what stands behind it
  pub in_postfix : (at : Place) (operand : Expr) (suffixes : List Suffix) → ExprIn scope symbols (e.Postfix at operand suffixes)
      → ExprIn scope symbols operand × All (SuffixIn scope symbols) suffixes
  unfolding ExprIn
  in_postfix at operand suffixes all =
      let both = subst (λ (s : List SymbolId). All In s) (postfix_symbols scope at operand suffixes) all in
      let behind = of_all (map (suffix_symbols_of scope) suffixes) in
      (front In (symbols_of scope operand) behind both, each_suffix suffixes (back In (symbols_of scope operand) behind both))

  -- the function and the arguments
  pub in_call : (at : Place) (name : ℕ) (arguments : List Expr) → ExprIn scope symbols (e.Call at name arguments)
      → IsTrue (symbols (record { kind = Func; name = name })) × All (ExprIn scope symbols) arguments
  unfolding ExprIn
  in_call at name arguments all =
      let both = subst (λ (s : List SymbolId). All In s) (call_symbols scope at name arguments) all in
      let given = of_all (map (symbols_of scope) arguments) in
      (All-head In (record { kind = Func; name = name }) given both, each scope symbols arguments (All-tail In (record { kind = Func; name = name }) given both))

  -- what stands before `::` and what stands behind it
  pub in_scoped : (at : Place) (class : ClassReference) (what : ScopedMember) → ExprIn scope symbols (e.Scoped at class what)
      → ReferenceIn symbols class × MemberIn scope symbols what
  unfolding ExprIn MemberIn
  in_scoped at class what all =
      let both = subst (λ (s : List SymbolId). All In s) (scoped_symbols scope at class what) all in
      (front In (of_reference class) (member_symbols_of scope what) both, back In (of_reference class) (member_symbols_of scope what) both)

  -- what stands behind `new`, the type arguments and the arguments
  pub in_new : (at class_at : Place) (class : ClassReference) (types : List WrittenType) (arguments : List Expr) → ExprIn scope symbols (e.New at class_at class types arguments)
      → ReferenceIn symbols class × All (WrittenIn (names_of scope) symbols) types × All (ExprIn scope symbols) arguments
  unfolding ExprIn
  in_new at class_at class types arguments all =
      let whole = subst (λ (s : List SymbolId). All In s) (new_symbols scope at class_at class types arguments) all in
      let written = flat_map (written_symbols (names_of scope)) types in
      let given = of_all (map (symbols_of scope) arguments) in
      let first = front In (of_reference class ++ written) given whole in (
        front In (of_reference class) written first,
        each_type types (back In (of_reference class) written first),
        each scope symbols arguments (back In (of_reference class ++ written) given whole),
      )

  -- the parts of parts
  pub in_index : (index : Expr) → SuffixIn scope symbols (suffix.Index (Some index)) → ExprIn scope symbols index
  unfolding ExprIn SuffixIn
  in_index index all = subst (λ (s : List SymbolId). All In s) (index_symbols scope index) all

  pub in_method : (null_safe : Bool) (name : ℕ) (arguments : List Expr) → SuffixIn scope symbols (suffix.Member null_safe name (Some arguments))
      → All (ExprIn scope symbols) arguments
  unfolding SuffixIn
  in_method null_safe name arguments all = each scope symbols arguments (subst (λ (s : List SymbolId). All In s) (method_symbols scope null_safe name arguments) all)

  pub in_word : (name : ℕ) (arguments : List Expr) → MemberIn scope symbols (member.Word name (Some arguments)) → All (ExprIn scope symbols) arguments
  unfolding MemberIn
  in_word name arguments all = each scope symbols arguments (subst (λ (s : List SymbolId). All In s) (word_symbols scope name arguments) all)
