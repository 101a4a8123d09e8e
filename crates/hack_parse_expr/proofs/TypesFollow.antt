-- The parsers of types follow the grammar's runs.
use Rattle.std.proofs.Common.{◌≡◌, ◌↔◌, ℕ, zero, suc, ◌+◌, ◌≤◌, Bool, true, false, List, [], ◌∷◌, ◌++◌, length, Option, None, Some, Ok, Err, refl, ap, ◌∙◌, sym, subst, arith, if◌then◌else◌, append_assoc, append-nil}
use Rattle.hack_lexer.specs.declared.kind.Mark.TheVariants as mark
use Rattle.hack_tree.specs.declared.written_type.WrittenType.{WrittenType}
use Rattle.hack_tree.specs.declared.written_type.ClassType.{ClassType, roll-ClassType}
use Rattle.hack_tree.specs.declared.written_type.FieldType.{FieldType, roll-FieldType}
use Rattle.hack_parse_expr.specs.declared.lexeme.Lexeme.{Lexeme}
use Rattle.hack_parse_expr.specs.declared.rows.TypeRow.{TypeRow}
use Rattle.hack_parse_expr.specs.declared.rows.TypeRow.TheVariants as type
use Rattle.hack_parse_expr.specs.declared.stop.ParseStop.{ParseStop}
use Rattle.hack_parse_expr.specs.Input.{Input}
use Rattle.hack_parse_expr.specs.Decides.{is_there, type_row}
use Rattle.hack_parse_expr.specs.Kinds.{next_kind}
use Rattle.hack_parse_expr.specs.Symbols.{Mark_, Name, KeyText, Decided, Symbol, one, optional, list1, rule, Type_, ClassType_, TypeArguments, Fields, MoreFields, Field, Of, Awaits, Row}
use Rattle.hack_parse_expr.specs.Rows.{sees, begins, begins_field, or_empty, class_type, type_rows, fields_row, reads}
use Rattle.hack_parse_expr.specs.Run.{by_row, nesting, Stands, Fails}
use Rattle.hack_parse_expr.specs.Parsers.{Parser, Outcome, ◌>>=◌, ◌>>◌, pure, refuse, refuse_depth, token, expect, eat, after}
use Rattle.hack_parse_expr.specs.Types as types
use Rattle.hack_parse_expr.specs.Types.{written_type, begins_type}
use Rattle.hack_parse_expr.proofs.Follows.{state, FollowsOne, Leads, stepping, binding, Follows, RowFollows, Part, Plan, in_order, part, token_part, expect_part, first_follows, nothing_follows, plan_follows, rule_follows, row_by, row_nests, row_too_deep, no_row, expect_follows, token_follows}
use Rattle.hack_parse_expr.proofs.ListsFollow.{optional_reads, list1_follows, at_terminal_follows, eat_follows, comma_follows, follows_keeps, ended, empty}
use Rattle.hack_parse_expr.proofs.Alone.{stands_law, fails_law}

-- the row of a type is there exactly if the next token begins one
pub row_is_there : (r : Option TypeRow) → is_there (type_rows r) ≡ is_there r
row_is_there None = refl
row_is_there (Some type.Optional) = refl
row_is_there (Some (type.Primitive p)) = refl
row_is_there (Some type.This) = refl
row_is_there (Some (type.Container c)) = refl
row_is_there (Some type.Dict) = refl
row_is_there (Some type.Shape) = refl
row_is_there (Some type.Class) = refl

-- a type begins where its row is there
pub begins_types : (ts : List Lexeme) → begins (rule Type_) ts ≡ begins_type ts
unfolding begins_type
begins_types ts = row_is_there (type_row (next_kind ts))

-- a class with its arguments
abbrev of_class : Lexeme → List WrittenType → ClassType
of_class name arguments = roll-ClassType (record { at = name.at; name = name.name; arguments = arguments })

-- a field
abbrev of_field : Bool → Lexeme → Lexeme → WrittenType → FieldType
of_field o key _ value = roll-FieldType (record { optional = o; key_at = key.at; key = key.name; value = value })

-- a row that is there under a test is there exactly if the test holds
pub if_row : {x : Symbol} (r : Row x) (c : Bool) → is_there (if c then Some r else None) ≡ c
if_row r true = refl
if_row r false = refl

-- the three rows of fields
fields_choice : {B : Type 0} (R : Type 0) (pending : List Symbol) (onward : Of (rule Fields) → Awaits pending R) (tree : B → Awaits pending R) (i : Input) (c d : Bool) (last item skipped : Outcome B) →
    Leads (state (one Decided ∷ pending) (λ _. onward ([], true)) i) pending tree last →
    Leads (state (rule Field ∷ rule MoreFields ∷ pending) (λ x others. onward (x ∷ others.0, others.1)) i) pending tree item →
    Leads (state pending (onward ([], false)) i) pending tree skipped →
    Leads (by_row (rule Fields) pending onward i (if c then reads (one Decided ∷ []) (λ _. ([], true)) else (if d then reads (rule Field ∷ rule MoreFields ∷ []) (λ x others. (x ∷ others.0, others.1)) else reads [] ([], false)))) pending tree (if c then last else (if d then item else skipped))
fields_choice R pending onward tree i true d last item skipped h k l = h
fields_choice R pending onward tree i false true last item skipped h k l = k
fields_choice R pending onward tree i false false last item skipped h k l = l

-- the parsers over a parser of types that follows
module _ (depth : ℕ) (nested : Parser WrittenType) (nested_follows : FollowsOne depth (rule Type_) nested) where
  -- a nested type as a part
  abbrev pub nested_part : Part depth (rule Type_)
  nested_part = part nested nested_follows

  -- one type or more, with commas
  pub list1_of_types : FollowsOne depth (list1 (rule Type_)) (types.list1 nested)
  unfolding types.list1 begins_type
  list1_of_types = list1_follows depth (rule Type_) begins_type nested begins_types refl nested_follows

  -- arguments of a type
  pub type_arguments_follow : FollowsOne depth (rule TypeArguments) (types.type_arguments nested)
  unfolding types.type_arguments
  type_arguments_follow = rule_follows depth TypeArguments (types.type_arguments nested) (λ i.
      at_terminal_follows depth (Mark_ mark.Less) i (list1 (rule Type_) ∷ one (Mark_ mark.Greater) ∷ []) (λ _ found _. found) _
      (plan_follows depth (one Decided ∷ list1 (rule Type_) ∷ one (Mark_ mark.Greater) ∷ []) (token_part, (part (types.list1 nested) list1_of_types, (expect_part (Mark_ mark.Greater), tt))) (λ _ found _. found)))

  -- they begin with `<`
  type_arguments_begin : (ts : List Lexeme) → begins (rule TypeArguments) ts ≡ sees (Mark_ mark.Less) ts
  type_arguments_begin ts = if_row (record { counts = false; parts = one Decided ∷ list1 (rule Type_) ∷ one (Mark_ mark.Greater) ∷ []; makes = λ _ found _. found }) (sees (Mark_ mark.Less) ts)

  -- arguments of a type that may stand, none where they do not
  pub arguments_if_any_follow : Follows depth {A = List WrittenType} (optional (rule TypeArguments) ∷ []) or_empty (types.arguments_if_any nested)
  unfolding types.arguments_if_any
  arguments_if_any_follow = optional_reads depth (rule TypeArguments) (sees (Mark_ mark.Less)) or_empty (types.type_arguments nested) type_arguments_begin type_arguments_follow

  -- a class by its name
  pub named_follows : FollowsOne depth (rule ClassType_) (types.named nested)
  unfolding types.named
  named_follows = rule_follows depth ClassType_ (types.named nested) (λ i. row_by (types.named nested)
      (first_follows depth (one Name) (optional (rule TypeArguments) ∷ []) (λ v. v) class_type (expect Name) (λ name. types.arguments_if_any nested >>= (λ arguments. pure (of_class name arguments))) (expect_follows depth Name)
      (λ name. first_follows depth (optional (rule TypeArguments)) [] or_empty (λ arguments. of_class name arguments) (types.arguments_if_any nested) (λ arguments. pure (of_class name arguments)) arguments_if_any_follow
      (λ arguments. nothing_follows depth (of_class name arguments)) (λ pending. refl))
      (λ pending. refl)))

  -- a field of a shape
  pub field_follows : FollowsOne depth (rule Field) (types.field nested)
  unfolding types.field
  field_follows = rule_follows depth Field (types.field nested) (λ i. row_by (types.field nested)
      (first_follows depth (optional (one (Mark_ mark.Question))) (one KeyText ∷ one (Mark_ mark.FatArrow) ∷ rule Type_ ∷ []) is_there of_field (eat (Mark_ mark.Question))
      (λ o. in_order depth (one KeyText ∷ one (Mark_ mark.FatArrow) ∷ rule Type_ ∷ []) behind_mark (of_field o))
      (eat_follows depth (Mark_ mark.Question))
      (λ o. plan_follows depth (one KeyText ∷ one (Mark_ mark.FatArrow) ∷ rule Type_ ∷ []) behind_mark (of_field o))
      (λ pending. refl)))
    where
      behind_mark : Plan depth (one KeyText ∷ one (Mark_ mark.FatArrow) ∷ rule Type_ ∷ [])
      behind_mark = (expect_part KeyText, (expect_part (Mark_ mark.FatArrow), (nested_part, tt)))

  -- the loop of `fields`, behind what it has found
  fields_loop : (R : Type 0) (pending : List Symbol) (tree : Of (rule Fields) → Awaits pending R) →
      nesting pending + depth ≡ 128 →
      (n : ℕ) (found : List FieldType) (onward : Of (rule Fields) → Awaits pending R) (i : Input) →
      ((vs : Of (rule Fields)) → onward vs ≡ tree (found ++ vs.0, vs.1)) → length i.left ≤ n →
      Leads (state (rule Fields ∷ pending) onward i) pending tree (types.fields_from nested n found i)
  unfolding types.fields_from
  fields_loop R pending tree h zero found onward i e below =
      stepping R (rule Fields ∷ pending) onward i pending tree (Ok ((found, false), i))
      (subst (λ ts. Leads (by_row (rule Fields) pending onward i (fields_row ts)) pending tree (Ok ((found, false), i))) (sym (empty i.left below))
      (ended R pending (found, false) tree (onward ([], false)) i (e ([], false) ∙ ap (λ l. tree (l, false)) (append-nil found))))
  fields_loop R pending tree h (suc n) found onward i e below =
      stepping R (rule Fields ∷ pending) onward i pending tree (types.fields_from nested (suc n) found i)
      (fields_choice R pending onward tree i (sees (Mark_ mark.Ellipsis) i.left) (begins_field i.left) ((token >> pure (found, true)) i) (one_field i) (Ok ((found, false), i))
      (binding R _ (token i) (λ t. pure (found, true)) pending (λ t. onward ([], true)) pending tree
      ((token_follows depth).leads R pending (λ t. onward ([], true)) i h)
      (λ t j o r. ended R pending (found, true) tree (onward ([], true)) j (e ([], true) ∙ ap (λ l. tree (l, true)) (append-nil found))))
      (binding R _ (types.field nested i) (λ x. eat (Mark_ mark.Comma) >>= (λ further. if further then types.fields_from nested n (found ++ x ∷ []) else pure (found ++ x ∷ [], false)))
      (rule MoreFields ∷ pending) (λ x others. onward (x ∷ others.0, others.1)) pending tree
      (field_follows.leads R (rule MoreFields ∷ pending) (λ x others. onward (x ∷ others.0, others.1)) i h)
      (λ x j o r. stepping R (rule MoreFields ∷ pending) (λ others. onward (x ∷ others.0, others.1)) j pending tree ((if sees (Mark_ mark.Comma) j.left then types.fields_from nested n (found ++ x ∷ []) else pure (found ++ x ∷ [], false)) (after (Mark_ mark.Comma) j))
      (comma_follows R (rule MoreFields) (rule Fields) (λ _ vs. vs) ([], false) pending (λ others. onward (x ∷ others.0, others.1)) tree (types.fields_from nested n (found ++ x ∷ [])) (found ++ x ∷ [], false) j (e (x ∷ [], false))
      (λ l k shorter.
      let keeps : length j.left ≤ length i.left = follows_keeps depth (rule Field ∷ []) (λ v. v) (types.field nested) field_follows pending h i x j o in
      fields_loop R pending tree h n (found ++ x ∷ []) (λ others. onward (x ∷ others.0, others.1)) k
      (λ vs. e (x ∷ vs.0, vs.1) ∙ ap (λ l. tree (l, vs.1)) (sym (append_assoc found (x ∷ []) vs.0)))
      (omega arith)))))
      (ended R pending (found, false) tree (onward ([], false)) i (e ([], false) ∙ ap (λ l. tree (l, false)) (append-nil found))))
    where
      one_field : Input → Outcome (List FieldType × Bool)
      one_field i = (types.field nested >>= (λ x. eat (Mark_ mark.Comma) >>= (λ further. if further then types.fields_from nested n (found ++ x ∷ []) else pure (found ++ x ∷ [], false)))) i

  -- the fields of a shape
  pub fields_follow : FollowsOne depth (rule Fields) (types.fields nested)
  unfolding types.fields
  fields_follow = record {
    leads = λ R pending tree i h. fields_loop R pending tree h (length i.left) [] tree i (λ vs. refl) (let k : length i.left ≤ length i.left = omega arith in k);
    plain = λ pending. refl;
  }

  -- a type, by its row, which counts
  pub type_by_follows : (i : Input) (r : Option TypeRow) →
      RowFollows (suc depth) (rule Type_) i (type_rows r) (types.type_by nested r i)
  unfolding types.optional types.container types.dict types.shape
  type_by_follows i None = no_row
  type_by_follows i (Some type.Optional) = row_nests (token_part, (nested_part, tt))
  type_by_follows i (Some (type.Primitive p)) = row_nests (token_part, tt)
  type_by_follows i (Some type.This) = row_nests (token_part, tt)
  type_by_follows i (Some (type.Container c)) = row_nests (token_part, (expect_part (Mark_ mark.Less), (nested_part, (expect_part (Mark_ mark.Greater), tt))))
  type_by_follows i (Some type.Dict) = row_nests (token_part, (expect_part (Mark_ mark.Less), (nested_part, (expect_part (Mark_ mark.Comma), (nested_part, (expect_part (Mark_ mark.Greater), tt))))))
  type_by_follows i (Some type.Shape) = row_nests (token_part, (expect_part (Mark_ mark.OpenParen), (part (types.fields nested) fields_follow, (expect_part (Mark_ mark.CloseParen), tt))))
  type_by_follows i (Some type.Class) = row_nests (part (types.named nested) named_follows, tt)

-- where no row may be opened, what begins a type is too deep, and else it is refused
too_deep_or_none : (i : Input) (r : Option TypeRow) →
    RowFollows 0 (rule Type_) i (type_rows r) (if is_there r then refuse_depth i else refuse i)
too_deep_or_none i None = no_row
too_deep_or_none i (Some type.Optional) = row_too_deep
too_deep_or_none i (Some (type.Primitive p)) = row_too_deep
too_deep_or_none i (Some type.This) = row_too_deep
too_deep_or_none i (Some (type.Container c)) = row_too_deep
too_deep_or_none i (Some type.Dict) = row_too_deep
too_deep_or_none i (Some type.Shape) = row_too_deep
too_deep_or_none i (Some type.Class) = row_too_deep

-- the parser of types follows the runs, at each depth
pub type_follows : (depth : ℕ) → FollowsOne depth (rule Type_) (written_type depth)
unfolding written_type types.type_row_read begins_type
type_follows zero = rule_follows zero Type_ (written_type zero) (λ i. too_deep_or_none i (type_row (next_kind i.left)))
type_follows (suc depth) = rule_follows (suc depth) Type_ (written_type (suc depth)) (λ i. type_by_follows depth (written_type depth) (type_follows depth) i (type_row (next_kind i.left)))

-- a type stands at the beginning of an input exactly where the parser reads it
pub types_stand : (i : Input) (v : WrittenType) (rest : Input) →
    Stands (rule Type_) i v rest ↔ (written_type 128 i ≡ Ok (v, rest))
types_stand i v rest = stands_law (rule Type_) (written_type 128) (type_follows 128) i v rest

-- and it fails exactly where the parser stops
pub types_fail : (i : Input) (stop : ParseStop) → Fails (rule Type_) i stop ↔ (written_type 128 i ≡ Err stop)
types_fail i stop = fails_law (rule Type_) (written_type 128) (type_follows 128) i stop
