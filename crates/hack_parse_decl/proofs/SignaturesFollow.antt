-- The parsers of attributes, type parameters, parameters and signatures follow the grammar's runs.
use Rattle.std.proofs.Common.{◌≡◌, ℕ, ◌+◌, true, false, List, [], ◌∷◌, Option, None, Some, Ok, refl, sym, ap, ◌∙◌, subst}
use Rattle.hack_lexer.specs.declared.kind.Mark.TheVariants as mark
use Rattle.hack_tree.specs.declared.expression.Expr.{Expr}
use Rattle.hack_tree.specs.declared.declaration.Visibility.{Visibility as VisibilityTree}
use Rattle.hack_tree.specs.declared.declaration.Variance.{Variance as VarianceTree}
use Rattle.hack_tree.specs.declared.declaration.BoundKind.{BoundKind}
use Rattle.hack_tree.specs.declared.declaration.DeclaredName.{DeclaredName}
use Rattle.hack_tree.specs.declared.declaration.Attribute.{Attribute as AttributeTree}
use Rattle.hack_tree.specs.declared.declaration.Bound.{Bound as BoundTree}
use Rattle.hack_tree.specs.declared.declaration.TypeParameter.{TypeParameter as TypeParameterTree}
use Rattle.hack_tree.specs.declared.declaration.Parameter.{Parameter as ParameterTree}
use Rattle.hack_tree.specs.declared.declaration.Callable.{Callable}
use Rattle.hack_parse_expr.specs.declared.lexeme.Lexeme.{Lexeme}
use Rattle.hack_parse_expr.specs.Input.{Input}
use Rattle.hack_parse_expr.specs.Decides.{is_there, visibility, variance, bound_kind}
use Rattle.hack_parse_expr.specs.Kinds.{next_kind}
use Rattle.hack_parse_expr.specs.Symbols.{Mark_, Name, Variable, Decided, Symbol, one, optional, many, list, list1, rule, Rule, Type_, ClassType_, Expression, Arguments, Block, Attributes, Attribute, TypeParameters, TypeParameter, Variance, Bound, Signature, Parameters, Parameter, Visibility, Default, Result_, Of, Awaits, Row}
use Rattle.hack_parse_expr.specs.Rows.{row_of, sees, begins, reads, or_empty, declared_name, variance_row, visibility_row, bound_row, begins_type_parameter, begins_parameter}
use Rattle.hack_parse_expr.specs.Run.{by_row, nesting, deepest}
use Rattle.hack_parse_expr.specs.Parsers.{Parser, ◌>>◌, pure, token, expect}
use Rattle.hack_parse_expr.specs.Types.{written_type}
use Rattle.hack_parse_expr.specs.Expressions.{nests, arguments_if_any}
use Rattle.hack_parse_expr.proofs.Runs.{reached}
use Rattle.hack_parse_expr.proofs.Follows.{state, Leads, stepping, Follows, FollowsOne, RowFollows, first_follows, rule_follows, row_by, no_row, expect_follows}
use Rattle.hack_parse_expr.proofs.ListsFollow.{Shrinks, choosing, many_follows, list_follows, list1_follows, refuse_shrinks, same_follows, optional_follows, at_terminal_follows}
use Rattle.hack_parse_expr.proofs.Pieces.{Piece, Turn, turn, turn_follows, turn_shrinks, done, ◌and◌, a_token, the, the_made, a_parser, the_symbol, behind_token_follows, seen_follows, optional_seen}
use Rattle.hack_parse_expr.proofs.TypesFollow.{if_row, named_follows, type_follows}
use Rattle.hack_parse_expr.proofs.ExpressionsFollow.{expression_follows, arguments_if_any_follow}
use Rattle.hack_parse_stmt.proofs.StatementsFollow.{body_follows}
use Rattle.hack_parse_decl.specs.Declarations as parsers

-- ---- pieces

-- a type
abbrev pub a_type : Piece deepest
a_type = the_symbol (rule Type_) parsers.type_read (type_follows deepest)

-- a class with its arguments
abbrev pub a_class : Piece deepest
a_class = the_symbol (rule ClassType_) parsers.class_type (named_follows deepest (written_type deepest) (type_follows deepest))

-- an expression
abbrev pub an_expression : Piece deepest
an_expression = the_symbol (rule Expression) parsers.expression (expression_follows deepest)

-- a block
abbrev pub a_body : Piece deepest
a_body = the_symbol (rule Block) parsers.body_read (body_follows deepest)

-- a name where it is declared
abbrev pub a_name : Piece deepest
a_name = the_made Name declared_name

-- a variable where it is declared
abbrev pub a_variable : Piece deepest
a_variable = the_made Variable declared_name

-- pieces in order and what is made of what they read, as one piece
abbrev pub the_turn : {A : Type 0} → Turn deepest A → Piece deepest
the_turn {A = A} t = record {
  group = t.pieces.parts;
  Made = A;
  reading = t.pieces.through A t.makes;
  parser = turn t;
  follows = turn_follows t;
  takes = t.pieces.takes;
  shrinks = λ e. turn_shrinks t e;
}

-- ---- attributes

-- an attribute, in pieces
abbrev attribute_turn : Turn deepest AttributeTree
attribute_turn = record {
  pieces = a_name and the_symbol (optional (rule Arguments)) (arguments_if_any deepest (nests deepest)) (arguments_if_any_follow deepest) and done;
  makes = λ name arguments. record { name = name; arguments = or_empty arguments };
}

-- an attribute
attribute_follows : FollowsOne deepest (rule Attribute) parsers.attribute
unfolding parsers.attribute
attribute_follows = rule_follows deepest Attribute parsers.attribute (λ i. row_by parsers.attribute (turn_follows attribute_turn))

-- attributes with commas
attribute_list_follows : FollowsOne deepest (list1 (rule Attribute)) parsers.attribute_list
unfolding parsers.attribute_list
attribute_list_follows = list1_follows deepest (rule Attribute) (sees Name) parsers.attribute (λ ts. refl) refl attribute_follows

-- attributes, in pieces
abbrev attributes_turn : Turn deepest (List AttributeTree)
attributes_turn = record {
  pieces = a_token and the_symbol (list1 (rule Attribute)) parsers.attribute_list attribute_list_follows and the (Mark_ mark.Greater) and the (Mark_ mark.Greater) and done;
  makes = λ _ found _ _. found;
}

-- attributes that may stand, none where they do not
pub attributes_follow : Follows deepest {A = List AttributeTree} (optional (rule Attributes) ∷ []) or_empty parsers.attributes_if_any
unfolding parsers.attributes_if_any parsers.attributes
attributes_follow =
    seen_follows deepest Attributes (Mark_ mark.OpenAttributes) (one Decided ∷ list1 (rule Attribute) ∷ one (Mark_ mark.Greater) ∷ one (Mark_ mark.Greater) ∷ []) (λ _ attributes _ _. attributes) or_empty parsers.attributes (λ ts. refl) (λ ts. refl)
    (λ R pending tree i h. (turn_follows attributes_turn).leads R pending tree i h)

-- attributes that may stand, as a piece
abbrev pub the_attributes : Piece deepest
the_attributes = a_parser (optional (rule Attributes) ∷ []) or_empty parsers.attributes_if_any attributes_follow

-- ---- words that may stand

-- the row of a word, by what it stands for
abbrev word_row : (name : Rule) → Option (Of (rule name)) → Option (Row (rule name))
word_row name None = None
word_row name (Some v) = reads (one Decided ∷ []) (λ _. v)

-- a word that may stand, by what it stands for
abbrev word_by : {A : Type 0} → Option A → Parser (Option A)
word_by None = pure None
word_by (Some v) = token >> pure (Some v)

-- a word that may stand follows its rule
module _ (depth : ℕ) (name : Rule) (decide : List Lexeme → Option (Of (rule name))) (rows : (ts : List Lexeme) → row_of name ts ≡ word_row name (decide ts)) (begin : (ts : List Lexeme) → begins (rule name) ts ≡ is_there (row_of name ts)) where
  -- by what it stands for
  word_leads : (R : Type 0) (pending : List Symbol) (tree : Option (Of (rule name)) → Awaits pending R) (i : Input) →
      nesting pending + depth ≡ 128 → (o : Option (Of (rule name))) → decide i.left ≡ o →
      Leads (state (optional (rule name) ∷ pending) tree i) pending tree (word_by o i)
  word_leads R pending tree i h None is =
      stepping R (optional (rule name) ∷ pending) tree i pending tree (Ok (None, i))
      (choosing R (optional (rule name)) (rule name ∷ []) (λ v. Some v) None pending tree tree i (begins (rule name) i.left) false
      (begin i.left ∙ ap is_there (rows i.left ∙ ap (word_row name) is)) (Ok (None, i)) (Ok (None, i))
      (λ t. absurd (let k : begins (rule name) i.left ≡ false = begin i.left ∙ ap is_there (rows i.left ∙ ap (word_row name) is) in cc))
      (λ t. reached))
  word_leads R pending tree i h (Some v) is =
      stepping R (optional (rule name) ∷ pending) tree i pending tree ((token >> pure (Some v)) i)
      (choosing R (optional (rule name)) (rule name ∷ []) (λ v. Some v) None pending tree tree i (begins (rule name) i.left) true
      (begin i.left ∙ ap is_there (rows i.left ∙ ap (word_row name) is)) ((token >> pure (Some v)) i) (Ok (None, i))
      (λ t. stepping R (rule name ∷ pending) (λ w. tree (Some w)) i pending tree ((token >> pure (Some v)) i)
      (subst (λ r. Leads (by_row (rule name) pending (λ w. tree (Some w)) i r) pending tree ((token >> pure (Some v)) i)) (sym (rows i.left ∙ ap (word_row name) is))
      ((turn_follows (a_word v)).leads R pending tree i h)))
      (λ t. absurd (let k : begins (rule name) i.left ≡ true = begin i.left ∙ ap is_there (rows i.left ∙ ap (word_row name) is) in cc)))
    where
      a_word : Of (rule name) → Turn depth (Option (Of (rule name)))
      a_word v = record { pieces = a_token and done; makes = λ _. Some v }

  -- by the next token
  word_follows : FollowsOne depth (optional (rule name)) (λ i. word_by (decide i.left) i)
  word_follows = record {
    leads = λ R pending tree i h. word_leads R pending tree i h (decide i.left) refl;
    plain = λ pending. refl;
  }

-- the row of a sign is that of a word
variance_row_is : (o : Option VarianceTree) → variance_row o ≡ word_row Variance o
variance_row_is None = refl
variance_row_is (Some v) = refl

-- and so is its parser
variance_by_is : (i : Input) (o : Option VarianceTree) → word_by o i ≡ parsers.variance_by o i
variance_by_is i None = refl
variance_by_is i (Some v) = refl

-- a sign before a type parameter, if there is one
variance_follows : FollowsOne deepest (optional (rule Variance)) parsers.variance_if_any
unfolding parsers.variance_if_any
variance_follows =
    same_follows deepest (optional (rule Variance) ∷ []) (λ v. v) (λ i. word_by (variance (next_kind i.left)) i) parsers.variance_if_any
    (word_follows deepest Variance (λ ts. variance (next_kind ts)) (λ ts. variance_row_is (variance (next_kind ts))) (λ ts. refl))
    (λ i. variance_by_is i (variance (next_kind i.left)))

-- the row of a visibility is that of a word
visibility_row_is : (o : Option VisibilityTree) → visibility_row o ≡ word_row Visibility o
visibility_row_is None = refl
visibility_row_is (Some v) = refl

-- and so is its parser
visibility_by_is : (i : Input) (o : Option VisibilityTree) → word_by o i ≡ parsers.visibility_by o i
visibility_by_is i None = refl
visibility_by_is i (Some v) = refl

-- a visibility before a parameter, if there is one
visibility_follows : FollowsOne deepest (optional (rule Visibility)) parsers.visibility_if_any
unfolding parsers.visibility_if_any
visibility_follows =
    same_follows deepest (optional (rule Visibility) ∷ []) (λ v. v) (λ i. word_by (visibility (next_kind i.left)) i) parsers.visibility_if_any
    (word_follows deepest Visibility (λ ts. visibility (next_kind ts)) (λ ts. visibility_row_is (visibility (next_kind ts))) (λ ts. refl))
    (λ i. visibility_by_is i (visibility (next_kind i.left)))

-- ---- type parameters

-- a bound, in pieces
abbrev bound_turn : BoundKind → Turn deepest BoundTree
bound_turn k = record { pieces = a_token and a_type and done; makes = λ _ t. record { kind = k; written = t } }

-- a bound, by its word
bound_by_follows : (i : Input) (o : Option BoundKind) →
    RowFollows deepest (rule Bound) i (bound_row o) (parsers.bound_by o i)
bound_by_follows i None = no_row
bound_by_follows i (Some k) = row_by (turn (bound_turn k)) (turn_follows (bound_turn k))

-- a bound
bound_follows : FollowsOne deepest (rule Bound) parsers.bound
unfolding parsers.bound
bound_follows = rule_follows deepest Bound parsers.bound (λ i. bound_by_follows i (bound_kind (next_kind i.left)))

-- its row is there exactly if its word is
bound_is_there : (o : Option BoundKind) → is_there (bound_row o) ≡ is_there o
bound_is_there None = refl
bound_is_there (Some k) = refl

-- each bound takes a token
bound_by_shrinks : (o : Option BoundKind) → Shrinks deepest (parsers.bound_by o)
bound_by_shrinks None = refuse_shrinks deepest
bound_by_shrinks (Some k) = turn_shrinks (bound_turn k) refl

-- so does each turn of the loop
bound_shrinks : Shrinks deepest parsers.bound
unfolding parsers.bound
bound_shrinks pending h i v rest e = bound_by_shrinks (bound_kind (next_kind i.left)) pending h i v rest e

-- bounds
bounds_follow : FollowsOne deepest (many (rule Bound)) parsers.bounds
unfolding parsers.bounds
bounds_follow = many_follows deepest (rule Bound) parsers.begins_bound parsers.bound (λ ts. bound_is_there (bound_kind (next_kind ts))) refl bound_follows bound_shrinks

-- a type parameter, in pieces
abbrev type_parameter_turn : Turn deepest TypeParameterTree
type_parameter_turn = record {
  pieces = the_symbol (optional (rule Variance)) parsers.variance_if_any variance_follows and a_name and the_symbol (many (rule Bound)) parsers.bounds bounds_follow and done;
  makes = λ sign name found. record { variance = sign; name = name; bounds = found };
}

-- a type parameter
type_parameter_follows : FollowsOne deepest (rule TypeParameter) parsers.type_parameter
unfolding parsers.type_parameter
type_parameter_follows = rule_follows deepest TypeParameter parsers.type_parameter (λ i. row_by parsers.type_parameter (turn_follows type_parameter_turn))

-- type parameters with commas
type_parameter_list_follows : FollowsOne deepest (list1 (rule TypeParameter)) parsers.type_parameter_list
unfolding parsers.type_parameter_list
type_parameter_list_follows = list1_follows deepest (rule TypeParameter) begins_type_parameter parsers.type_parameter (λ ts. refl) refl type_parameter_follows

-- type parameters, in pieces
abbrev type_parameters_turn : Turn deepest (List TypeParameterTree)
type_parameters_turn = record {
  pieces = a_token and the_symbol (list1 (rule TypeParameter)) parsers.type_parameter_list type_parameter_list_follows and the (Mark_ mark.Greater) and done;
  makes = λ _ found _. found;
}

-- type parameters that may stand, none where they do not
pub type_parameters_follow : Follows deepest {A = List TypeParameterTree} (optional (rule TypeParameters) ∷ []) or_empty parsers.type_parameters_if_any
unfolding parsers.type_parameters_if_any parsers.type_parameters
type_parameters_follow =
    seen_follows deepest TypeParameters (Mark_ mark.Less) (one Decided ∷ list1 (rule TypeParameter) ∷ one (Mark_ mark.Greater) ∷ []) (λ _ parameters _. parameters) or_empty parsers.type_parameters (λ ts. refl) (λ ts. refl)
    (λ R pending tree i h. (turn_follows type_parameters_turn).leads R pending tree i h)

-- type parameters that may stand, as a piece
abbrev pub the_type_parameters : Piece deepest
the_type_parameters = a_parser (optional (rule TypeParameters) ∷ []) or_empty parsers.type_parameters_if_any type_parameters_follow

-- ---- parameters and signatures

-- `=` and an expression, as the parts of a row
pub value_follows : Follows deepest {A = Expr} (one (Mark_ mark.Assign) ∷ rule Expression ∷ []) (λ _ value. value) parsers.default_value
unfolding parsers.default_value
value_follows = first_follows deepest (one (Mark_ mark.Assign)) (rule Expression ∷ []) (λ v. v) (λ _ value. value) (expect (Mark_ mark.Assign)) (λ _. parsers.expression) (expect_follows deepest (Mark_ mark.Assign)) (λ _. expression_follows deepest) (λ pending. refl)

-- and as a rule
pub default_follows : FollowsOne deepest (rule Default) parsers.default_value
unfolding parsers.default_value
default_follows = rule_follows deepest Default parsers.default_value (λ i.
    at_terminal_follows deepest (Mark_ mark.Assign) i (rule Expression ∷ []) (λ _ value. value) (λ _. parsers.expression)
    (behind_token_follows deepest (rule Expression) (λ v. v) parsers.expression (expression_follows deepest)))

-- it begins with `=`
default_begins : (ts : List Lexeme) → begins (rule Default) ts ≡ sees (Mark_ mark.Assign) ts
default_begins ts = if_row (record { counts = false; parts = one Decided ∷ rule Expression ∷ []; makes = λ _ value. value }) (sees (Mark_ mark.Assign) ts)

-- where it may stand
pub default_if_any_follows : FollowsOne deepest (optional (rule Default)) parsers.default_if_any
unfolding parsers.default_if_any
default_if_any_follows = optional_follows deepest (rule Default) (sees (Mark_ mark.Assign)) parsers.default_value default_begins default_follows

-- `=` and an expression that may stand, as a piece
abbrev pub the_default : Piece deepest
the_default = the_symbol (optional (rule Default)) parsers.default_if_any default_if_any_follows

-- the same with a `;` behind it
abbrev pub default_closed_turn : Turn deepest (Option Expr)
default_closed_turn = record { pieces = the_default and the (Mark_ mark.Semicolon) and done; makes = λ value _. value }

-- a parameter, in pieces
abbrev parameter_turn : Turn deepest ParameterTree
parameter_turn = record {
  pieces = the_attributes and the_symbol (optional (rule Visibility)) parsers.visibility_if_any visibility_follows and a_type and a_variable and the_default and done;
  makes = λ found shown written name value. record { attributes = found; visibility = shown; written = written; name = name; default = value };
}

-- a parameter
parameter_follows : FollowsOne deepest (rule Parameter) parsers.parameter
unfolding parsers.parameter
parameter_follows = rule_follows deepest Parameter parsers.parameter (λ i. row_by parsers.parameter (turn_follows parameter_turn))

-- parameters with commas
parameter_list_follows : FollowsOne deepest (list (rule Parameter)) parsers.parameter_list
unfolding parsers.parameter_list
parameter_list_follows = list_follows deepest (rule Parameter) begins_parameter parsers.parameter (λ ts. refl) refl parameter_follows

-- parameters in brackets, in pieces
abbrev parameters_turn : Turn deepest (List ParameterTree)
parameters_turn = record {
  pieces = a_token and the_symbol (list (rule Parameter)) parsers.parameter_list parameter_list_follows and the (Mark_ mark.CloseParen) and done;
  makes = λ _ found _. found;
}

-- parameters in brackets
parameters_follow : FollowsOne deepest (rule Parameters) parsers.parameters
unfolding parsers.parameters
parameters_follow = rule_follows deepest Parameters parsers.parameters (λ i.
    at_terminal_follows deepest (Mark_ mark.OpenParen) i (list (rule Parameter) ∷ one (Mark_ mark.CloseParen) ∷ []) (λ _ found _. found) _ (turn_follows parameters_turn))

-- `:` and a type, where they may stand
result_follows : FollowsOne deepest (optional (rule Result_)) parsers.result_if_any
unfolding parsers.result_if_any
result_follows = optional_seen deepest Result_ (Mark_ mark.Colon) (one Decided ∷ rule Type_ ∷ []) (λ _ t. t) (token >> parsers.type_read) (λ ts. refl) (λ ts. refl)
    (behind_token_follows deepest (rule Type_) (λ v. v) parsers.type_read (type_follows deepest))

-- a signature, in pieces
abbrev signature_turn : DeclaredName → Turn deepest Callable
signature_turn name = record {
  pieces = the_type_parameters and the_symbol (rule Parameters) parsers.parameters parameters_follow and the_symbol (optional (rule Result_)) parsers.result_if_any result_follows and done;
  makes = λ types found answer. record { name = name; type_parameters = types; parameters = found; result = answer };
}

-- a signature, of a callable with this name
pub signature_follows : (name : DeclaredName) → Follows deepest (rule Signature ∷ []) (λ of_name. of_name name) (parsers.signature name)
unfolding parsers.signature
signature_follows name = record {
  leads = λ R pending tree i h. stepping R (rule Signature ∷ pending) (λ of_name. tree (of_name name)) i pending tree (parsers.signature name i) ((turn_follows (signature_turn name)).leads R pending tree i h);
  plain = λ pending. refl;
}

-- a signature, as a piece
abbrev pub the_signature : DeclaredName → Piece deepest
the_signature name = a_parser (rule Signature ∷ []) (λ of_name. of_name name) (parsers.signature name) (signature_follows name)
