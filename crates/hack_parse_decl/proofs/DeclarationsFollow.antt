-- The parsers of declarations and files follow the grammar's runs.
use Rattle.std.proofs.Common.{◌≡◌, ◌↔◌, ℕ, ◌+◌, List, [], ◌∷◌, Option, None, Some, Ok, Err, refl}
use Rattle.hack_types.specs.declared.place.Place.{Place}
use Rattle.hack_lexer.specs.declared.kind.Mark.TheVariants as mark
use Rattle.hack_lexer.specs.declared.kind.Keyword.TheVariants as keyword
use Rattle.hack_tree.specs.declared.written_type.WrittenType.{WrittenType}
use Rattle.hack_tree.specs.declared.expression.Expr.{Expr}
use Rattle.hack_tree.specs.declared.statement.Stmt.{Stmt}
use Rattle.hack_tree.specs.declared.declaration.ClassModifier.{ClassModifier as ClassModifierTree}
use Rattle.hack_tree.specs.declared.declaration.DeclaredName.{DeclaredName}
use Rattle.hack_tree.specs.declared.declaration.Attribute.{Attribute as AttributeTree}
use Rattle.hack_tree.specs.declared.declaration.Callable.{Callable}
use Rattle.hack_tree.specs.declared.declaration.EnumCase.{EnumCase as EnumCaseTree}
use Rattle.hack_tree.specs.declared.declaration.UnitTree.{UnitTree}
use Rattle.hack_tree.specs.declared.declaration.UnitTree.TheVariants as unit
use Rattle.hack_parse_expr.specs.declared.lexeme.Lexeme.{Lexeme}
use Rattle.hack_parse_expr.specs.declared.rows.DeclarationRow.{DeclarationRow}
use Rattle.hack_parse_expr.specs.declared.rows.DeclarationRow.TheVariants as row
use Rattle.hack_parse_expr.specs.declared.stop.ParseStop.{ParseStop}
use Rattle.hack_parse_expr.specs.Input.{Input}
use Rattle.hack_parse_expr.specs.Decides.{is_there, declaration_row, class_modifier}
use Rattle.hack_parse_expr.specs.Kinds.{next_kind}
use Rattle.hack_parse_expr.specs.Symbols.{Mark_, Keyword_, Name, Decided, Symbol, one, start, finish, optional, many, rule, Type_, ClassType_, Expression, Block, Attributes, Signature, ClassModifier, Extends, ExtendsAll, Implements, EnumBound, EnumCase, Default, Member, InterfaceMember, File, Declaration, Declared_, Declared, Awaits}
use Rattle.hack_parse_expr.specs.Rows.{sees, or_empty, declared_name, class_modifier_row, declaration_rows, begins_declaration, declared as declared_tree}
use Rattle.hack_parse_expr.specs.Run.{by_row, starts, nesting, deepest, Stands, Fails}
use Rattle.hack_parse_expr.specs.Parsers.{Parser, ◌>>=◌, ◌>>◌, token, expect, starting, starting_at, finishing, at_front}
use Rattle.hack_parse_expr.proofs.Runs.{reached}
use Rattle.hack_parse_expr.proofs.Follows.{Leads, stepping, Follows, FollowsOne, RowFollows, first_follows, rule_follows, row_by, no_row, expect_follows, token_follows}
use Rattle.hack_parse_expr.proofs.ListsFollow.{Shrinks, follows_keeps, many_follows, mapped_follows, refuse_shrinks}
use Rattle.hack_parse_expr.proofs.Pieces.{Piece, Turn, turn, turn_follows, turn_shrinks, done, ◌and◌, a_token, the, a_parser, the_symbol, behind_token_follows, optional_seen, shrinks_first, shrinks_later, token_shortens}
use Rattle.hack_parse_expr.proofs.Alone.{stands_law, fails_law}
use Rattle.hack_parse_decl.specs.declared.declaration.ClassHead.{ClassHead}
use Rattle.hack_parse_decl.specs.declared.declaration.HeadParts.{HeadParts}
use Rattle.hack_parse_decl.specs.declared.declaration.EnumHead.{EnumHead}
use Rattle.hack_parse_decl.specs.declared.declaration.AliasParts.{AliasParts}
use Rattle.hack_parse_decl.specs.declared.declaration.ConstantParts.{ConstantParts}
use Rattle.hack_parse_decl.specs.Declarations as parsers
use Rattle.hack_parse_decl.proofs.SignaturesFollow.{a_type, a_class, a_body, a_name, attributes_follow, the_type_parameters, default_follows, value_follows, the_signature, the_turn}
use Rattle.hack_parse_decl.proofs.MembersFollow.{implements_follow, extends_all_follow, members_follow, interface_members_follow}

-- ---- modifiers of a class

-- a modifier in one token
abbrev class_modifier_turn : ClassModifierTree → Turn deepest ClassModifierTree
class_modifier_turn m = record { pieces = a_token and done; makes = λ _. m }

-- a modifier, by its word
class_modifier_by_follows : (i : Input) (o : Option ClassModifierTree) →
    RowFollows deepest (rule ClassModifier) i (class_modifier_row o) (parsers.class_modifier_by o i)
class_modifier_by_follows i None = no_row
class_modifier_by_follows i (Some m) = row_by (turn (class_modifier_turn m)) (turn_follows (class_modifier_turn m))

-- a modifier
class_modifier_follows : FollowsOne deepest (rule ClassModifier) parsers.class_modifier_read
unfolding parsers.class_modifier_read
class_modifier_follows = rule_follows deepest ClassModifier parsers.class_modifier_read (λ i. class_modifier_by_follows i (class_modifier (next_kind i.left)))

-- its row is there exactly if its word is
class_modifier_is_there : (o : Option ClassModifierTree) → is_there (class_modifier_row o) ≡ is_there o
class_modifier_is_there None = refl
class_modifier_is_there (Some m) = refl

-- each modifier takes a token
class_modifier_by_shrinks : (o : Option ClassModifierTree) → Shrinks deepest (parsers.class_modifier_by o)
class_modifier_by_shrinks None = refuse_shrinks deepest
class_modifier_by_shrinks (Some m) = turn_shrinks (class_modifier_turn m) refl

-- so does each turn of the loop
class_modifier_shrinks : Shrinks deepest parsers.class_modifier_read
unfolding parsers.class_modifier_read
class_modifier_shrinks pending h i v rest e = class_modifier_by_shrinks (class_modifier (next_kind i.left)) pending h i v rest e

-- modifiers
class_modifiers_follow : FollowsOne deepest (many (rule ClassModifier)) parsers.class_modifiers
unfolding parsers.class_modifiers
class_modifiers_follow = many_follows deepest (rule ClassModifier) parsers.begins_class_modifier parsers.class_modifier_read (λ ts. class_modifier_is_there (class_modifier (next_kind ts))) refl class_modifier_follows class_modifier_shrinks

-- ---- what may stand in the head of a declaration

-- `extends` and a class
extends_follow : FollowsOne deepest (optional (rule Extends)) parsers.extends_if_any
unfolding parsers.extends_if_any
extends_follow = optional_seen deepest Extends (Keyword_ keyword.Extends) (one Decided ∷ rule ClassType_ ∷ []) (λ _ t. t) (token >> parsers.class_type) (λ ts. refl) (λ ts. refl)
    (behind_token_follows deepest (rule ClassType_) (λ v. v) parsers.class_type a_class.follows)

-- `as` and a type
bound_follows : FollowsOne deepest (optional (rule EnumBound)) parsers.bound_if_any
unfolding parsers.bound_if_any
bound_follows = optional_seen deepest EnumBound (Keyword_ keyword.As) (one Decided ∷ rule Type_ ∷ []) (λ _ t. t) (token >> parsers.type_read) (λ ts. refl) (λ ts. refl)
    (behind_token_follows deepest (rule Type_) (λ v. v) parsers.type_read a_type.follows)

-- `implements` and classes, `extends` and classes, members in braces
abbrev implemented : Piece deepest
implemented = a_parser (optional (rule Implements) ∷ []) or_empty (parsers.types_behind keyword.Implements) implements_follow

-- `extends` and classes, as a piece
abbrev extended : Piece deepest
extended = a_parser (optional (rule ExtendsAll) ∷ []) or_empty (parsers.types_behind keyword.Extends) extends_all_follow

-- members in braces, as a piece
abbrev the_members : Piece deepest
the_members = a_parser (one (Mark_ mark.OpenBrace) ∷ many (rule Member) ∷ one (Mark_ mark.CloseBrace) ∷ []) (λ _ found _. found) parsers.members members_follow

-- those of an interface, as a piece
abbrev the_interface_members : Piece deepest
the_interface_members = a_parser (one (Mark_ mark.OpenBrace) ∷ many (rule InterfaceMember) ∷ one (Mark_ mark.CloseBrace) ∷ []) (λ _ found _. found) parsers.interface_members interface_members_follow

-- ---- cases of an enum

-- `=`, an expression and `;`, in pieces
abbrev case_value_turn : Turn deepest Expr
case_value_turn = record {
  pieces = a_parser (one (Mark_ mark.Assign) ∷ rule Expression ∷ []) (λ _ value. value) parsers.default_value value_follows and the (Mark_ mark.Semicolon) and done;
  makes = λ value _. value;
}

-- a case, in pieces
abbrev enum_case_turn : Turn deepest EnumCaseTree
enum_case_turn = record {
  pieces = a_name and the_turn case_value_turn and done;
  makes = λ name value. record { name = name; value = value };
}

-- a case
enum_case_follows : FollowsOne deepest (rule EnumCase) parsers.enum_case
unfolding parsers.enum_case parsers.value_closed
enum_case_follows = rule_follows deepest EnumCase parsers.enum_case (λ i. row_by (turn enum_case_turn) (turn_follows enum_case_turn))

-- it takes a token
enum_case_shrinks : Shrinks deepest parsers.enum_case
unfolding parsers.enum_case parsers.value_closed
enum_case_shrinks = turn_shrinks enum_case_turn refl

-- cases
enum_cases_follow : FollowsOne deepest (many (rule EnumCase)) parsers.enum_cases
unfolding parsers.enum_cases
enum_cases_follow = many_follows deepest (rule EnumCase) (sees Name) parsers.enum_case (λ ts. refl) refl enum_case_follows enum_case_shrinks

-- ---- heads of declarations, and those of one piece

-- modifiers and `class`
abbrev class_words_turn : Turn deepest (List ClassModifierTree)
class_words_turn = record {
  pieces = the_symbol (many (rule ClassModifier)) parsers.class_modifiers class_modifiers_follow and the (Keyword_ keyword.Class) and done;
  makes = λ words _. words;
}

-- what stands between `class` and the members
abbrev class_head_turn : Turn deepest ClassHead
class_head_turn = record {
  pieces = a_name and the_type_parameters and the_symbol (optional (rule Extends)) parsers.extends_if_any extends_follow and implemented and done;
  makes = λ name types extends implements. record { name = name; type_parameters = types; extends = extends; implements = implements };
}

-- the head of an interface
abbrev interface_head_turn : Turn deepest HeadParts
interface_head_turn = record {
  pieces = a_token and a_name and the_type_parameters and extended and done;
  makes = λ _ name types above. record { name = name; type_parameters = types; above = above };
}

-- the head of a trait
abbrev trait_head_turn : Turn deepest HeadParts
trait_head_turn = record {
  pieces = a_token and a_name and the_type_parameters and implemented and done;
  makes = λ _ name types above. record { name = name; type_parameters = types; above = above };
}

-- the head of an enum
abbrev enum_head_turn : Turn deepest EnumHead
enum_head_turn = record {
  pieces = a_token and a_name and the (Mark_ mark.Colon) and a_type and the_symbol (optional (rule EnumBound)) parsers.bound_if_any bound_follows and done;
  makes = λ _ name _ base bound. record { name = name; base = base; bound = bound };
}

-- cases in braces
abbrev enum_block_turn : Turn deepest (List EnumCaseTree)
enum_block_turn = record {
  pieces = the (Mark_ mark.OpenBrace) and the_symbol (many (rule EnumCase)) parsers.enum_cases enum_cases_follow and the (Mark_ mark.CloseBrace) and done;
  makes = λ _ found _. found;
}

-- `=`, a type and `;`
abbrev type_closed_turn : Turn deepest WrittenType
type_closed_turn = record {
  pieces = the (Mark_ mark.Assign) and a_type and the (Mark_ mark.Semicolon) and done;
  makes = λ _ written _. written;
}

-- what an alias says
abbrev alias_parts_turn : Turn deepest AliasParts
alias_parts_turn = record {
  pieces = a_token and a_name and the_type_parameters and the_turn type_closed_turn and done;
  makes = λ _ name types written. record { name = name; type_parameters = types; written = written };
}

-- `=`, an expression and `;`, as a rule and a token
abbrev value_closed_turn : Turn deepest Expr
value_closed_turn = record { pieces = the_symbol (rule Default) parsers.default_value default_follows and the (Mark_ mark.Semicolon) and done; makes = λ value _. value }

-- what a constant says
abbrev constant_parts_turn : Turn deepest ConstantParts
constant_parts_turn = record {
  pieces = a_token and a_type and a_name and the_turn value_closed_turn and done;
  makes = λ _ written name value. record { written = written; name = name; value = value };
}

-- ---- declarations behind their attributes

module _ (before : List AttributeTree) where
  -- a function behind its name
  abbrev callable_turn : DeclaredName → Turn deepest UnitTree
  callable_turn name = record {
    pieces = the_signature name and a_body and done;
    makes = λ callable body. unit.Function before callable body;
  }

  -- what a function is made of
  abbrev of_function : Lexeme → (DeclaredName → Callable) → List Stmt → UnitTree
  of_function name signature body = unit.Function before (signature (declared_name name)) body

  -- a function behind `function`
  named_function : Follows deepest (one Name ∷ rule Signature ∷ rule Block ∷ []) of_function (parsers.name_read >>= (λ name. turn (callable_turn name)))
  named_function = first_follows deepest (one Name) (rule Signature ∷ rule Block ∷ []) declared_name (λ name signature body. unit.Function before (signature name) body) parsers.name_read (λ name. turn (callable_turn name)) (mapped_follows deepest (one Name) (λ v. v) declared_name (expect Name) (expect_follows deepest Name))
      (λ name. turn_follows (callable_turn name)) (λ pending. refl)

  -- a function
  function_follows : Follows deepest (one Decided ∷ one Name ∷ rule Signature ∷ rule Block ∷ []) (λ _. of_function) (parsers.function before)
  unfolding parsers.function
  function_follows = first_follows deepest (one Decided) (one Name ∷ rule Signature ∷ rule Block ∷ []) (λ v. v) (λ _. of_function) token (λ _. parsers.name_read >>= (λ name. turn (callable_turn name))) (token_follows deepest) (λ _. named_function) (λ pending. refl)

  -- it takes a token
  function_shrinks : Shrinks deepest (parsers.function before)
  unfolding parsers.function
  function_shrinks = shrinks_first deepest token (λ _. parsers.name_read >>= (λ name. turn (callable_turn name))) (token_shortens deepest)
      (λ _. follows_keeps deepest (one Name ∷ rule Signature ∷ rule Block ∷ []) of_function (parsers.name_read >>= (λ name. turn (callable_turn name))) named_function)

  -- a class
  abbrev class_turn : Turn deepest UnitTree
  class_turn = record {
    pieces = the_turn class_words_turn and the_turn class_head_turn and the_members and done;
    makes = λ words head found. unit.Class before words head.name head.type_parameters head.extends head.implements found;
  }

  -- an interface
  abbrev interface_turn : Turn deepest UnitTree
  interface_turn = record {
    pieces = the_turn interface_head_turn and the_interface_members and done;
    makes = λ head found. unit.Interface before head.name head.type_parameters head.above found;
  }

  -- a trait
  abbrev trait_turn : Turn deepest UnitTree
  trait_turn = record {
    pieces = the_turn trait_head_turn and the_members and done;
    makes = λ head found. unit.Trait before head.name head.type_parameters head.above found;
  }

  -- an enum
  abbrev enum_turn : Turn deepest UnitTree
  enum_turn = record {
    pieces = the_turn enum_head_turn and the_turn enum_block_turn and done;
    makes = λ head found. unit.Enum before head.name head.base head.bound found;
  }

  -- an alias of a type
  abbrev alias_turn : Turn deepest UnitTree
  alias_turn = record {
    pieces = the_turn alias_parts_turn and done;
    makes = λ alias. unit.Alias before alias.name alias.type_parameters alias.written;
  }

  -- a constant
  abbrev constant_turn : Turn deepest UnitTree
  constant_turn = record {
    pieces = the_turn constant_parts_turn and done;
    makes = λ constant. unit.Constant before constant.written constant.name constant.value;
  }

  -- a declaration by its row
  declaration_by_leads : (R : Type 0) (pending : List Symbol) (tree : UnitTree → Awaits pending R) (i : Input) →
      nesting pending + deepest ≡ 128 → (r : Option DeclarationRow) →
      Leads (by_row (rule Declared_) pending (λ of_attributes. tree (of_attributes before)) i (declaration_rows r)) pending tree (parsers.declaration_by before r i)
  unfolding parsers.class parsers.class_words parsers.class_head parsers.interface parsers.trait_unit parsers.head parsers.enum_unit parsers.enum_head parsers.enum_block parsers.alias parsers.alias_parts parsers.type_closed parsers.constant parsers.constant_parts parsers.value_closed
  declaration_by_leads R pending tree i h None = reached
  declaration_by_leads R pending tree i h (Some row.Function) = function_follows.leads R pending tree i h
  declaration_by_leads R pending tree i h (Some row.Class) = (turn_follows class_turn).leads R pending tree i h
  declaration_by_leads R pending tree i h (Some row.Interface) = (turn_follows interface_turn).leads R pending tree i h
  declaration_by_leads R pending tree i h (Some row.Trait) = (turn_follows trait_turn).leads R pending tree i h
  declaration_by_leads R pending tree i h (Some row.Enum) = (turn_follows enum_turn).leads R pending tree i h
  declaration_by_leads R pending tree i h (Some row.Alias) = (turn_follows alias_turn).leads R pending tree i h
  declaration_by_leads R pending tree i h (Some row.Constant) = (turn_follows constant_turn).leads R pending tree i h

  -- a declaration behind its attributes
  declared_follows : Follows deepest (rule Declared_ ∷ []) (λ of_attributes. of_attributes before) (parsers.declared before)
  unfolding parsers.declared
  declared_follows = record {
    leads = λ R pending tree i h. stepping R (rule Declared_ ∷ pending) (λ of_attributes. tree (of_attributes before)) i pending tree (parsers.declared before i) (declaration_by_leads R pending tree i h (declaration_row (next_kind i.left)));
    plain = λ pending. refl;
  }

  -- each takes a token
  declaration_by_shrinks : (r : Option DeclarationRow) → Shrinks deepest (parsers.declaration_by before r)
  unfolding parsers.class parsers.class_words parsers.class_head parsers.interface parsers.trait_unit parsers.head parsers.enum_unit parsers.enum_head parsers.enum_block parsers.alias parsers.alias_parts parsers.type_closed parsers.constant parsers.constant_parts parsers.value_closed
  declaration_by_shrinks None = refuse_shrinks deepest
  declaration_by_shrinks (Some row.Function) = function_shrinks
  declaration_by_shrinks (Some row.Class) = turn_shrinks class_turn refl
  declaration_by_shrinks (Some row.Interface) = turn_shrinks interface_turn refl
  declaration_by_shrinks (Some row.Trait) = turn_shrinks trait_turn refl
  declaration_by_shrinks (Some row.Enum) = turn_shrinks enum_turn refl
  declaration_by_shrinks (Some row.Alias) = turn_shrinks alias_turn refl
  declaration_by_shrinks (Some row.Constant) = turn_shrinks constant_turn refl

  -- so a declaration takes a token
  declared_shrinks : Shrinks deepest (parsers.declared before)
  unfolding parsers.declared
  declared_shrinks pending h i v rest e = declaration_by_shrinks (declaration_row (next_kind i.left)) pending h i v rest e

-- ---- the beginning and the end of a declaration

-- the first token is read wherever there is one
started : (R : Type 0) (pending : List Symbol) (tree : Lexeme → Awaits pending R) (i : Input) (left : List Lexeme) →
    Leads (starts pending tree i left) pending tree (starting_at i left)
started R pending tree i [] = reached
started R pending tree i (t ∷ left) = reached

-- `starting` follows the beginning of a declaration
starting_follows : (depth : ℕ) → FollowsOne depth start starting
unfolding starting
starting_follows depth = record {
  leads = λ R pending tree i h. stepping R (start ∷ pending) tree i pending tree (starting i) (started R pending tree i i.left);
  plain = λ pending. refl;
}

-- `finishing` follows its end
finishing_follows : (depth : ℕ) → FollowsOne depth finish finishing
finishing_follows depth = record {
  leads = λ R pending tree i h. stepping R (finish ∷ pending) tree i pending tree (finishing i) reached;
  plain = λ pending. refl;
}

-- ---- declarations

-- a declaration behind its first token and its attributes
abbrev declared_turn : Lexeme → List AttributeTree → Turn deepest Declared
declared_turn first before = record {
  pieces = a_parser (rule Declared_ ∷ []) (λ of_attributes. of_attributes before) (parsers.declared before) (declared_follows before) and the_symbol finish finishing (finishing_follows deepest) and done;
  makes = λ tree behind. record { first = first; tree = tree; behind = behind };
}

-- the same behind its first token
abbrev attributes_before : Lexeme → Parser Declared
attributes_before first = parsers.attributes_if_any >>= (λ before. turn (declared_turn first before))

-- attributes and what they stand before follow
attributes_before_follow : (first : Lexeme) → Follows deepest (optional (rule Attributes) ∷ rule Declared_ ∷ finish ∷ []) (declared_tree first) (attributes_before first)
attributes_before_follow first = first_follows deepest (optional (rule Attributes)) (rule Declared_ ∷ finish ∷ []) or_empty (λ before tree behind. record { first = first; tree = tree before; behind = behind }) parsers.attributes_if_any (λ before. turn (declared_turn first before)) attributes_follow (λ before. turn_follows (declared_turn first before)) (λ pending. refl)

-- a declaration
pub declaration_follows : FollowsOne deepest (rule Declaration) parsers.declaration
unfolding parsers.declaration
declaration_follows = rule_follows deepest Declaration parsers.declaration (λ i. row_by parsers.declaration
    (first_follows deepest start (optional (rule Attributes) ∷ rule Declared_ ∷ finish ∷ []) (λ v. v) declared_tree starting attributes_before (starting_follows deepest) attributes_before_follow (λ pending. refl)))

-- behind its attributes it takes a token
declared_turn_shrinks : (first : Lexeme) (before : List AttributeTree) → Shrinks deepest (turn (declared_turn first before))
declared_turn_shrinks first before =
    shrinks_first deepest (parsers.declared before) (λ tree. turn (end_turn tree)) (declared_shrinks before)
    (λ tree. follows_keeps deepest (finish ∷ []) (λ behind. record { first = first; tree = tree; behind = behind }) (turn (end_turn tree)) (turn_follows (end_turn tree)))
  where
    end_turn : UnitTree → Turn deepest Declared
    end_turn tree = record { pieces = the_symbol finish finishing (finishing_follows deepest) and done; makes = λ behind. record { first = first; tree = tree; behind = behind } }

-- so it takes a token
declaration_shrinks : Shrinks deepest parsers.declaration
unfolding parsers.declaration
declaration_shrinks =
    shrinks_later deepest starting attributes_before (follows_keeps deepest (start ∷ []) (λ v. v) starting (starting_follows deepest))
    (λ first. shrinks_later deepest parsers.attributes_if_any (λ before. turn (declared_turn first before)) (follows_keeps deepest (optional (rule Attributes) ∷ []) or_empty parsers.attributes_if_any attributes_follow)
    (declared_turn_shrinks first))

-- declarations
pub declarations_follow : FollowsOne deepest (many (rule Declaration)) parsers.declarations
unfolding parsers.declarations
declarations_follow = many_follows deepest (rule Declaration) begins_declaration parsers.declaration (λ ts. refl) refl declaration_follows declaration_shrinks

-- ---- files

-- a file is its declarations
pub file_follows : FollowsOne deepest (rule File) parsers.declarations
file_follows = rule_follows deepest File parsers.declarations (λ i. row_by parsers.declarations declarations_follow)

-- the tokens of a file stand for declarations exactly where the parser reads those
pub files_stand : (tokens : List Lexeme) (end : Place) (found : List Declared) (rest : Input) →
    Stands (rule File) (at_front tokens end) found rest ↔ (parsers.declarations (at_front tokens end) ≡ Ok (found, rest))
files_stand tokens end found rest = stands_law (rule File) parsers.declarations file_follows (at_front tokens end) found rest

-- and they fail exactly where the parser stops
pub files_fail : (tokens : List Lexeme) (end : Place) (stop : ParseStop) →
    Fails (rule File) (at_front tokens end) stop ↔ (parsers.declarations (at_front tokens end) ≡ Err stop)
files_fail tokens end stop = fails_law (rule File) parsers.declarations file_follows (at_front tokens end) stop
