-- The parsers of members follow the grammar's runs.
use Rattle.std.proofs.Common.{◌≡◌, ◌+◌, ◌<◌, Bool, true, false, List, [], ◌∷◌, length, Option, None, Some, Ok, refl, if◌then◌else◌}
use Rattle.hack_types.specs.declared.place.Place.{Place}
use Rattle.hack_lexer.specs.declared.kind.Mark.TheVariants as mark
use Rattle.hack_lexer.specs.declared.kind.Keyword.TheVariants as keyword
use Rattle.hack_tree.specs.declared.written_type.ClassType.{ClassType}
use Rattle.hack_tree.specs.declared.statement.Stmt.{Stmt}
use Rattle.hack_tree.specs.declared.declaration.Modifier.{Modifier as ModifierTree}
use Rattle.hack_tree.specs.declared.declaration.DeclaredName.{DeclaredName}
use Rattle.hack_tree.specs.declared.declaration.Attribute.{Attribute as AttributeTree}
use Rattle.hack_tree.specs.declared.declaration.Callable.{Callable}
use Rattle.hack_tree.specs.declared.declaration.Member.{Member as MemberTree}
use Rattle.hack_tree.specs.declared.declaration.Member.TheVariants as member_tree
use Rattle.hack_parse_expr.specs.declared.lexeme.Lexeme.{Lexeme}
use Rattle.hack_parse_expr.specs.declared.rows.MemberRow.{MemberRow}
use Rattle.hack_parse_expr.specs.declared.rows.MemberRow.TheVariants as member_kind
use Rattle.hack_parse_expr.specs.Input.{Input}
use Rattle.hack_parse_expr.specs.Decides.{is_there, member_row, modifier}
use Rattle.hack_parse_expr.specs.Kinds.{next_kind}
use Rattle.hack_parse_expr.specs.Symbols.{Mark_, Keyword_, Word, Decided, Symbol, one, here, optional, many, list1, rule, ClassType_, Block, Attributes, Signature, ExtendsAll, Implements, Member, InterfaceMember, MemberBody, InterfaceBody, Modifier, MethodBody, Name, Awaits}
use Rattle.hack_parse_expr.specs.Rows.{sees, reads, at_terminal, or_empty, declared_name, member_rows, interface_rows, member_of, modifier_row, begins_member, begins_interface_member}
use Rattle.hack_parse_expr.specs.Run.{by_row, nesting, deepest}
use Rattle.hack_parse_expr.specs.Parsers.{Parser, ◌>>=◌, ◌>>◌, ◌<$>◌, pure, token, expect, place}
use Rattle.hack_parse_expr.proofs.Runs.{reached}
use Rattle.hack_parse_expr.proofs.Follows.{Leads, stepping, Follows, FollowsOne, RowFollows, first_follows, rule_follows, row_by, no_row, expect_follows, token_follows, place_follows}
use Rattle.hack_parse_expr.proofs.ListsFollow.{Shrinks, Keeps, follows_keeps, many_follows, list1_follows, mapped_follows, refuse_shrinks, at_terminal_follows}
use Rattle.hack_parse_expr.proofs.Pieces.{Turn, turn, turn_follows, turn_shrinks, done, ◌and◌, a_token, the, the_symbol, behind_token_follows, seen_follows, shrinks_first, shrinks_later, token_shortens}
use Rattle.hack_parse_decl.specs.declared.member.Valued.{Valued}
use Rattle.hack_parse_decl.specs.Declarations as parsers
use Rattle.hack_parse_decl.proofs.SignaturesFollow.{a_type, a_class, a_body, a_name, a_variable, attributes_follow, default_closed_turn, the_signature, the_turn}

-- ---- modifiers

-- a modifier in one token
abbrev modifier_turn : ModifierTree → Turn deepest ModifierTree
modifier_turn m = record { pieces = a_token and done; makes = λ _. m }

-- a modifier, by its word
modifier_by_follows : (i : Input) (o : Option ModifierTree) →
    RowFollows deepest (rule Modifier) i (modifier_row o) (parsers.modifier_by o i)
modifier_by_follows i None = no_row
modifier_by_follows i (Some m) = row_by (turn (modifier_turn m)) (turn_follows (modifier_turn m))

-- a modifier
modifier_follows : FollowsOne deepest (rule Modifier) parsers.modifier_read
unfolding parsers.modifier_read
modifier_follows = rule_follows deepest Modifier parsers.modifier_read (λ i. modifier_by_follows i (modifier (next_kind i.left)))

-- its row is there exactly if its word is
modifier_is_there : (o : Option ModifierTree) → is_there (modifier_row o) ≡ is_there o
modifier_is_there None = refl
modifier_is_there (Some m) = refl

-- each modifier takes a token
modifier_by_shrinks : (o : Option ModifierTree) → Shrinks deepest (parsers.modifier_by o)
modifier_by_shrinks None = refuse_shrinks deepest
modifier_by_shrinks (Some m) = turn_shrinks (modifier_turn m) refl

-- so does each turn of the loop
modifier_shrinks : Shrinks deepest parsers.modifier_read
unfolding parsers.modifier_read
modifier_shrinks pending h i v rest e = modifier_by_shrinks (modifier (next_kind i.left)) pending h i v rest e

-- modifiers
pub modifiers_follow : FollowsOne deepest (many (rule Modifier)) parsers.modifiers
unfolding parsers.modifiers
modifiers_follow = many_follows deepest (rule Modifier) parsers.begins_modifier parsers.modifier_read (λ ts. modifier_is_there (modifier (next_kind ts))) refl modifier_follows modifier_shrinks

-- ---- the body of a method

-- a block
abbrev body_turn : Turn deepest (Option (List Stmt))
body_turn = record { pieces = a_body and done; makes = λ body. Some body }

-- `;`, which is no body
abbrev no_body_turn : Turn deepest (Option (List Stmt))
no_body_turn = record { pieces = a_token and done; makes = λ _. None }

-- a block, or `;` in its place
method_body_follows : FollowsOne deepest (rule MethodBody) parsers.method_body
unfolding parsers.method_body
method_body_follows = rule_follows deepest MethodBody parsers.method_body (λ i. by_sight i (sees (Mark_ mark.OpenBrace) i.left))
  where
    by_sight : (i : Input) (c : Bool) →
        RowFollows deepest (rule MethodBody) i (if c then reads (rule Block ∷ []) (λ body. Some body) else at_terminal (Mark_ mark.Semicolon) i.left (reads (one Decided ∷ []) (λ _. None))) (if c then ((λ body. Some body) <$> parsers.body_read) i else (expect (Mark_ mark.Semicolon) >> pure None) i)
    by_sight i true = row_by (turn body_turn) (turn_follows body_turn)
    by_sight i false = at_terminal_follows deepest (Mark_ mark.Semicolon) i [] (λ _. None) _ (turn_follows no_body_turn)

-- ---- members behind their attributes and modifiers

-- what a constant says behind its modifiers
abbrev constant_valued_turn : Turn deepest Valued
constant_valued_turn = record {
  pieces = a_token and a_type and a_name and the_turn default_closed_turn and done;
  makes = λ _ written name value. record { written = written; name = name; value = value };
}

-- and a property
abbrev property_valued_turn : Turn deepest Valued
property_valued_turn = record {
  pieces = a_type and a_variable and the_turn default_closed_turn and done;
  makes = λ written name value. record { written = written; name = name; value = value };
}

module _ (at : Place) (before : List AttributeTree) (words : List ModifierTree) where
  -- a constant
  abbrev constant_turn : Turn deepest MemberTree
  constant_turn = record {
    pieces = the_turn constant_valued_turn and done;
    makes = λ v. member_tree.Constant at before words v.written v.name v.value;
  }

  -- a property
  abbrev property_turn : Turn deepest MemberTree
  property_turn = record {
    pieces = the_turn property_valued_turn and done;
    makes = λ v. member_tree.Property at before words v.written v.name v.value;
  }

  -- a method behind its name
  abbrev callable_turn : DeclaredName → Turn deepest MemberTree
  callable_turn name = record {
    pieces = the_signature name and the_symbol (rule MethodBody) parsers.method_body method_body_follows and done;
    makes = λ callable body. member_tree.Method at before words callable body;
  }

  -- what a method is made of
  abbrev of_method : Lexeme → (DeclaredName → Callable) → Option (List Stmt) → MemberTree
  of_method name signature body = member_tree.Method at before words (signature (declared_name name)) body

  -- a method behind `function`
  named_method : Follows deepest (one Word ∷ rule Signature ∷ rule MethodBody ∷ []) of_method (parsers.word_read >>= (λ name. turn (callable_turn name)))
  named_method = first_follows deepest (one Word) (rule Signature ∷ rule MethodBody ∷ []) declared_name (λ name signature body. member_tree.Method at before words (signature name) body) parsers.word_read (λ name. turn (callable_turn name)) (mapped_follows deepest (one Word) (λ v. v) declared_name (expect Word) (expect_follows deepest Word))
      (λ name. turn_follows (callable_turn name)) (λ pending. refl)

  -- a method
  method_follows : Follows deepest (one Decided ∷ one Word ∷ rule Signature ∷ rule MethodBody ∷ []) (λ _. of_method) (parsers.method_member at before words)
  unfolding parsers.method_member
  method_follows = first_follows deepest (one Decided) (one Word ∷ rule Signature ∷ rule MethodBody ∷ []) (λ v. v) (λ _. of_method) token (λ _. parsers.word_read >>= (λ name. turn (callable_turn name))) (token_follows deepest) (λ _. named_method) (λ pending. refl)

  -- it takes a token
  method_shrinks : Shrinks deepest (parsers.method_member at before words)
  unfolding parsers.method_member
  method_shrinks = shrinks_first deepest token (λ _. parsers.word_read >>= (λ name. turn (callable_turn name))) (token_shortens deepest)
      (λ _. follows_keeps deepest (one Word ∷ rule Signature ∷ rule MethodBody ∷ []) of_method (parsers.word_read >>= (λ name. turn (callable_turn name))) named_method)

  -- a member by its row
  member_by_leads : (R : Type 0) (pending : List Symbol) (tree : MemberTree → Awaits pending R) (i : Input) →
      nesting pending + deepest ≡ 128 → (r : Option MemberRow) →
      Leads (by_row (rule MemberBody) pending (λ body. tree (body at before words)) i (member_rows r)) pending tree (parsers.member_by at before words r i)
  unfolding parsers.constant_member parsers.constant_valued parsers.property_member parsers.property_valued parsers.value_closed_if_any
  member_by_leads R pending tree i h None = reached
  member_by_leads R pending tree i h (Some member_kind.Constant) = (turn_follows constant_turn).leads R pending tree i h
  member_by_leads R pending tree i h (Some member_kind.Method) = method_follows.leads R pending tree i h
  member_by_leads R pending tree i h (Some member_kind.Property) = (turn_follows property_turn).leads R pending tree i h

  -- a member
  member_body_follows : Follows deepest (rule MemberBody ∷ []) (λ body. body at before words) (parsers.member_body at before words)
  unfolding parsers.member_body
  member_body_follows = record {
    leads = λ R pending tree i h. stepping R (rule MemberBody ∷ pending) (λ body. tree (body at before words)) i pending tree (parsers.member_body at before words i) (member_by_leads R pending tree i h (member_row (next_kind i.left)));
    plain = λ pending. refl;
  }

  -- each takes a token
  member_by_shrinks : (r : Option MemberRow) → Shrinks deepest (parsers.member_by at before words r)
  unfolding parsers.constant_member parsers.constant_valued parsers.property_member parsers.property_valued parsers.value_closed_if_any
  member_by_shrinks None = refuse_shrinks deepest
  member_by_shrinks (Some member_kind.Constant) = turn_shrinks constant_turn refl
  member_by_shrinks (Some member_kind.Method) = method_shrinks
  member_by_shrinks (Some member_kind.Property) = turn_shrinks property_turn refl

  -- so a member takes a token behind what stands before it
  member_body_shrinks : Shrinks deepest (parsers.member_body at before words)
  unfolding parsers.member_body
  member_body_shrinks pending h i v rest e = member_by_shrinks (member_row (next_kind i.left)) pending h i v rest e

  -- a member of an interface by its row
  interface_by_leads : (R : Type 0) (pending : List Symbol) (tree : MemberTree → Awaits pending R) (i : Input) →
      nesting pending + deepest ≡ 128 → (r : Option MemberRow) →
      Leads (by_row (rule InterfaceBody) pending (λ body. tree (body at before words)) i (interface_rows r)) pending tree (parsers.interface_by at before words r i)
  unfolding parsers.constant_member parsers.constant_valued parsers.value_closed_if_any
  interface_by_leads R pending tree i h None = reached
  interface_by_leads R pending tree i h (Some member_kind.Constant) = (turn_follows constant_turn).leads R pending tree i h
  interface_by_leads R pending tree i h (Some member_kind.Method) = method_follows.leads R pending tree i h
  interface_by_leads R pending tree i h (Some member_kind.Property) = reached

  -- a member of an interface
  interface_body_follows : Follows deepest (rule InterfaceBody ∷ []) (λ body. body at before words) (parsers.interface_body at before words)
  unfolding parsers.interface_body
  interface_body_follows = record {
    leads = λ R pending tree i h. stepping R (rule InterfaceBody ∷ pending) (λ body. tree (body at before words)) i pending tree (parsers.interface_body at before words i) (interface_by_leads R pending tree i h (member_row (next_kind i.left)));
    plain = λ pending. refl;
  }

  -- each takes a token
  interface_by_shrinks : (r : Option MemberRow) → Shrinks deepest (parsers.interface_by at before words r)
  unfolding parsers.constant_member parsers.constant_valued parsers.value_closed_if_any
  interface_by_shrinks None = refuse_shrinks deepest
  interface_by_shrinks (Some member_kind.Constant) = turn_shrinks constant_turn refl
  interface_by_shrinks (Some member_kind.Method) = method_shrinks
  interface_by_shrinks (Some member_kind.Property) = refuse_shrinks deepest

  -- so does one of an interface
  interface_body_shrinks : Shrinks deepest (parsers.interface_body at before words)
  unfolding parsers.interface_body
  interface_body_shrinks pending h i v rest e = interface_by_shrinks (member_row (next_kind i.left)) pending h i v rest e

-- ---- classes with commas

-- classes with commas
class_types_follow : FollowsOne deepest (list1 (rule ClassType_)) parsers.class_types
unfolding parsers.class_types
class_types_follow = list1_follows deepest (rule ClassType_) (sees Name) parsers.class_type (λ ts. refl) refl a_class.follows

-- `implements` and classes, none where it does not stand
pub implements_follow : Follows deepest {A = List ClassType} (optional (rule Implements) ∷ []) or_empty (parsers.types_behind keyword.Implements)
unfolding parsers.types_behind
implements_follow =
    seen_follows deepest Implements (Keyword_ keyword.Implements) (one Decided ∷ list1 (rule ClassType_) ∷ []) (λ _ types. types) or_empty (token >> parsers.class_types) (λ ts. refl) (λ ts. refl)
    (λ R pending tree i h. (behind_token_follows deepest (list1 (rule ClassType_)) (λ v. v) parsers.class_types class_types_follow).leads R pending tree i h)

-- the same behind the `extends` of an interface
pub extends_all_follow : Follows deepest {A = List ClassType} (optional (rule ExtendsAll) ∷ []) or_empty (parsers.types_behind keyword.Extends)
unfolding parsers.types_behind
extends_all_follow =
    seen_follows deepest ExtendsAll (Keyword_ keyword.Extends) (one Decided ∷ list1 (rule ClassType_) ∷ []) (λ _ types. types) or_empty (token >> parsers.class_types) (λ ts. refl) (λ ts. refl)
    (λ R pending tree i h. (behind_token_follows deepest (list1 (rule ClassType_)) (λ v. v) parsers.class_types class_types_follow).leads R pending tree i h)

-- ---- members

-- the use of traits
abbrev use_turn : Turn deepest MemberTree
use_turn = record {
  pieces = a_token and the_symbol (list1 (rule ClassType_)) parsers.class_types class_types_follow and the (Mark_ mark.Semicolon) and done;
  makes = λ t traits _. member_tree.Use t.at traits;
}

-- what a body makes of what stands before it
abbrev placed : Place → Option (List AttributeTree) → List ModifierTree → (Place → List AttributeTree → List ModifierTree → MemberTree) → MemberTree
placed at attributes words body = body at (or_empty attributes) words

-- a member behind a place and attributes
abbrev words_before : Place → List AttributeTree → Parser MemberTree
words_before at before = parsers.modifiers >>= (λ words. parsers.member_body at before words)

-- a member behind a place
abbrev attributes_before : Place → Parser MemberTree
attributes_before at = parsers.attributes_if_any >>= words_before at

-- modifiers and what they stand before follow
words_before_follow : (at : Place) (before : List AttributeTree) → Follows deepest (many (rule Modifier) ∷ rule MemberBody ∷ []) (λ words body. body at before words) (words_before at before)
words_before_follow at before = first_follows deepest (many (rule Modifier)) (rule MemberBody ∷ []) (λ v. v) (λ words body. body at before words) parsers.modifiers (parsers.member_body at before) modifiers_follow (member_body_follows at before) (λ pending. refl)

-- attributes and what they stand before follow
attributes_before_follow : (at : Place) → Follows deepest (optional (rule Attributes) ∷ many (rule Modifier) ∷ rule MemberBody ∷ []) (placed at) (attributes_before at)
attributes_before_follow at = first_follows deepest (optional (rule Attributes)) (many (rule Modifier) ∷ rule MemberBody ∷ []) or_empty (λ before words body. body at before words) parsers.attributes_if_any (words_before at) attributes_follow (words_before_follow at) (λ pending. refl)

-- a member that begins with no `use`
plain_follows : Follows deepest (here ∷ optional (rule Attributes) ∷ many (rule Modifier) ∷ rule MemberBody ∷ []) member_of parsers.plain_member
unfolding parsers.plain_member
plain_follows = first_follows deepest here (optional (rule Attributes) ∷ many (rule Modifier) ∷ rule MemberBody ∷ []) (λ v. v) placed place attributes_before (place_follows deepest) attributes_before_follow (λ pending. refl)

-- a place takes nothing
place_keeps : Keeps deepest place
place_keeps = follows_keeps deepest (here ∷ []) (λ v. v) place (place_follows deepest)

-- attributes never lengthen what is left
attributes_keep : Keeps deepest parsers.attributes_if_any
attributes_keep = follows_keeps deepest (optional (rule Attributes) ∷ []) or_empty parsers.attributes_if_any attributes_follow

-- nor do modifiers
modifiers_keep : Keeps deepest parsers.modifiers
modifiers_keep = follows_keeps deepest (many (rule Modifier) ∷ []) (λ v. v) parsers.modifiers modifiers_follow

-- so a member takes a token
plain_shrinks : Shrinks deepest parsers.plain_member
unfolding parsers.plain_member
plain_shrinks =
    shrinks_later deepest place attributes_before place_keeps
    (λ at. shrinks_later deepest parsers.attributes_if_any (words_before at) attributes_keep
    (λ before. shrinks_later deepest parsers.modifiers (parsers.member_body at before) modifiers_keep (member_body_shrinks at before)))

-- a member
member_follows : FollowsOne deepest (rule Member) parsers.member
unfolding parsers.member parsers.use_member
member_follows = rule_follows deepest Member parsers.member (λ i. by_sight i (sees (Keyword_ keyword.Use) i.left))
  where
    by_sight : (i : Input) (c : Bool) →
        RowFollows deepest (rule Member) i (if c then reads (one Decided ∷ list1 (rule ClassType_) ∷ one (Mark_ mark.Semicolon) ∷ []) (λ t traits _. member_tree.Use t.at traits) else reads (here ∷ optional (rule Attributes) ∷ many (rule Modifier) ∷ rule MemberBody ∷ []) member_of) (if c then turn use_turn i else parsers.plain_member i)
    by_sight i true = row_by (turn use_turn) (turn_follows use_turn)
    by_sight i false = row_by parsers.plain_member plain_follows

-- each takes a token
member_shrinks : Shrinks deepest parsers.member
unfolding parsers.member parsers.use_member
member_shrinks pending h i v rest e = by_sight (sees (Keyword_ keyword.Use) i.left) e
  where
    by_sight : (c : Bool) → (if c then turn use_turn i else parsers.plain_member i) ≡ Ok (v, rest) →
        length rest.left < length i.left
    by_sight true e = turn_shrinks use_turn refl pending h i v rest e
    by_sight false e = plain_shrinks pending h i v rest e

-- members
member_list_follows : FollowsOne deepest (many (rule Member)) parsers.member_list
unfolding parsers.member_list
member_list_follows = many_follows deepest (rule Member) begins_member parsers.member (λ ts. refl) refl member_follows member_shrinks

-- members in braces, in pieces
abbrev members_turn : Turn deepest (List MemberTree)
members_turn = record {
  pieces = the (Mark_ mark.OpenBrace) and the_symbol (many (rule Member)) parsers.member_list member_list_follows and the (Mark_ mark.CloseBrace) and done;
  makes = λ _ found _. found;
}

-- members in braces
pub members_follow : Follows deepest {A = List MemberTree} (one (Mark_ mark.OpenBrace) ∷ many (rule Member) ∷ one (Mark_ mark.CloseBrace) ∷ []) (λ _ found _. found) parsers.members
unfolding parsers.members
members_follow = turn_follows members_turn

-- ---- members of an interface

-- a member of an interface, behind a place and attributes
abbrev words_before_interface : Place → List AttributeTree → Parser MemberTree
words_before_interface at before = parsers.modifiers >>= (λ words. parsers.interface_body at before words)

-- a member of an interface, behind a place
abbrev attributes_before_interface : Place → Parser MemberTree
attributes_before_interface at = parsers.attributes_if_any >>= words_before_interface at

-- modifiers and what they stand before follow
words_before_interface_follow : (at : Place) (before : List AttributeTree) → Follows deepest (many (rule Modifier) ∷ rule InterfaceBody ∷ []) (λ words body. body at before words) (words_before_interface at before)
words_before_interface_follow at before = first_follows deepest (many (rule Modifier)) (rule InterfaceBody ∷ []) (λ v. v) (λ words body. body at before words) parsers.modifiers (parsers.interface_body at before) modifiers_follow (interface_body_follows at before) (λ pending. refl)

-- attributes and what they stand before follow
attributes_before_interface_follow : (at : Place) → Follows deepest (optional (rule Attributes) ∷ many (rule Modifier) ∷ rule InterfaceBody ∷ []) (placed at) (attributes_before_interface at)
attributes_before_interface_follow at = first_follows deepest (optional (rule Attributes)) (many (rule Modifier) ∷ rule InterfaceBody ∷ []) or_empty (λ before words body. body at before words) parsers.attributes_if_any (words_before_interface at) attributes_follow (words_before_interface_follow at) (λ pending. refl)

-- a member of an interface
interface_member_follows : FollowsOne deepest (rule InterfaceMember) parsers.interface_member
unfolding parsers.interface_member
interface_member_follows = rule_follows deepest InterfaceMember parsers.interface_member (λ i. row_by parsers.interface_member
    (first_follows deepest here (optional (rule Attributes) ∷ many (rule Modifier) ∷ rule InterfaceBody ∷ []) (λ v. v) placed place attributes_before_interface (place_follows deepest) attributes_before_interface_follow (λ pending. refl)))

-- it takes a token
interface_member_shrinks : Shrinks deepest parsers.interface_member
unfolding parsers.interface_member
interface_member_shrinks =
    shrinks_later deepest place attributes_before_interface place_keeps
    (λ at. shrinks_later deepest parsers.attributes_if_any (words_before_interface at) attributes_keep
    (λ before. shrinks_later deepest parsers.modifiers (parsers.interface_body at before) modifiers_keep (interface_body_shrinks at before)))

-- members of an interface
interface_member_list_follows : FollowsOne deepest (many (rule InterfaceMember)) parsers.interface_member_list
unfolding parsers.interface_member_list
interface_member_list_follows = many_follows deepest (rule InterfaceMember) begins_interface_member parsers.interface_member (λ ts. refl) refl interface_member_follows interface_member_shrinks

-- members of an interface in braces, in pieces
abbrev interface_members_turn : Turn deepest (List MemberTree)
interface_members_turn = record {
  pieces = the (Mark_ mark.OpenBrace) and the_symbol (many (rule InterfaceMember)) parsers.interface_member_list interface_member_list_follows and the (Mark_ mark.CloseBrace) and done;
  makes = λ _ found _. found;
}

-- members of an interface in braces
pub interface_members_follow : Follows deepest {A = List MemberTree} (one (Mark_ mark.OpenBrace) ∷ many (rule InterfaceMember) ∷ one (Mark_ mark.CloseBrace) ∷ []) (λ _ found _. found) parsers.interface_members
unfolding parsers.interface_members
interface_members_follow = turn_follows interface_members_turn
