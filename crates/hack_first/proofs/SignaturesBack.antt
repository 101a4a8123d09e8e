-- The tokens from which what stands around the body of a first unit was read.
use Rattle.std.proofs.Common.{◌≡◌, ℕ, Bool, true, false, cond, List, [], ◌∷◌, length, Option, Some, None, Ok, refl, sym, ap, ◌∙◌}
use Rattle.hack_lexer.specs.declared.kind.Mark.TheVariants as mark
use Rattle.hack_tree.specs.declared.written_type.WrittenType.{WrittenType, out-WrittenType}
use Rattle.hack_tree.specs.declared.declaration.Attribute.{Attribute}
use Rattle.hack_tree.specs.declared.declaration.DeclaredName.{DeclaredName}
use Rattle.hack_tree.specs.declared.declaration.TypeParameter.{TypeParameter}
use Rattle.hack_tree.specs.declared.declaration.Parameter.{Parameter}
use Rattle.hack_tree.specs.declared.declaration.Callable.{Callable}
use Rattle.hack_parse_expr.specs.declared.lexeme.Lexeme.{Lexeme}
use Rattle.hack_parse_expr.specs.Input.{Input}
use Rattle.hack_parse_expr.specs.Symbols.{Mark_, Name}
use Rattle.hack_parse_expr.specs.Rows.{sees, begins_attributes, begins_type_parameter, begins_parameter}
use Rattle.hack_parse_expr.specs.Parsers.{Outcome, and_then, token, expect, eat, list_from}
use Rattle.hack_parse_decl.specs.Declarations.{type_read, attribute, attribute_list, attributes, attributes_if_any, type_parameter, type_parameter_list, type_parameters, type_parameters_if_any, parameter, parameter_list, parameters, result_if_any, signature}
use Rattle.hack_first.specs.declared.unit.Primitive.{Primitive}
use Rattle.hack_first.specs.FirstUnits.{mark as mark_form, keyword as keyword_form, type_keyword}
use Rattle.hack_first.specs.FirstTrees.{primitive_in, result_of}
use Rattle.hack_first.proofs.Gives.{steps, same_value, same_rest, Always, always_then, always_with, always_is, token_takes, IsMore, either_more, list_more}
use Rattle.hack_first.proofs.RowsBack.{form, form_of_mark}
use Rattle.hack_first.proofs.BracketsBack.{TookBrackets, no_items}
use Rattle.hack_first.proofs.StatementsBack.{type_back}

-- where something is read only if it begins, and then isn't empty
none_begins : {A : Type 0} (o : Outcome (List A)) (i rest : Input) (b : Bool) → Always IsMore o → cond b o (Ok ([], i)) ≡ Ok ([], rest) → rest ≡ i
none_begins o i rest true h e = absurd (always_is IsMore o [] rest h e)
none_begins o i rest false h e = sym (same_rest [] [] i rest e)

-- attributes are at least one
attributes_more : (i : Input) → Always IsMore (attributes i)
unfolding attributes attribute_list
attributes_more i =
    let P = IsMore {A = Attribute} in
    always_then P (token i) _ (λ t j. always_with P P (attribute_list j) _ (always_then P (attribute j) _ (λ x k. always_then P (eat (Mark_ mark.Comma) k) _ (λ more m.
    either_more [] x (λ n. list_from (sees Name) attribute (length n.left) (x ∷ []) n) m more (list_more (sees Name) attribute (length m.left) (x ∷ []) m tt)))) (λ found so k.
    always_then P (expect (Mark_ mark.Greater) k) _ (λ y m. always_then P (expect (Mark_ mark.Greater) m) _ (λ z n. so))))

-- no attributes were read from nothing
pub no_attributes : (i rest : Input) → attributes_if_any i ≡ Ok ([], rest) → rest ≡ i
unfolding attributes_if_any
no_attributes i rest h = none_begins (attributes i) i rest (begins_attributes i.left) (attributes_more i) h

-- type parameters are at least one
type_parameters_more : (i : Input) → Always IsMore (type_parameters i)
unfolding type_parameters type_parameter_list
type_parameters_more i =
    let P = IsMore {A = TypeParameter} in
    always_then P (token i) _ (λ t j. always_with P P (type_parameter_list j) _ (always_then P (type_parameter j) _ (λ x k. always_then P (eat (Mark_ mark.Comma) k) _ (λ more m.
    either_more [] x (λ n. list_from begins_type_parameter type_parameter (length n.left) (x ∷ []) n) m more (list_more begins_type_parameter type_parameter (length m.left) (x ∷ []) m tt)))) (λ found so k.
    always_then P (expect (Mark_ mark.Greater) k) _ (λ y m. so)))

-- no type parameters were read from nothing
no_type_parameters : (i rest : Input) → type_parameters_if_any i ≡ Ok ([], rest) → rest ≡ i
unfolding type_parameters_if_any
no_type_parameters i rest h = none_begins (type_parameters i) i rest (sees (Mark_ mark.Less) i.left) (type_parameters_more i) h

-- a list of no parameters has brackets with nothing in them
no_parameters : (names : List (List ℕ)) (i rest : Input) → parameters i ≡ Ok ([], rest) → TookBrackets names i rest
unfolding parameters parameter_list
no_parameters names i rest h = no_items names begins_parameter parameter i rest h

-- `: TYPE`
record ResultBack (names : List (List ℕ)) (i rest : Input) (p : Primitive) : Type 0 where
  colon : Lexeme
  type : Lexeme
  parts : i.left ≡ colon ∷ type ∷ rest.left
  start : rest.start ≡ i.start
  is_colon : form names colon ≡ mark_form mark.Colon
  is_type : form names type ≡ keyword_form (type_keyword p)

-- a result type was read behind a colon
result_by : (names : List (List ℕ)) (i rest : Input) (w : WrittenType) (p : Primitive) (b : Bool) → primitive_in (out-WrittenType w) ≡ Some p → sees (Mark_ mark.Colon) i.left ≡ b →
    cond b (and_then (and_then (token i) (λ t. type_read)) (λ x j. Ok (Some x, j))) (Ok (None, i)) ≡ Ok (Some w, rest) → ResultBack names i rest p
result_by names i rest w p true some sees_so h =
    let s = steps (and_then (token i) (λ t. type_read)) _ (Some w) rest h in
    let s1 = steps (token i) _ s.value s.mid s.first in
    let is : ◌≡◌ {A = Option WrittenType} (Some s.value) (Some w) = same_value (Some s.value) (Some w) s.mid rest s.others in
    let value : s.value ≡ w = cc in
    let end : s.mid ≡ rest = same_rest (Some s.value) (Some w) s.mid rest s.others in
    let k = token_takes i s1.value s1.mid s1.first in
    let b = type_back names 127 s1.mid rest w p some (s1.others ∙ (λ n. Ok (value n, end n))) in
    record {
      colon = k.l;
      type = b.l;
      parts = k.took.parts ∙ ap (λ ls. k.l ∷ ls) b.took.parts;
      start = b.took.start ∙ k.took.start;
      is_colon = form_of_mark names mark.Colon k.l (ap (sees (Mark_ mark.Colon)) (sym k.took.parts) ∙ sees_so);
      is_type = b.is;
    }
result_by names i rest w p false some sees_so h = absurd (let wrong : ◌≡◌ {A = Option WrittenType} None (Some w) = same_value None (Some w) i rest h in cc)

-- ---- the signature

-- what a result type says of a signature
record ResultParts (types : List TypeParameter) (found : List Parameter) (result : Option WrittenType) (p : Primitive) : Type 0 where
  no_types : types ≡ []
  none_found : found ≡ []
  w : WrittenType
  is : result ≡ Some w
  some : primitive_in (out-WrittenType w) ≡ Some p

-- a function with a result type of a first unit has no parameters of either sort
result_parts : (types : List TypeParameter) (found : List Parameter) (result : Option WrittenType) (p : Primitive) → result_of types found result ≡ Some p → ResultParts types found result p
result_parts [] [] (Some w) p e = record { no_types = refl; none_found = refl; w = w; is = refl; some = e }
result_parts types found result p e = absurd cc

-- `( ) : TYPE`
pub record SignatureBack (names : List (List ℕ)) (i rest : Input) (p : Primitive) : Type 0 where
  pub l2 : Lexeme
  pub l3 : Lexeme
  pub l4 : Lexeme
  pub l5 : Lexeme
  pub parts : i.left ≡ l2 ∷ l3 ∷ l4 ∷ l5 ∷ rest.left
  pub start : rest.start ≡ i.start
  pub is2 : form names l2 ≡ mark_form mark.OpenParen
  pub is3 : form names l3 ≡ mark_form mark.CloseParen
  pub is4 : form names l4 ≡ mark_form mark.Colon
  pub is5 : form names l5 ≡ keyword_form (type_keyword p)

-- the tokens from which the parts of a signature were read
signature_of : (names : List (List ℕ)) (i j k rest : Input) (types : List TypeParameter) (found : List Parameter) (result : Option WrittenType) (p : Primitive) → ResultParts types found result p →
    type_parameters_if_any i ≡ Ok (types, j) → parameters j ≡ Ok (found, k) → result_if_any k ≡ Ok (result, rest) → SignatureBack names i rest p
unfolding result_if_any
signature_of names i j k rest types found result p r h1 h2 h3 =
    let here : j ≡ i = no_type_parameters i j (h1 ∙ (λ n. Ok (r.no_types n, j))) in
    let a = no_parameters names j k (h2 ∙ (λ n. Ok (r.none_found n, k))) in
    let b = result_by names k rest r.w p (sees (Mark_ mark.Colon) k.left) r.some refl (h3 ∙ (λ n. Ok (r.is n, rest))) in
    record {
      l2 = a.opens;
      l3 = a.closes;
      l4 = b.colon;
      l5 = b.type;
      parts = ap (λ (m : Input). m.left) (sym here) ∙ a.parts ∙ ap (λ ls. a.opens ∷ a.closes ∷ ls) b.parts;
      start = b.start ∙ a.start ∙ ap (λ (m : Input). m.start) here;
      is2 = a.is_open;
      is3 = a.is_close;
      is4 = b.is_colon;
      is5 = b.is_type;
    }

-- the name that a signature was given, and the tokens that it was read from
pub record Signed (names : List (List ℕ)) (name : DeclaredName) (callable : Callable) (i rest : Input) (p : Primitive) : Type 0 where
  pub name_is : callable.name ≡ name
  pub back : SignatureBack names i rest p

-- the tokens from which a signature of a first unit was read
pub signature_back : (names : List (List ℕ)) (name : DeclaredName) (i rest : Input) (callable : Callable) (p : Primitive) → result_of callable.type_parameters callable.parameters callable.result ≡ Some p →
    signature name i ≡ Ok (callable, rest) → Signed names name callable i rest p
unfolding signature
signature_back names name i rest callable p some h =
    let s1 = steps (type_parameters_if_any i) _ callable rest h in
    let s2 = steps (parameters s1.mid) _ callable rest s1.others in
    let s3 = steps (result_if_any s2.mid) _ callable rest s2.others in
    let made : Callable = record { name = name; type_parameters = s1.value; parameters = s2.value; result = s3.value } in
    let is : made ≡ callable = same_value made callable s3.mid rest s3.others in
    let end : s3.mid ≡ rest = same_rest made callable s3.mid rest s3.others in
    let told : result_of s1.value s2.value s3.value ≡ Some p = ap (λ (c : Callable). result_of c.type_parameters c.parameters c.result) is ∙ some in
    let r = result_parts s1.value s2.value s3.value p told in
    record {
      name_is = ap (λ (c : Callable). c.name) (sym is);
      back = signature_of names i s1.mid s2.mid rest s1.value s2.value s3.value p r s1.first s2.first (s3.first ∙ (λ n. Ok (s3.value, end n)));
    }
