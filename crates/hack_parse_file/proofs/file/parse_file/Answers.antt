use Rattle.std.proofs.Common.{◌≡◌, sym, subst, arith}
use Rattle.std.proofs.lemmas.Result.{err_from_is_err_and}
use Rattle.hack_lexer.specs.Tokens.{AreTokens}
use Rattle.hack_parse_expr.specs.Parsers.{at_front}
use Rattle.hack_parse_file.specs.Files.{end_of, IsFileStop}
use Rattle.hack_parse_file.proofs.FilesFollow.{IsLexed, cursor_is, read_there, tree_is, left_over, stop_is}
use Rattle.hack_parse_file.proofs.file.parse_file.Goals.{In_ok-lexemes, After-new-cursor}
use Rattle.hack_parse_file.proofs.file.parse_file.Goals as goal

-- the tokens, with their names
lexed : (c : In_ok-lexemes) → IsLexed c.args.names.now c.lexemes.new.names c.args.bytes.now c.deref.result.now c.in_ok-lexemes.lexemes.items
lexed c = record {
  cut = subst (AreTokens c.args.bytes.now) (sym c.deref.ensures.value) c.in-Ok.ensures.tokens;
  lexed = c.in_ok-lexemes.ensures.lexemes;
  named = c.in_ok-lexemes.ensures.names;
}

-- the cursor before the first of them
at_first : (c : After-new-cursor) → c.new-cursor.result ≡ at_front c.in_ok-lexemes.lexemes.items (end_of c.args.bytes.now)
at_first c = cursor_is c.args.bytes.now _ c.deref-2.result.now c.behind.result c.new-cursor.result c.new-cursor.ensures c.deref-2.ensures.value c.behind.ensures.place

pub returns-in_err-units-clause-fault : goal.returns-in_err-units-clause-fault
returns-in_err-units-clause-fault c =
    let at = goal.at.returns-in_err-units-clause-fault c in
    let p = err_from_is_err_and c.from_residual-in_err-units.result c.from_residual-in_err-units.ensures.1 in
    rw p.1 (subst (IsFileStop c.args.names.now c.lexemes.new.names c.args.bytes.now) (sym p.2)
    (stop_is _ _ c.args.bytes.now _ _ c.in_err-units.field-0.0 (lexed at.In_ok-lexemes) (λ other. read_there _ _ _ _ (at_first at.After-new-cursor) (c.in_err-units.ensures other))))

pub returns-then-left-gt0-clause-fault : goal.returns-then-left-gt0-clause-fault
returns-then-left-gt0-clause-fault c =
    let at = goal.at.returns-then-left-gt0-clause-fault c in
    left_over _ _ c.args.bytes.now _ _ c.in_ok-units.units c.units.new.cursor c.refuse.result (lexed at.In_ok-lexemes)
    (read_there _ _ _ _ (at_first at.After-new-cursor) c.in_ok-units.ensures) (omega (arith, c.left.ensures, c.if-left-gt0.true)) c.refuse.ensures

pub returns-clause-tree : goal.returns-clause-tree
returns-clause-tree c =
    let at = goal.at.returns-clause-tree c in
    tree_is _ _ c.args.bytes.now _ _ _ c.units.new.cursor (lexed at.In_ok-lexemes)
    (read_there _ _ _ _ (at_first at.After-new-cursor) c.in_ok-units.ensures) (omega (arith, c.left.ensures, c.if-left-gt0.false))
