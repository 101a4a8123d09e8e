use Rattle.std.proofs.Common.{ℕ, length, get_or, refl, sym, ap, subst, arith}
use Rattle.std.proofs.lemmas.List.{length-take, length-drop}
use Rattle.hack_lexer.specs.declared.token.Token.{Token}
use Rattle.hack_lexer.proofs.InOrder.{next, place_next, start_ahead}
use Rattle.hack_parse_file.specs.Lexemes.{Extends, option_bytes}
use Rattle.hack_parse_file.proofs.Room.{room_for_next}
use Rattle.hack_parse_file.proofs.Lexed.{none_yet, few_so_far, one_spelled, next_lexeme, one_more, extends_more, extends_spelled}
use Rattle.hack_parse_file.proofs.lexemes.lexemes.Goals as goal

pub loop-token-init : goal.loop-token-init
loop-token-init c = record {
  so_far = none_yet c.args.names.now c.args.bytes.now c.args.tokens.now _ c.new-lexemes.ensures.items;
  within = omega arith;
  place = refl;
  line = omega arith;
  column = omega arith;
  ahead = start_ahead c.args.bytes.now c.args.tokens.now c.requires.cut;
}

pub named-requires : goal.named-requires
named-requires c =
    let k = c.kind.ensures in
    let sort = rw c.unwrap-kind.ensures at k in
    record {
      room = room_for_next c.args.names.now c.loop-token.names c.args.bytes.now c.args.tokens.now c.loop-token.token-index _ _ (option_bytes c.spelled.result) c.requires.room c.requires.cut c.requires.kinds
          c.loop-token-test.true c.loop-token.invariant.so_far (sym sort) c.spelled.ensures;
    }

pub returns-in_err-name-clause-few : goal.returns-in_err-name-clause-few
returns-in_err-name-clause-few c =
    omega (arith, ap length c.in_err-name.ensures.err, few_so_far c.args.names.now c.loop-token.names c.args.bytes.now c.args.tokens.now c.loop-token.token-index _ c.requires.cut c.loop-token.invariant.so_far)

pub returns-in_err-push-clause-few : goal.returns-in_err-push-clause-few
returns-in_err-push-clause-few c =
    omega (
      arith,
      ap length c.in_ok-name.ensures.names,
      one_spelled c.loop-token.names (option_bytes c.spelled.result),
      few_so_far c.args.names.now c.loop-token.names c.args.bytes.now c.args.tokens.now c.loop-token.token-index _ c.requires.cut c.loop-token.invariant.so_far,
    )

pub returns-clause-few : goal.returns-clause-few
returns-clause-few c =
    omega (arith, few_so_far c.args.names.now c.loop-token.names c.args.bytes.now c.args.tokens.now c.loop-token.token-index _ c.requires.cut c.loop-token.invariant.so_far)

pub returns-in_err-push-clause-kept : goal.returns-in_err-push-clause-kept
returns-in_err-push-clause-kept c =
    extends_more c.args.names.now c.loop-token.names c.named.new.names c.loop-token.invariant.so_far.kept
    (subst (Extends c.loop-token.names) (sym c.in_ok-name.ensures.names) (extends_spelled c.loop-token.names _))

pub loop-token-preserved : goal.loop-token-preserved
loop-token-preserved c =
    let d : Token = record { sort = 0; at = 0; len = 0 } in
    let t : Token = get_or c.args.tokens.now c.loop-token.token-index d in
    let n = next c.args.bytes.now c.args.tokens.now c.loop-token.passed c.loop-token.token-index d c.loop-token-test.true c.loop-token.invariant.ahead in
    let k = c.kind.ensures in
    let sort = rw c.unwrap-kind.ensures at k in
    let place = place_next c.args.bytes.now c.loop-token.passed _ c.loop-token.at c.behind-at.result n.after c.loop-token.invariant.place c.behind-at.ensures.place in
    record {
      so_far = rw c.in_ok-push.ensures.items
          (one_more c.args.names.now c.loop-token.names c.named.new.names c.args.bytes.now c.args.tokens.now c.loop-token.token-index d c.loop-token.lexemes.items _ c.loop-token-test.true c.loop-token.invariant.so_far
          (next_lexeme c.loop-token.names c.named.new.names c.args.bytes.now t _ _ (sym sort) place refl refl c.spelled.ensures c.in_ok-name.ensures.id c.in_ok-name.ensures.names));
      within = omega (arith, n.inside);
      place = place;
      line = omega (arith, n.after, c.behind-at.ensures.line, length-take {A = ℕ}, length-drop {A = ℕ});
      column = omega (arith, n.after, c.behind-at.ensures.column, length-take {A = ℕ}, length-drop {A = ℕ});
      ahead = n.ahead;
    }
