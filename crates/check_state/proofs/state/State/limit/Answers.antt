use Rattle.std.proofs.Common.{◌≡◌, ◌≤◌, None, ap, sym, ◌∙◌, arith}
use Rattle.std.specs.FinMap as finite
use Rattle.hack_base.specs.Files.{Files, count}
use Rattle.check_state.specs.declared.file.File.{File}
use Rattle.check_state.specs.Stands.{Stands}
use Rattle.check_state.proofs.Standing.{text_then, bytes_found, is_named, not_kept}
use Rattle.check_state.proofs.Sums.{of_found}
use Rattle.check_state.proofs.state.State.limit.Goals as goal
use Rattle.check_state.proofs.state.State.limit.Goals.{in-Some, in-None+else-have-ge-MOST_FILES}

pub returns-then-saturating_add-gt-MOST_TEXT-clause-refused : goal.returns-then-saturating_add-gt-MOST_TEXT-clause-refused
returns-then-saturating_add-gt-MOST_TEXT-clause-refused c =
    let own = c.args.self.now in
    let name = c.args.name.now in
    let before : c.match-get.before ≡ bytes_found own name = elim c.match-get.branch [
      | in-Some w ↦ w.before-is ∙ ap (of_found (λ (file : File). file.len)) w.in-Some.ensures.value
      | in-None+else-have-ge-MOST_FILES w ↦ w.before-is ∙ ap (of_found (λ (file : File). file.len)) w.in-None.ensures.value
    ] in
    let few : (files : Files) → Stands own files → finite.get files name ≡ None → 65536 ≤ count files → ⊥ = λ files stands none many. elim c.match-get.branch [
      | in-Some w ↦ (let clash = sym (not_kept own files name stands none) ∙ sym w.in-Some.ensures.value in absurd cc)
      | in-None+else-have-ge-MOST_FILES w ↦ omega (arith, many, w.if-have-ge-MOST_FILES.false, w.saturating_sub-have.ensures, w.len.ensures.len, stands.counted)
    ] in
    λ files stands. (
      λ many. few files stands many.0 many.1,
      omega (arith, text_then own files name c.args.bytes.now stands (is_named name c.requires.0), before, c.saturating_sub-others.ensures, c.saturating_add.ensures, c.if-saturating_add-gt-MOST_TEXT.true),
      stands.written,
    )

pub returns-clause-accepted : goal.returns-clause-accepted
returns-clause-accepted c =
    let own = c.args.self.now in
    let name = c.args.name.now in
    let before : c.match-get.before ≡ bytes_found own name = elim c.match-get.branch [
      | in-Some w ↦ w.before-is ∙ ap (of_found (λ (file : File). file.len)) w.in-Some.ensures.value
      | in-None+else-have-ge-MOST_FILES w ↦ w.before-is ∙ ap (of_found (λ (file : File). file.len)) w.in-None.ensures.value
    ] in
    let few : (files : Files) → Stands own files → finite.get files name ≡ None → 65536 ≤ count files → ⊥ = λ files stands none many. elim c.match-get.branch [
      | in-Some w ↦ (let clash = sym (not_kept own files name stands none) ∙ sym w.in-Some.ensures.value in absurd cc)
      | in-None+else-have-ge-MOST_FILES w ↦ omega (arith, many, w.if-have-ge-MOST_FILES.false, w.saturating_sub-have.ensures, w.len.ensures.len, stands.counted)
    ] in
    λ files stands. record {
      there = λ missing. missing;
      not_many = λ many. few files stands many.0 many.1;
      not_much = λ much.
          omega (arith, much, text_then own files name c.args.bytes.now stands (is_named name c.requires.0), before, c.saturating_sub-others.ensures, c.saturating_add.ensures, c.if-saturating_add-gt-MOST_TEXT.false);
    }
