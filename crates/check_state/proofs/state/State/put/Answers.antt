use Rattle.std.proofs.Common.{◌≡◌, ◌≢◌, ◌≤◌, ◌^◌, sym, subst}
use Rattle.std.specs.Prelude.{Result, Ok, Err, IfErr, IsErrAnd}
use Rattle.std.specs.FinMap.{insert, remove}
use Rattle.check_state.specs.declared.edit.EditStop.{EditStop}
use Rattle.check_state.specs.declared.edit.EditStop.TheVariants.{NoMemory}
use Rattle.hack_base.specs.Files.{count, text}
use Rattle.check_state.specs.Stands.{Stands, IsRead}
use Rattle.check_state.proofs.Standing.{stands_more, is_named, count_then, not_above}
use Rattle.check_state.proofs.Sums.{insert-removed, get-gone}
use Rattle.check_state.proofs.state.State.put.Goals as goal

pub returns-clause-edited : goal.returns-clause-edited
returns-clause-edited c =
    let own = c.args.self.now in
    let name = c.args.name in
    let bytes = c.args.bytes.now in
    let named = is_named name c.requires.limits.0 in
    λ files stands.
    let accepted = c.in_ok-limit.ensures.accepted files stands in
    let more = stands_more own c.read.new.names files c.read.ensures.kept stands in
    let without = c.take.ensures.taken files more named in
    let same = insert-removed files name bytes in
    subst (Stands c.add.new.self) same
    (c.in_ok-add.ensures.added (remove files name) bytes without named (get-gone files name) (subst (λ names. IsRead names bytes c.in_ok-file.file) (sym c.take.ensures.names) c.in_ok-file.ensures.file)
    (subst (λ fs. count fs ≤ 65536) (sym same) (count_then files name bytes named stands.few (λ none many. accepted.not_many (none, many))))
    (subst (λ fs. text fs ≤ 2 ^ 26) (sym same) (not_above (text (insert files name bytes)) (2 ^ 26) accepted.not_much)))

-- after want of memory nothing is said
of_no_memory : {A : Type 0} (Q : Type 0) (r : Result A EditStop) → IsErrAnd r (λ stop. stop ≡ NoMemory) → IfErr r (λ stop. stop ≢ NoMemory → Q)
of_no_memory Q (Ok x) h = tt
of_no_memory Q (Err stop) h = λ other. absurd (other h)

pub returns-in_err-file-clause-kept : goal.returns-in_err-file-clause-kept
returns-in_err-file-clause-kept c = of_no_memory _ c.from_residual-in_err-file.result c.from_residual-in_err-file.ensures.1

pub returns-in_err-add-clause-kept : goal.returns-in_err-add-clause-kept
returns-in_err-add-clause-kept c = of_no_memory _ c.from_residual-in_err-add.result c.from_residual-in_err-add.ensures.1
