use Rattle.std.proofs.Common.{◌≡◌, [], cond, Some, length, ap, subst, ◌∙◌, arith}
use Rattle.std.specs.FinMap as finite
use Rattle.std.specs.FinMap.{get-empty}
use Rattle.std.specs.BTreeMap as tree
use Rattle.hack_base.specs.Files.{byte_order}
use Rattle.hack_parse_file.proofs.Room.{room_by_length}
use Rattle.check_state.specs.Stands.{IsRead}
use Rattle.check_state.proofs.Standing.{stands_first, builtin_length, fixed_length}
use Rattle.check_state.proofs.state.State.new.Goals as goal

pub read-requires-clause-short : goal.read-requires-clause-short
read-requires-clause-short c = omega (arith, ap length (c.as_bytes.ensures.value ∙ c.builtin_text.ensures), builtin_length)

pub read-requires-clause-room : goal.read-requires-clause-room
read-requires-clause-room c =
    room_by_length _ _ (omega (arith, ap length (c.as_bytes.ensures.value ∙ c.builtin_text.ensures), builtin_length, ap length c.new-names.ensures, fixed_length))

pub enter-requires : goal.enter-requires
enter-requires c = ap (λ t. finite.get t []) c.new-table.ensures ∙ get-empty byte_order []

pub returns-clause-stands : goal.returns-clause-stands
returns-clause-stands c =
    let file = c.in_ok-file.file in
    let key : c.from_vec.result ≡ [] = c.from_vec.ensures ∙ c.new.ensures.items in
    stands_first c.read.new.names file c.new-files.result c.insert.new.self c.enter.new.table c.new-table.result
    (subst (λ body. IsRead c.read.new.names body file) (c.as_bytes.ensures.value ∙ c.builtin_text.ensures) c.in_ok-file.ensures.file) c.new-files.ensures.empty c.new-table.ensures c.in_ok-enter.ensures
    (λ q. c.in_ok-insert.ensures.updates.0 q ∙ ap (λ name. cond (tree.is_at (byte_order name) q) (Some file) (tree.get byte_order c.new-files.result q)) key)
    (c.in_ok-insert.ensures.entries ∙ ap (λ name. tree.insert_entry byte_order c.new-files.result.entries name file) key) c.insert.ensures.ordered

pub returns-clause-names : goal.returns-clause-names
returns-clause-names c =
    omega (arith, c.read.ensures.few, ap length (c.as_bytes.ensures.value ∙ c.builtin_text.ensures), builtin_length, ap length c.new-names.ensures, fixed_length)
