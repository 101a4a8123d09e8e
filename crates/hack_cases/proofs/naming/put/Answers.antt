use Rattle.std.proofs.Common.{◌≡◌, ℕ, List, None, cond, ap, ◌∙◌}
use Rattle.std.specs.FinMap.{get, remove, get-remove}
use Rattle.std.specs.Ordering.{is_eq}
use Rattle.std.proofs.lemmas.Cmp.{nat_list_cmp_total, tied_itself}
use Rattle.hack_names.specs.Declarations.{Table}
use Rattle.hack_cases.proofs.naming.put.Goals as goal

-- a file that is taken out isn't there
gone : (table : Table) (file : List ℕ) → get (remove table file) file ≡ None
gone table file =
    get-remove nat_list_cmp_total table file file ∙ ap (λ r. cond (is_eq r) None (get table file)) (tied_itself nat_list_cmp_total file)

pub add_file-requires : goal.add_file-requires
add_file-requires c =
    ap (λ (table : Table). get table c.args.file.now) c.remove_file.ensures ∙ gone c.args.table.now c.args.file.now
