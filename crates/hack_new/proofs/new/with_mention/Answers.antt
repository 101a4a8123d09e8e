use Rattle.std.proofs.Common.{Ok, All, IsTrue, ℕ, length, ap, sym}
use Rattle.hack_decls.specs.Names.{TypeIn, class_symbol}
use Rattle.hack_walk.specs.Checks.{setting_of}
use Rattle.hack_walk.specs.WalkLaws.{of_step, walks_next, walks_then}
use Rattle.hack_written.specs.Within.{arguments_of}
use Rattle.hack_calls.specs.Named.{GivenIn}
use Rattle.hack_new.specs.inside.Rows.{DeclaredIn, behind_mention, behind_types, expect_number, new_by}
use Rattle.hack_new.proofs.Naming.{same_count}
use Rattle.hack_new.proofs.Stepping.{steps_as}
use Rattle.hack_new.proofs.new.with_mention.Goals as goal

pub new_by-requires : goal.new_by-requires
new_by-requires g c = same_count c.args.types.now c.in_ok-own.ensures

pub returns : goal.returns
unfolding behind_mention behind_types
returns g c =
    let at = c.args.at in let name_at = c.args.name_at in let name = c.args.name in let types = c.args.types.now in
    let given = c.args.given.now in let declared = c.args.declared.now in let own = c.in_ok-own.own in
    walks_then (behind_types at name_at name types given declared) c.new_by.result c.in_ok-own.ensures
    (walks_next {NamesC = λ symbols. IsTrue (symbols (class_symbol name)) × All (TypeIn symbols) own × GivenIn symbols given × DeclaredIn symbols declared}
    (new_by at name_at name (arguments_of types own) given declared) c.new_by.result
    (of_step _ (steps_as (expect_number name_at name (length own) declared) (Ok tt) c.in_ok-expect_number.ensures
    (λ map. ap (λ (n : ℕ). expect_number name_at name n declared (setting_of c.args.setting.now) map c.written_types.new.state) (sym c.len.ensures))))
    c.new_by.ensures (λ symbols n. tt) (λ symbols n g. n) (λ symbols b n g h. h))
    (λ symbols n. n.1) (λ symbols n g. (n.0, g, n.2, n.3)) (λ symbols b n g h. h)
