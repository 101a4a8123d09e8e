use Rattle.std.proofs.Common.{◌∙◌, Ok, Option, ℕ, ap, arith, sym}
use Rattle.std.proofs.lemmas.Bool.{le-leb, lt-leb}
use Rattle.hack_decls.specs.DeclState.{Symbols}
use Rattle.hack_parts.specs.ExprIn.{ExprIn}
use Rattle.hack_rules.specs.Ends.{Ends}
use Rattle.hack_rules.specs.Expressions.{meaning_of}
use Rattle.hack_rules.specs.Loops.{foreach_ends, foreach_loop, foreach_turn, three_passes}
use Rattle.hack_rules.specs.Statements.{doing_of, key_name}
use Rattle.hack_rules.specs.Walks.{Walk}
use Rattle.hack_types.specs.declared.hack_type.HackType.{HackType}
use Rattle.hack_walk.specs.Checks.{setting_of}
use Rattle.hack_walk.specs.WalkLaws.{of_step, walks_as, walks_then, weaker}
use Rattle.hack_flow.specs.Settled.{inside_of, settled}
use Rattle.hack_flow.specs.StmtIn.{StmtIn}
use Rattle.hack_flow.proofs.Foreaching.{foreach_pieces}
use Rattle.hack_flow.proofs.Passing.{is_deep, is_shallow}
use Rattle.hack_flow.proofs.loops.foreach_loop.Goals as goal

pub returns-then-inside-ge-MOST_LOOPS : goal.returns-then-inside-ge-MOST_LOOPS
unfolding foreach_ends
returns-then-inside-ge-MOST_LOOPS g c =
    let loop = foreach_loop (meaning_of c.args.subject.now) (key_name c.args.key.now) c.args.value (doing_of c.args.body.now) (inside_of c.args.inside) in
    walks_as _ (Ok _)
    (weaker (Ok _) (of_step _ c.in_ok-too_deep.ensures) (λ symbols n. tt) (λ symbols a n h. h))
    (λ map. ap (λ (w : Walk Ends). settled w (setting_of c.args.setting.now) map c.args.state.now) (is_deep c.args.at c.args.inside.loops c.args.inside.breakable loop (le-leb 8 c.args.inside.loops (omega arith))))

pub returns : goal.returns
unfolding foreach_ends
returns g c =
    let subject = meaning_of c.args.subject.now in let key = key_name c.args.key.now in let value = c.args.value in
    let body = doing_of c.args.body.now in let inside = inside_of c.args.inside in let setting = setting_of c.args.setting.now in let scope = c.args.setting.now.scope.now in
    let loop = foreach_loop subject key value body inside in let result = c.three_passes-exits.result in
    let named = c.key_name.result in
    let passes = λ (types : HackType × HackType). settled (three_passes (foreach_turn types named value body inside)) in
    let all : Symbols → Type 0 = λ symbols. ExprIn scope symbols c.args.subject.now × StmtIn scope symbols c.args.body.now in
    walks_as _ result
    (walks_then {NamesC = all} passes result c.in_ok-key_type.ensures c.three_passes-exits.ensures
    (λ symbols n. n.0) (λ symbols n types. (types, n.1)) (λ symbols b n t h. h))
    (λ map. ap (λ (w : Walk Ends). settled w setting map c.args.state.now) (is_shallow c.args.at c.args.inside.loops c.args.inside.breakable loop (lt-leb 8 c.args.inside.loops (omega arith)))
    ∙ ap (λ (k : Option ℕ). settled (foreach_loop subject k value body inside) setting map c.args.state.now) (sym c.key_name.ensures)
    ∙ foreach_pieces subject named value body inside setting map c.args.state.now)
