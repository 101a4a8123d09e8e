use Rattle.std.proofs.Common.{All, Ok, ap, subst, sym}
use Rattle.hack_decls.specs.NameLaws.{types_of_member_answer}
use Rattle.hack_decls.specs.Names.{TypeIn, types_of_kind}
use Rattle.hack_decls.specs.declared.answers.MemberAnswer.{MemberAnswer}
use Rattle.hack_walk.specs.WalkLaws.{of_step, walks_as, weaker}
use Rattle.hack_written.specs.NamesFilled.{FillingIn}
use Rattle.hack_members.specs.inside.Rows.{around_of, by_answer, of_member}
use Rattle.hack_members.specs.Wanting.{SoughtIn}
use Rattle.hack_walk.specs.Checks.{setting_of}
use Rattle.hack_members.proofs.found.by_answer.Goals as goal

pub returns-in-At : goal.returns-in-At
returns-in-At g c =
    let at = c.args.at in let wanted = c.args.wanted.now in let receiver = c.args.receiver.now in let head = c.args.head.now in let member = c.in-At.member in
    walks_as {walk = of_member at wanted (around_of receiver head) member} (by_answer at wanted receiver head c.args.name c.args.answer.now) c.of_member.result
    (weaker {Names = λ symbols. All (TypeIn symbols) (types_of_kind member.kind) × FillingIn symbols (around_of receiver head) × SoughtIn symbols wanted} c.of_member.result
    (rw (sym c.arguments_of.ensures) c.of_member.ensures)
    (λ symbols n. (subst (λ (a : MemberAnswer). All (TypeIn symbols) (types_of_member_answer a)) c.in-At.is n.1, record { class = n.0.arguments; function = tt; this = n.0.before }, n.0.given))
    (λ symbols b n t. t))
    (λ m. ap (λ (a : MemberAnswer). by_answer at wanted receiver head c.args.name a (setting_of c.args.setting.now) m c.args.state.now) c.in-At.is)

pub returns-in-NotClass : goal.returns-in-NotClass
returns-in-NotClass g c =
    let at = c.args.at in let wanted = c.args.wanted.now in let receiver = c.args.receiver.now in let head = c.args.head.now in
    walks_as (by_answer at wanted receiver head c.args.name c.args.answer.now) c.case_of.result
    (weaker c.case_of.result c.case_of.ensures (λ symbols n. (n.0.named, n.0.itself)) (λ symbols b n t. t))
    (λ m. ap (λ (a : MemberAnswer). by_answer at wanted receiver head c.args.name a (setting_of c.args.setting.now) m c.args.state.now) c.in-NotClass.is)

pub returns-in_ok-unless_partial-in-Missing : goal.returns-in_ok-unless_partial-in-Missing
returns-in_ok-unless_partial-in-Missing g c =
    let at = c.args.at in let wanted = c.args.wanted.now in let receiver = c.args.receiver.now in let head = c.args.head.now in
    walks_as (by_answer at wanted receiver head c.args.name c.args.answer.now) (Ok _) (weaker (Ok _) (of_step _ c.in_ok-unless_partial-in-Missing.ensures) (λ symbols n. tt) (λ symbols b n t. t))
    (λ m. ap (λ (a : MemberAnswer). by_answer at wanted receiver head c.args.name a (setting_of c.args.setting.now) m c.args.state.now) c.in-Missing.is)

pub returns-in_ok-missing-in-Absent : goal.returns-in_ok-missing-in-Absent
returns-in_ok-missing-in-Absent g c =
    let at = c.args.at in let wanted = c.args.wanted.now in let receiver = c.args.receiver.now in let head = c.args.head.now in
    walks_as (by_answer at wanted receiver head c.args.name c.args.answer.now) (Ok _) (weaker (Ok _) (of_step _ c.in_ok-missing-in-Absent.ensures) (λ symbols n. tt) (λ symbols b n t. t))
    (λ m. ap (λ (a : MemberAnswer). by_answer at wanted receiver head c.args.name a (setting_of c.args.setting.now) m c.args.state.now) c.in-Absent.is)
