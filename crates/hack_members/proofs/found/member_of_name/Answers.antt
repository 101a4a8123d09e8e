use Rattle.std.proofs.Common.{◌≡◌, ◌∙◌, All, IsTrue, Ok, ap, subst, sym}
use Rattle.hack_decls.specs.AskLaws.{looked_names}
use Rattle.hack_decls.specs.NameLaws.{in_member_answer, types_of_member_answer}
use Rattle.hack_decls.specs.Names.{TypeIn, class_symbol}
use Rattle.hack_decls.specs.Picks.{member_answer}
use Rattle.hack_decls.specs.declared.answers.MemberAnswer.{MemberAnswer}
use Rattle.hack_decls.specs.declared.answers.MemberTag.{MemberTag}
use Rattle.hack_types.specs.declared.ids.SymbolId.{SymbolId}
use Rattle.hack_walk.specs.WalkLaws.{reads_walks, restated}
use Rattle.hack_members.specs.Wanting.{tag_of}
use Rattle.hack_members.specs.inside.Rows.{by_answer, member_of_name}
use Rattle.hack_members.proofs.found.member_of_name.Goals as goal

pub returns : goal.returns
unfolding member_of_name
returns g c =
    let wanted = c.args.wanted.now in let s = c.class_symbol.result in let here : s ≡ class_symbol c.args.name = c.class_symbol.ensures in let t = c.tag.result in
    let found = c.in_ok-answer.answer in
    reads_walks {Gives = λ symbols a. All (TypeIn symbols) (types_of_member_answer a)} (λ map scope. member_answer (tag_of wanted.sought) wanted.name (map (class_symbol c.args.name)))
    (λ a. by_answer c.args.at wanted c.args.receiver.now c.args.head.now c.args.name a) c.by_answer.result
    (restated {NamesB = λ symbols. IsTrue (symbols (class_symbol c.args.name))} (Ok found)
    (looked_names found (λ symbols a. All (TypeIn symbols) (types_of_member_answer a))
    (λ symbols entry e. subst (λ (a : MemberAnswer). All (TypeIn symbols) (types_of_member_answer a)) (sym e) (in_member_answer symbols t wanted.name ((g.D.Decls.state c.args.decls.now).map s) entry))
    c.in_ok-answer.ensures)
    (λ m a e. e ∙ ap (λ (k : MemberTag). member_answer k wanted.name (m s)) c.tag.ensures ∙ ap (λ (x : SymbolId). member_answer (tag_of wanted.sought) wanted.name (m x)) here)
    (λ symbols n. subst (λ (x : SymbolId). IsTrue (symbols x)) (sym here) n) (λ symbols a n w. w))
    c.by_answer.ensures (λ symbols around n. n.named) (λ symbols n w. (n, w)) (λ symbols b n w h. h)
