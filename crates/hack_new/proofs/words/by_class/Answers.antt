use Rattle.std.proofs.Common.{◌∙◌, Ok, ap, subst, sym}
use Rattle.std.proofs.lemmas.Result.{err_from_is_err_and}
use Rattle.hack_types.specs.Substituted.{limited}
use Rattle.hack_decls.specs.AskLaws.{unasked}
use Rattle.hack_decls.specs.DeclState.{Map}
use Rattle.hack_decls.specs.Names.{TypeIn}
use Rattle.hack_rules.specs.News.{class_behind}
use Rattle.hack_rules.specs.Walks.{◌>>◌, pure}
use Rattle.hack_sub.specs.Named.{Around}
use Rattle.hack_sub.specs.declared.scope.Scope.{Scope}
use Rattle.hack_walk.specs.NamesKept.{in_limited}
use Rattle.hack_walk.specs.WalkLaws.{of_reads, reads_walks, then_refused, walks_next, walks_pure}
use Rattle.hack_calls.specs.Named.{GivenIn, or_self}
use Rattle.hack_new.specs.inside.Rows.{IsNamed, by_class, construct_of}
use Rattle.hack_new.proofs.Wording.{in_behind, own_law}
use Rattle.hack_new.proofs.words.by_class.Goals as goal

pub construct_of-requires : goal.construct_of-requires
construct_of-requires g c =
    let word = c.args.word.now in let ty = c.args.ty in let scope = c.args.setting.now.scope.now in
    let is = c.or_self.ensures ∙ ap (or_self ty) c.in_ok-own.ensures ∙ own_law word ty scope in
    subst IsNamed (sym is) c.requires

pub returns : goal.returns
unfolding by_class
returns g c =
    let at = c.args.at in let word = c.args.word.now in let ty = c.args.ty in let given = c.args.given.now in
    let scope = c.args.setting.now.scope.now in let class = c.or_self.result.now in
    let is = c.or_self.ensures ∙ ap (or_self ty) c.in_ok-own.ensures ∙ own_law word ty scope in
    rw c.limited.ensures
    (reads_walks {Names = λ symbols. Around symbols scope × TypeIn symbols ty} {Gives = TypeIn} {NamesB = λ symbols. TypeIn symbols class × TypeIn symbols ty × GivenIn symbols given}
    (λ (map : Map) (scope : Scope). class_behind word ty scope) (λ class. construct_of at class ty given >> pure (limited ty)) (Ok (limited ty))
    (unasked _ class (λ map. is) (λ symbols n. subst (TypeIn symbols) (sym is) (in_behind symbols word ty scope n.0 n.1)))
    (walks_next (pure (limited ty)) (Ok (limited ty)) c.in_ok-construct_of.ensures
    (walks_pure {Names = λ symbols. TypeIn symbols ty} _ _ (limited ty) (λ symbols n. in_limited symbols ty n)) (λ symbols n. n) (λ symbols n g. n.1) (λ symbols b n g h. h))
    (λ symbols around n. (around, n.0)) (λ symbols n g. (g, n.0, n.1)) (λ symbols b n g h. h))

pub returns-in_err-construct_of : goal.returns-in_err-construct_of
returns-in_err-construct_of g c =
    let word = c.args.word.now in let ty = c.args.ty in let given = c.args.given.now in
    let scope = c.args.setting.now.scope.now in let class = c.or_self.result.now in
    let is = c.or_self.ensures ∙ ap (or_self ty) c.in_ok-own.ensures ∙ own_law word ty scope in
    let p = err_from_is_err_and c.from_residual-in_err-construct_of.result c.from_residual-in_err-construct_of.ensures.1 in
    rw (p.1, p.2) (then_refused
    (of_reads {Names = λ symbols. Around symbols scope × TypeIn symbols ty} {Gives = TypeIn} {NamesB = λ symbols. TypeIn symbols ty × GivenIn symbols given} (λ (map : Map) (scope : Scope). class_behind word ty scope) c.args.state.now (Ok class)
    (unasked _ class (λ map. is) (λ symbols n. subst (TypeIn symbols) (sym is) (in_behind symbols word ty scope n.0 n.1))) (λ symbols around n. (around, n.0)))
    c.in_err-construct_of.ensures (λ symbols n. n) (λ symbols n g. (g, n.0, n.1)))
