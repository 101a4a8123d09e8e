use Rattle.std.proofs.Common.{◌≡◌, List, All, IsTrue, sym, ap, subst}
use Rattle.hack_types.specs.declared.hack_type.HackType.{HackType}
use Rattle.hack_decls.specs.AskLaws.{said}
use Rattle.hack_decls.specs.DeclState.{Map}
use Rattle.hack_decls.specs.Names.{TypeIn, class_symbol}
use Rattle.hack_rules.specs.Calls.{solved_types}
use Rattle.hack_rules.specs.News.{class_of_solved}
use Rattle.hack_sub.specs.declared.scope.Scope.{Scope}
use Rattle.hack_walk.specs.Checks.{setting_of}
use Rattle.hack_walk.specs.WalkLaws.{reads_walks, walks_as, weaker}
use Rattle.hack_calls.specs.Named.{GivenIn, SignatureIn}
use Rattle.hack_calls.specs.Solved.{solved_of}
use Rattle.hack_new.specs.inside.Solving.{made_as, made_by}
use Rattle.hack_new.proofs.solved.made_by.Goals as goal

pub returns : goal.returns
unfolding made_by solved_types
returns g c =
    let signature = c.args.signature.now in let params = c.args.params.now in let name = c.args.name in let given = c.args.given.now in let s = c.args.state.now in
    let solved = c.in_ok-solved.solved.items in
    let is : c.as_slice-types.result.now ≡ solved = c.as_slice-types.ensures.value in
    let next = λ (types : List HackType). made_as c.args.at signature (class_of_solved name params types) types given in
    reads_walks {Gives = λ symbols (types : List HackType). All (TypeIn symbols) types} {NamesB = λ symbols. SignatureIn symbols signature × IsTrue (symbols (class_symbol name)) × All (TypeIn symbols) solved × GivenIn symbols given} {here = s} (λ (m : Map) (scope : Scope). solved_of m signature given) next c.made_with-made.result
    (said solved c.in_ok-solved.ensures (λ m e. e) (λ symbols n. n) (λ symbols n h. h))
    (walks_as (next solved) c.made_with-made.result
    (weaker c.made_with-made.result c.made_with-made.ensures
    (λ symbols n. (n.0, n.1, subst (λ (types : List HackType). All (TypeIn symbols) types) (sym is) n.2, n.3)) (λ symbols a n h. h))
    (λ m. ap (λ (types : List HackType). next types (setting_of c.args.setting.now) m s) (sym is)))
    (λ symbols around n. (around, n.0, n.2)) (λ symbols n h. (n.0, n.1, h, n.2)) (λ symbols b n h k. k)
