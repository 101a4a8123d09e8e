use Rattle.std.proofs.Common.{◌∙◌, IfSome, IsTrue, Option, ℕ, List, subst}
use Rattle.hack_types.specs.declared.signature.TypeParam.{TypeParam}
use Rattle.hack_decls.specs.AskLaws.{unasked}
use Rattle.hack_decls.specs.Names.{class_symbol}
use Rattle.hack_walk.specs.WalkLaws.{restated}
use Rattle.hack_calls.proofs.Mentioning.{no_parent, parent_law}
use Rattle.hack_calls.proofs.parents.parent_type.Goals as goal

pub returns-in-Some : goal.returns-in-Some
returns-in-Some g c =
    let scope = c.args.scope.now in
    restated c.class_above.result c.class_above.ensures (λ map a e. e ∙ parent_law map scope _ c.in-Some.is)
    (λ symbols n. subst (λ (o : Option (ℕ × List TypeParam)). IfSome o (λ (class : ℕ × List TypeParam). IsTrue (symbols (class_symbol class.0)))) c.in-Some.is n.scoped.0) (λ symbols a n g. g)

pub returns-in-None : goal.returns-in-None
returns-in-None g c = unasked _ _ (λ map. no_parent map c.args.scope.now c.in-None.is) (λ symbols n. tt)
