use Rattle.std.proofs.Common.{◌≡◌, All, sym, ap, subst}
use Rattle.hack_decls.specs.DeclState.{Map}
use Rattle.hack_decls.specs.Names.{TypeIn}
use Rattle.std.specs.List.{list_any}
use Rattle.hack_types.specs.declared.signature.TypeParam.{TypeParam}
use Rattle.hack_sub.proofs.NamesScope.{in_upper}
use Rattle.hack_sub.proofs.Tells.{told, told_under}
use Rattle.hack_sub.specs.IsBelow.{is_below}
use Rattle.hack_sub.specs.Scopes.{param_of}
use Rattle.hack_sub.proofs.bounds.from_param.Goals as goal

pub returns-in-Some : goal.returns-in-Some
returns-in-Some g c =
    let S = c.args.lower.now in let T = c.args.upper.now in let param = c.in-Some.param.now in
    let us : c.as_slice.result.now ≡ param.upper = c.as_slice.ensures in
    told_under (λ (map : Map) (param : TypeParam). list_any (λ U. is_below map c.args.level.now.scope.now c.args.level.now.height U T) param.upper) (param_of c.args.level.now.scope.now S) param c.in-Some.ensures c.any_below.result
    (told (λ map. list_any (λ U. is_below map c.args.level.now.scope.now c.args.level.now.height U T) param.upper) c.any_below.result c.any_below.ensures (λ map. ap (λ xs. list_any (λ U. is_below map c.args.level.now.scope.now c.args.level.now.height U T) xs) us) (λ symbols n. n))
    (λ symbols n. record { around = n.around; many = subst (λ xs. All (TypeIn symbols) xs) (sym us) (in_upper symbols c.args.level.now.scope.now n.around.scoped S param c.in-Some.ensures); other = n.upper })
