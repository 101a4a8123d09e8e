use Rattle.std.proofs.Common.{◌≡◌, ◌∙◌, All, sym, ap, subst}
use Rattle.hack_decls.specs.Names.{TypeIn}
use Rattle.hack_sub.specs.NamesOf.{in_class}
use Rattle.hack_sub.proofs.Tells.{told, told_under}
use Rattle.hack_sub.specs.IsBelow.{class_names, is_below, some_and}
use Rattle.hack_sub.specs.Parts.{arguments_of, name_of}
use Rattle.hack_sub.proofs.class_types.class_types.Goals as goal

pub returns-in-Some-Some : goal.returns-in-Some-Some
returns-in-Some-Some g c =
    let S = c.args.lower.now in let T = c.args.upper.now in
    let class = c.in-Some-Some.class in let name = c.in-Some-Some.name in
    let us : c.arguments_of.result.now ≡ arguments_of S = c.arguments_of.ensures in
    let vs : c.arguments_of-in-Some-Some.result.now ≡ arguments_of T = c.arguments_of-in-Some-Some.ensures in
    told_under (λ map class. some_and (name_of T) (λ name. class_names map class name (is_below map c.args.level.now.scope.now c.args.level.now.height) (arguments_of S) (arguments_of T))) (name_of S) class c.in-Some-Some.ensures c.class_names.result
    (told_under (λ map name. class_names map class name (is_below map c.args.level.now.scope.now c.args.level.now.height) (arguments_of S) (arguments_of T)) (name_of T) name c.in-Some-Some.ensures' c.class_names.result
    (told (λ map. class_names map class name (is_below map c.args.level.now.scope.now c.args.level.now.height) (arguments_of S) (arguments_of T)) c.class_names.result c.class_names.ensures
    (λ map. ap (λ xs. class_names map class name (is_below map c.args.level.now.scope.now c.args.level.now.height) xs c.arguments_of-in-Some-Some.result.now) us ∙ ap (λ ys. class_names map class name (is_below map c.args.level.now.scope.now c.args.level.now.height) (arguments_of S) ys) vs)
    (λ symbols n. n))
    (λ symbols n. n))
    (λ symbols n. let own = in_class symbols S class c.in-Some-Some.ensures n.lower in let its = in_class symbols T name c.in-Some-Some.ensures' n.upper in
    record {
      class = own.0;
      fit = record {
        name = its.0;
        arguments = record {
          around = n.around;
          lowers = subst (λ xs. All (TypeIn symbols) xs) (sym us) own.1;
          uppers = subst (λ xs. All (TypeIn symbols) xs) (sym vs) its.1;
        };
      };
    })
