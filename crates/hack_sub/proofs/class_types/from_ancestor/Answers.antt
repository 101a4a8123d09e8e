use Rattle.std.proofs.Common.{◌≡◌, ◌∙◌, false, Some, All, sym, ap, subst}
use Rattle.hack_decls.specs.Names.{TypeIn}
use Rattle.hack_sub.specs.NamesOf.{many_given}
use Rattle.hack_sub.proofs.Tells.{gone_on, settled}
use Rattle.hack_sub.specs.IsBelow.{ancestor_given, fit, is_below, some_and}
use Rattle.hack_sub.specs.Knowing.{parameters}
use Rattle.hack_sub.proofs.class_types.from_ancestor.Goals as goal

pub returns-in-Some : goal.returns-in-Some
returns-in-Some g c =
    let us = c.args.lowers.now in let vs = c.args.uppers.now in let class = c.args.class in let name = c.args.name in
    let cs = c.in-Some.arguments in
    let is : c.in_ok-given.given ≡ Some cs = c.in-Some.is in
    let slice : c.as_slice.result.now ≡ cs = c.as_slice.ensures in
    gone_on (λ map. some_and (ancestor_given map class us name) (λ xs. fit (is_below map c.args.level.now.scope.now c.args.level.now.height) (parameters map name) xs vs)) c.fit.result c.in_ok-given.ensures c.fit.ensures
    (λ map e. ap (λ xs. fit (is_below map c.args.level.now.scope.now c.args.level.now.height) (parameters map name) xs vs) slice ∙ ap (λ o. some_and o (λ xs. fit (is_below map c.args.level.now.scope.now c.args.level.now.height) (parameters map name) xs vs)) (sym is ∙ e))
    (λ symbols n. (n.class, n.fit.arguments.lowers))
    (λ symbols n given. record {
      name = n.fit.name;
      arguments = record {
        around = n.fit.arguments.around;
        lowers = subst (λ xs. All (TypeIn symbols) xs) (sym slice) (many_given symbols is given);
        uppers = n.fit.arguments.uppers;
      };
    })

pub returns : goal.returns
returns g c =
    let us = c.args.lowers.now in let vs = c.args.uppers.now in let class = c.args.class in let name = c.args.name in
    settled (λ map. some_and (ancestor_given map class us name) (λ xs. fit (is_below map c.args.level.now.scope.now c.args.level.now.height) (parameters map name) xs vs)) c.in_ok-given.ensures false
    (λ map e. ap (λ o. some_and o (λ xs. fit (is_below map c.args.level.now.scope.now c.args.level.now.height) (parameters map name) xs vs)) (sym c.in-None.is ∙ e))
    (λ symbols n. (n.class, n.fit.arguments.lowers))
