use Rattle.std.proofs.Common.{◌||◌, ◌∙◌, true, sym, ap}
use Rattle.std.proofs.lemmas.Result.{err_from_is_err_and}
use Rattle.hack_types.specs.declared.hack_type.HackType.TheVariants as type
use Rattle.hack_decls.specs.AskLaws.{failed}
use Rattle.hack_sub.specs.NamesOf.{of_arraykey}
use Rattle.hack_sub.proofs.Tells.{gone_on, settled}
use Rattle.hack_sub.specs.IsBelow.{bounded_base, is_below, some_and}
use Rattle.hack_sub.proofs.named.key_or_base.Goals as goal

pub returns-then-key : goal.returns-then-key
returns-then-key g c = let S = c.args.lower.now in let T = c.args.upper.now in
    settled (λ map. is_below map c.args.level.now.scope.now c.args.level.now.height type.Arraykey T || some_and (bounded_base map S) (λ base. is_below map c.args.level.now.scope.now c.args.level.now.height base T)) c.in_ok-key.ensures true
    (λ map e. ap (λ b. b || some_and (bounded_base map S) (λ base. is_below map c.args.level.now.scope.now c.args.level.now.height base T)) (sym c.if-key.true ∙ e))
    (λ symbols n. record { around = n.around; lower = of_arraykey symbols; upper = n.upper })

pub returns : goal.returns
returns g c = let S = c.args.lower.now in let T = c.args.upper.now in
    gone_on (λ map. is_below map c.args.level.now.scope.now c.args.level.now.height type.Arraykey T || some_and (bounded_base map S) (λ base. is_below map c.args.level.now.scope.now c.args.level.now.height base T)) c.base_below.result c.in_ok-key.ensures c.base_below.ensures
    (λ map e. ap (λ b. b || some_and (bounded_base map S) (λ base. is_below map c.args.level.now.scope.now c.args.level.now.height base T)) (sym c.if-key.false ∙ e))
    (λ symbols n. record { around = n.around; lower = of_arraykey symbols; upper = n.upper })
    (λ symbols n given. n)

pub returns-in_err-key : goal.returns-in_err-key
returns-in_err-key g c = let p = err_from_is_err_and c.from_residual.result c.from_residual.ensures.1 in
    rw (p.1, p.2) (failed c.in_err-key.ensures (λ symbols n. record { around = n.around; lower = of_arraykey symbols; upper = n.upper }))
