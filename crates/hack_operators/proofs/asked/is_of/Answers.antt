use Rattle.std.proofs.Common.{◌∙◌, sym, ap}
use Rattle.hack_sub.specs.NamesOf.{of_arraykey, of_int}
use Rattle.hack_walk.specs.WalkLaws.{restated}
use Rattle.hack_operators.proofs.Naming.{of_bool, of_float, of_num, of_str}
use Rattle.hack_operators.specs.inside.Asked.{is_of}
use Rattle.hack_operators.proofs.asked.is_of.Goals as goal

pub returns-in-Int : goal.returns-in-Int
returns-in-Int g c = let scope = c.args.scope.now in let S = c.args.ty.now in
    restated c.is_below.result c.is_below.ensures (λ map b e. e ∙ ap (is_of map scope S) (sym c.in-Int.is))
    (λ symbols n. record { around = n.around; lower = n.operand; upper = of_int symbols }) (λ symbols b n given. tt)

pub returns-in-Float : goal.returns-in-Float
returns-in-Float g c = let scope = c.args.scope.now in let S = c.args.ty.now in
    restated c.is_below-in-Float.result c.is_below-in-Float.ensures (λ map b e. e ∙ ap (is_of map scope S) (sym c.in-Float.is))
    (λ symbols n. record { around = n.around; lower = n.operand; upper = of_float symbols }) (λ symbols b n given. tt)

pub returns-in-Num : goal.returns-in-Num
returns-in-Num g c = let scope = c.args.scope.now in let S = c.args.ty.now in
    restated c.is_below-in-Num.result c.is_below-in-Num.ensures (λ map b e. e ∙ ap (is_of map scope S) (sym c.in-Num.is))
    (λ symbols n. record { around = n.around; lower = n.operand; upper = of_num symbols }) (λ symbols b n given. tt)

pub returns-in-Str : goal.returns-in-Str
returns-in-Str g c = let scope = c.args.scope.now in let S = c.args.ty.now in
    restated c.is_below-in-Str.result c.is_below-in-Str.ensures (λ map b e. e ∙ ap (is_of map scope S) (sym c.in-Str.is))
    (λ symbols n. record { around = n.around; lower = n.operand; upper = of_str symbols }) (λ symbols b n given. tt)

pub returns-in-Bool : goal.returns-in-Bool
returns-in-Bool g c = let scope = c.args.scope.now in let S = c.args.ty.now in
    restated c.is_below-in-Bool.result c.is_below-in-Bool.ensures (λ map b e. e ∙ ap (is_of map scope S) (sym c.in-Bool.is))
    (λ symbols n. record { around = n.around; lower = n.operand; upper = of_bool symbols }) (λ symbols b n given. tt)

pub returns-in-Arraykey : goal.returns-in-Arraykey
returns-in-Arraykey g c = let scope = c.args.scope.now in let S = c.args.ty.now in
    restated c.is_below-in-Arraykey.result c.is_below-in-Arraykey.ensures (λ map b e. e ∙ ap (is_of map scope S) (sym c.in-Arraykey.is))
    (λ symbols n. record { around = n.around; lower = n.operand; upper = of_arraykey symbols }) (λ symbols b n given. tt)
