-- Arguments are typed one behind another.
use Rattle.std.proofs.Common.{◌≡◌, List, [], ◌∷◌, map, refl, ap}
use Rattle.hack_tree.specs.declared.expression.Expr.{Expr}
use Rattle.hack_rules.specs.Calls.{argument, arguments_of}
use Rattle.hack_rules.specs.Expressions.{meaning_of}
use Rattle.hack_rules.specs.Walks.{Walk, ◌>>=◌, each, pure}
use Rattle.hack_rules.specs.WrittenTypes.{Argument}

-- one of them
abbrev pub typed : Expr → Walk Argument
typed e = argument (meaning_of e)

each_typed : (es : List Expr) → each typed es ≡ each argument (map meaning_of es)
unfolding each
each_typed [] = refl
each_typed (e ∷ es) = ap (λ (rest : Walk (List Argument)). typed e >>= (λ b. rest >>= (λ bs. pure (b ∷ bs)))) (each_typed es)

pub all_typed : (es : List Expr) → each typed es ≡ arguments_of (map meaning_of es)
unfolding arguments_of
all_typed es = each_typed es
