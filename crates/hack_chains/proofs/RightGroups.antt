-- What is typed from left to right and put together from the right.
use Rattle.std.proofs.Common.{◌≡◌, ◌∙◌, ◌++◌, List, [], ◌∷◌, map, refl, ap}
use Rattle.hack_tree.specs.declared.expression.Expr.{Expr}
use Rattle.hack_tree.specs.declared.expression.Operand.{Operand}
use Rattle.hack_types.specs.declared.hack_type.HackType.{HackType}
use Rattle.hack_decls.specs.DeclState.{Map}
use Rattle.hack_parts.specs.ExprMeanings.{joined}
use Rattle.hack_parts.specs.Forms.{joined_of}
use Rattle.hack_rules.specs.Chains.{Joined, coalesce_row, from_right, power_row}
use Rattle.hack_rules.specs.Expressions.{meaning_of}
use Rattle.hack_rules.specs.Meanings.{Meaning}
use Rattle.hack_rules.specs.Operators.{operate, power}
use Rattle.hack_rules.specs.Targets.{coalesced}
use Rattle.hack_rules.specs.Walks.{Setting, State, ◌>>=◌, each, pure}
use Rattle.hack_chains.specs.inside.Rights.{grouped, lefts_row, values_row}

-- `**`
pub power_is : (front : List Expr) (last : Expr) (setting : Setting) (map_ : Map) (s : State)
    → power_row (map meaning_of (front ++ last ∷ [])) setting map_ s ≡ values_row front last setting map_ s
unfolding power_row values_row grouped each ◌>>=◌ pure
power_is [] last setting map_ s = refl
power_is (e ∷ []) last setting map_ s =
    let first = (meaning_of e).walk setting map_ s in
    ap (λ (end : HackType × State). operate (meaning_of e).at power first.0 end.0 setting map_ end.1) (power_is [] last setting map_ first.1)
power_is (e ∷ n ∷ es) last setting map_ s =
    let first = (meaning_of e).walk setting map_ s in
    ap (λ (end : HackType × State). operate (meaning_of e).at power first.0 end.0 setting map_ end.1) (power_is (n ∷ es) last setting map_ first.1)

-- `??`
pub lefts_are : (first : Meaning) (front : List Operand) (last : Operand) (setting : Setting) (map_ : Map) (s : State)
    → (from_right first (map joined_of (front ++ last ∷ []))).walk setting map_ s
    ≡ (first.left >>= (λ (own : HackType). lefts_row front last >>= coalesced own)) setting map_ s
unfolding from_right coalesce_row lefts_row grouped each ◌>>=◌ pure
lefts_are first [] last setting map_ s =
    let own = first.left setting map_ s in
    ap (λ (j : Joined). (j.operand.walk >>= coalesced own.0) setting map_ own.1) (joined last)
lefts_are first (o ∷ os) last setting map_ s =
    let own = first.left setting map_ s in
    ap (λ (end : HackType × State). coalesced own.0 end.0 setting map_ end.1)
    (lefts_are (joined_of o).operand os last setting map_ own.1
    ∙ ap (λ (j : Joined). (j.operand.left >>= (λ (next : HackType). lefts_row os last >>= coalesced next)) setting map_ own.1) (joined o))
