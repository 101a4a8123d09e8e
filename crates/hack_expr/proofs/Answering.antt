-- What a check answers in these variables, where it began with them and no diagnostics.
use Rattle.std.proofs.Common.{◌≡◌, ◌∙◌, [], Ok, sym, subst}
use Rattle.hack_decls.specs.AskLaws.{said}
use Rattle.hack_decls.specs.Asks.{Asks}
use Rattle.hack_decls.specs.DeclState.{DeclState}
use Rattle.hack_decls.specs.Names.{TypeIn}
use Rattle.hack_parts.specs.ExprIn.{ExprIn}
use Rattle.hack_rules.specs.Expressions.{judged}
use Rattle.hack_rules.specs.Variables.{Variables}
use Rattle.hack_rules.specs.Walks.{Setting, State}
use Rattle.hack_tree.specs.declared.expression.Expr.{Expr}
use Rattle.hack_types.specs.declared.hack_type.HackType.{HackType}
use Rattle.hack_walk.specs.Checks.{VariablesIn, Walks}
use Rattle.hack_expr.specs.Judged.{GivenIn, IsJudged, OutIn}
use Rattle.hack_expr.specs.declared.checks.ExprOut.{ExprOut}

module _ {Base Held : Type 0} {old new : DeclState Base Held} {setting : Setting} (variables : Variables) (e : Expr) {start behind : State} {ty : HackType} where
  pub answers : (out : ExprOut) → start.variables ≡ variables → start.found ≡ [] → out.ty ≡ ty → out.env ≡ behind.variables → out.diags.items ≡ behind.found
      → Walks (judged e) setting old start (Ok ty) new behind (λ symbols. ExprIn setting.scope symbols e) TypeIn
      → Asks old (Ok out) new (IsJudged setting variables e) (λ symbols. GivenIn symbols setting.scope variables e) OutIn
  unfolding IsJudged
  answers out from none same env diags check =
      said out check.asks
      (λ map is.
      (λ i. judged e setting map (record { variables = sym from i; found = sym none i })) ∙ is
      ∙ (λ i. (sym same i, record { variables = sym env i; found = sym diags i })))
      (λ symbols n. (record { around = n.0.around; types = subst (VariablesIn symbols) (sym from) n.0.types }, n.1))
      (λ symbols n g. record { ty = subst (TypeIn symbols) (sym same) g.1; env = subst (VariablesIn symbols) (sym env) g.0 })
