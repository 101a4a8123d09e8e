use Rattle.std.proofs.Common.{◌≡◌, ◌∙◌, ◌&&◌, ℕ, true, not, refl, sym, ap, arith}
use Rattle.hack_types.specs.TypeNodes.{node_count, nodes}
use Rattle.hack_types.specs.declared.hack_type.HackType.{HackType, out-HackType}
use Rattle.hack_types.specs.declared.hack_type.HackType.TheViews.{out-roll-HackType}
use Rattle.hack_types.specs.declared.hack_type.HackType.TheOpen.{HackType-F}
use Rattle.hack_types.specs.declared.hack_type.HackType.TheFolds.{fold-roll-HackType}
use Rattle.hack_types.specs.declared.hack_type.HackType.TheVariants.{Nothing, rolls-Nothing}
use Rattle.hack_sub.specs.Derives as tree
use Rattle.hack_sub.specs.Parts.{top_by, top_of}
use Rattle.hack_sub.specs.Sub.{IsSmall}
use Rattle.hack_sub.specs.Tops.{is_mixed, is_nothing, is_void}
use Rattle.hack_sub.proofs.Decides.{or_left}
use Rattle.hack_sub.proofs.Trees.{higher}
use Rattle.hack_sub.proofs.laws.order.Goals as goal

small_nothing : IsSmall Nothing
small_nothing = let one : nodes Nothing ≡ 1 = ap nodes (sym rolls-Nothing) ∙ fold-roll-HackType ℕ node_count HackType-F.Nothing in omega (arith, one)

nothing_is : is_nothing (top_of Nothing) ≡ true
nothing_is = ap (λ (layer : HackType-F HackType). is_nothing (top_by layer)) (ap out-HackType (sym rolls-Nothing) ∙ out-roll-HackType HackType-F.Nothing)

pub returns-clause-itself : goal.returns-clause-itself
returns-clause-itself c = λ map scope height S few. tree.by_equal (few, few) refl

pub returns-clause-nothing : goal.returns-clause-nothing
returns-clause-nothing c = λ map scope height S few. tree.by_extreme (small_nothing, few)
    (or_left (is_nothing (top_of Nothing)) (is_mixed (top_of S) && not (is_void (top_of Nothing))) nothing_is)

pub returns-clause-higher : goal.returns-clause-higher
returns-clause-higher c = λ map scope height S T d. higher map scope d
