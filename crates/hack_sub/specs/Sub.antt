-- Subtyping (docs/language.md, Subtyping): S is below T where a tree of this height at most says so, whose nodes are instances of the
-- rules.
use Rattle.std.specs.Prelude.{ℕ, zero, suc, ◌≤◌}
use Rattle.hack_types.specs.Substituted.{most_nodes}
use Rattle.hack_types.specs.TypeNodes.{nodes}
use Rattle.hack_types.specs.declared.hack_type.HackType.{HackType}
use Rattle.hack_decls.specs.DeclState.{Map}
use Rattle.hack_sub.specs.Rules as rule
use Rattle.hack_sub.specs.Rules.{Relation}
use Rattle.hack_sub.specs.declared.scope.Scope.{Scope}

-- the rules in their order
pub data Rule : Type 0 where
  equal unknown extreme primitive not_null null into_option from_option from_union into_union container alias shape class_types bound enum_types : Rule

-- S is below T by this rule, with its premises in R
abbrev pub Follows : Rule → Map → Scope → Relation → Relation
Follows equal map scope R = rule.equal
Follows unknown map scope R = rule.unknown map
Follows extreme map scope R = rule.extreme
Follows primitive map scope R = rule.primitive
Follows not_null map scope R = rule.not_null map
Follows null map scope R = rule.null
Follows into_option map scope R = rule.into_option R
Follows from_option map scope R = rule.from_option R
Follows from_union map scope R = rule.from_union R
Follows into_union map scope R = rule.into_union R
Follows container map scope R = rule.container R
Follows alias map scope R = rule.alias map R
Follows shape map scope R = rule.shape R
Follows class_types map scope R = rule.class_types map R
Follows bound map scope R = rule.bound scope R
Follows enum_types map scope R = rule.enum_types map R

-- a type that a tree may have at a node
abbrev pub IsSmall : HackType → Type 0
IsSmall ty = nodes ty ≤ most_nodes

unfoldable pub Sub : Map → Scope → ℕ → Relation
Sub map scope zero S T = ⊥
Sub map scope (suc height) S T = IsSmall S × IsSmall T × ((r : Rule) × Follows r map scope (Sub map scope height) S T)

-- how high a tree may be
abbrev pub most_height : ℕ
most_height = 16
