-- A target as what stands innermost and the steps behind it.
use Rattle.std.specs.Prelude.{List}
use Rattle.std.specs.List.{fold}
use Rattle.hack_rules.specs.Meanings.{Aim, element, other, property, variable}
use Rattle.hack_targets.specs.declared.steps.Root.{Root}
use Rattle.hack_targets.specs.declared.steps.Root.TheVariants as root
use Rattle.hack_targets.specs.declared.steps.Step.{Step}

-- what stands innermost
abbrev pub root_aim : Root → Aim
root_aim (root.Variable at name) = variable at name
root_aim (root.Property ty) = property ty
root_aim (root.Other at ty) = other at ty

-- an element of what stands before it
abbrev pub element_of : Aim → Step → Aim
element_of base step = element step.at base step.ty step.index

-- the whole
abbrev pub aim_of : Root → List Step → Aim
aim_of innermost steps = fold element_of (root_aim innermost) steps
