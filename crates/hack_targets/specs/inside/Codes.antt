-- How indices and targets are told apart.
use Rattle.std.proofs.Common.{◌≡◌, ◌⊎◌, ℕ, inl, inr, Option, List, [], ◌∷◌, refl, ap}
use Rattle.std.specs.Coded.{Coded, code_by, coded_list, coded_option, coded_ℕ, coded×, coded⊎}
use Rattle.hack_types.specs.contracts.hack_type.HackType as hack_type
use Rattle.hack_types.specs.contracts.place.Place as place
use Rattle.hack_types.specs.declared.hack_type.HackType.{HackType}
use Rattle.hack_types.specs.declared.place.Place.{Place}
use Rattle.hack_rules.specs.Meanings.{Aim, Index, element, other, property, variable}

-- as the place, the key and the type
abbrev pub index_code : Coded Index
index_code =
    code_by (Place × (Option ℕ × HackType)) (coded× place.the_row.coded (coded× (coded_option coded_ℕ) hack_type.the_row.coded)) (λ i. (i.at, (i.key, i.ty)))
    (λ p. record { at = p.0; key = p.1.0; ty = p.1.1 }) (λ i. refl)

-- what stands innermost, and a step
abbrev pub Innermost : Type 0
Innermost = (Place × ℕ) ⊎ (HackType ⊎ (Place × HackType))

abbrev pub Single : Type 0
Single = Place × (HackType × Option Index)

-- what stands innermost in a target
abbrev pub innermost : Aim → Innermost
innermost (variable at name) = inl (at, name)
innermost (property ty) = inr (inl ty)
innermost (other at ty) = inr (inr (at, ty))
innermost (element at base ty index) = innermost base

-- its steps, the last one first
abbrev pub steps_of : Aim → List Single
steps_of (variable at name) = []
steps_of (property ty) = []
steps_of (other at ty) = []
steps_of (element at base ty index) = (at, (ty, index)) ∷ steps_of base

-- the target with these
abbrev pub bare : Innermost → Aim
bare (inl v) = variable v.0 v.1
bare (inr (inl ty)) = property ty
bare (inr (inr o)) = other o.0 o.1

abbrev pub put : Innermost → List Single → Aim
put root [] = bare root
put root (s ∷ ss) = element s.0 (put root ss) s.1.0 s.1.1

pub given_back : (aim : Aim) → put (innermost aim) (steps_of aim) ≡ aim
given_back (variable at name) = refl
given_back (property ty) = refl
given_back (other at ty) = refl
given_back (element at base ty index) = ap (λ (b : Aim). element at b ty index) (given_back base)

-- as what stands innermost and the steps
abbrev pub aim_code : Coded Aim
aim_code =
    code_by (Innermost × List Single)
    (coded× (coded⊎ (coded× place.the_row.coded coded_ℕ) (coded⊎ hack_type.the_row.coded (coded× place.the_row.coded hack_type.the_row.coded)))
    (coded_list (coded× place.the_row.coded (coded× hack_type.the_row.coded (coded_option index_code)))))
    (λ aim. (innermost aim, steps_of aim)) (λ p. put p.0 p.1) given_back
