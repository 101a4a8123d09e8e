-- The keys of the fields that a table of them gives.
use Rattle.std.proofs.Common.{◌≡◌, ◌∷◌, ℕ, Bool, List, [], map, ap, refl}
use Rattle.std.specs.Map.{keys_of}
use Rattle.hack_types.specs.declared.hack_type.HackType.{HackType}
use Rattle.hack_shallow.specs.Resolved.{in_order}

pub keys-in_order : (entries : List (ℕ × (Bool × HackType))) → map (λ field. field.key) (in_order entries) ≡ keys_of entries
keys-in_order [] = refl
keys-in_order (e ∷ entries) = ap (λ keys. e.0 ∷ keys) (keys-in_order entries)
