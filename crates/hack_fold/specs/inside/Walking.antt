-- What is ahead of a walk, and what is listed next.
use Rattle.std.specs.Prelude.{◌≡◌, ◌<◌, ◌-◌, ℕ, Bool, Option, Some, None, List, [], ◌∷◌, reverse, if◌then◌else◌}
use denote.Ref.{Bor}
use Rattle.std.specs.List.{flat_map}
use Rattle.hack_types.specs.declared.hack_type.HackType.{HackType}
use Rattle.hack_types.specs.declared.ids.SymbolId.{SymbolId}
use Rattle.hack_fold.specs.Line.{type_symbols, unlisted}

-- what is ahead of a walk, kept as lists of types; what comes next stands in the last of them
abbrev pub ahead_of : List (Bor (List HackType)) → List SymbolId
ahead_of lists = flat_map (λ types. type_symbols types.now) (reverse lists)

-- the symbol of a type, if it names one that isn't listed
abbrev pub new_symbol : (SymbolId → Bool) → Option SymbolId → Option SymbolId
new_symbol is_listed None = None
new_symbol is_listed (Some s) = if is_listed s then None else Some s

-- the first of some types that names what isn't listed, and the types behind it
abbrev pub NextIn : (SymbolId → Bool) → List HackType → Option (SymbolId × Bor (List HackType)) → Type 0
NextIn is_listed types None = unlisted is_listed (type_symbols types) ≡ []
NextIn is_listed types (Some next) = unlisted is_listed (type_symbols types) ≡ next.0 ∷ type_symbols next.1.now

-- the first of what is ahead that isn't listed, and what is ahead behind it
abbrev pub Next : (SymbolId → Bool) → List SymbolId → Option SymbolId → List SymbolId → Type 0
Next is_listed old None new = unlisted is_listed old ≡ []
Next is_listed old (Some next) new = unlisted is_listed old ≡ next ∷ new

-- the same where so many are listed; from 257 on there is none
abbrev pub NextName : ℕ → (SymbolId → Bool) → List SymbolId → Option SymbolId → List SymbolId → Type 0
NextName count is_listed old None new = count < 257 → unlisted is_listed old ≡ []
NextName count is_listed old (Some next) new = (count < 257) × (unlisted is_listed old ≡ next ∷ new)
