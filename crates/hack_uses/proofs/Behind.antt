-- An operand with suffixes behind it, one after another.
use Rattle.std.proofs.Common.{◌≡◌, ◌<◌, ◌≤◌, ◌+◌, ◌++◌, ◌∙◌, ℕ, Ok, Result, List, [], ◌∷◌, length, take, get_or, refl, sym, ap, arith}
use Rattle.std.proofs.lemmas.List.{take_more}
use Rattle.hack_decls.specs.DeclState.{DeclState, Map, Symbols}
use Rattle.hack_parts.specs.Parts.{walk_by}
use Rattle.hack_parts.specs.declared.reading.Reading.{Reading}
use Rattle.hack_parts.specs.declared.reading.Reading.TheVariants as reading
use Rattle.hack_rules.specs.Meanings.{Aim, Meaning}
use Rattle.hack_rules.specs.Targets.{read}
use Rattle.hack_rules.specs.Walks.{Setting, State, ◌>>=◌}
use Rattle.hack_targets.specs.AimIn.{AimIn}
use Rattle.hack_tree.specs.declared.expression.Suffix.{Suffix}
use Rattle.hack_types.specs.declared.place.Place.{Place}
use Rattle.hack_walk.specs.Checks.{Walks}
use Rattle.hack_walk.specs.WalkLaws.{walks_as, walks_then}
use Rattle.hack_parts.specs.Forms.{suffix_of}
use Rattle.hack_uses.specs.Aims.{aim_by, behind}
use Rattle.hack_uses.specs.inside.Steps.{is_left, suffix_step}
use Rattle.hack_uses.proofs.Readable.{Readable, behind_readable}
use Rattle.hack_uses.proofs.Stepping.{aim_of_suffix, behind_more, one_aim, place_behind}

next_taken : {X : Type 0} (xs : List X) (i : ℕ) (x : X) → i < length xs → x ≡ get_or xs i x → take (i + 1) xs ≡ take i xs ++ x ∷ []
next_taken xs i x inside at = take_more xs i x inside ∙ ap (λ y. take i xs ++ y ∷ []) (sym at)

-- one suffix more
module _ (base : Meaning) (from : Readable base) (at : Place) (same : at ≡ base.at) (suffixes : List Suffix) (i : ℕ) (x : Suffix)
    (inside : i < length suffixes) (is : x ≡ get_or suffixes i x) where
  abbrev so_far : Meaning
  so_far = behind base (take i suffixes)

  one_step : (setting : Setting) (m : Map) (here : State) → (behind base (take (i + 1) suffixes)).aim setting m here ≡ (so_far.aim >>= (λ a. suffix_step at x a)) setting m here
  one_step setting m here =
      ap (λ (b : Meaning). b.aim setting m here) (ap (behind base) (next_taken suffixes i x inside is) ∙ behind_more base (take i suffixes) x)
      ∙ aim_of_suffix x so_far (behind_readable base (take i suffixes) from) setting m here
      ∙ ap (λ (p : Place). (so_far.aim >>= (λ a. suffix_step p x a)) setting m here) (place_behind base (take i suffixes) ∙ sym same)

  pub one_behind : {Base Held : Type 0} {setting : Setting} {Names NamesB : Symbols → Type 0} {old mid new : DeclState Base Held} {before between last : State} {aim next : Aim}
      → Walks (behind base (take i suffixes)).aim setting old before (Ok aim) mid between Names AimIn
      → Walks (suffix_step at x aim) setting mid between (Ok next) new last NamesB AimIn
      → ((symbols : Symbols) → Names symbols → AimIn symbols aim → NamesB symbols)
      → Walks (behind base (take (i + 1) suffixes)).aim setting old before (Ok next) new last Names AimIn
  one_behind {setting = setting} {before = before} {next = next} first second onward =
      walks_as (behind base (take (i + 1) suffixes)).aim (Ok next)
      (walks_then (λ a. suffix_step at x a) (Ok next) first second (λ symbols n. n) onward (λ symbols b n g h. h)) (λ m. one_step setting m before)

-- behind at least one suffix both targets are the same
pub aim_behind : (as_read : Reading) (base : Meaning) (suffixes : List Suffix) → 0 < length suffixes → aim_by as_read (behind base suffixes) ≡ (behind base suffixes).aim
aim_behind reading.Value base suffixes some = refl
aim_behind reading.Left base [] some = absurd (omega (arith, some))
aim_behind reading.Left base (suffix ∷ suffixes) some = one_aim base suffix suffixes

pub none_behind : (as_read : Reading) (base : Meaning) (suffixes : List Suffix) → length suffixes ≤ 0 → aim_by as_read (behind base suffixes) ≡ aim_by as_read base
none_behind as_read base [] none = refl
none_behind as_read base (suffix ∷ suffixes) none = absurd (omega (arith, none))

-- as a value in a reading
pub read_as : (as_read : Reading) (m : Meaning) → Readable m → (setting : Setting) (map : Map) (here : State)
    → walk_by as_read m setting map here ≡ (aim_by as_read m >>= (λ aim. read (is_left as_read) aim)) setting map here
read_as reading.Value m from = from.walk
read_as reading.Left m from = from.left
