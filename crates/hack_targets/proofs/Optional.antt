-- The cases of a field that may be missing.
use Rattle.std.proofs.Common.{◌≡◌, Bool, true, false, Ok, refl}
use Rattle.hack_decls.specs.Asks.{Nothing}
use Rattle.hack_decls.specs.Names.{TypeIn}
use Rattle.hack_diag.specs.Messages.{field_may_miss}
use Rattle.hack_rules.specs.Indices.{optional_field}
use Rattle.hack_rules.specs.Walks.{Setting, State, ◌>>◌, pure, report}
use Rattle.hack_types.specs.OptionOf.{option_of}
use Rattle.hack_types.specs.Substituted.{limited}
use Rattle.hack_types.specs.declared.fields.Field.{Field}
use Rattle.hack_types.specs.declared.hack_type.HackType.{HackType}
use Rattle.hack_types.specs.declared.place.Place.{Place}
use Rattle.hack_walk.specs.Checks.{Steps}
use Rattle.hack_walk.specs.WalkLaws.{step_pure, step_step}

-- it is there
pub optional_there : (at : Place) (left : Bool) (field : Field HackType) (b : Bool) → b ≡ false → optional_field at left field b ≡ pure field.ty
optional_there at true field false e = refl
optional_there at false field false e = refl
optional_there at left field true e = absurd cc

-- it may be missing, and nobody minds
pub optional_left : (at : Place) (left : Bool) (field : Field HackType) (b : Bool) → b ≡ true → left ≡ true → optional_field at left field b ≡ pure (limited (option_of field.ty))
optional_left at true field true e f = refl
optional_left at false field true e f = absurd cc
optional_left at left field false e f = absurd cc

-- it may be missing
pub optional_missing : (at : Place) (left : Bool) (field : Field HackType) (b : Bool) → b ≡ true → left ≡ false
    → optional_field at left field b ≡ (report at (field_may_miss field.key) >> pure field.ty)
optional_missing at false field true e f = refl
optional_missing at true field true e f = absurd cc
optional_missing at left field false e f = absurd cc

pub missing_walk : {setting : Setting} {before behind : State} (at : Place) (field : Field HackType)
    → Steps (report at (field_may_miss field.key)) setting before (Ok tt) behind (λ symbols. Unit {0}) Nothing
    → Steps (report at (field_may_miss field.key) >> pure field.ty) setting before (Ok field.ty) behind (λ symbols. TypeIn symbols field.ty) TypeIn
unfolding ◌>>◌
missing_walk {behind = behind} at field first =
    step_step (λ _. pure field.ty) first (step_pure {Gives = TypeIn} behind field.ty (λ symbols n. n.0)) (λ symbols n. tt) (λ symbols n g h. h)
