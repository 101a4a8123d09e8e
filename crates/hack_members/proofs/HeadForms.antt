-- Types of each form that members are told apart by, opened.
use Rattle.std.proofs.Common.{◌≡◌, ◌∙◌, List, sym, ap}
use Rattle.hack_types.specs.declared.hack_type.HackType.{HackType, out-HackType}
use Rattle.hack_types.specs.declared.hack_type.HackType.TheOpen.{HackType-F}
use Rattle.hack_types.specs.declared.hack_type.HackType.TheVariants as type
use Rattle.hack_types.specs.declared.hack_type.HackType.TheViews.{out-roll-HackType}

abbrev Layer : Type 0
Layer = HackType-F HackType

pub out_any : ◌≡◌ {A = Layer} (out-HackType type.Any) HackType-F.Any
out_any = ap out-HackType (sym type.rolls-Any) ∙ out-roll-HackType HackType-F.Any

pub out_nothing : ◌≡◌ {A = Layer} (out-HackType type.Nothing) HackType-F.Nothing
out_nothing = ap out-HackType (sym type.rolls-Nothing) ∙ out-roll-HackType HackType-F.Nothing

pub out_null : ◌≡◌ {A = Layer} (out-HackType type.Null) HackType-F.Null
out_null = ap out-HackType (sym type.rolls-Null) ∙ out-roll-HackType HackType-F.Null

pub out_union : (members : List HackType) → ◌≡◌ {A = Layer} (out-HackType (type.Union members)) (HackType-F.Union members)
out_union members = ap out-HackType (sym (type.rolls-Union members)) ∙ out-roll-HackType (HackType-F.Union members)

pub out_option : (inside : HackType) → ◌≡◌ {A = Layer} (out-HackType (type.Option inside)) (HackType-F.Option inside)
out_option inside = ap out-HackType (sym (type.rolls-Option inside)) ∙ out-roll-HackType (HackType-F.Option inside)
