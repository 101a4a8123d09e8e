-- What members give names what they and their head name.
use Rattle.std.proofs.Common.{[], All}
use Rattle.std.proofs.lemmas.List.Elements.{All-head}
use Rattle.hack_decls.specs.DeclState.{Symbols}
use Rattle.hack_decls.specs.Names.{TypeIn, types_of_kind}
use Rattle.hack_infer.specs.Filling.{Filling, filled_limited}
use Rattle.hack_rules.specs.Members.{type_by}
use Rattle.hack_sub.specs.NamesPut.{of_any}
use Rattle.hack_types.specs.declared.shallow.MemberKind.{MemberKind}
use Rattle.hack_types.specs.declared.shallow.MemberKind.TheVariants as kind
use Rattle.hack_written.specs.NamesFilled.{FillingIn, in_filled_limited}

module _ (symbols : Symbols) where
  in_type_by : (k : MemberKind) → All (TypeIn symbols) (types_of_kind k) → TypeIn symbols (type_by k)
  in_type_by (kind.Constant ty) all = All-head (TypeIn symbols) ty [] all
  in_type_by (kind.Property ty) all = All-head (TypeIn symbols) ty [] all
  in_type_by (kind.Method signature) all = of_any symbols

  pub in_typed : (filling : Filling) (k : MemberKind) → All (TypeIn symbols) (types_of_kind k) → FillingIn symbols filling → TypeIn symbols (filled_limited filling (type_by k))
  in_typed filling k all given = in_filled_limited symbols filling given (type_by k) (in_type_by k all)
