-- A type with arguments put in, by whether it is too large, and what it names.
use Rattle.std.proofs.Common.{◌≡◌, ◌<◌, ◌≤◌, ◌∙◌, Bool, true, false, cond, nat_le, List, [], ◌∷◌, All, map, sym, ap, le-leb, arith}
use Rattle.std.proofs.lemmas.List.Elements.{All-cons, All-head, All-tail}
use borrow.Author.Tests.{lt-leb}
use Rattle.hack_types.specs.Substituted.{limited, most_nodes, substitute}
use Rattle.hack_types.specs.TypeNodes.{nodes}
use Rattle.hack_types.specs.declared.hack_type.HackType.{HackType}
use Rattle.hack_types.specs.declared.hack_type.HackType.TheVariants.{Any}
use Rattle.hack_decls.specs.DeclState.{Symbols}
use Rattle.hack_decls.specs.Names.{TypeIn}
use Rattle.hack_sub.specs.NamesPut.{in_put, of_any}
use Rattle.hack_infer.specs.Seeing.{put_in}

pub put_whole : (arguments : List HackType) (type put : HackType) → (put ≡ substitute arguments type) × (nodes (substitute arguments type) ≤ most_nodes) → put ≡ put_in arguments type
put_whole arguments type put is =
    let whole = substitute arguments type in
    is.0 ∙ sym (ap (λ b. cond b whole Any) (le-leb (nodes whole) most_nodes is.1))

pub put_any : (arguments : List HackType) (type : HackType) → most_nodes < nodes (substitute arguments type) → Any ≡ put_in arguments type
put_any arguments type large =
    let whole = substitute arguments type in
    sym (ap (λ b. cond b whole Any) (lt-leb (nodes whole) most_nodes large))

module _ (symbols : Symbols) where
  by_size : (b : Bool) (ty : HackType) → TypeIn symbols ty → TypeIn symbols (cond b ty Any)
  by_size true ty here = here
  by_size false ty here = of_any symbols

  pub in_limited : (ty : HackType) → TypeIn symbols ty → TypeIn symbols (limited ty)
  in_limited ty here = by_size (nat_le (nodes ty) most_nodes) ty here

  module _ (arguments : List HackType) (given : All (TypeIn symbols) arguments) where
    pub in_put_in : (ty : HackType) → TypeIn symbols ty → TypeIn symbols (put_in arguments ty)
    in_put_in ty here = in_limited (substitute arguments ty) (in_put symbols arguments given ty here)

    pub in_put_each : (types : List HackType) → All (TypeIn symbols) types → All (TypeIn symbols) (map (put_in arguments) types)
    in_put_each [] all = λ k d lt. absurd (omega (arith, lt))
    in_put_each (ty ∷ types) all = All-cons (TypeIn symbols) (put_in arguments ty) (map (put_in arguments) types)
        (in_put_in ty (All-head (TypeIn symbols) ty types all)) (in_put_each types (All-tail (TypeIn symbols) ty types all))
