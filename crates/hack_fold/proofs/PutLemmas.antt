-- A type with arguments put in, by whether it is too large.
use Rattle.std.proofs.Common.{◌≡◌, ◌<◌, ◌≤◌, cond, List, sym, ap, ◌∙◌, le-leb}
use borrow.Author.Tests.{lt-leb}
use Rattle.hack_types.specs.Substituted.{most_nodes, substitute}
use Rattle.hack_types.specs.TypeNodes.{nodes}
use Rattle.hack_types.specs.declared.hack_type.HackType.{HackType}
use Rattle.hack_types.specs.declared.hack_type.HackType.TheVariants.{Any}
use Rattle.hack_fold.specs.Paths.{put_in}

pub put_whole : (arguments : List HackType) (type put : HackType) → (put ≡ substitute arguments type) × (nodes (substitute arguments type) ≤ most_nodes) → put ≡ put_in arguments type
unfolding put_in
put_whole arguments type put is =
    let whole = substitute arguments type in
    is.0 ∙ sym (ap (λ b. cond b whole Any) (le-leb (nodes whole) most_nodes is.1))

pub put_any : (arguments : List HackType) (type : HackType) → most_nodes < nodes (substitute arguments type) → Any ≡ put_in arguments type
unfolding put_in
put_any arguments type large =
    let whole = substitute arguments type in
    sym (ap (λ b. cond b whole Any) (lt-leb (nodes whole) most_nodes large))
