use Rattle.std.proofs.Common.{◌≡◌, ◌∙◌, nat_le, sym, ap, subst}
use Rattle.hack_types.specs.Substituted.{most_nodes}
use Rattle.hack_types.specs.TypeNodes.{nodes}
use Rattle.hack_types.specs.declared.hack_type.HackType.{HackType}
use Rattle.hack_types.specs.declared.place.Place.{Place}
use Rattle.hack_decls.specs.Names.{TypeIn}
use Rattle.hack_rules.specs.WrittenTypes.{mention, whole}
use Rattle.hack_shallow.specs.Scopes.{scope_of}
use Rattle.hack_walk.specs.Checks.{setting_of}
use Rattle.hack_written.proofs.Mentions.{place}
use Rattle.hack_written.proofs.Puts.{in_limited}
use Rattle.hack_written.proofs.Walking.{walks_on}
use Rattle.hack_written.proofs.WholeTypes.{found_is, same_variables, whole_is}
use Rattle.hack_written.proofs.whole.whole_type.Goals as goal

pub returns : goal.returns
returns g c =
    let names = scope_of c.args.names.now in let w = c.args.ty.now in let setting = setting_of c.args.setting.now in
    let m = mention names w in let s = c.args.state.now in let mid = c.checked.new.state in let last = c.finished.new.state in
    let at : m.at ≡ c.place_of.result = place names w ∙ sym c.place_of.ensures in
    walks_on _ _ last c.in_ok-found.ensures
    (λ map is. ap (λ (p : Place). whole p m.ty m.checks setting map s) at
    ∙ whole_is c.place_of.result m.ty m.checks c.in_ok-bounds.bounds c.in_ok-found.found _ setting map s mid last c.in_ok-bounds.ensures is c.in_ok-finished.ensures.answer c.in_ok-finished.ensures.state)
    (same_variables c.in_ok-bounds.bounds setting c.place_of.result mid last c.in_ok-finished.ensures.state)
    (λ symbols n. n) (λ symbols n v. subst (TypeIn symbols) (sym c.in_ok-finished.ensures.answer) (in_limited symbols c.in_ok-found.found v))

pub finished-requires : goal.finished-requires
finished-requires g c =
    let names = scope_of c.args.names.now in let w = c.args.ty.now in let setting = setting_of c.args.setting.now in
    let m = mention names w in
    let found : c.in_ok-found.found ≡ m.ty = found_is (m.checks c.in_ok-bounds.bounds) m.ty c.in_ok-found.found setting c.args.state.now c.checked.new.state c.in_ok-found.ensures.asks in
    c.in_ok-bounds.ensures ∙ ap (λ (t : HackType). nat_le (nodes t) most_nodes) (sym found)
