use Rattle.std.proofs.Common.{◌≡◌, arith, ap, sym, length, inl, inr, subst, true, refl}
use Rattle.std.specs.Prelude.{Contains}
use Rattle.std.specs.List.{list_any}
use Rattle.std.specs.Str.{bytes_eq}
use Rattle.hack_types.specs.NamesInside.{texts}
use Rattle.hack_types.proofs.NameLemmas.{absent-Contains, found_any}
use Rattle.hack_types.proofs.names.Names.intern.Goals as goal

pub add-requires-clause-room : goal.add-requires-clause-room
add-requires-clause-room c =
    let names = texts c.self.inside.added.keys in
    let same : length names ≡ length c.args.self.now = ap length c.self.view_is in
    elim c.requires [
      | inl room ↦ omega (arith, room, same)
      | inr there ↦ absurd (absent-Contains names c.args.text.now c.in-None.ensures.none (subst (λ ns. Contains ns c.args.text.now) (sym c.self.view_is) there))
    ]

pub returns-in-Some-clause-names : goal.returns-in-Some-clause-names
returns-in-Some-clause-names c =
    let there : list_any (bytes_eq c.args.text.now) c.args.self.now ≡ true =
    subst (λ ns. list_any (bytes_eq c.args.text.now) ns ≡ true) c.self.view_is
    (found_any (texts c.self.inside.added.keys) c.args.text.now c.in-Some.id c.in-Some.ensures.found) in
    rw there refl
