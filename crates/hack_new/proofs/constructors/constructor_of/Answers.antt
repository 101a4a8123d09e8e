use Rattle.std.proofs.Common.{◌∙◌, subst, sym}
use Rattle.hack_decls.specs.AskLaws.{looked_names, said}
use Rattle.hack_decls.specs.Names.{class_symbol}
use Rattle.hack_new.specs.inside.Rows.{ConstructorIn, found_by}
use Rattle.hack_new.proofs.Constructing.{found_law, in_constructor}
use Rattle.hack_new.proofs.constructors.constructor_of.Goals as goal

pub returns : goal.returns
returns g c =
    let is = c.constructor_in.ensures in let found = c.in_ok-found.found in
    said c.constructor_in.result
    (looked_names found (λ symbols h. ConstructorIn symbols (found_by h)) (λ symbols all e. in_constructor symbols _ found c.new.result all c.new.ensures e) c.in_ok-found.ensures)
    (λ map e. is ∙ found_law (map (class_symbol c.args.name)) found c.new.result c.new.ensures e) (λ symbols n. n)
    (λ symbols n w. subst (ConstructorIn symbols) (sym is) w)
