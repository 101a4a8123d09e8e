use Rattle.std.proofs.Common.{Some, sym, ap, ◌∷◌, ◌∙◌}
use Rattle.hack_fold.specs.inside.Merging.{both_of}
use Rattle.hack_fold.proofs.MergeLemmas.{left_rises, takes_both}
use Rattle.hack_fold.proofs.merge.take_both.Goals as goal

pub returns-clause-takes : goal.returns-clause-takes
returns-clause-takes c =
    let first = c.args.first.now.items in
    let second = c.args.second.now.items in
    let left = c.pop.new.self.items in
    let rest = c.pop-2.new.self.items in
    takes_both first second left rest c.in_ok-own.own c.in-Some.other c.in_ok-own.ensures.items c.in-Some.ensures.items c.requires.tied c.requires.second_rises
    ∙ ap (λ m. m ∷ both_of left rest) (sym c.better_of.ensures)

pub returns-clause-first_rises : goal.returns-clause-first_rises
returns-clause-first_rises c = left_rises c.args.first.now.items c.pop.new.self.items (Some c.in_ok-own.own) c.in_ok-own.ensures.items c.requires.first_rises

pub returns-clause-second_rises : goal.returns-clause-second_rises
returns-clause-second_rises c = left_rises c.args.second.now.items c.pop-2.new.self.items (Some c.in-Some.other) c.in-Some.ensures.items c.requires.second_rises
