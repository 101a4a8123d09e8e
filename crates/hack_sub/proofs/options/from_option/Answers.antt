use Rattle.std.proofs.Common.{◌&&◌}
use Rattle.hack_types.specs.declared.hack_type.HackType.TheVariants as type
use Rattle.hack_sub.specs.NamesOf.{in_option, of_null}
use Rattle.hack_sub.proofs.Tells.{told_under}
use Rattle.hack_sub.specs.IsBelow.{is_below}
use Rattle.hack_sub.specs.Parts.{option_inside}
use Rattle.hack_sub.proofs.options.from_option.Goals as goal

pub returns-in-Some : goal.returns-in-Some
returns-in-Some g c = let S = c.args.lower.now in let T = c.args.upper.now in let U = c.in-Some.inside.now in
    told_under (λ map U. is_below map c.args.level.now.scope.now c.args.level.now.height type.Null T && is_below map c.args.level.now.scope.now c.args.level.now.height U T) (option_inside S) U c.in-Some.ensures c.both.result c.both.ensures
    (λ symbols n. record {
      around = n.around;
      lower = of_null symbols;
      upper = n.upper;
      next_lower = in_option symbols S U c.in-Some.ensures n.lower;
      next_upper = n.upper;
    })
