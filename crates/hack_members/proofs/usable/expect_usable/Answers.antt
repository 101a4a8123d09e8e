use Rattle.std.proofs.Common.{Ok}
use Rattle.hack_diag.specs.Messages.{against_static, not_visible}
use Rattle.hack_rules.specs.Members.{expect_usable, fits_static, is_visible}
use Rattle.hack_rules.specs.Walks.{◌>>◌, unless}
use Rattle.hack_walk.specs.WalkLaws.{of_step, reads_walks, walks_next}
use Rattle.hack_members.specs.Wanting.{static_of}
use Rattle.hack_members.proofs.usable.expect_usable.Goals as goal

pub returns : goal.returns
unfolding expect_usable
returns g c =
    let at = c.args.at in let member = c.args.member.now in let fits = unless (fits_static (static_of c.args.use_) member.is_static) at (against_static member.name) in
    reads_walks (λ map scope. is_visible map scope member) (λ visible. unless visible at (not_visible member.name member.origin) >> fits) (Ok tt) c.in_ok-visible.ensures
    (walks_next fits (Ok tt) (of_step _ c.in_ok-unless_visible.ensures) (of_step _ c.in_ok-unless_fits.ensures) (λ symbols n. n) (λ symbols n g. n) (λ symbols b n g h. h))
    (λ symbols around n. around) (λ symbols n g. n) (λ symbols b n g h. h)
