use Rattle.std.proofs.Common.{◌≡◌, Global, Vec, sym, ap, subst}
use Rattle.hack_types.specs.MembersRise.{MembersRise}
use Rattle.hack_types.specs.declared.shallow.Member.{Member}
use Rattle.hack_fold.proofs.MemberLaws.{merged_rise}
use Rattle.hack_fold.proofs.inherit.Inherited.take_class.Goals as goal

pub returns-clause-sound : goal.returns-clause-sound
returns-clause-sound c =
    let own : c.args.self.now.members.items ≡ c.replace-own.result.items = sym (ap (λ (v : Vec Member Global). v.items) c.replace-own.ensures.value) in
    record {
      named = c.in_ok-add.ensures.named;
      rise = subst MembersRise (sym c.in_ok-self.ensures.members)
          (merged_rise c.replace-own.result.items c.in_ok-inherited.inherited.items (subst MembersRise own c.requires.rise));
    }
