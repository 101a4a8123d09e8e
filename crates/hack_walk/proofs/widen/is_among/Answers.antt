use Rattle.std.proofs.Common.{◌≡◌, ◌∙◌, nat_cmp}
use Rattle.std.specs.BTreeMap.{is_at}
use Rattle.std.specs.List.{list_any}
use Rattle.hack_walk.proofs.Environments.{among}
use Rattle.hack_walk.proofs.widen.is_among.Goals as goal

pub returns : goal.returns
returns c =
    let names = c.args.names.now.keys in
    let found : c.contains.result ≡ list_any (is_at (nat_cmp c.args.name)) names = c.contains.ensures in
    found ∙ among names c.args.name
