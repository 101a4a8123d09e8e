use Rattle.std.proofs.Common.{◌≡◌, ◌∙◌, nat_cmp, ap, option_copied}
use Rattle.std.specs.BTreeMap.{is_at}
use Rattle.std.specs.Map.{lookup}
use Rattle.hack_rules.specs.Variables.{Variables, type_in}
use Rattle.hack_walk.proofs.Environments.{looked_up}
use Rattle.hack_walk.proofs.variables.Variables.type_in.Goals as goal

pub returns : goal.returns
returns c =
    let entries : Variables = c.self.inside.types.entries in
    let name = c.args.name in
    let found : option_copied c.get.result ≡ lookup (is_at (nat_cmp name)) entries = c.get.ensures.value in
    found ∙ looked_up entries name ∙ ap (λ (es : Variables). type_in es name) c.self.view_is
