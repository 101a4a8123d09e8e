use Rattle.std.proofs.Common.{true, false}
use Rattle.hack_rules.specs.Walks.{◌>>=◌, reads}
use Rattle.hack_rules.specs.WrittenTypes.{class_mention, mention, names_of, used_trait, written, written_class}
use Rattle.hack_written.proofs.SmallTypes.{whole_is_small}
use Rattle.hack_written.proofs.laws.types_are_small.Goals as goal

pub returns : goal.returns
unfolding written written_class used_trait ◌>>=◌ reads
returns c = record {
  written = λ ty setting map state. let m = mention (names_of setting.scope) ty in whole_is_small m.at m.ty m.checks setting map state;
  class = λ ty setting map state. let m = class_mention (names_of setting.scope) ty in whole_is_small m.at m.ty (m.checks false) setting map state;
  used = λ ty setting map state. let m = class_mention (names_of setting.scope) ty in whole_is_small m.at m.ty (m.checks true) setting map state;
}
