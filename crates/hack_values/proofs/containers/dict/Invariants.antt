use Rattle.std.proofs.Common.{Ok, All, take}
use Rattle.hack_parts.specs.ExprIn.{EntryIn}
use Rattle.hack_walk.specs.Checks.{Walks, setting_of}
use Rattle.hack_values.proofs.Entries.{BothIn, types_in}
use Rattle.hack_values.proofs.containers.dict.Given as goal

abbrev pub invariant-loop-entry : goal.invariant-loop-entry
invariant-loop-entry g l =
    Walks (types_in (take l.entry-index l.entries)) (setting_of l.setting) (g.D.Decls.state l.initial.decls) l.initial.state (Ok (l.keys, l.values)) (g.D.Decls.state l.decls) l.state
    (λ symbols. All (EntryIn l.setting.scope.now symbols) l.entries) BothIn
