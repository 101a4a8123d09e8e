use Rattle.std.proofs.Common.{rules}
use Rattle.hack_shallow.proofs.PutFirst.{put_first}
use Rattle.hack_shallow.proofs.scope.put_first.Goals as goal

pub returns-in_ok-insert : goal.returns-in_ok-insert
returns-in_ok-insert c = λ query. put_first c.args.name c.args.index query _ _ (c.in_ok-insert.ensures.updates.0 query) (λ same. search rules)
