use Rattle.std.proofs.Common.{◌≡◌, false, length, sym, ap, subst, ◌∙◌, rules}
use Rattle.std.specs.BTreeSet as sorted
use Rattle.hack_types.specs.declared.ids.SymbolId.{SymbolId}
use Rattle.hack_decls.specs.PlainMap.{symbol_order}
use Rattle.hack_fold.specs.inside.Walking.{NextName, ahead_of}
use Rattle.hack_fold.specs.Line.{is_in}
use Rattle.hack_fold.specs.ShallowMap.{shallows_of}
use Rattle.hack_fold.proofs.WalkLemmas.{Stands, begins_at, listed_more, turn}
use Rattle.hack_fold.proofs.walk.walk.Goals as goal

pub loop-next-init : goal.loop-next-init
loop-next-init c = record {
  stands = begins_at (shallows_of c.args.map.now) c.args.s.now c.new-names.result.items c.new-ahead.result.items c.new-names.ensures.items c.new-ahead.ensures.items;
  same = λ t. let none : sorted.contains symbol_order c.new-listed.result t ≡ false = search rules in none ∙ ap (λ l. is_in l t) (sym c.new-names.ensures.items);
}

pub loop-next-preserved : goal.loop-next-preserved
loop-next-preserved c =
    let shallows = shallows_of c.args.map.now in
    let s = c.args.s.now in
    let names = c.loop-next.names.items in
    let more = c.list.new.names.items in
    let ahead = ahead_of c.loop-next.ahead.items in
    let pushed = ahead_of c.push_parents.new.ahead.items in
    let left = ahead_of c.next_name.new.ahead.items in
    let p = λ (t : SymbolId). sorted.contains symbol_order c.list.new.listed t in
    let same : (t : SymbolId) → p t ≡ is_in more t = λ t.
    listed_more names c.in-Some.name t (sorted.contains symbol_order c.loop-next.listed t) (p t) (c.in_ok-list.ensures.listed.0 t) (c.loop-next.invariant.same t)
    ∙ ap (λ l. is_in l t) (sym c.in_ok-list.ensures.names) in
    let count : c.len.result ≡ length more = c.len.ensures ∙ c.list.new.names.ok.0 in
    let stands : Stands shallows s names ahead c.loop-next.next = c.loop-next.invariant.stands in
    record {
      stands = turn shallows s names ahead c.in-Some.name (subst (Stands shallows s names ahead) c.in-Some.is stands) more pushed c.in_ok-list.ensures.names c.in_ok-push_parents.ensures
          p same c.in_ok-next.next left (subst (λ n. NextName n p pushed c.in_ok-next.next left) count c.in_ok-next.ensures);
      same = same;
    }
