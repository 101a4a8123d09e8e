use Rattle.std.proofs.Common.{◌≡◌, List, Bor, Vec, ◌++◌, ◌∷◌, [], length, map, take, sym, ap, ◌∙◌, arith}
use Rattle.std.proofs.lemmas.List.{length-map, map_push}
use Rattle.std.specs.List.{list_any}
use Rattle.std.specs.Global.{Global}
use Rattle.hack_types.specs.SameType.{same_type}
use Rattle.hack_types.specs.UnionOf.{once}
use Rattle.hack_types.specs.declared.hack_type.HackType.{HackType}
use Rattle.hack_types.proofs.UnionLemmas.{once_more, read, with_part_full, with_part_known, with_part_new}
use Rattle.hack_types.proofs.type_union.first_members.Goals as goal
use Rattle.hack_types.proofs.type_union.first_members.Goals.{then-len-le-MOST_MEMBERS+then-not-stands_in+in_ok-push, else-len-le-MOST_MEMBERS, else-len-le-MOST_MEMBERS-via-then-len-le-MOST_MEMBERS+else-not-stands_in, else-len-le-MOST_MEMBERS-via-else-len-le-MOST_MEMBERS}

pub loop-part-init : goal.loop-part-init
unfolding once
loop-part-init c = ap (map read) c.new-members.ensures.items

pub loop-part-preserved : goal.loop-part-preserved
loop-part-preserved c =
    let parts = take c.loop-part.part-index (map read c.args.parts.now) in
    let type = c.part-item.result in
    let more = ap (take 9) (once_more c.args.parts.now c.loop-part.part-index type c.loop-part-test.true c.part-item.is) in
    let long : length (take 9 (once parts)) ≡ length c.loop-part.members.items = ap length (sym c.loop-part.invariant) ∙ length-map c.loop-part.members.items read in
    let asked : (slice : List (Bor HackType)) → slice ≡ c.loop-part.members.items → list_any (same_type type.now) (take 9 (once parts)) ≡ list_any (same_type type.now) (map read slice) =
    λ slice is. ap (list_any (same_type type.now)) (sym c.loop-part.invariant ∙ ap (map read) (sym is)) in
    elim c.if-len-le-MOST_MEMBERS.branch [
      | then-len-le-MOST_MEMBERS+then-not-stands_in+in_ok-push w ↦
          ap (λ (m : Vec (Bor HackType) Global). map read m.items) w.members-is
          ∙ ap (map read) w.in_ok-push.ensures.items
          ∙ map_push read c.loop-part.members.items type
          ∙ ap (λ l. l ++ type.now ∷ []) c.loop-part.invariant
          ∙ sym (more ∙ with_part_new (once parts) type.now (omega (arith, long, c.len.ensures, w.if-len-le-MOST_MEMBERS.true)) (asked w.as_slice.result.now w.as_slice.ensures.value ∙ sym w.stands_in.ensures ∙ w.if-not-stands_in.true))
      | else-len-le-MOST_MEMBERS w ↦
          ap (λ (m : Vec (Bor HackType) Global). map read m.items) w.members-is ∙ c.loop-part.invariant
          ∙ sym (more ∙ elim w.else-len-le-MOST_MEMBERS.branch [
            | else-len-le-MOST_MEMBERS-via-then-len-le-MOST_MEMBERS+else-not-stands_in v ↦
                with_part_known (once parts) type.now (omega (arith, long, c.len.ensures, v.if-len-le-MOST_MEMBERS.true)) (asked v.as_slice.result.now v.as_slice.ensures.value ∙ sym v.stands_in.ensures ∙ v.if-not-stands_in.false)
            | else-len-le-MOST_MEMBERS-via-else-len-le-MOST_MEMBERS v ↦ with_part_full (once parts) type.now (omega (arith, long, c.len.ensures, v.if-len-le-MOST_MEMBERS.false))
          ])
    ]
