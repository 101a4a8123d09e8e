use Rattle.std.proofs.Common.{◌∙◌, ◌<◌, ◌-◌, All, Ok, length, sym, ap, subst, arith}
use Rattle.hack_calls.specs.Named.{or_self}
use Rattle.hack_decls.specs.AskLaws.{said}
use Rattle.hack_decls.specs.NameLaws.{in_option, in_union}
use Rattle.hack_decls.specs.Names.{TypeIn}
use Rattle.hack_rules.specs.Heads.{head_of}
use Rattle.hack_rules.specs.Members.{each_member, members_by, members_within, through_null}
use Rattle.hack_rules.specs.Walks.{Walk, ◌>>=◌, pure, reads}
use Rattle.hack_sub.specs.NamesPut.{in_option_of, in_union_of, of_any}
use Rattle.hack_types.specs.OptionOf.{option_of}
use Rattle.hack_types.specs.Substituted.{limited}
use Rattle.hack_types.specs.UnionOf.{union_of}
use Rattle.hack_types.specs.declared.hack_type.HackType.{HackType, out-HackType}
use Rattle.hack_types.specs.declared.hack_type.HackType.TheOpen.{HackType-F}
use Rattle.hack_types.specs.declared.hack_type.HackType.TheVariants.{Any}
use Rattle.hack_walk.specs.Checks.{setting_of}
use Rattle.hack_walk.specs.NamesKept.{in_limited}
use Rattle.hack_walk.specs.WalkLaws.{each_next, each_none, of_step, reads_walks, step_pure, walks_as, walks_next, walks_pure, walks_step, weaker}
use Rattle.hack_members.specs.Wanting.{SoughtIn, wanted_of}
use Rattle.hack_members.specs.inside.Rows.{by_head, inside_option}
use Rattle.hack_members.proofs.HeadForms.{out_any, out_nothing, out_null, out_option, out_union}
use Rattle.hack_members.proofs.Nulls.{reported, safe}
use Rattle.hack_members.proofs.Turning.{no_option, no_turn, one_option, one_turn}
use Rattle.hack_members.proofs.heads.+members.Goals as goal

pub members_within-returns-then-turns-eq0 : goal.members_within-returns-then-turns-eq0
members_within-returns-then-turns-eq0 g t c =
    let at = c.args.at in let wanted = wanted_of at c.args.wanted.now in
    walks_as (members_within c.args.turns at wanted c.args.options c.args.ty.now) (Ok Any) (walks_pure _ _ Any (λ symbols n. of_any symbols))
    (λ m. ap (λ (w : Walk HackType). w (setting_of c.args.setting.now) m c.args.state.now) (no_turn at wanted c.args.turns c.args.options c.args.ty.now (omega arith)))

pub members_within-returns : goal.members_within-returns
unfolding ◌>>=◌ reads
members_within-returns g t c =
    let at = c.args.at in let wanted = wanted_of at c.args.wanted.now in let ty = c.args.ty.now in let less = c.args.turns - 1 in
    walks_as (members_within c.args.turns at wanted c.args.options ty) c.by_head.result
    (reads_walks {Gives = TypeIn} {NamesB = λ symbols. TypeIn symbols ty × TypeIn symbols (or_self ty c.in_ok-head.head) × SoughtIn symbols c.args.wanted.now} (λ map scope. head_of map scope ty)
    (λ head. by_head less c.args.options at wanted ty head) c.by_head.result
    (said (or_self ty c.in_ok-head.head) c.in_ok-head.ensures (λ m e. e) (λ symbols n. n) (λ symbols n here. here))
    (rw (sym c.or_self.ensures) c.by_head.ensures) (λ symbols around n. (around, n.0)) (λ symbols n here. (n.0, here, n.1)) (λ symbols b n here h. h))
    (λ m. one_turn at wanted c.args.turns less c.args.options ty (omega arith) (setting_of c.args.setting.now) m c.args.state.now)

pub types_of_members-loop-member-init : goal.types_of_members-loop-member-init
types_of_members-loop-member-init g t c =
    rw c.new-types.ensures (each_none (members_within c.args.turns c.args.at (wanted_of c.args.at c.args.wanted.now) c.args.options) TypeIn _ _)

pub types_of_members-loop-member-preserved : goal.types_of_members-loop-member-preserved
types_of_members-loop-member-preserved g t c =
    let xs = c.args.members.now in let i = c.loop-member.member-index in
    let lt : i < length xs = c.loop-member-test.true in
    rw c.in_ok-push.ensures (each_next (members_within c.args.turns c.args.at (wanted_of c.args.at c.args.wanted.now) c.args.options) xs i _ lt c.member-item.is c.loop-member.invariant c.in_ok-ty.ensures
    (λ symbols n. (subst (TypeIn symbols) (sym c.member-item.is) (n.0 i _ lt), n.1)))

pub each_member-returns : goal.each_member-returns
unfolding each_member
each_member-returns g t c =
    let go = members_within c.args.turns c.args.at (wanted_of c.args.at c.args.wanted.now) c.args.options in let types = c.in_ok-types.types in
    rw c.in_ok-union_in_limits.ensures (walks_step (λ ts. pure (limited (union_of ts))) c.in_ok-types.ensures
    (step_pure _ (limited (union_of types)) (λ symbols n. in_limited symbols (union_of types) (in_union_of symbols types n.1))) (λ symbols n. n) (λ symbols b n g h. h))

pub of_option-returns : goal.of_option-returns
of_option-returns g t c =
    let at = c.args.at in let wanted = wanted_of at c.args.wanted.now in let inside = inside_option c.args.turns c.args.options at wanted c.args.inside.now in
    rw (reported at c.args.wanted.now.null_safe inside c.if-wanted.false)
    (walks_next inside c.inside_option-2.result (of_step _ c.in_ok-report_null.ensures) c.inside_option-2.ensures (λ symbols n. tt) (λ symbols n g. n) (λ symbols b n g h. h))

pub inside_option-returns-then-options-eq0 : goal.inside_option-returns-then-options-eq0
inside_option-returns-then-options-eq0 g t c =
    let at = c.args.at in let wanted = wanted_of at c.args.wanted.now in
    walks_as (inside_option c.args.turns c.args.options at wanted c.args.inside.now) (Ok Any) (walks_pure _ _ Any (λ symbols n. of_any symbols))
    (λ m. ap (λ (w : Walk HackType). w (setting_of c.args.setting.now) m c.args.state.now) (no_option at wanted c.args.turns c.args.options c.args.inside.now (omega arith)))

pub inside_option-returns : goal.inside_option-returns
inside_option-returns g t c =
    let at = c.args.at in let wanted = wanted_of at c.args.wanted.now in
    walks_as (inside_option c.args.turns c.args.options at wanted c.args.inside.now) c.members_within.result c.members_within.ensures
    (λ m. ap (λ (w : Walk HackType). w (setting_of c.args.setting.now) m c.args.state.now) (one_option at wanted c.args.turns c.args.options (c.args.options - 1) c.args.inside.now (omega arith)))

pub by_head-returns-in-Any : goal.by_head-returns-in-Any
by_head-returns-in-Any g t c =
    let at = c.args.at in let wanted = wanted_of at c.args.wanted.now in let receiver = c.args.receiver.now in let head = c.args.head.now in let go = members_within c.args.turns at wanted in
    walks_as (by_head c.args.turns c.args.options at wanted receiver head) (Ok Any) (walks_pure _ _ Any (λ symbols n. of_any symbols))
    (λ m. ap (λ (layer : HackType-F HackType). members_by go c.args.options at wanted receiver head layer (setting_of c.args.setting.now) m c.args.state.now) (ap out-HackType c.in-Any.is ∙ out_any))

pub by_head-returns-in-Nothing : goal.by_head-returns-in-Nothing
by_head-returns-in-Nothing g t c =
    let at = c.args.at in let wanted = wanted_of at c.args.wanted.now in let receiver = c.args.receiver.now in let head = c.args.head.now in let go = members_within c.args.turns at wanted in
    walks_as (by_head c.args.turns c.args.options at wanted receiver head) (Ok Any) (walks_pure _ _ Any (λ symbols n. of_any symbols))
    (λ m. ap (λ (layer : HackType-F HackType). members_by go c.args.options at wanted receiver head layer (setting_of c.args.setting.now) m c.args.state.now) (ap out-HackType c.in-Nothing.is ∙ out_nothing))

pub by_head-returns-in-Union : goal.by_head-returns-in-Union
by_head-returns-in-Union g t c =
    let at = c.args.at in let wanted = wanted_of at c.args.wanted.now in let receiver = c.args.receiver.now in let head = c.args.head.now in let go = members_within c.args.turns at wanted in
    let members = c.in-Union.members in
    walks_as {walk = each_member (go c.args.options) members} (by_head c.args.turns c.args.options at wanted receiver head) c.each_member.result
    (weaker {Names = λ symbols. All (TypeIn symbols) members × SoughtIn symbols c.args.wanted.now} c.each_member.result (rw (sym c.as_slice.ensures) c.each_member.ensures)
    (λ symbols n. (in_union symbols members (subst (TypeIn symbols) c.in-Union.is n.1), n.2)) (λ symbols b n h. h))
    (λ m. ap (λ (layer : HackType-F HackType). members_by go c.args.options at wanted receiver head layer (setting_of c.args.setting.now) m c.args.state.now) (ap out-HackType c.in-Union.is ∙ out_union members))

pub by_head-returns-in-Option : goal.by_head-returns-in-Option
by_head-returns-in-Option g t c =
    let at = c.args.at in let wanted = wanted_of at c.args.wanted.now in let receiver = c.args.receiver.now in let head = c.args.head.now in let go = members_within c.args.turns at wanted in
    let inside = c.in-Option.inside in
    walks_as {walk = through_null at c.args.wanted.now.null_safe (inside_option c.args.turns c.args.options at wanted inside)} (by_head c.args.turns c.args.options at wanted receiver head) c.of_option.result
    (weaker {Names = λ symbols. TypeIn symbols inside × SoughtIn symbols c.args.wanted.now} c.of_option.result (rw (sym c.get.ensures) c.of_option.ensures)
    (λ symbols n. (in_option symbols inside (subst (TypeIn symbols) c.in-Option.is n.1), n.2)) (λ symbols b n h. h))
    (λ m. ap (λ (layer : HackType-F HackType). members_by go c.args.options at wanted receiver head layer (setting_of c.args.setting.now) m c.args.state.now) (ap out-HackType c.in-Option.is ∙ out_option inside))

pub by_head-returns-in_ok-of_null-in-Null : goal.by_head-returns-in_ok-of_null-in-Null
by_head-returns-in_ok-of_null-in-Null g t c =
    let at = c.args.at in let wanted = wanted_of at c.args.wanted.now in let receiver = c.args.receiver.now in let head = c.args.head.now in let go = members_within c.args.turns at wanted in
    walks_as (by_head c.args.turns c.args.options at wanted receiver head) (Ok _) (weaker (Ok _) (of_step _ c.in_ok-of_null-in-Null.ensures) (λ symbols n. tt) (λ symbols b n h. h))
    (λ m. ap (λ (layer : HackType-F HackType). members_by go c.args.options at wanted receiver head layer (setting_of c.args.setting.now) m c.args.state.now) (ap out-HackType c.in-Null.is ∙ out_null))

pub of_option-returns-then-wanted : goal.of_option-returns-then-wanted
of_option-returns-then-wanted g t c =
    let at = c.args.at in let wanted = wanted_of at c.args.wanted.now in let inside = inside_option c.args.turns c.args.options at wanted c.args.inside.now in let ty = c.in_ok-ty.ty in
    rw (safe at c.args.wanted.now.null_safe inside c.if-wanted.true, c.in_ok-option_in_limits.ensures)
    (walks_step (λ found. pure (limited (option_of found))) c.in_ok-ty.ensures
    (step_pure _ (limited (option_of ty)) (λ symbols n. in_limited symbols (option_of ty) (in_option_of symbols ty n.1))) (λ symbols n. n) (λ symbols b n h k. k))
