use Rattle.std.proofs.Common.{◌≡◌, ◌∙◌, ◌==◌, ℕ, Bool, List, length, map, not, refl, sym, ap, if◌then◌else◌}
use Rattle.hack_tree.specs.declared.written_type.WrittenType.{WrittenType}
use Rattle.hack_types.specs.Substituted.{limited}
use Rattle.hack_types.specs.declared.hack_type.HackType.{HackType}
use Rattle.hack_diag.specs.Messages.{other_arguments}
use Rattle.hack_rules.specs.Walks.{State, report, pure}
use Rattle.hack_rules.specs.WrittenTypes as rules
use Rattle.hack_rules.specs.WrittenTypes.{Argument, argument_of, expect_arguments}
use Rattle.hack_written.specs.Reported.{reported}
use Rattle.hack_written.specs.Within.{arguments_of}
use Rattle.hack_written.specs.inside.Rows.{mentions, names_in, setting_in}
use Rattle.hack_written.proofs.Puts.{limited_arguments, mention_count}
use Rattle.hack_written.proofs.Walking.{done, walked, walks_as}
use Rattle.hack_written.proofs.arguments.count_arguments.Goals as goal

pub returns-then-not-is_right_number : goal.returns-then-not-is_right_number
unfolding rules.count_arguments report
returns-then-not-is_right_number g c =
    let around = c.args.around.now in let names = names_in around in let class = c.args.class.now in let params = c.args.params.now in
    let setting = setting_in around in let s = c.args.state.now in let ms = mentions names class.arguments in
    let says = other_arguments class.name (length params) (length ms) in
    let last = c.report_number.new.state in
    let is : last ≡ reported setting class.at says s = c.in_ok-report_number.ensures ∙ ap (λ (n : ℕ). reported setting class.at (other_arguments class.name (length params) n) s) (mention_count names class.arguments) in
    walked _ _ s last tt
    (λ m. ap (λ (b : Bool). (if not b then report class.at says else (if around.bounds then expect_arguments params (map argument_of ms) else pure tt)) setting m s)
    (sym (ap (λ (n : ℕ). length params == n) (mention_count names class.arguments)) ∙ sym c.is_right_number.ensures ∙ c.if-not-is_right_number.true)
    ∙ done (reported setting class.at says s) last is)
    (ap (λ (t : State). t.variables) is) (λ symbols n. tt)

pub returns-then-not-bounds : goal.returns-then-not-bounds
unfolding rules.count_arguments pure
returns-then-not-bounds g c =
    let around = c.args.around.now in let names = names_in around in let class = c.args.class.now in let params = c.args.params.now in
    let setting = setting_in around in let s = c.args.state.now in let ms = mentions names class.arguments in
    let says = other_arguments class.name (length params) (length ms) in
    walked _ _ s s tt
    (λ m. ap (λ (b : Bool). (if not b then report class.at says else (if around.bounds then expect_arguments params (map argument_of ms) else pure tt)) setting m s)
    (sym (ap (λ (n : ℕ). length params == n) (mention_count names class.arguments)) ∙ sym c.is_right_number.ensures ∙ c.if-not-is_right_number.false)
    ∙ ap (λ (b : Bool). (if b then expect_arguments params (map argument_of ms) else pure tt) setting m s) c.if-not-bounds.true)
    refl (λ symbols n. tt)

pub returns : goal.returns
unfolding rules.count_arguments
returns g c =
    let around = c.args.around.now in let names = names_in around in let class = c.args.class.now in let params = c.args.params.now in
    let setting = setting_in around in let s = c.args.state.now in let ms = mentions names class.arguments in
    let says = other_arguments class.name (length params) (length ms) in
    let own : c.as_slice.result.now ≡ class.arguments = c.as_slice.ensures in
    walks_as _ c.expect_limited.result c.expect_limited.ensures
    (λ m. ap (λ (b : Bool). (if not b then report class.at says else (if around.bounds then expect_arguments params (map argument_of ms) else pure tt)) setting m s)
    (sym (ap (λ (n : ℕ). length params == n) (mention_count names class.arguments)) ∙ sym c.is_right_number.ensures ∙ c.if-not-is_right_number.false)
    ∙ ap (λ (b : Bool). (if b then expect_arguments params (map argument_of ms) else pure tt) setting m s) c.if-not-bounds.false
    ∙ ap (λ (as_ : List Argument). expect_arguments params as_ setting m s) (limited_arguments names class.arguments
    ∙ ap (λ (ts : List HackType). arguments_of class.arguments (map limited ts)) (sym c.requires)
    ∙ ap (λ (ws : List WrittenType). arguments_of ws (map limited c.args.types.now)) (sym own)))
    (λ symbols n. n) (λ symbols a n w. tt)
