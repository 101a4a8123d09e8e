use Rattle.std.proofs.Common.{◌∙◌, All, List, length, ap, refl, subst, sym}
use Rattle.hack_types.specs.declared.hack_type.HackType.{HackType}
use Rattle.hack_types.specs.declared.signature.TypeParam.{TypeParam}
use Rattle.hack_decls.specs.AskLaws.{unasked}
use Rattle.hack_decls.specs.Names.{TypeIn}
use Rattle.hack_calls.proofs.Naming.{none}
use Rattle.hack_calls.proofs.Solving.{none_solved}
use Rattle.hack_calls.proofs.matching.solved_types.Goals as goal

pub returns-then-is_empty : goal.returns-then-is_empty
returns-then-is_empty g c =
    unasked _ c.new.result (λ map. c.new.ensures.items ∙ sym (none_solved map c.args.signature.now c.args.given.now (ap (λ (params : List TypeParam). length params) (c.if-is_empty.ensures.0 refl))))
    (λ symbols n. subst (λ (types : List HackType). All (TypeIn symbols) types) (sym c.new.ensures.items) (none symbols (TypeIn symbols)))
