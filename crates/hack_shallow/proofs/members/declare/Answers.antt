use Rattle.std.proofs.Common.{rules, ◌≡◌, ◌∙◌, ap, sym, subst, is_none}
use Rattle.hack_types.specs.declared.shallow.MemberKind.TheVariants as kind
use Rattle.hack_shallow.specs.Members.{declared, member_with, method_scope, missing_result, promoted}
use Rattle.hack_shallow.specs.Scope.{Scope, names_of}
use Rattle.hack_shallow.specs.Scopes.{scope_of}
use Rattle.hack_shallow.specs.Signatures.{signature}
use Rattle.hack_shallow.specs.MemberTables.{Puts, owner_of}
use Rattle.hack_shallow.proofs.PutMembers.{puts_then}
use Rattle.hack_shallow.proofs.members.declare.Goals as goal

pub returns-in_ok-promote-in-Method : goal.returns-in_ok-promote-in-Method
returns-in_ok-promote-in-Method c =
    let owner = owner_of c.args.owner.now in
    let callable = c.in-Method.callable in
    let own : c.in_ok-function-in-Method.function ≡ names_of callable.type_parameters = c.in_ok-function-in-Method.ensures ∙ ap names_of c.as_slice-in-Method.ensures in
    let scope : scope_of c.method_scope-scope.result ≡ method_scope owner callable =
    λ i. record { class = (c.method_scope-scope.ensures.class i).now; function = (ap (λ b. b.now) c.method_scope-scope.ensures.function ∙ own) i } in
    let member : c.member-in-Method.result ≡ member_with owner (kind.Method (signature (method_scope owner callable) (missing_result callable.name.name) callable)) callable.name.name c.in-Method.modifiers (is_none c.in-Method.body) = search (rules, scope) in
    subst (λ t. Puts c.args.table.now (declared owner t) c.promote.new.table) (sym c.in-Method.is)
    (puts_then c.args.table.now c.put-in-Method.new.table c.promote.new.table c.member-in-Method.result _ (promoted owner callable) member c.in_ok-put-in-Method.ensures c.in_ok-promote-in-Method.ensures)
