use Rattle.std.proofs.Common.{◌≡◌, ◌++◌, ◌∷◌, [], refl, ap, sym, subst, ◌∙◌, append_assoc}
use Rattle.std.specs.Prelude.{codes}
use Rattle.std.specs.Fmt.{decimal}
use Rattle.hack_base.specs.Script.{newline}
use Rattle.script_text.specs.Replies.{reply_text}
use Rattle.script_text.proofs.reply.reply_text.Goals as goal

-- ` cancelled` and LF
end : 32 ∷ 99 ∷ 97 ∷ 110 ∷ 99 ∷ 101 ∷ 108 ∷ 108 ∷ 101 ∷ 100 ∷ 10 ∷ [] ≡ codes " cancelled" ++ newline
end = refl

pub returns-in_ok-text-in-Cancelled : goal.returns-in_ok-text-in-Cancelled
returns-in_ok-text-in-Cancelled c =
    let bytes : c.into_bytes-in-Cancelled.result.items ≡ codes "check " ++ decimal c.in-Cancelled.number ++ codes " cancelled" ++ newline =
    ap (λ v. v.items) c.into_bytes-in-Cancelled.ensures.value ∙ c.in_ok-text-in-Cancelled.ensures.ok ∙ ap (λ l. codes "check " ++ decimal c.in-Cancelled.number ++ l) end
    ∙ sym (append_assoc (codes "check " ++ decimal c.in-Cancelled.number) (codes " cancelled") newline) in
    subst (λ reply. c.into_bytes-in-Cancelled.result.items ≡ reply_text reply) (sym c.in-Cancelled.is) bytes
