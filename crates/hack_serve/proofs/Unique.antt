-- Files have one report, and a script has one answer.
use Rattle.std.proofs.Common.{◌≡◌, ◌⊎◌, ℕ, zero, suc, ◌+◌, ◌<◌, List, [], ◌∷◌, ◌++◌, length, get_or, refl, sym, ap, ◌∙◌, subst, arith, inl, inr}
use Rattle.std.specs.Prelude.{AllPairs, Contains}
use Rattle.std.specs.Cmp.{IsTotalOrder}
use Rattle.std.specs.Cmp.Lexicographic.{on_texts}
use Rattle.std.specs.Ordering.{ordering_reverse}
use Rattle.std.specs.declared.cmp.Ordering.TheVariants.{Less, Greater}
use Rattle.std.proofs.lemmas.Cmp.{nat_cmp_total, then_total, on_total}
use Rattle.hack_base.specs.Files.{Files, Edit, Put, Remove}
use Rattle.hack_types.specs.declared.diag.FileDiag.{FileDiag}
use Rattle.hack_types.specs.Report.{report_order, report_text}
use Rattle.script_text.specs.Script.{Command, File, Drop, Check, Begin, Wait, End}
use Rattle.script_text.proofs.OneScript.{one_script}
use Rattle.check_state.specs.Edits.{AreTooMany, IsTooMuch, IsAccepted}
use Rattle.check_state.specs.Findings.{IsFirstReport}
use Rattle.hack_serve.specs.Session.{Session, first_session, IsEdited, IsChecked, IsReplied, EndsAt, Replies}
use Rattle.hack_serve.specs.Outcome.{IsAnswered}
use Rattle.hack_serve.specs.declared.status.Status.{Status}

-- ---- reports

report_total : IsTotalOrder report_order
report_total =
    then_total (on_texts (λ d. d.file))
    (then_total (then_total (on_total (λ d. d.diag.at.line) nat_cmp_total) (on_total (λ d. d.diag.at.column) nat_cmp_total))
    (then_total (on_total (λ d. d.diag.code) nat_cmp_total)
    (on_texts (λ d. d.diag.text))))

less_once : (a b : FileDiag) → report_order a b ≡ Less → report_order b a ≡ Less → ⊥
less_once a b before behind =
    let wrong : Less ≡ Greater = sym before ∙ report_total.antisymm a b ∙ ap ordering_reverse behind in
    cc

abbrev Rises : List FileDiag → Type 0
Rises = AllPairs (λ a b. report_order a b ≡ Less)

rises_on : (x : FileDiag) (xs : List FileDiag) → Rises (x ∷ xs) → Rises xs
rises_on x xs rises = λ i j d before inside. rises (suc i) (suc j) d (omega arith) (omega arith)

first_is_least : (x : FileDiag) (xs : List FileDiag) → Rises (x ∷ xs) → (y : FileDiag) → Contains xs y → report_order x y ≡ Less
first_is_least x xs rises y in_xs =
    subst (λ z. report_order x z ≡ Less) in_xs.2 (rises zero (suc in_xs.0) y (omega arith) (omega (arith, in_xs.1)))

first_or_later : (x : FileDiag) (xs : List FileDiag) (y : FileDiag) → Contains (x ∷ xs) y → (y ≡ x) ⊎ Contains xs y
first_or_later x xs y here = by here.0 here.1 here.2
  where
    by : (k : ℕ) → k < length (x ∷ xs) → get_or (x ∷ xs) k y ≡ y → (y ≡ x) ⊎ Contains xs y
    by zero inside same = inl (sym same)
    by (suc k) inside same = inr (k, omega arith, same)

in_later : (x : FileDiag) (xs : List FileDiag) (y : FileDiag) → Contains xs y → Contains (x ∷ xs) y
in_later x xs y here = (suc here.0, omega (arith, here.1), here.2)

in_first : (x : FileDiag) (xs : List FileDiag) → Contains (x ∷ xs) x
in_first x xs = (zero, omega arith, refl)

in_none : (y : FileDiag) → Contains [] y → ⊥
in_none y here = absurd (omega (arith, here.1))

-- the first of two rising lists with the same elements
firsts_same : (x y : FileDiag) (xs ys : List FileDiag) → Rises (x ∷ xs) → Rises (y ∷ ys) → (x ≡ y) ⊎ Contains ys x → (y ≡ x) ⊎ Contains xs y → x ≡ y
firsts_same x y xs ys rises others (inl same) back = same
firsts_same x y xs ys rises others (inr later) (inl same) = sym same
firsts_same x y xs ys rises others (inr later) (inr back) = absurd (less_once x y (first_is_least x xs rises y back) (first_is_least y ys others x later))

-- what is behind the first is behind the first of the other list too
later_too : (x y : FileDiag) (xs ys : List FileDiag) → Rises (x ∷ xs) → x ≡ y → (d : FileDiag) → Contains xs d → (d ≡ y) ⊎ Contains ys d → Contains ys d
later_too x y xs ys rises same d in_xs (inl first) =
    let self : report_order x x ≡ Less = subst (λ z. report_order x z ≡ Less) (first ∙ sym same) (first_is_least x xs rises d in_xs) in
    absurd (less_once x x self self)
later_too x y xs ys rises same d in_xs (inr later) = later

same_lists : (xs ys : List FileDiag) → Rises xs → Rises ys → ((d : FileDiag) → Contains xs d → Contains ys d) → ((d : FileDiag) → Contains ys d → Contains xs d) → xs ≡ ys
same_lists [] [] rises others to from = refl
same_lists [] (y ∷ ys) rises others to from = absurd (in_none y (from y (in_first y ys)))
same_lists (x ∷ xs) [] rises others to from = absurd (in_none x (to x (in_first x xs)))
same_lists (x ∷ xs) (y ∷ ys) rises others to from =
    let first : x ≡ y = firsts_same x y xs ys rises others (first_or_later y ys x (to x (in_first x xs))) (first_or_later x xs y (from y (in_first y ys))) in
    let rest : xs ≡ ys =
    same_lists xs ys (rises_on x xs rises) (rises_on y ys others)
    (λ d here. later_too x y xs ys rises first d here (first_or_later y ys d (to d (in_later x xs d here))))
    (λ d here. later_too y x ys xs others (sym first) d here (first_or_later x xs d (from d (in_later y ys d here)))) in
    λ i. first i ∷ rest i

pub one_report : (files : Files) (one other : List FileDiag) → IsFirstReport files one → IsFirstReport files other → one ≡ other
one_report files one other h k = same_lists one other h.rising k.rising (λ d here. (k.exactly d).1 ((h.exactly d).0 here)) (λ d here. (h.exactly d).1 ((k.exactly d).0 here))

-- ---- replies

abbrev Same : List ℕ → List ℕ → Session → Session → Type 0
Same text other next later = (text ≡ other) × (next ≡ later)

same_edit : (s : Session) (edit : Edit) (text other : List ℕ) (next later : Session) → IsEdited s edit text next → IsEdited s edit other later → Same text other next later
same_edit s edit text other next later p q = (p.0 ∙ sym q.0, p.1 ∙ sym q.1)

same_check : (s : Session) (text other : List ℕ) (next later : Session) → IsChecked s text next → IsChecked s other later → Same text other next later
same_check s text other next later p q =
    let report = one_report s.files p.0 q.0 p.1 q.1 in
    (p.2 ∙ ap (report_text (s.checks + 1)) report ∙ sym q.2, p.3 ∙ sym q.3)

same_drop : (s : Session) (name text other : List ℕ) (next later : Session) → IsReplied s (Drop name) text next → IsReplied s (Drop name) other later → Same text other next later
same_drop s name text other next later (inl p) (inl q) = (p.1 ∙ sym q.1, p.2 ∙ sym q.2)
same_drop s name text other next later (inl p) (inr q) = absurd (q.0.there p.0)
same_drop s name text other next later (inr p) (inl q) = absurd (p.0.there q.0)
same_drop s name text other next later (inr p) (inr q) = same_edit s (Remove name) text other next later p.1 q.1

same_reply : (s : Session) (c : Command) (text other : List ℕ) (next later : Session) → IsReplied s c text next → IsReplied s c other later → Same text other next later
same_reply s (File name body) text other next later p q = same_edit s (Put name body) text other next later p.1 q.1
same_reply s (Drop name) text other next later p q = same_drop s name text other next later p q
same_reply s Check text other next later p q = same_check s text other next later p.1 q.1
same_reply s Begin text other next later p q = absurd p
same_reply s Wait text other next later p q = absurd p

-- ---- ends

not_accepted : (s : Session) (name body : List ℕ) → IsAccepted s.files (Put name body) → AreTooMany s.files (Put name body) ⊎ IsTooMuch s.files (Put name body) → ⊥
not_accepted s name body a (inl many) = a.not_many many
not_accepted s name body a (inr much) = a.not_much much

-- what is replied to doesn't end the run
never_both : (s : Session) (line : ℕ) (c : Command) (text : List ℕ) (next : Session) (status : Status) → IsReplied s c text next → EndsAt s line c status → ⊥
never_both s line (File name body) text next status p e = not_accepted s name body p.0 e.0
never_both s line (Drop name) text next status p e = e
never_both s line Check text next status p e = e.0 p.0
never_both s line Begin text next status p e = p
never_both s line Wait text next status p e = p

same_status : (s : Session) (line : ℕ) (c : Command) (status ends : Status) → EndsAt s line c status → EndsAt s line c ends → status ≡ ends
same_status s line (File name body) status ends p q = p.1 ∙ sym q.1
same_status s line (Drop name) status ends p q = absurd p
same_status s line Check status ends p q = p.1 ∙ sym q.1
same_status s line Begin status ends p q = p ∙ sym q
same_status s line Wait status ends p q = p ∙ sym q

same_replies : (s : Session) (cs : List (ℕ × Command)) (end : End) (out other : List ℕ) (status ends : Status) → Replies s cs end out status → Replies s cs end other ends
    → (out ≡ other) × (status ≡ ends)
same_replies s [] end out other status ends p q = (p.0 ∙ sym q.0, p.1 ∙ sym q.1)
same_replies s (c ∷ cs) end out other status ends (inl p) (inl q) = (p.1 ∙ sym q.1, same_status s c.0 c.1 status ends p.0 q.0)
same_replies s (c ∷ cs) end out other status ends (inl p) (inr q) = absurd (never_both s c.0 c.1 q.0 q.2 status q.3 p.0)
same_replies s (c ∷ cs) end out other status ends (inr p) (inl q) = absurd (never_both s c.0 c.1 p.0 p.2 ends p.3 q.0)
same_replies s (c ∷ cs) end out other status ends (inr p) (inr q) =
    let one = same_reply s c.1 p.0 q.0 p.2 q.2 p.3 q.3 in
    let moved : Replies q.2 cs end p.1 status = subst (λ x. Replies x cs end p.1 status) one.1 p.5 in
    let later = same_replies q.2 cs end p.1 q.1 status ends moved q.5 in
    (p.4 ∙ ap (λ l. l ++ p.1) one.0 ∙ ap (λ l. q.0 ++ l) later.0 ∙ sym q.4, later.1)

pub one_answer : (script out other : List ℕ) (status ends : Status) → IsAnswered script out status → IsAnswered script other ends → (out ≡ other) × (status ≡ ends)
one_answer script out other status ends p q =
    let one = one_script 1 script p.0 q.0 p.1 q.1 p.2 q.2 in
    let moved : Replies first_session q.0 q.1 out status =
    subst (λ cs. Replies first_session cs q.1 out status) one.0 (subst (λ e. Replies first_session p.0 e out status) one.1 p.3) in
    same_replies first_session q.0 q.1 out other status ends moved q.3
