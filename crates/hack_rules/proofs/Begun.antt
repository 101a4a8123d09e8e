-- The environment with which the body of a `foreach` begins joins with that of the entry.
use Rattle.std.proofs.Common.{◌≡◌, ◌<◌, ◌==◌, ◌∙◌, ℕ, Bool, true, false, cond, Option, Some, None, [], ◌∷◌, Ordering, Less, Equal, Greater, nat_cmp, refl, sym, ap, subst, inl, inr}
use Rattle.std.proofs.lemmas.Bool.{false≢true, ne_eqb}
use Rattle.std.specs.BTreeMap.{insert_entry}
use Rattle.std.specs.Cmp.{ranks}
use Rattle.std.specs.List.{AllByRecursion, find}
use Rattle.std.specs.Option.{IfSome, is_some, option_map}
use Rattle.std.specs.Ordering.{MatchOrdering, match_ordering}
use Rattle.hack_types.specs.Substituted.{limited}
use Rattle.hack_types.specs.declared.hack_type.HackType.{HackType}
use Rattle.hack_rules.specs.Idle.{IsNew, IsSettled, begun, with_key}
use Rattle.hack_rules.specs.Variables.{Variables, joined, type_in, with_variable}
use Rattle.hack_rules.proofs.Environments.{Has, found}
use Rattle.hack_rules.proofs.Idle.{AreIn, all_in, joined_from}

abbrev Entry : Type 0
Entry = ℕ × HackType

abbrev told : Option Entry → Option HackType
told o = option_map (λ (x : Entry). x.1) o

abbrev look : Variables → ℕ → Option Entry
look es name = find (λ (x : Entry). x.0 == name) es

-- ---- another variable

kept_or : (e : Entry) (here more : Option Entry) (b : Bool) → told more ≡ told here → told (cond b (Some e) more) ≡ told (cond b (Some e) here)
kept_or e here more true same = refl
kept_or e here more false same = same

other_at : (k : ℕ) (v : HackType) (e : Entry) (es more : Variables) (name : ℕ) → (k == name) ≡ false → told (look more name) ≡ told (look es name)
    → (r : Ordering) → MatchOrdering r (k < e.0) (k ≡ e.0) (e.0 < k)
    → told (look (match_ordering r ((k, v) ∷ e ∷ es) ((e.0, v) ∷ es) (e ∷ more)) name) ≡ told (look (e ∷ es) name)
other_at k v e es more name apart same Less m = ap (λ b. told (cond b (Some (k, v)) (look (e ∷ es) name))) apart
other_at k v e es more name apart same Equal m =
    let past : (e.0 == name) ≡ false = subst (λ n. (n == name) ≡ false) m apart in
    ap (λ b. told (cond b (Some (e.0, v)) (look es name))) past ∙ sym (ap (λ b. told (cond b (Some e) (look es name))) past)
other_at k v e es more name apart same Greater m = kept_or e (look es name) (look more name) (e.0 == name) same

other_put : (k : ℕ) (v : HackType) (es : Variables) (name : ℕ) → (k == name) ≡ false → told (look (insert_entry nat_cmp es k v) name) ≡ told (look es name)
other_put k v [] name apart = ap (λ b. told (cond b (Some (k, v)) None)) apart
other_put k v (e ∷ es) name apart =
    other_at k v e es (insert_entry nat_cmp es k v) name apart (other_put k v es name apart) (nat_cmp k e.0) (ranks k e.0)

stays_other : (k : ℕ) (ty : HackType) (es : Variables) (name : ℕ) → (k == name) ≡ false → type_in (with_variable es k ty) name ≡ type_in es name
unfolding type_in with_variable
stays_other k ty es name apart = other_put k (limited ty) es name apart

-- ---- a variable that isn't there

abbrev AreOthers : ℕ → Variables → Type 0
AreOthers name es = AllByRecursion (λ (e : Entry). (name == e.0) ≡ false) es

others_by : (name : ℕ) (es : Variables) → (Has name es → ⊥) → AreOthers name es
others_by name [] apart = tt
others_by name (e ∷ es) apart = (ne_eqb name e.0 (λ same. apart (inl (sym same))), others_by name es (λ h. apart (inr h)))

others : (name : ℕ) (es : Variables) → IsNew es name → AreOthers name es
others name es new = others_by name es (λ h. false≢true (sym (ap is_some new) ∙ found es name h))

in_with : (k : ℕ) (ty : HackType) (whole es : Variables) → AreOthers k es → AreIn whole es → AreIn (with_variable whole k ty) es
in_with k ty whole [] apart all = tt
in_with k ty whole (e ∷ es) apart all = (stays_other k ty whole e.0 apart.0 ∙ all.0, in_with k ty whole es apart.1 all.1)

-- where there is a key it is another
abbrev KeyIsNew : Variables → Option ℕ → Type 0
KeyIsNew entry key = IfSome key (IsNew entry)

in_key : (key : Option ℕ) (ty : HackType) (entry : Variables) → KeyIsNew entry key → AreIn entry entry → AreIn (with_key entry key ty) entry
in_key None ty entry new all = all
in_key (Some name) ty entry new all = in_with name ty entry entry (others name entry new) all

pub joins_begun : (entry : Variables) → IsSettled entry → (types : HackType × HackType) (key : Option ℕ) (value : ℕ) → KeyIsNew entry key → IsNew entry value
    → joined entry (begun entry key value types) ≡ entry
joins_begun entry settled types key value key_new value_new = joined_from (begun entry key value types) entry
    (in_with value types.1 (with_key entry key types.0) entry (others value entry value_new) (in_key key types.0 entry key_new (all_in entry settled.rises))) settled
