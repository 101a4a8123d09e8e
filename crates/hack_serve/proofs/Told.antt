-- Answers over a source that tells its bytes.
use Rattle.std.proofs.Common.{◌≡◌, ℕ, List, ◌++◌, Some, None, refl, sym, subst}
use Rattle.std.specs.Prelude.{Option}
use Rattle.hack_serve.specs.Outcome.{Fits, Answers}
use Rattle.hack_serve.specs.Told.{OfScript}
use Rattle.hack_serve.specs.declared.status.Status.{Status}

-- what is said at a status, of the script, by what fits it
pub told_script : (here status : Status) (source left before now : Option (List ℕ)) (P : List ℕ → List ℕ → Option (List ℕ) → List ℕ → Type 0)
    → ((taken rest out : List ℕ) → Fits status taken (Some rest) out → P (taken ++ rest) taken (Some rest) out)
    → Answers here source left before now → here ≡ status → OfScript source left before now P
told_script here status None left before now P f a is = tt
told_script here status (Some xs) None before now P f a is = absurd a.2
told_script here status (Some xs) (Some ys) before now P f a is =
    let fits : Fits status a.0 (Some ys) a.1 = subst (λ x. Fits x a.0 (Some ys) a.1) is a.5 in
    (a.0, ys, a.1, a.2, refl, a.3, subst (λ l. P l a.0 (Some ys) a.1) (sym a.2) (f a.0 ys a.1 fits))
