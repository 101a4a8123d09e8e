-- What a parser that follows a symbol says of the symbol alone: it stands for what the parser reads, and fails where the
-- parser stops.
use Rattle.std.proofs.Common.{◌≡◌, ◌↔◌, [], Ok, Err, refl, subst}
use Rattle.hack_parse_expr.specs.declared.stop.ParseStop.{ParseStop}
use Rattle.hack_parse_expr.specs.Input.{Input}
use Rattle.hack_parse_expr.specs.Symbols.{Symbol, Of}
use Rattle.hack_parse_expr.specs.Run.{Next, Goes, Ends, Stops, only, Stands, Fails}
use Rattle.hack_parse_expr.specs.Parsers.{Outcome, Parser}
use Rattle.hack_parse_expr.proofs.Runs.{Reaches, reached, stepped, then_reached, one_end, IsEnd}
use Rattle.hack_parse_expr.proofs.Follows.{FollowsOne, Leads}

-- how a run of the symbol alone ends, by this outcome
abbrev end_of : {A : Type 0} → Outcome A → Next A
end_of (Ok p) = Ends p.0 p.1
end_of (Err stop) = Stops stop

-- an outcome is an end
end_is_end : {A : Type 0} (o : Outcome A) → IsEnd (end_of o)
end_is_end (Ok p) = tt
end_is_end (Err stop) = tt

-- where nothing else is open, what leads to an outcome ends as it says
ends_so : {A : Type 0} (a : Next A) (o : Outcome A) → Leads a [] (λ v. v) o → Reaches a (end_of o)
ends_so a (Ok p) h = then_reached h (stepped (record { pending = []; tree = p.0; input = p.1 }) reached)
ends_so a (Err stop) h = h

-- outcomes with one end are one
outcome_is : {A : Type 0} (o q : Outcome A) → end_of o ≡ end_of q → o ≡ q
outcome_is (Ok p) (Ok q) e = ended (p.0) (q.0) (p.1) (q.1) e
  where
    ended : {A : Type 0} (v w : A) (i j : Input) → ◌≡◌ {A = Next A} (Ends v i) (Ends w j) →
        ◌≡◌ {A = Outcome A} (Ok (v, i)) (Ok (w, j))
    ended v w i j e = cc
outcome_is (Ok p) (Err stop) e = absurd (cc)
outcome_is (Err stop) (Ok q) e = absurd (cc)
outcome_is (Err stop) (Err other) e = cc

-- a run of a symbol alone that leads to an outcome ends as it says
pub run_ends : (x : Symbol) (i : Input) (o : Outcome (Of x)) → Leads (Goes (only x i)) [] (λ v. v) o →
    Reaches (Goes (only x i)) (end_of o)
run_ends x i o leads = ends_so (Goes (only x i)) o leads

-- then the symbol stands for a value exactly where the outcome is that value
pub stands_as : (x : Symbol) (i : Input) (o : Outcome (Of x)) → Leads (Goes (only x i)) [] (λ v. v) o →
    (v : Of x) (rest : Input) → Stands x i v rest ↔ (o ≡ Ok (v, rest))
stands_as x i o leads v rest = (
  (λ s. outcome_is o (Ok (v, rest)) (one_end (run_ends x i o leads) (record { steps = s.0; comes = s.1 }) (end_is_end o) tt)),
  (λ e. let r : Reaches (Goes (only x i)) (Ends v rest) = subst (λ o. Reaches (Goes (only x i)) (end_of o)) e (run_ends x i o leads) in (r.steps, r.comes)),
)

-- and it fails for a fault exactly where the outcome is that fault
pub fails_as : (x : Symbol) (i : Input) (o : Outcome (Of x)) → Leads (Goes (only x i)) [] (λ v. v) o →
    (stop : ParseStop) → Fails x i stop ↔ (o ≡ Err stop)
fails_as x i o leads stop = (
  (λ s. outcome_is o (Err stop) (one_end (run_ends x i o leads) (record { steps = s.0; comes = s.1 }) (end_is_end o) tt)),
  (λ e. let r : Reaches (Goes (only x i)) (Stops stop) = subst (λ o. Reaches (Goes (only x i)) (end_of o)) e (run_ends x i o leads) in (r.steps, r.comes)),
)

-- the symbol stands for a value exactly where a parser that follows it reads that value
pub stands_law : (x : Symbol) (p : Parser (Of x)) → FollowsOne 128 x p → (i : Input) (v : Of x) (rest : Input) →
    Stands x i v rest ↔ (p i ≡ Ok (v, rest))
stands_law x p f i v rest = stands_as x i (p i) (f.leads (Of x) [] (λ v. v) i refl) v rest

-- the symbol fails for a fault exactly where the parser stops for it
pub fails_law : (x : Symbol) (p : Parser (Of x)) → FollowsOne 128 x p → (i : Input) (stop : ParseStop) →
    Fails x i stop ↔ (p i ≡ Err stop)
fails_law x p f i stop = fails_as x i (p i) (f.leads (Of x) [] (λ v. v) i refl) stop
