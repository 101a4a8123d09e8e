-- Clauses of a chain that groups from the left, put together operator by operator.
use Rattle.std.proofs.Common.{◌≡◌, ◌<◌, ◌≤◌, ◌+◌, ◌++◌, ◌∷◌, [], ◌∙◌, Ok, Result, Option, ℕ, List, length, map, take, get_or, sym, ap, subst, arith}
use Rattle.std.proofs.lemmas.List.{take_all}
use Rattle.hack_tree.specs.declared.expression.Operand.{Operand}
use Rattle.hack_types.specs.declared.hack_type.HackType.{HackType}
use Rattle.hack_types.specs.declared.place.Place.{Place}
use Rattle.hack_decls.specs.DeclState.{DeclState, Symbols}
use Rattle.hack_decls.specs.Names.{TypeIn}
use Rattle.hack_decls.specs.declared.stop.DeclStop.{DeclStop}
use Rattle.hack_rules.specs.Chains.{compared, from_left}
use Rattle.hack_rules.specs.Expressions.{meaning_of}
use Rattle.hack_rules.specs.Meanings.{Branches, Meaning}
use Rattle.hack_rules.specs.Walks.{Setting, State}
use Rattle.hack_walk.specs.Checks.{BranchesIn, Walks}
use Rattle.hack_walk.specs.WalkLaws.{walks_as, walks_then}
use Rattle.hack_parts.specs.Forms.{joined_of}
use Rattle.hack_chains.specs.declared.so_far.SoFar.{SoFar}
use Rattle.hack_chains.specs.declared.so_far.Wanted.{Wanted}
use Rattle.hack_chains.specs.inside.Chaining.{SoFarIn, asked, asked_at, compared_at, reached, step_branches, step_on, step_value}
use Rattle.hack_chains.proofs.LeftGroups.{asked_behind, asked_here, branches_stepped, chain_at, chain_compared, last_left, more_left, stepped, value_stepped}

module _ {Base Held : Type 0} {setting : Setting} {Names NamesB : Symbols → Type 0} {old mid new : DeclState Base Held} {before between behind : State} {so_far : SoFar}
    (first : Meaning) (at : Place) (subject : Option ℕ) (x : Operand) where
  -- one more operator of the chain, in the form in which it is asked for
  pub one_step : (others : List Operand) (i : ℕ) (last form : Wanted) (result : Result SoFar DeclStop) → i < length others → x ≡ get_or others i x
      → at ≡ first.at → subject ≡ compared_at i first (meaning_of x.operand)
      → Walks (reached (asked_at others i last) (from_left first (map joined_of (take i others)))) setting old before (Ok so_far) mid between Names SoFarIn
      → Walks (step_on form at subject x.operator (meaning_of x.operand) so_far) setting mid between result new behind NamesB SoFarIn
      → ((symbols : Symbols) → Names symbols → SoFarIn symbols so_far → NamesB symbols)
      → Walks (reached form (from_left first (map joined_of (take (i + 1) others)))) setting old before result new behind Names SoFarIn
  one_step others i last form result lt is at_is subject_is left step onward =
      let L = from_left first (map joined_of (take i others)) in let R = meaning_of x.operand in
      let own : at ≡ L.at = at_is ∙ sym (chain_at first (map joined_of (take i others))) in
      let tested : subject ≡ compared L R = subject_is ∙ chain_compared first others i R (omega (arith, lt)) in
      walks_as (reached form (from_left first (map joined_of (take (i + 1) others)))) result
      (walks_then {NamesC = Names} (step_on form L.at (compared L R) x.operator R) result
      (subst (λ (f : Wanted). Walks (reached f L) setting old before (Ok so_far) mid between Names SoFarIn) (asked_here others i x last lt is) left)
      (subst (λ (p : Place). Walks (step_on form p (compared L R) x.operator R so_far) setting mid between result new behind NamesB SoFarIn) own
      (subst (λ (name : Option ℕ). Walks (step_on form at name x.operator R so_far) setting mid between result new behind NamesB SoFarIn) tested step))
      (λ symbols n. n) onward (λ symbols b n g h. h))
      (λ m. ap (λ (M : Meaning). reached form M setting m before) (more_left first others i x lt is) ∙ stepped form x.operator L R setting m before)

  -- the last operator, as a value
  pub last_value : (front : List Operand) (result : Result HackType DeclStop) → at ≡ first.at
      → Walks (reached (asked x.operator) (from_left first (map joined_of front))) setting old before (Ok so_far) mid between Names SoFarIn
      → Walks (step_value at x.operator (meaning_of x.operand) so_far) setting mid between result new behind NamesB TypeIn
      → ((symbols : Symbols) → Names symbols → SoFarIn symbols so_far → NamesB symbols)
      → Walks (from_left first (map joined_of (front ++ x ∷ []))).walk setting old before result new behind Names TypeIn
  last_value front result at_is left step onward =
      let L = from_left first (map joined_of front) in let R = meaning_of x.operand in
      let own : at ≡ L.at = at_is ∙ sym (chain_at first (map joined_of front)) in
      walks_as (from_left first (map joined_of (front ++ x ∷ []))).walk result
      (walks_then {NamesC = Names} (step_value L.at x.operator R) result left
      (subst (λ (p : Place). Walks (step_value p x.operator R so_far) setting mid between result new behind NamesB TypeIn) own step)
      (λ symbols n. n) onward (λ symbols b n g h. h))
      (λ m. ap (λ (M : Meaning). M.walk setting m before) (last_left first front x) ∙ value_stepped x.operator L R setting m before)

  -- the last operator, as a condition
  pub last_branches : (front : List Operand) (result : Result Branches DeclStop) → at ≡ first.at → subject ≡ compared_at (length front) first (meaning_of x.operand)
      → Walks (reached (asked x.operator) (from_left first (map joined_of front))) setting old before (Ok so_far) mid between Names SoFarIn
      → Walks (step_branches at subject x.operator (meaning_of x.operand) so_far) setting mid between result new behind NamesB BranchesIn
      → ((symbols : Symbols) → Names symbols → SoFarIn symbols so_far → NamesB symbols)
      → Walks (from_left first (map joined_of (front ++ x ∷ []))).branches setting old before result new behind Names BranchesIn
  last_branches front result at_is subject_is left step onward =
      let L = from_left first (map joined_of front) in let R = meaning_of x.operand in
      let own : at ≡ L.at = at_is ∙ sym (chain_at first (map joined_of front)) in
      let all : take (length front) front ≡ front = take_all (length front) front (omega arith) in
      let tested : subject ≡ compared L R =
      subject_is ∙ chain_compared first front (length front) R (omega arith) ∙ ap (λ (xs : List Operand). compared (from_left first (map joined_of xs)) R) all in
      walks_as (from_left first (map joined_of (front ++ x ∷ []))).branches result
      (walks_then {NamesC = Names} (step_branches L.at (compared L R) x.operator R) result left
      (subst (λ (p : Place). Walks (step_branches p (compared L R) x.operator R so_far) setting mid between result new behind NamesB BranchesIn) own
      (subst (λ (name : Option ℕ). Walks (step_branches at name x.operator R so_far) setting mid between result new behind NamesB BranchesIn) tested step))
      (λ symbols n. n) onward (λ symbols b n g h. h))
      (λ m. ap (λ (M : Meaning). M.branches setting m before) (last_left first front x) ∙ branches_stepped x.operator L R setting m before)

module _ {Base Held : Type 0} {setting : Setting} {Names : Symbols → Type 0} {old new : DeclState Base Held} {before behind : State} {so_far : SoFar} where
  -- in the same form, otherwise said
  pub reached_as : (meaning : Meaning) {form other : Wanted} → form ≡ other → Walks (reached form meaning) setting old before (Ok so_far) new behind Names SoFarIn
      → Walks (reached other meaning) setting old before (Ok so_far) new behind Names SoFarIn
  reached_as meaning same check = subst (λ (form : Wanted). Walks (reached form meaning) setting old before (Ok so_far) new behind Names SoFarIn) same check

  -- behind the last operator
  pub left_done : (first : Meaning) (others : List Operand) (i : ℕ) (last : Wanted) → length others ≤ i
      → Walks (reached (asked_at others i last) (from_left first (map joined_of (take i others)))) setting old before (Ok so_far) new behind Names SoFarIn
      → Walks (reached last (from_left first (map joined_of others))) setting old before (Ok so_far) new behind Names SoFarIn
  left_done first others i last le check =
      walks_as (reached last (from_left first (map joined_of others))) (Ok so_far) check
      (λ m. ap (λ (xs : List Operand). reached last (from_left first (map joined_of xs)) setting m before) (sym (take_all i others le))
      ∙ ap (λ (form : Wanted). reached form (from_left first (map joined_of (take i others))) setting m before) (sym (asked_behind others i last le)))
