-- The order of members is total, and choosing the better of two is associative.
use Rattle.std.proofs.Common.{◌≡◌, ◌&&◌, not, ℕ, Bool, true, false, cond, List, map, fold, refl, sym, ap, ◌∙◌}
use Rattle.std.proofs.lemmas.Cmp.{nat_cmp_total, then_total}
use Rattle.std.specs.Cmp.{IsTotalOrder}
use Rattle.std.specs.Ordering.{nat_cmp}
use Rattle.std.specs.declared.cmp.Ordering.TheVariants.{Equal}
use Rattle.hack_types.specs.MembersRise.{MembersRise, kind_rank, member_order}
use Rattle.hack_types.specs.declared.hack_type.HackType.{HackType}
use Rattle.hack_types.specs.declared.shallow.Member.{Member}
use Rattle.hack_types.specs.declared.shallow.MemberKind.{MemberKind}
use Rattle.hack_types.specs.declared.shallow.MemberKind.TheVariants as kind
use Rattle.hack_types.specs.declared.shallow.Sort.{Sort}
use Rattle.hack_fold.specs.inside.FromParents.{member_in, origin_in}
use Rattle.hack_fold.specs.Paths.{kind_with, member_with, put_in}
use Rattle.hack_fold.specs.Walked.{better, with_member}
use Rattle.hack_fold.proofs.Gather.{Chooses, all_rise, rises_mapped}

by_number : {X : Type 0} (f : X → ℕ) → IsTotalOrder (λ a b. nat_cmp (f a) (f b))
by_number f = record {
  antisymm = λ x y. nat_cmp_total.antisymm (f x) (f y);
  trans = λ x y z. nat_cmp_total.trans (f x) (f y) (f z);
  congr = λ x y z. nat_cmp_total.congr (f x) (f y) (f z);
}

total : IsTotalOrder member_order
total = then_total (by_number (λ (m : Member). kind_rank m.kind)) (by_number (λ (m : Member). m.name))

module _ (a b : Member) where
  stays : a.is_abstract ≡ false → better a b ≡ a
  stays e = ap (λ p. cond (p && not b.is_abstract) b a) e

  gives_way : a.is_abstract ≡ true → b.is_abstract ≡ false → better a b ≡ b
  gives_way e f = ap (λ p. cond (p && not b.is_abstract) b a) e ∙ ap (λ q. cond (not q) b a) f

  first_of_two : b.is_abstract ≡ true → better a b ≡ a
  first_of_two f = by a.is_abstract refl
    where
      by : (p : Bool) → a.is_abstract ≡ p → better a b ≡ a
      by false e = stays e
      by true e = ap (λ p. cond (p && not b.is_abstract) b a) e ∙ ap (λ q. cond (not q) b a) f

assoc_by : (a b c : Member) (p q r : Bool) → a.is_abstract ≡ p → b.is_abstract ≡ q → c.is_abstract ≡ r → better (better a b) c ≡ better a (better b c)
assoc_by a b c false q r ea eb ec = ap (λ m. better m c) (stays a b ea) ∙ stays a c ea ∙ sym (stays a (better b c) ea)
assoc_by a b c true false r ea eb ec =
    ap (λ m. better m c) (gives_way a b ea eb) ∙ stays b c eb ∙ sym (ap (better a) (stays b c eb) ∙ gives_way a b ea eb)
assoc_by a b c true true false ea eb ec =
    ap (λ m. better m c) (first_of_two a b eb) ∙ gives_way a c ea ec ∙ sym (ap (better a) (gives_way b c eb ec) ∙ gives_way a c ea ec)
assoc_by a b c true true true ea eb ec =
    ap (λ m. better m c) (first_of_two a b eb) ∙ first_of_two a c ec ∙ sym (ap (better a) (first_of_two b c ec) ∙ first_of_two a b eb)

place : (x y z : Member) → member_order x y ≡ Equal → member_order (better x y) z ≡ member_order x z
place x y z e = by (x.is_abstract && not y.is_abstract)
  where
    by : (b : Bool) → member_order (cond b y x) z ≡ member_order x z
    by true = sym (total.congr x y z e)
    by false = refl

pub members_choose : Chooses member_order better
members_choose = record { total = total; place = place; assoc = λ x y z. assoc_by x y z x.is_abstract y.is_abstract z.is_abstract refl refl refl }

-- other types and another origin change neither the place of a member nor which is better
module _ (f : HackType → HackType) (origin : Member → ℕ) where
  pub rank_stays : (k : MemberKind) → kind_rank (kind_with f k) ≡ kind_rank k
  rank_stays (kind.Constant type) = refl
  rank_stays (kind.Property type) = refl
  rank_stays (kind.Method sig) = refl

  abbrev pub changed : Member → Member
  changed m = member_with f (origin m) m

  pub same_place : (a b : Member) → member_order (changed a) (changed b) ≡ member_order a b
  same_place a b = rw (rank_stays a.kind, rank_stays b.kind) refl

  pub same_choice : (a b : Member) → better (changed a) (changed b) ≡ changed (better a b)
  same_choice a b = by (a.is_abstract && not b.is_abstract)
    where
      by : (p : Bool) → cond p (changed b) (changed a) ≡ changed (cond p b a)
      by true = refl
      by false = refl

-- ---- lists of members that rise

pub merged_rise : (first second : List Member) → MembersRise first → MembersRise (fold with_member first second)
merged_rise first second rise = all_rise member_order better members_choose second first rise

pub given_rise : (name : ℕ) (arguments : List HackType) (which : Sort) (members : List Member) → MembersRise members → MembersRise (map (member_in name arguments which) members)
given_rise name arguments which members rise =
    rises_mapped member_order (member_in name arguments which) (same_place (put_in arguments) (λ (m : Member). origin_in name which m.origin)) members rise
