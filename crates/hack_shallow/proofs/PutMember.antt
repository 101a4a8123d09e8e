-- A member is put under its kind and name.
use Rattle.std.proofs.Common.{◌≡◌, ◌∷◌, ℕ, true, false, cond, if◌then◌else◌, List, [], Option, Some, refl, sym, ap, ◌∙◌}
use Rattle.std.specs.Map.{lookup}
use Rattle.std.specs.Ordering.{is_eq, match_ordering, nat_cmp, ordering_then}
use Rattle.std.specs.declared.cmp.Ordering.{Ordering}
use Rattle.std.specs.declared.cmp.Ordering.TheVariants.{Less, Equal, Greater}
use Rattle.std.specs.BTreeMap.{insert_entry, is_at}
use Rattle.hack_types.specs.declared.shallow.Member.{Member}
use Rattle.hack_types.specs.MembersRise.{member_order}
use Rattle.hack_types.specs.declared.shallow.MemberKind.{MemberKind}
use Rattle.hack_types.specs.declared.shallow.MemberKind.TheVariants as kind
use Rattle.hack_types.specs.MembersRise.{kind_rank}
use Rattle.std.specs.FinMap.{nat_cmp-IsAntisymmetric}
use Rattle.hack_shallow.specs.declared.members.MemberSort.{MemberSort}
use Rattle.hack_shallow.specs.declared.members.MemberSort.TheVariants as sort
use Rattle.hack_shallow.specs.declared.members.MemberKey.{MemberKey}
use Rattle.hack_shallow.specs.contracts.members.MemberKeyOrd.TheImpl.{cmp-value}
use Rattle.hack_shallow.specs.Members.{counts_before, same_among, inserted, with_member}
use Rattle.hack_shallow.specs.MemberTables.{sort_of, key_of, entries_of}

abbrev key_order : MemberKey → MemberKey → Ordering
key_order = cmp-value.it

-- the order of the keys is that of the members
order_by : (x y : MemberKind) (n k : ℕ) → key_order (record { sort = sort_of x; name = n }) (record { sort = sort_of y; name = k }) ≡ ordering_then (nat_cmp (kind_rank x) (kind_rank y)) (nat_cmp n k)
order_by (kind.Constant t) (kind.Constant u) n k = refl
order_by (kind.Constant t) (kind.Property u) n k = refl
order_by (kind.Constant t) (kind.Method u) n k = refl
order_by (kind.Property t) (kind.Constant u) n k = refl
order_by (kind.Property t) (kind.Property u) n k = refl
order_by (kind.Property t) (kind.Method u) n k = refl
order_by (kind.Method t) (kind.Constant u) n k = refl
order_by (kind.Method t) (kind.Property u) n k = refl
order_by (kind.Method t) (kind.Method u) n k = refl

pub same_order : (a b : Member) → key_order (key_of a) (key_of b) ≡ member_order a b
same_order a b = order_by a.kind b.kind a.name b.name

named : (sort : MemberSort) (n k : ℕ) → nat_cmp n k ≡ Equal → ◌≡◌ {A = MemberKey} (record { sort = sort; name = n }) (record { sort = sort; name = k })
named sort n k e = ap (λ name. record { sort = sort; name = name }) (nat_cmp-IsAntisymmetric n k e)

key_by : (x y : MemberKind) (n k : ℕ) → ordering_then (nat_cmp (kind_rank x) (kind_rank y)) (nat_cmp n k) ≡ Equal → ◌≡◌ {A = MemberKey} (record { sort = sort_of x; name = n }) (record { sort = sort_of y; name = k })
key_by (kind.Constant t) (kind.Constant u) n k e = named sort.Constant n k e
key_by (kind.Constant t) (kind.Property u) n k e = cc
key_by (kind.Constant t) (kind.Method u) n k e = cc
key_by (kind.Property t) (kind.Constant u) n k e = cc
key_by (kind.Property t) (kind.Property u) n k e = named sort.Property n k e
key_by (kind.Property t) (kind.Method u) n k e = cc
key_by (kind.Method t) (kind.Constant u) n k e = cc
key_by (kind.Method t) (kind.Property u) n k e = cc
key_by (kind.Method t) (kind.Method u) n k e = named sort.Method n k e

same_key : (a b : Member) → member_order a b ≡ Equal → key_of a ≡ key_of b
same_key a b e = key_by a.kind b.kind a.name b.name e

place_by : (x y : MemberKind) (n k : ℕ) → ordering_then (nat_cmp (kind_rank x) (kind_rank y)) (nat_cmp n k) ≡ Equal → (kind_rank x ≡ kind_rank y) × (n ≡ k)
place_by (kind.Constant t) (kind.Constant u) n k e = (refl, nat_cmp-IsAntisymmetric n k e)
place_by (kind.Constant t) (kind.Property u) n k e = cc
place_by (kind.Constant t) (kind.Method u) n k e = cc
place_by (kind.Property t) (kind.Constant u) n k e = cc
place_by (kind.Property t) (kind.Property u) n k e = (refl, nat_cmp-IsAntisymmetric n k e)
place_by (kind.Property t) (kind.Method u) n k e = cc
place_by (kind.Method t) (kind.Constant u) n k e = cc
place_by (kind.Method t) (kind.Property u) n k e = cc
place_by (kind.Method t) (kind.Method u) n k e = (refl, nat_cmp-IsAntisymmetric n k e)

pub same_place : (a b : Member) → member_order a b ≡ Equal → (kind_rank a.kind ≡ kind_rank b.kind) × (a.name ≡ b.name)
same_place a b e = place_by a.kind b.kind a.name b.name e

found : (own : List Member) (later : Member) → lookup (is_at (key_order (key_of later))) (entries_of own) ≡ same_among own later
found [] later = refl
found (m ∷ own) later =
    ap (λ o. cond (is_eq o) (Some m) (lookup (is_at (key_order (key_of later))) (entries_of own))) (same_order later m)
    ∙ ap (λ f. cond (is_eq (member_order later m)) (Some m) f) (found own later)

put_by : (o : Ordering) (m later : Member) (own : List Member) → (o ≡ Equal → key_of later ≡ key_of m)
    → insert_entry key_order (entries_of own) (key_of later) later ≡ entries_of (inserted own later)
    → match_ordering o ((key_of later, later) ∷ (key_of m, m) ∷ entries_of own) ((key_of m, later) ∷ entries_of own) ((key_of m, m) ∷ insert_entry key_order (entries_of own) (key_of later) later)
    ≡ entries_of (match_ordering o (later ∷ m ∷ own) (later ∷ own) (m ∷ inserted own later))
put_by Less m later own same more = refl
put_by Equal m later own same more = ap (λ k. (k, later) ∷ entries_of own) (sym (same refl))
put_by Greater m later own same more = ap (λ es. (key_of m, m) ∷ es) more

put : (own : List Member) (later : Member) → insert_entry key_order (entries_of own) (key_of later) later ≡ entries_of (inserted own later)
put [] later = refl
put (m ∷ own) later =
    ap (λ o. match_ordering o ((key_of later, later) ∷ (key_of m, m) ∷ entries_of own) ((key_of m, later) ∷ entries_of own) ((key_of m, m) ∷ insert_entry key_order (entries_of own) (key_of later) later)) (same_order later m)
    ∙ put_by (member_order later m) m later own (same_key later m) (put own later)

-- what the table has at a member's key
found_at : (own : List Member) (later : Member) (entries : List (MemberKey × Member)) (key : MemberKey) (got : Option Member) → entries ≡ entries_of own → key ≡ key_of later
    → got ≡ lookup (is_at (key_order key)) entries → got ≡ same_among own later
found_at own later entries key got es is at =
    at ∙ ap (λ k. lookup (is_at (key_order k)) entries) is ∙ ap (lookup (is_at (key_order (key_of later)))) es ∙ found own later

-- where one there counts before it, nothing changes
pub stays : (own : List Member) (later : Member) (entries : List (MemberKey × Member)) (key : MemberKey) (got : Option Member) → entries ≡ entries_of own → key ≡ key_of later
    → got ≡ lookup (is_at (key_order key)) entries → counts_before got later ≡ true → entries ≡ entries_of (with_member own later)
stays own later entries key got es is at counts =
    let b : counts_before (same_among own later) later ≡ true = ap (λ g. counts_before g later) (sym (found_at own later entries key got es is at)) ∙ counts in
    es ∙ ap (λ b. entries_of (if b then own else inserted own later)) (sym b)

-- else it is put
pub goes : (own : List Member) (later : Member) (entries new : List (MemberKey × Member)) (key : MemberKey) (got : Option Member) → entries ≡ entries_of own → key ≡ key_of later
    → got ≡ lookup (is_at (key_order key)) entries → counts_before got later ≡ false → new ≡ insert_entry key_order entries key later → new ≡ entries_of (with_member own later)
goes own later entries new key got es is at counts put_there =
    let b : counts_before (same_among own later) later ≡ false = ap (λ g. counts_before g later) (sym (found_at own later entries key got es is at)) ∙ counts in
    put_there ∙ ap (λ l. insert_entry key_order l key later) es ∙ ap (λ k. insert_entry key_order (entries_of own) k later) is ∙ put own later
    ∙ ap (λ b. entries_of (if b then own else inserted own later)) (sym b)
