-- What a state stands for once names are added, or a file is put or taken out.
use Rattle.std.proofs.Common.{◌≡◌, ◌≢◌, ℕ, ◌+◌, ◌-◌, ◌≤◌, ◌<◌, ◌^◌, List, [], ◌∷◌, Bool, true, false, cond, Option, None, Some, length, refl, sym, ap, subst, ◌∙◌, arith}
use Rattle.std.specs.Prelude.{min, is_some}
use Rattle.std.specs.BTreeMap as tree
use Rattle.std.specs.BTreeMap.{BTreeMap, insert_entry, is_at}
use Rattle.std.specs.FinMap as finite
use Rattle.std.specs.FinMap.{insert, remove, empty, entries, get-insert, get-remove, get-empty, entries-insert, len-entries, len-empty}
use Rattle.std.specs.List.{filter}
use Rattle.std.specs.FinMap.Entries.{put}
use Rattle.std.specs.Map.{lookup, remove_entry}
use Rattle.std.specs.Ordering.{eq_by_cmp, is_eq}
use Rattle.std.specs.declared.cmp.Ordering.{Ordering}
use Rattle.std.specs.declared.cmp.Ordering.TheVariants.{Less, Equal, Greater}
use Rattle.std.proofs.lemmas.Cmp.{nat_list_cmp_total, eq_by_cmp_equiv}
use Rattle.hack_base.specs.Files.{Files, byte_order, count, text, total_length}
use Rattle.hack_base.specs.Files as model
use Rattle.hack_base.specs.Script.{IsFileName}
use Rattle.hack_builtin.specs.Builtin.{builtin_text}
use Rattle.hack_types.specs.Names.{fixed_names}
use Rattle.hack_names.specs.Declarations.{Table}
use Rattle.hack_names.specs.declared.unit.UnitHead.{UnitHead}
use Rattle.hack_parse_file.specs.Lexemes.{Extends}
use Rattle.hack_first.specs.FirstTrees.{first_units}
use Rattle.check_state.specs.declared.file.File.{File}
use Rattle.check_state.specs.declared.file.Parsed.{Parsed}
use Rattle.check_state.specs.declared.file.Parsed.TheVariants.{Tree, Fault}
use Rattle.check_state.specs.declared.state.State.{State}
use Rattle.check_state.specs.Edits.{first_files}
use Rattle.check_state.specs.Stands.{Stands, IsRead, IsKept, IsParsed, heads_from, heads_in, heads_kept, with_file, named_sum, others_in}
use Rattle.hack_parse_file.proofs.OneTree.{tree_stays}
use Rattle.check_state.proofs.Sums.{of_found, sum-insert, sum-remove, sum-small, names_same, text-insert, count-insert, text-remove, count-remove, remove-nothing}

abbrev pub Kept : Type 0
Kept = BTreeMap (List ℕ) File

abbrev pub others_of : File → ℕ
others_of file = others_in file.parsed

-- ---- names that are added

pub read_more : (names more : List (List ℕ)) (body : List ℕ) (file : File) → Extends names more → IsRead names body file → IsRead more body file
read_more names more body file extends is = record { short = is.short; len = is.len; parsed = by file.parsed is.parsed }
  where
    by : (parsed : Parsed) → IsParsed names body parsed → IsParsed more body parsed
    by (Tree read) is = tree_stays names more body read extends is
    by (Fault place code) is = is

kept_more : (names more : List (List ℕ)) (body : Option (List ℕ)) (file : Option File) → Extends names more → IsKept names body file → IsKept more body file
kept_more names more None None extends is = tt
kept_more names more None (Some file) extends is = absurd is
kept_more names more (Some body) None extends is = absurd is
kept_more names more (Some body) (Some file) extends is = read_more names more body file extends is

pub stands_more : (state : State) (names : List (List ℕ)) (files : Files) → Extends state.names names → Stands state files
    → Stands (record { names = names; files = state.files; table = state.table; text = state.text; others = state.others }) files
stands_more state names files extends was = record {
  builtin = was.builtin;
  kept = λ name. kept_more state.names names (finite.get files name) (tree.get byte_order state.files name) extends (was.kept name);
  ordered = was.ordered;
  table = was.table;
  counted = was.counted;
  written = was.written;
  others = was.others;
  few = was.few;
  short = was.short;
}

-- ---- what is there and what is kept

pub none_kept : (names : List (List ℕ)) (body : Option (List ℕ)) (file : Option File) → IsKept names body file → file ≡ None → body ≡ None
none_kept names None file is none = refl
none_kept names (Some body) None is none = absurd is
none_kept names (Some body) (Some file) is none = absurd cc

pub some_kept : (names : List (List ℕ)) (body : Option (List ℕ)) (file : Option File) (f : File) → IsKept names body file → file ≡ Some f → (b : List ℕ) × (body ≡ Some b) × IsRead names b f
some_kept names None None f is some = absurd cc
some_kept names None (Some file) f is some = absurd is
some_kept names (Some body) None f is some = absurd is
some_kept names (Some body) (Some file) f is some = let same : file ≡ f = cc in (body, refl, subst (IsRead names body) same is)

pub kept_some : (names : List (List ℕ)) (body : Option (List ℕ)) (file : Option File) (b : List ℕ) → IsKept names body file → body ≡ Some b → (f : File) × (file ≡ Some f) × IsRead names b f
kept_some names None file b is some = absurd cc
kept_some names (Some body) None b is some = absurd is
kept_some names (Some body) (Some file) b is some = let same : body ≡ b = cc in (file, refl, subst (λ x. IsRead names x file) same is)

kept_none : (names : List (List ℕ)) (body : Option (List ℕ)) (file : Option File) → IsKept names body file → body ≡ None → file ≡ None
kept_none names None None is none = refl
kept_none names None (Some file) is none = absurd is
kept_none names (Some body) file is none = absurd cc

pub not_kept : (state : State) (files : Files) (name : List ℕ) → Stands state files → finite.get files name ≡ None → tree.get byte_order state.files name ≡ None
not_kept state files name stands none = kept_none state.names (finite.get files name) (tree.get byte_order state.files name) (stands.kept name) none

-- at one name something else, and at every other what there was
kept_at : (names : List (List ℕ)) (b : Bool) (body was_body : Option (List ℕ)) (file was_file : Option File) → IsKept names body file → IsKept names was_body was_file → IsKept names (cond b body was_body) (cond b file was_file)
kept_at names true body was_body file was_file is was = is
kept_at names false body was_body file was_file is was = was

heads_at : (b : Bool) (heads was_heads : Option (List UnitHead)) (file was_file : Option File) → heads ≡ heads_kept file → was_heads ≡ heads_kept was_file → cond b heads was_heads ≡ heads_kept (cond b file was_file)
heads_at true heads was_heads file was_file is was = is
heads_at false heads was_heads file was_file is was = was

-- the two ways in which a name is compared
turned : (name q : List ℕ) → eq_by_cmp byte_order q name ≡ is_at (byte_order name) q
turned name q = (eq_by_cmp_equiv nat_list_cmp_total).symm q name

not_empty : (name : List ℕ) → name ≢ [] → eq_by_cmp byte_order [] name ≡ false
not_empty [] named = absurd (named refl)
not_empty (b ∷ name) named = refl

-- what a call of `len` tells of a change
abbrev pub one_if : Bool → ℕ
one_if b = cond b 1 0

abbrev pub one_unless : Bool → ℕ
one_unless b = cond b 0 1

pub not_above : (m n : ℕ) → (n < m → ⊥) → m ≤ n
not_above m n h = omega (arith, h)

-- a file name isn't empty
pub is_named : (name : List ℕ) → IsFileName name → name ≢ []
is_named name is e = absurd (omega (arith, is.not_empty, ap length e))

-- ---- a file that is taken out

module _ (state : State) (files : Files) (name : List ℕ) (kept : Kept) (table : Table) (written others : ℕ) (was : Stands state files) (named : name ≢ [])
    (in_table : table ≡ remove state.table name)
    (updates : (q : List ℕ) → tree.get byte_order kept q ≡ cond (is_at (byte_order name) q) None (tree.get byte_order state.files q))
    (listed : kept.entries ≡ remove_entry (is_at (byte_order name)) state.files.entries)
    (ordered : tree.IsOrdered byte_order kept)
    (long : length kept.entries + one_if (is_some (tree.get byte_order state.files name)) ≡ length state.files.entries)
    (fewer_bytes : written ≡ state.text - of_found (λ (file : File). file.len) (tree.get byte_order state.files name))
    (fewer_others : others ≡ state.others - of_found others_of (tree.get byte_order state.files name)) where
  abbrev After : Files
  After = remove files name

  counted : (found : Option File) → tree.get byte_order state.files name ≡ found
      → (length kept.entries ≡ count After + 1) × (written ≡ text After) × (count After ≤ 65536) × (text After ≤ 2 ^ 26)
  counted None e =
      let same = remove-nothing files name (none_kept state.names (finite.get files name) (tree.get byte_order state.files name) (was.kept name) e) in
      let fewer : one_if (is_some (tree.get byte_order state.files name)) ≡ 0 = ap (λ o. one_if (is_some o)) e in
      let bytes : of_found (λ (file : File). file.len) (tree.get byte_order state.files name) ≡ 0 = ap (of_found (λ (file : File). file.len)) e in (
        omega (arith, long, fewer, was.counted, ap count same),
        omega (arith, fewer_bytes, bytes, was.written, ap text same),
        omega (arith, was.few, ap count same),
        omega (arith, was.short, ap text same),
      )
  counted (Some file) e =
      let body = some_kept state.names (finite.get files name) (tree.get byte_order state.files name) file (was.kept name) e in
      let one = count-remove files name body.0 named body.1 in
      let less = text-remove files name body.0 named body.1 in
      let fewer : one_if (is_some (tree.get byte_order state.files name)) ≡ 1 = ap (λ o. one_if (is_some o)) e in
      let bytes : of_found (λ (file : File). file.len) (tree.get byte_order state.files name) ≡ file.len = ap (of_found (λ (file : File). file.len)) e in (
        omega (arith, long, fewer, was.counted, one),
        omega (arith, fewer_bytes, bytes, was.written, less, body.2.len),
        omega (arith, was.few, one),
        omega (arith, was.short, less),
      )

  pub stands_removed : Stands (record { names = state.names; files = kept; table = table; text = written; others = others }) After
  stands_removed =
      let numbers = counted (tree.get byte_order state.files name) refl in
      record {
        builtin = get-remove nat_list_cmp_total files name [] ∙ ap (λ b. cond b None (finite.get files [])) (not_empty name named) ∙ was.builtin;
        kept = λ q.
            subst (λ o. IsKept state.names o (tree.get byte_order kept q)) (sym (get-remove nat_list_cmp_total files name q ∙ ap (λ b. cond b None (finite.get files q)) (turned name q)))
            (subst (λ o. IsKept state.names (cond (is_at (byte_order name) q) None (finite.get files q)) o) (sym (updates q))
            (kept_at state.names (is_at (byte_order name) q) None (finite.get files q) None (tree.get byte_order state.files q) tt (was.kept q)));
        ordered = ordered;
        table = λ q.
            ap (λ t. finite.get t q) in_table ∙ get-remove nat_list_cmp_total state.table name q ∙ ap (λ b. cond b None (finite.get state.table q)) (turned name q)
            ∙ heads_at (is_at (byte_order name) q) None (finite.get state.table q) None (tree.get byte_order state.files q) refl (was.table q) ∙ ap heads_kept (sym (updates q));
        counted = numbers.0;
        written = numbers.1;
        others = omega (arith, fewer_others, was.others, sum-remove others_of state.files.entries name named, ap (named_sum others_of) listed);
        few = numbers.2;
        short = numbers.3;
      }

-- ---- a file that is added

others-small : (file : File) → others_of file ≤ 1
others-small file = by file.parsed
  where
    by : (parsed : Parsed) → others_in parsed ≤ 1
    by (Tree read) = all (is_some (first_units read.units))
      where
        all : (b : Bool) → cond b 0 1 ≤ 1
        all true = omega arith
        all false = omega arith
    by (Fault place code) = omega arith

module _ (state : State) (files : Files) (name body : List ℕ) (file : File) (kept : Kept) (table : Table) (written others : ℕ) (was : Stands state files) (named : name ≢ [])
    (new : finite.get files name ≡ None) (is : IsRead state.names body file)
    (in_table : table ≡ with_file state.table name file.parsed)
    (updates : (q : List ℕ) → tree.get byte_order kept q ≡ cond (is_at (byte_order name) q) (Some file) (tree.get byte_order state.files q))
    (listed : kept.entries ≡ insert_entry byte_order state.files.entries name file)
    (ordered : tree.IsOrdered byte_order kept)
    (more_bytes : written ≡ min (state.text + file.len) (2 ^ 64 - 1))
    (more_others : others ≡ min (state.others + others_of file) (2 ^ 64 - 1))
    (few : count (insert files name body) ≤ 65536) (short : text (insert files name body) ≤ 2 ^ 26) where
  -- the heads that the table has then
  entered : (parsed : Parsed) → file.parsed ≡ parsed → (q : List ℕ)
      → finite.get (with_file state.table name parsed) q ≡ heads_kept (cond (is_at (byte_order name) q) (Some file) (tree.get byte_order state.files q))
  entered (Tree read) e q =
      get-insert nat_list_cmp_total state.table name (heads_from 0 read.units) q ∙ ap (λ b. cond b (Some (heads_from 0 read.units)) (finite.get state.table q)) (turned name q)
      ∙ heads_at (is_at (byte_order name) q) (Some (heads_from 0 read.units)) (finite.get state.table q) (Some file) (tree.get byte_order state.files q) (ap heads_in (sym e)) (was.table q)
  entered (Fault place code) e q = at (byte_order name q) refl
    where
      at : (r : Ordering) → byte_order name q ≡ r → finite.get state.table q ≡ heads_kept (cond (is_eq r) (Some file) (tree.get byte_order state.files q))
      at Less p = was.table q
      at Equal p = ap (finite.get state.table) (sym (names_same name q p)) ∙ was.table name ∙ ap heads_kept (not_kept state files name was new) ∙ ap heads_in (sym e)
      at Greater p = was.table q

  pub stands_added : tree.btree_map_len kept ≡ tree.btree_map_len state.files + 1 → Stands (record { names = state.names; files = kept; table = table; text = written; others = others }) (insert files name body)
  stands_added long =
      let one = count-insert files name body named in
      let bytes = text-insert files name body named in
      let fresh_count : of_found (λ (old : List ℕ). 1) (finite.get files name) ≡ 0 = ap (of_found (λ (old : List ℕ). 1)) new in
      let fresh_text : of_found (length {A = ℕ}) (finite.get files name) ≡ 0 = ap (of_found (length {A = ℕ})) new in
      let sum = sum-insert others_of state.files.entries name file named was.ordered in
      let fresh_sum : of_found others_of (tree.get byte_order state.files name) ≡ 0 = ap (of_found others_of) (not_kept state files name was new) in
      let small = sum-small others_of others-small state.files.entries in
      let one_small = others-small file in
      record {
        builtin = get-insert nat_list_cmp_total files name body [] ∙ ap (λ b. cond b (Some body) (finite.get files [])) (not_empty name named) ∙ was.builtin;
        kept = λ q.
            subst (λ o. IsKept state.names o (tree.get byte_order kept q)) (sym (get-insert nat_list_cmp_total files name body q ∙ ap (λ b. cond b (Some body) (finite.get files q)) (turned name q)))
            (subst (λ o. IsKept state.names (cond (is_at (byte_order name) q) (Some body) (finite.get files q)) o) (sym (updates q))
            (kept_at state.names (is_at (byte_order name) q) (Some body) (finite.get files q) (Some file) (tree.get byte_order state.files q) is (was.kept q)));
        ordered = ordered;
        table = λ q. ap (λ t. finite.get t q) in_table ∙ entered file.parsed refl q ∙ ap heads_kept (sym (updates q));
        counted = omega (arith, long, was.counted, one, fresh_count);
        written = omega (arith, more_bytes, was.written, is.len, bytes, fresh_text, short);
        others = omega (arith, more_others, was.others, sum, fresh_sum, small, one_small, was.counted, was.few, ap (named_sum others_of) listed);
        few = few;
        short = short;
      }

-- ---- how much there is once a file is put

-- how many bytes the file of this name has, where there is one
abbrev pub bytes_found : State → List ℕ → ℕ
bytes_found state name = of_found (λ (file : File). file.len) (tree.get byte_order state.files name)

pub text_then : (state : State) (files : Files) (name body : List ℕ) → Stands state files → name ≢ [] → text (insert files name body) ≡ (state.text - bytes_found state name) + length body
text_then state files name body stands named = by (tree.get byte_order state.files name) refl
  where
    by : (found : Option File) → tree.get byte_order state.files name ≡ found → text (insert files name body) ≡ (state.text - bytes_found state name) + length body
    by None e =
        let old : of_found (length {A = ℕ}) (finite.get files name) ≡ 0 = ap (of_found length) (none_kept state.names (finite.get files name) (tree.get byte_order state.files name) (stands.kept name) e) in
        let len : bytes_found state name ≡ 0 = ap (of_found (λ (file : File). file.len)) e in
        omega (arith, len, text-insert files name body named, stands.written, old)
    by (Some file) e =
        let there = some_kept state.names (finite.get files name) (tree.get byte_order state.files name) file (stands.kept name) e in
        let old : of_found (length {A = ℕ}) (finite.get files name) ≡ length there.0 = ap (of_found length) there.1 in
        let len : bytes_found state name ≡ file.len = ap (of_found (λ (file : File). file.len)) e in
        omega (arith, len, text-insert files name body named, text-remove files name there.0 named there.1, stands.written, old, there.2.len)

pub count_then : (files : Files) (name body : List ℕ) → name ≢ [] → count files ≤ 65536 → (finite.get files name ≡ None → 65536 ≤ count files → ⊥) → count (insert files name body) ≤ 65536
count_then files name body named few room = by (finite.get files name) refl
  where
    by : (found : Option (List ℕ)) → finite.get files name ≡ found → count (insert files name body) ≤ 65536
    by None e =
        let one : of_found (λ (old : List ℕ). 1) (finite.get files name) ≡ 0 = ap (of_found (λ (old : List ℕ). 1)) e in
        not_above (count (insert files name body)) 65536 (λ more. room e (omega (arith, more, one, count-insert files name body named)))
    by (Some old) e =
        let one : of_found (λ (old : List ℕ). 1) (finite.get files name) ≡ 1 = ap (of_found (λ (old : List ℕ). 1)) e in
        omega (arith, few, one, count-insert files name body named)

-- ---- at the start

abbrev no_table : Table
no_table = empty

abbrev no_files : Files
no_files = empty

no_length : {A : Type 0} (es : List A) → length es ≡ 0 → es ≡ []
no_length [] e = refl
no_length (x ∷ es) e = absurd (omega arith)

first_entries : entries first_files ≡ ([], builtin_text) ∷ []
first_entries =
    let none : entries (empty {X = List ℕ} {R = byte_order}) ≡ [] = no_length _ (sym (len-entries empty) ∙ len-empty byte_order (List ℕ)) in
    entries-insert nat_list_cmp_total empty [] builtin_text ∙ ap (put byte_order [] builtin_text) none

pub stands_first : (names : List (List ℕ)) (file : File) (none kept : Kept) (table nothing : Table) → IsRead names builtin_text file → none.entries ≡ [] → nothing ≡ empty → table ≡ with_file nothing [] file.parsed
    → ((q : List ℕ) → tree.get byte_order kept q ≡ cond (is_at (byte_order []) q) (Some file) (tree.get byte_order none q)) → kept.entries ≡ insert_entry byte_order none.entries [] file → tree.IsOrdered byte_order kept
    → Stands (record { names = names; files = kept; table = table; text = 0; others = 0 }) first_files
stands_first names file none kept table nothing is no_entries is_empty in_table updates listed ordered = record {
  builtin = get-insert nat_list_cmp_total empty [] builtin_text [];
  kept = λ q.
      subst (λ o. IsKept names o (tree.get byte_order kept q)) (sym (get-insert nat_list_cmp_total empty [] builtin_text q ∙ ap (λ b. cond b (Some builtin_text) (finite.get no_files q)) (turned [] q) ∙ ap (cond (is_at (byte_order []) q) (Some builtin_text)) (get-empty byte_order q)))
      (subst (λ o. IsKept names (cond (is_at (byte_order []) q) (Some builtin_text) None) o) (sym (updates q ∙ ap (cond (is_at (byte_order []) q) (Some file)) (not_there q)))
      (kept_at names (is_at (byte_order []) q) (Some builtin_text) None (Some file) None is tt));
  ordered = ordered;
  table = λ q. ap (λ t. finite.get t q) (in_table ∙ ap (λ t. with_file t [] file.parsed) is_empty) ∙ entered file.parsed refl q ∙ ap heads_kept (sym (updates q ∙ ap (cond (is_at (byte_order []) q) (Some file)) (not_there q)));
  counted = ap length (listed ∙ ap (λ es. insert_entry byte_order es [] file) no_entries) ∙ sym (ap (λ es. length (filter model.is_named es) + 1) first_entries);
  written = sym (ap (λ es. total_length (filter model.is_named es)) first_entries);
  others = sym (ap (named_sum others_of) (listed ∙ ap (λ es. insert_entry byte_order es [] file) no_entries));
  few = subst (λ es. length (filter model.is_named es) ≤ 65536) (sym first_entries) (omega arith);
  short = subst (λ es. total_length (filter model.is_named es) ≤ 2 ^ 26) (sym first_entries) (omega arith);
}
  where
    not_there : (q : List ℕ) → tree.get byte_order none q ≡ None
    not_there q = ap (lookup (is_at (byte_order q))) no_entries

    entered : (parsed : Parsed) → file.parsed ≡ parsed → (q : List ℕ) → finite.get (with_file no_table [] parsed) q ≡ heads_kept (cond (is_at (byte_order []) q) (Some file) None)
    entered (Tree read) e q =
        get-insert nat_list_cmp_total no_table [] (heads_from 0 read.units) q ∙ ap (λ b. cond b (Some (heads_from 0 read.units)) (finite.get no_table q)) (turned [] q)
        ∙ heads_at (is_at (byte_order []) q) (Some (heads_from 0 read.units)) (finite.get no_table q) (Some file) None (ap heads_in (sym e)) (get-empty byte_order q)
    entered (Fault place code) e q = get-empty byte_order q ∙ at (is_at (byte_order []) q)
      where
        at : (b : Bool) → None ≡ heads_kept (cond b (Some file) None)
        at true = ap heads_in (sym e)
        at false = refl

-- ---- lengths

pub builtin_length : length builtin_text ≡ 478
unfolding builtin_text
builtin_length = refl

pub fixed_length : length fixed_names ≡ 7
unfolding fixed_names
fixed_length = refl
