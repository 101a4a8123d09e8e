-- What indices, members, `++` and `--` behind an operand assign.
use Rattle.std.proofs.Common.{◌≡◌, ◌∙◌, ◌<◌, ◌≤◌, ◌+◌, ◌++◌, ℕ, Some, None, List, [], ◌∷◌, rules, drop, get_or, length, map, refl, sym, ap}
use Rattle.std.specs.List.{flat_map, fold}
use Rattle.std.proofs.lemmas.List.{append_assoc, drop_all, drop_more}
use Rattle.std.proofs.lemmas.List.Folds.{flat_map-map}
use Rattle.hack_tree.specs.declared.expression.Entry.{Entry}
use Rattle.hack_tree.specs.declared.expression.Expr.{Expr, the_lemmas}
use Rattle.hack_tree.specs.declared.expression.Expr.TheFolds.{fold-roll-Suffix}
use Rattle.hack_tree.specs.declared.expression.Expr.TheOpen.{Suffix-F}
use Rattle.hack_tree.specs.declared.expression.FieldValue.{FieldValue}
use Rattle.hack_tree.specs.declared.expression.Operand.{Operand}
use Rattle.hack_tree.specs.declared.expression.ScopedMember.{ScopedMember}
use Rattle.hack_tree.specs.declared.expression.Suffix.{Suffix, out-Suffix, roll-Suffix}
use Rattle.hack_rules.specs.Chains.{Joined}
use Rattle.hack_rules.specs.Expressions.{ScopedMeaning, SuffixMeaning, entry_by, expression_by, field_by, meaning_of, operand_by, scoped_by, suffix_by}
use Rattle.hack_rules.specs.Meanings.{Meaning}
use Rattle.hack_rules.specs.Values.{Given, Pair}
use Rattle.hack_parts.specs.Forms.{suffix_of}
use Rattle.hack_assigned.specs.inside.Parts.{in_each}
use Rattle.hack_assigned.specs.inside.Suffixes.{added, added_behind, added_by, kept, kept_behind, kept_by}
use Rattle.hack_assigned.proofs.Adding.{behind_none}

abbrev Layer : Type 0
Layer = Suffix-F Expr ScopedMember Suffix Entry FieldValue Operand

rolled : (s : Suffix) → s ≡ roll-Suffix (out-Suffix s)
rolled s = search (rules, the_lemmas)

-- what is assigned in all of these
pub each_is : (parts : List Expr) → in_each parts ≡ flat_map (λ (m : Meaning). m.assigned) (map meaning_of parts)
each_is parts = sym (flat_map-map (λ (m : Meaning). m.assigned) meaning_of parts)

added_layer : (layer : Layer) (m : Meaning) → m.assigned ++ added_by m.roots layer ≡ (suffix_of (roll-Suffix layer) m).assigned
unfolding suffix_by
added_layer (Suffix-F.Index None) m =
    sym (ap (λ (f : SuffixMeaning). (f m).assigned) (fold-roll-Suffix Meaning ScopedMeaning SuffixMeaning Pair Given Joined expression_by scoped_by suffix_by entry_by field_by operand_by (Suffix-F.Index None)))
added_layer (Suffix-F.Index (Some index)) m =
    sym (ap (λ (f : SuffixMeaning). (f m).assigned) (fold-roll-Suffix Meaning ScopedMeaning SuffixMeaning Pair Given Joined expression_by scoped_by suffix_by entry_by field_by operand_by (Suffix-F.Index (Some index))))
added_layer (Suffix-F.Member null_safe name None) m =
    behind_none m.assigned
    ∙ sym (ap (λ (f : SuffixMeaning). (f m).assigned) (fold-roll-Suffix Meaning ScopedMeaning SuffixMeaning Pair Given Joined expression_by scoped_by suffix_by entry_by field_by operand_by (Suffix-F.Member null_safe name None)))
added_layer (Suffix-F.Member null_safe name (Some arguments)) m =
    ap (λ l. m.assigned ++ l) (each_is arguments)
    ∙ sym (ap (λ (f : SuffixMeaning). (f m).assigned) (fold-roll-Suffix Meaning ScopedMeaning SuffixMeaning Pair Given Joined expression_by scoped_by suffix_by entry_by field_by operand_by (Suffix-F.Member null_safe name (Some arguments))))
added_layer Suffix-F.Increment m =
    sym (ap (λ (f : SuffixMeaning). (f m).assigned) (fold-roll-Suffix Meaning ScopedMeaning SuffixMeaning Pair Given Joined expression_by scoped_by suffix_by entry_by field_by operand_by Suffix-F.Increment))
added_layer Suffix-F.Decrement m =
    sym (ap (λ (f : SuffixMeaning). (f m).assigned) (fold-roll-Suffix Meaning ScopedMeaning SuffixMeaning Pair Given Joined expression_by scoped_by suffix_by entry_by field_by operand_by Suffix-F.Decrement))

kept_layer : (layer : Layer) (m : Meaning) → kept_by m.roots layer ≡ (suffix_of (roll-Suffix layer) m).roots
unfolding suffix_by
kept_layer (Suffix-F.Index None) m =
    sym (ap (λ (f : SuffixMeaning). (f m).roots) (fold-roll-Suffix Meaning ScopedMeaning SuffixMeaning Pair Given Joined expression_by scoped_by suffix_by entry_by field_by operand_by (Suffix-F.Index None)))
kept_layer (Suffix-F.Index (Some index)) m =
    sym (ap (λ (f : SuffixMeaning). (f m).roots) (fold-roll-Suffix Meaning ScopedMeaning SuffixMeaning Pair Given Joined expression_by scoped_by suffix_by entry_by field_by operand_by (Suffix-F.Index (Some index))))
kept_layer (Suffix-F.Member null_safe name None) m =
    sym (ap (λ (f : SuffixMeaning). (f m).roots) (fold-roll-Suffix Meaning ScopedMeaning SuffixMeaning Pair Given Joined expression_by scoped_by suffix_by entry_by field_by operand_by (Suffix-F.Member null_safe name None)))
kept_layer (Suffix-F.Member null_safe name (Some arguments)) m =
    sym (ap (λ (f : SuffixMeaning). (f m).roots) (fold-roll-Suffix Meaning ScopedMeaning SuffixMeaning Pair Given Joined expression_by scoped_by suffix_by entry_by field_by operand_by (Suffix-F.Member null_safe name (Some arguments))))
kept_layer Suffix-F.Increment m =
    sym (ap (λ (f : SuffixMeaning). (f m).roots) (fold-roll-Suffix Meaning ScopedMeaning SuffixMeaning Pair Given Joined expression_by scoped_by suffix_by entry_by field_by operand_by Suffix-F.Increment))
kept_layer Suffix-F.Decrement m =
    sym (ap (λ (f : SuffixMeaning). (f m).roots) (fold-roll-Suffix Meaning ScopedMeaning SuffixMeaning Pair Given Joined expression_by scoped_by suffix_by entry_by field_by operand_by Suffix-F.Decrement))

added_one : (s : Suffix) (m : Meaning) → m.assigned ++ added m.roots s ≡ (suffix_of s m).assigned
added_one s m = added_layer (out-Suffix s) m ∙ ap (λ (x : Suffix). (suffix_of x m).assigned) (sym (rolled s))

kept_one : (s : Suffix) (m : Meaning) → kept m.roots s ≡ (suffix_of s m).roots
kept_one s m = kept_layer (out-Suffix s) m ∙ ap (λ (x : Suffix). (suffix_of x m).roots) (sym (rolled s))

abbrev pub behind : Meaning → List Suffix → Meaning
behind base suffixes = fold (λ (b : Meaning) (s : SuffixMeaning). s b) base (map suffix_of suffixes)

-- what all of these assign behind an operand
pub all_added : (suffixes : List Suffix) (names : List ℕ) (m : Meaning) → added_behind (names ++ m.assigned) m.roots suffixes ≡ names ++ (behind m suffixes).assigned
unfolding added_behind
all_added [] names m = refl
all_added (s ∷ suffixes) names m =
    ap (λ l. added_behind l (kept m.roots s) suffixes) (append_assoc names m.assigned (added m.roots s) ∙ ap (λ l. names ++ l) (added_one s m))
    ∙ ap (λ r. added_behind (names ++ (suffix_of s m).assigned) r suffixes) (kept_one s m) ∙ all_added suffixes names (suffix_of s m)

-- and the root that they leave
pub all_kept : (suffixes : List Suffix) (m : Meaning) → kept_behind m.roots suffixes ≡ (behind m suffixes).roots
unfolding kept_behind
all_kept [] m = refl
all_kept (s ∷ suffixes) m = ap (λ r. kept_behind r suffixes) (kept_one s m) ∙ all_kept suffixes (suffix_of s m)

-- one more of them
pub next_kept : (suffixes : List Suffix) (i : ℕ) (s : Suffix) (roots : List ℕ) {later whole : List ℕ} → i < length suffixes → s ≡ get_or suffixes i s → later ≡ kept roots s
    → kept_behind roots (drop i suffixes) ≡ whole → kept_behind later (drop (i + 1) suffixes) ≡ whole
unfolding kept_behind
next_kept suffixes i s roots below is put so_far =
    let rest = drop (i + 1) suffixes in
    ap (λ r. kept_behind r rest) put ∙ ap (λ ss. kept_behind roots ss) (sym (drop_more suffixes i s below ∙ ap (λ y. y ∷ rest) (sym is))) ∙ so_far

pub next_added : (suffixes : List Suffix) (i : ℕ) (s : Suffix) (names roots : List ℕ) {later_names later whole : List ℕ} → i < length suffixes → s ≡ get_or suffixes i s
    → later_names ≡ names ++ added roots s → later ≡ kept roots s → added_behind names roots (drop i suffixes) ≡ whole → added_behind later_names later (drop (i + 1) suffixes) ≡ whole
unfolding added_behind
next_added suffixes i s names roots {later = later} below is first second so_far =
    let rest = drop (i + 1) suffixes in
    ap (λ l. added_behind l later rest) first ∙ ap (λ r. added_behind (names ++ added roots s) r rest) second
    ∙ ap (λ ss. added_behind names roots ss) (sym (drop_more suffixes i s below ∙ ap (λ y. y ∷ rest) (sym is))) ∙ so_far

-- all of them
pub last_kept : (suffixes : List Suffix) (i : ℕ) (roots : List ℕ) {whole : List ℕ} → length suffixes ≤ i → kept_behind roots (drop i suffixes) ≡ whole → roots ≡ whole
unfolding kept_behind
last_kept suffixes i roots over so_far = sym (ap (λ ss. kept_behind roots ss) (drop_all i suffixes over)) ∙ so_far

pub last_added : (suffixes : List Suffix) (i : ℕ) (names roots : List ℕ) {whole : List ℕ} → length suffixes ≤ i → added_behind names roots (drop i suffixes) ≡ whole → names ≡ whole
unfolding added_behind
last_added suffixes i names roots over so_far = sym (ap (λ ss. added_behind names roots ss) (drop_all i suffixes over)) ∙ so_far
