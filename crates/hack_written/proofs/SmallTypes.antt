-- Types that are small.
use Rattle.std.proofs.Common.{◌≡◌, ◌≤◌, ◌∙◌, ℕ, Bool, true, false, cond, nat_le, refl, sym, ap, arith}
use Rattle.std.proofs.lemmas.Bool.{leb-true}
use Rattle.hack_tree.specs.declared.written_type.Primitive.{Primitive}
use Rattle.hack_tree.specs.declared.written_type.Primitive.TheVariants as keyword
use Rattle.hack_types.specs.Substituted.{limited, most_nodes}
use Rattle.hack_types.specs.TypeNodes.{node_count, nodes}
use Rattle.hack_types.specs.declared.hack_type.HackType.{HackType}
use Rattle.hack_types.specs.declared.hack_type.HackType.TheOpen.{HackType-F}
use Rattle.hack_types.specs.declared.hack_type.HackType.TheFolds.{fold-roll-HackType}
use Rattle.hack_types.specs.declared.hack_type.HackType.TheVariants as type
use Rattle.hack_types.specs.declared.place.Place.{Place}
use Rattle.hack_decls.specs.DeclState.{Map}
use Rattle.hack_shallow.specs.Resolved.{primitive_type}
use Rattle.hack_diag.specs.Messages.{too_big}
use Rattle.hack_rules.specs.Walks.{Setting, State, Walk, ◌>>=◌, ◌>>◌, pure, reads, unless}
use Rattle.hack_rules.specs.WrittenTypes.{Mention, names_of, whole, whole_mention, written}
use Rattle.hack_tree.specs.declared.written_type.WrittenType.TheVariants as form
use Rattle.hack_written.proofs.Mentions as one

one_node : (p : Primitive) → nodes (primitive_type p) ≡ 1
one_node keyword.ArrayKey = ap nodes (sym type.rolls-Arraykey) ∙ fold-roll-HackType ℕ node_count HackType-F.Arraykey
one_node keyword.Bool = ap nodes (sym type.rolls-Bool) ∙ fold-roll-HackType ℕ node_count HackType-F.Bool
one_node keyword.Float = ap nodes (sym type.rolls-Float) ∙ fold-roll-HackType ℕ node_count HackType-F.Float
one_node keyword.Int = ap nodes (sym type.rolls-Int) ∙ fold-roll-HackType ℕ node_count HackType-F.Int
one_node keyword.Mixed = ap nodes (sym type.rolls-Mixed) ∙ fold-roll-HackType ℕ node_count HackType-F.Mixed
one_node keyword.NonNull = ap nodes (sym type.rolls-Nonnull) ∙ fold-roll-HackType ℕ node_count HackType-F.Nonnull
one_node keyword.NoReturn = ap nodes (sym type.rolls-Noreturn) ∙ fold-roll-HackType ℕ node_count HackType-F.Noreturn
one_node keyword.Nothing = ap nodes (sym type.rolls-Nothing) ∙ fold-roll-HackType ℕ node_count HackType-F.Nothing
one_node keyword.Null = ap nodes (sym type.rolls-Null) ∙ fold-roll-HackType ℕ node_count HackType-F.Null
one_node keyword.Num = ap nodes (sym type.rolls-Num) ∙ fold-roll-HackType ℕ node_count HackType-F.Num
one_node keyword.String = ap nodes (sym type.rolls-Str) ∙ fold-roll-HackType ℕ node_count HackType-F.Str
one_node keyword.Void = ap nodes (sym type.rolls-Void) ∙ fold-roll-HackType ℕ node_count HackType-F.Void

is_small : (p : Primitive) → nat_le (nodes (primitive_type p)) most_nodes ≡ true
is_small p = ap (λ (n : ℕ). nat_le n most_nodes) (one_node p)

whole_small : (at : Place) (ty : HackType) (setting : Setting) (m : Map) (s : State) → nat_le (nodes ty) most_nodes ≡ true
    → whole at ty (λ bounds. pure tt) setting m s ≡ (ty, s)
unfolding whole ◌>>=◌ ◌>>◌ pure unless
whole_small at ty setting m s is = ap (λ (b : Bool). (cond b ty type.Any, (unless b at too_big setting m s).1)) is

pub keyword_is : (at : Place) (p : Primitive) (setting : Setting) (m : Map) (s : State) → written (form.Primitive at p) setting m s ≡ (primitive_type p, s)
unfolding written ◌>>=◌ reads
keyword_is at p setting m s =
    ap (λ (x : Mention). whole_mention x setting m s) (one.primitive (names_of setting.scope) at p) ∙ whole_small at (primitive_type p) setting m s (is_small p)

small_by : (b : Bool) (ty : HackType) → nat_le (nodes ty) most_nodes ≡ b → nodes (cond b ty type.Any) ≤ most_nodes
small_by true ty is = leb-true (nodes ty) most_nodes is
small_by false ty is = let any : nodes type.Any ≡ 1 = ap nodes (sym type.rolls-Any) ∙ fold-roll-HackType ℕ node_count HackType-F.Any in omega (arith, any)

limited_small : (ty : HackType) → nodes (limited ty) ≤ most_nodes
limited_small ty = small_by (nat_le (nodes ty) most_nodes) ty refl

pub whole_is_small : (at : Place) (ty : HackType) (checks : Bool → Walk (Unit {0})) (setting : Setting) (m : Map) (s : State) → nodes (whole at ty checks setting m s).0 ≤ most_nodes
unfolding whole ◌>>=◌ ◌>>◌ pure
whole_is_small at ty checks setting m s = limited_small ty
