-- Types that are put in, and types of more than 256 nodes.
use Rattle.std.proofs.Common.{◌≡◌, ◌<◌, ◌≤◌, ◌∙◌, ◌&&◌, ◌⊎◌, ℕ, zero, suc, Bool, true, false, cond, nat_le, Some, None, List, [], ◌∷◌, All, Decides, length, map, get_or, min, inl, inr, refl, sym, ap, arith}
use Rattle.std.proofs.lemmas.List.Elements.{All-cons, All-head, All-tail}
use Rattle.std.proofs.lemmas.Bool.{cases_lt, le-leb, leb-true}
use borrow.Author.Tests.{lt-leb}
use Rattle.std.specs.List.{list_all}
use Rattle.hack_tree.specs.declared.written_type.WrittenType.{WrittenType}
use Rattle.hack_types.specs.Substituted.{limited, most_nodes, substitute, substitute_by}
use Rattle.hack_types.specs.TypeNodes.{nodes}
use Rattle.hack_types.specs.declared.hack_type.HackType.{HackType}
use Rattle.hack_types.specs.declared.hack_type.HackType.TheFolds.{fold-HackType}
use Rattle.hack_types.specs.declared.hack_type.HackType.TheOpen.{HackType-F}
use Rattle.hack_types.specs.declared.hack_type.HackType.TheVariants.{Any}
use Rattle.hack_types.specs.declared.signature.TypeParam.{TypeParam}
use Rattle.hack_shallow.specs.Scope.{Scope as Names}
use Rattle.hack_decls.specs.DeclState.{Symbols}
use Rattle.hack_decls.specs.NameLaws.{back, front}
use Rattle.hack_decls.specs.Names.{TypeIn, types_of_param}
use Rattle.hack_infer.specs.Filling.{Filling, filled, filled_by, filled_limited}
use Rattle.hack_rules.specs.WrittenTypes.{Argument, argument_of, mention}
use Rattle.hack_sub.specs.IsBelow.{is_small}
use Rattle.hack_sub.specs.NamesPut.{of_any}
use Rattle.hack_written.specs.NamesFilled.{FillingIn, in_filled_bounds}
use Rattle.hack_written.specs.Within.{BoundsIn, arguments_of, place_of}
use Rattle.hack_written.specs.inside.Rows.{mentions, types_in}
use Rattle.hack_written.proofs.Mentions.{place}

-- ---- large types

pub whole : (ty put : HackType) → (put ≡ ty) × (nodes ty ≤ most_nodes) → put ≡ limited ty
whole ty put is = is.0 ∙ sym (ap (λ b. cond b ty Any) (le-leb (nodes ty) most_nodes is.1))

pub too_large : (ty : HackType) → most_nodes < nodes ty → Any ≡ limited ty
too_large ty large = sym (ap (λ b. cond b ty Any) (lt-leb (nodes ty) most_nodes large))

pub small : (ty : HackType) → Decides (nat_le (nodes ty) most_nodes) (nodes ty ≤ most_nodes)
small ty = (leb-true (nodes ty) most_nodes, le-leb (nodes ty) most_nodes)

pub stays : (ty : HackType) (b : Bool) → b ≡ nat_le (nodes ty) most_nodes → b ≡ true → ty ≡ limited ty
stays ty b is holds = sym (ap (λ b. cond b ty Any) (sym is ∙ holds))

pub goes : (ty : HackType) (b : Bool) → b ≡ nat_le (nodes ty) most_nodes → b ≡ false → Any ≡ limited ty
goes ty b is fails = sym (ap (λ b. cond b ty Any) (sym is ∙ fails))

stay_by : (b : Bool) (ty : HackType) (types : List HackType) → is_small ty ≡ b → (list_all is_small types ≡ true → map limited types ≡ types)
    → (b && list_all is_small types) ≡ true → map limited (ty ∷ types) ≡ ty ∷ types
stay_by true ty types is rest all = ap (λ (t : HackType). t ∷ map limited types) (ap (λ b. cond b ty Any) is) ∙ ap (λ ts. ty ∷ ts) (rest all)
stay_by false ty types is rest all = cc

pub all_stay : (types : List HackType) → list_all is_small types ≡ true → map limited types ≡ types
all_stay [] all = refl
all_stay (ty ∷ types) all = stay_by (is_small ty) ty types refl (all_stay types) all

module _ (symbols : Symbols) where
  by_size : (b : Bool) (ty : HackType) → TypeIn symbols ty → TypeIn symbols (cond b ty Any)
  by_size true ty here = here
  by_size false ty here = of_any symbols

  pub in_limited : (ty : HackType) → TypeIn symbols ty → TypeIn symbols (limited ty)
  in_limited ty here = by_size (nat_le (nodes ty) most_nodes) ty here

  pub all_limited : (types : List HackType) → All (TypeIn symbols) types → All (TypeIn symbols) (map limited types)
  all_limited [] all = λ k d lt. absurd (omega (arith, lt))
  all_limited (ty ∷ types) all = All-cons (TypeIn symbols) (limited ty) (map limited types) (in_limited ty (All-head (TypeIn symbols) ty types all))
      (all_limited types (All-tail (TypeIn symbols) ty types all))

-- ---- arguments

-- in the place of class parameters alone
abbrev pub for_class : List HackType → Filling
for_class types = record { class = Some types; function = None; this = None }

one_layer : (types : List HackType) (layer : HackType-F HackType) → filled_by (for_class types) layer ≡ substitute_by types layer
one_layer types HackType-F.Any = refl
one_layer types HackType-F.Mixed = refl
one_layer types HackType-F.Nonnull = refl
one_layer types HackType-F.Nothing = refl
one_layer types HackType-F.Null = refl
one_layer types HackType-F.Void = refl
one_layer types HackType-F.Noreturn = refl
one_layer types HackType-F.Bool = refl
one_layer types HackType-F.Int = refl
one_layer types HackType-F.Float = refl
one_layer types HackType-F.Num = refl
one_layer types HackType-F.Str = refl
one_layer types HackType-F.Arraykey = refl
one_layer types HackType-F.This = refl
one_layer types (HackType-F.Option inside) = refl
one_layer types (HackType-F.Vector item) = refl
one_layer types (HackType-F.Dict key value) = refl
one_layer types (HackType-F.Keyset item) = refl
one_layer types (HackType-F.Shape fields rest) = refl
one_layer types (HackType-F.Class name arguments) = refl
one_layer types (HackType-F.ClassParam position name) = refl
one_layer types (HackType-F.FunParam position name) = refl
one_layer types (HackType-F.Union members) = refl

pub same_put : (types : List HackType) (ty : HackType) → filled (for_class types) ty ≡ substitute types ty
unfolding filled substitute
same_put types ty = λ i. fold-HackType HackType (λ layer. one_layer types layer i) ty

module _ (symbols : Symbols) (types : List HackType) (given : All (TypeIn symbols) types) where
  pub in_bounds : (param : TypeParam) (ty : HackType) → All (TypeIn symbols) (types_of_param param) → TypeIn symbols ty → BoundsIn symbols (filled_limited (for_class types)) param ty
  in_bounds param ty all here =
      let filling : FillingIn symbols (for_class types) = record { class = given; function = tt; this = tt } in
      record {
        given = here;
        upper = in_filled_bounds symbols (for_class types) filling param.upper (front (TypeIn symbols) param.upper param.lower all);
        lower = in_filled_bounds symbols (for_class types) filling param.lower (back (TypeIn symbols) param.upper param.lower all);
      }

-- ---- written arguments

-- the types of arguments, where those of more than 256 nodes are `_`
pub limited_arguments : (names : Names) (written : List WrittenType) → map argument_of (mentions names written) ≡ arguments_of written (map limited (types_in names written))
limited_arguments names [] = refl
limited_arguments names (w ∷ ws) = λ i. record { at = place names w i; ty = limited (mention names w).ty } ∷ limited_arguments names ws i

pub types_of_arguments : (written : List WrittenType) (types : List HackType) → length written ≡ length types → map (λ a. a.ty) (arguments_of written types) ≡ types
types_of_arguments [] [] e = refl
types_of_arguments [] (t ∷ ts) e = absurd (omega (arith, e))
types_of_arguments (w ∷ ws) [] e = absurd (omega (arith, e))
types_of_arguments (w ∷ ws) (t ∷ ts) e = ap (λ rest. t ∷ rest) (types_of_arguments ws ts (omega (arith, e)))

pub same_count : (names : Names) (written : List WrittenType) → length written ≡ length (types_in names written)
same_count names [] = refl
same_count names (w ∷ ws) = omega (arith, same_count names ws)

pub mention_count : (names : Names) (written : List WrittenType) → length written ≡ length (mentions names written)
mention_count names [] = refl
mention_count names (w ∷ ws) = omega (arith, mention_count names ws)

-- an argument by its place
pub argument_at : (written : List WrittenType) (types : List HackType) (i : ℕ) (w : WrittenType) (t : HackType) (d : Argument) → i < length written → i < length types
    → w ≡ get_or written i w → t ≡ get_or types i t → get_or (arguments_of written types) i d ≡ record { at = place_of w; ty = t }
argument_at [] types i w t d lw lt aw at = absurd (omega (arith, lw))
argument_at (x ∷ xs) [] i w t d lw lt aw at = absurd (omega (arith, lt))
argument_at (x ∷ xs) (y ∷ ys) zero w t d lw lt aw at = λ k. record { at = place_of (sym aw k); ty = sym at k }
argument_at (x ∷ xs) (y ∷ ys) (suc i) w t d lw lt aw at = argument_at xs ys i w t d (omega (arith, lw)) (omega (arith, lt)) aw at

pub argument_count : (written : List WrittenType) (types : List HackType) → length written ≡ length types → length (arguments_of written types) ≡ length types
argument_count [] [] e = refl
argument_count [] (t ∷ ts) e = absurd (omega (arith, e))
argument_count (w ∷ ws) [] e = absurd (omega (arith, e))
argument_count (w ∷ ws) (t ∷ ts) e = let rest : length (arguments_of ws ts) ≡ length ts = argument_count ws ts (omega (arith, e)) in omega (arith, rest)

pub limited_count : (types : List HackType) → length types ≡ length (map limited types)
limited_count [] = refl
limited_count (t ∷ ts) = omega (arith, limited_count ts)

-- the shorter of two lists ends first
pub shorter : (a b c i : ℕ) → c ≡ b → min a b ≤ i → (a ≤ i) ⊎ (c ≤ i)
shorter a b c i same le = by (cases_lt i a)
  where
    by : (i < a) ⊎ (a ≤ i) → (a ≤ i) ⊎ (c ≤ i)
    by (inr here) = inl here
    by (inl other) = inr (omega (arith, le, other, same))
