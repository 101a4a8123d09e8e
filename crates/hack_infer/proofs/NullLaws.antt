-- What is named by a type without null, and a list of types that grows at its end.
use Rattle.std.proofs.Common.{◌≡◌, ◌∙◌, ◌+◌, ◌<◌, ℕ, List, [], ◌∷◌, ◌++◌, length, map, take, get_or, All, sym, ap}
use Rattle.std.proofs.lemmas.List.{map_push, take_more}
use Rattle.std.proofs.lemmas.List.Elements.{All-cons, All-head, All-tail}
use Rattle.hack_types.specs.declared.hack_type.HackType.{HackType, out-HackType}
use Rattle.hack_types.specs.declared.hack_type.HackType.TheOpen.{HackType-F}
use Rattle.hack_decls.specs.DeclState.{Symbols}
use Rattle.hack_decls.specs.Names.{TypeIn}
use Rattle.hack_sub.specs.NamesPut.{of_nonnull, of_nothing}
use Rattle.hack_infer.specs.WithoutNull.{plain_by, plain_without}

module _ (symbols : Symbols) where
  in_plain_by : (ty : HackType) (layer : HackType-F HackType) → TypeIn symbols ty → TypeIn symbols (plain_by ty layer)
  in_plain_by ty HackType-F.Mixed here = of_nonnull symbols
  in_plain_by ty HackType-F.Null here = of_nothing symbols
  in_plain_by ty _ here = here

  pub in_plain : (ty : HackType) → TypeIn symbols ty → TypeIn symbols (plain_without ty)
  in_plain ty here = in_plain_by ty (out-HackType ty) here

  pub one_more_in : (types : List HackType) (ty : HackType) → All (TypeIn symbols) types → TypeIn symbols ty → All (TypeIn symbols) (types ++ ty ∷ [])
  one_more_in [] ty all here = All-cons (TypeIn symbols) ty [] here all
  one_more_in (t ∷ ts) ty all here = All-cons (TypeIn symbols) t (ts ++ ty ∷ []) (All-head (TypeIn symbols) t ts all) (one_more_in ts ty (All-tail (TypeIn symbols) t ts all) here)

-- one more of the parts
pub next_part : (f : HackType → HackType) (xs : List HackType) (i : ℕ) (x part : HackType) → i < length xs → x ≡ get_or xs i x → part ≡ f x
    → map f (take i xs) ++ part ∷ [] ≡ map f (take (i + 1) xs)
next_part f xs i x part lt at is =
    ap (λ p. map f (take i xs) ++ p ∷ []) (is ∙ ap f at) ∙ sym (map_push f (take i xs) (get_or xs i x)) ∙ ap (map f) (sym (take_more xs i x lt))
