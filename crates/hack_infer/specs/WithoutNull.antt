-- What a type becomes where null is ruled out (docs/language.md, Typing expressions, Heads).
use Rattle.std.specs.Prelude.{ℕ, zero, suc, Bool, true, false, if◌then◌else◌, Option, Some, None, List, map}
use Rattle.hack_types.specs.Substituted.{most_nodes}
use Rattle.hack_types.specs.UnionOf.{union_of}
use Rattle.hack_types.specs.declared.hack_type.HackType.{HackType, out-HackType}
use Rattle.hack_types.specs.declared.hack_type.HackType.TheOpen.{HackType-F}
use Rattle.hack_types.specs.declared.hack_type.HackType.TheVariants.{Nonnull, Nothing}
use Rattle.hack_decls.specs.DeclState.{Map}
use Rattle.hack_sub.specs.Parts.{name_of, option_inside, union_members}
use Rattle.hack_infer.specs.Seeing.{most_steps, opened}

-- `mixed`, `null`, options and unions change of themselves where null is ruled out
abbrev pub loses_by : {T : Type 0} → HackType-F T → Bool
loses_by HackType-F.Mixed = true
loses_by HackType-F.Null = true
loses_by (HackType-F.Option inside) = true
loses_by (HackType-F.Union members) = true
loses_by _ = false

abbrev pub loses_null : HackType → Bool
loses_null ty = loses_by (out-HackType ty)

-- one step on
abbrev pub coming_by : (HackType → Option HackType) → Option HackType → Option HackType
coming_by go_on None = None
coming_by go_on (Some next) = if loses_null next then Some next else go_on next

-- the first such type that an alias comes to, in at most so many steps
unfoldable pub comes_to : ℕ → Map → HackType → Option HackType
comes_to zero map ty = None
comes_to (suc steps) map ty = coming_by (comes_to steps map) (opened map ty)

-- an alias that comes to none of them stays
abbrev pub alias_by : (HackType → HackType) → HackType → Option HackType → HackType
alias_by go_on ty None = ty
alias_by go_on ty (Some next) = go_on next

-- `mixed` is `nonnull`, `null` is `nothing`, and any other type stays
abbrev pub plain_by : HackType → HackType-F HackType → HackType
plain_by ty HackType-F.Mixed = Nonnull
plain_by ty HackType-F.Null = Nothing
plain_by ty _ = ty

abbrev pub plain_without : HackType → HackType
plain_without ty = plain_by ty (out-HackType ty)

-- a named type
abbrev pub named_by : (HackType → HackType) → Map → HackType → Option ℕ → HackType
named_by go_on map ty (Some name) = alias_by go_on ty (comes_to most_steps map ty)
named_by go_on map ty None = plain_without ty

-- a union goes per member
abbrev pub members_by : (HackType → HackType) → Map → HackType → Option (List HackType) → HackType
members_by go_on m ty (Some members) = union_of (map go_on members)
members_by go_on m ty None = named_by go_on m ty (name_of ty)

-- `?U` gives U as it is
abbrev pub option_by : (HackType → HackType) → Map → HackType → Option HackType → HackType
option_by go_on map ty (Some inside) = inside
option_by go_on map ty None = members_by go_on map ty (union_members ty)

-- by what the type is; unions stand inside unions only through arguments of aliases, each with fewer nodes than the one before, so no
-- type that has as few nodes as a type may have goes deeper than this number
unfoldable pub without_null_in : ℕ → Map → HackType → HackType
without_null_in zero map ty = ty
without_null_in (suc turns) map ty = option_by (without_null_in turns map) map ty (option_inside ty)

-- `?U` gives U as it is, `mixed` gives `nonnull`, `null` gives `nothing`, a union goes per member, and an alias that comes to one of
-- these in at most sixteen steps goes as that; every other type stays
abbrev pub without_null : Map → HackType → HackType
without_null map ty = without_null_in most_nodes map ty
