-- What a member of a folded class comes from.
use Rattle.std.specs.Prelude.{◌≡◌, ℕ, List, Contains}
use Rattle.hack_types.specs.MembersRise.{kind_rank}
use Rattle.hack_types.specs.declared.shallow.Member.{Member}
use Rattle.hack_decls.specs.declared.folded.Ancestor.{Ancestor}
use Rattle.hack_fold.specs.Parents.{Shallows}
use Rattle.hack_fold.specs.Paths.{end_of, own_members, paths}

-- it has the kind and the name of a member that is declared at the end of one of the class's paths
abbrev pub IsDeclaredAbove : Shallows → ℕ → Member → Type 0
IsDeclaredAbove shallows name member =
    (steps : ℕ) × (path : List Ancestor) × (declared : Member) × Contains (paths shallows steps name) path × Contains (own_members shallows (end_of name path)) declared
    × (kind_rank member.kind ≡ kind_rank declared.kind) × (member.name ≡ declared.name)
