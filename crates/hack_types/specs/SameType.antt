-- Whether two types are equal, as a test.
use Rattle.std.specs.Prelude.{Bool, true, false, ◌&&◌, nat_eq}
use base.Stored.{Gv, gnil, gnum, gcons}
use Rattle.hack_types.specs.contracts.hack_type.HackType as hack_type
use Rattle.hack_types.specs.declared.hack_type.HackType.{HackType}

-- whether two codes are equal; types have codes, and no two types have one code
unfoldable pub same_code : Gv → Gv → Bool
same_code gnil gnil = true
same_code (gnum n) (gnum m) = nat_eq n m
same_code (gcons a b) (gcons c d) = same_code a c && same_code b d
same_code _ _ = false

-- whether the two types are equal
unfoldable pub same_type : HackType → HackType → Bool
same_type type other = same_code (hack_type.the_row.coded.code type) (hack_type.the_row.coded.code other)
