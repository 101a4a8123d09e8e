-- What rows do once their first part was typed (docs/language.md, Typing expressions).
use Rattle.hack_types.specs.declared.hack_type.HackType.{HackType}
use Rattle.hack_rules.specs.Meanings.{Branches, Meaning}
use Rattle.hack_rules.specs.Variables.{Variables, joined, union_of_two}
use Rattle.hack_rules.specs.Walks.{Walk, ◌>>=◌, ◌>>◌, pure, replace, variables}

-- `c ? a : b`, once the end of `a` and its type are known and the variables are those where `c` doesn't hold
unfoldable pub other_on : Meaning → Variables → HackType → Walk HackType
other_on other behind first = do
  second ← other.walk
  end ← variables
  replace (joined behind end)
  pure (union_of_two first second)

-- `c ? a : b`, once the branches of `c` are known
unfoldable pub parts_on : Meaning → Meaning → Branches → Walk HackType
parts_on middle other branches = do
  replace branches.when_true
  first ← middle.walk
  behind ← variables
  replace branches.when_false
  other_on other behind first
