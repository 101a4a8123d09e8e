-- What a `Names` keeps: the texts behind the fixed names. No public clause names these.
use Rattle.std.specs.Prelude.{◌<◌, ◌^◌, ℕ, List, ◌++◌, map, length}
use Rattle.std.specs.Global.{Vec}
use Rattle.hack_types.specs.Names.{fixed_names, EachOnce}

-- the fixed names, and then those that were added
abbrev pub texts : List (Vec ℕ) → List (List ℕ)
texts added = fixed_names ++ map (λ text. text.items) added

-- the texts differ, and their ids are below 2^30
pub record IsNames (added : List (Vec ℕ)) : Type 0 where
  pub each_once : EachOnce (texts added)
  pub few : length (texts added) < 2 ^ 30
