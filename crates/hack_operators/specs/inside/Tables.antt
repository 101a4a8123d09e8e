-- What the tables of results hold.
use Rattle.std.specs.Prelude.{ℕ, ◌==◌, if◌then◌else◌, Option, Some, None}
use Rattle.hack_types.specs.declared.hack_type.HackType.{HackType}
use Rattle.hack_types.specs.declared.hack_type.HackType.TheVariants as type
use Rattle.hack_operators.specs.declared.class.OperandClass.{OperandClass}
use Rattle.hack_operators.specs.declared.class.OperandClass.TheVariants as class

-- the row and the column of a class
abbrev pub place : OperandClass → ℕ
place class.Error = 0
place class.Int = 1
place class.Float = 2
place class.Num = 3
place class.Str = 4
place class.Bool = 5
place class.Arraykey = 6
place class.Other = 7

-- the type that a number in a table stands for
abbrev pub type_by : ℕ → Option HackType
type_by cell =
    if cell == 1 then Some type.Int
    else (if cell == 2 then Some type.Float
    else (if cell == 3 then Some type.Num
    else (if cell == 4 then Some type.Str else None)))
