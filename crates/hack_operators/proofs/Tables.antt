-- The tables have what the definitions give, for each two classes.
use Rattle.std.proofs.Common.{◌≡◌, ◌==◌, ◌&&◌, ◌||◌, ℕ, Option, List, [], ◌∷◌, refl}
use Rattle.case_table.specs.Grids.{cell}
use Rattle.hack_types.specs.declared.hack_type.HackType.{HackType}
use Rattle.hack_rules.specs.Operators as rules
use Rattle.hack_rules.specs.Operators.{bits_of, is_number, is_string, quotient_of, sum_of, text_of}
use Rattle.hack_operators.specs.Seen.{class_seen}
use Rattle.hack_operators.specs.declared.class.OperandClass.{OperandClass}
use Rattle.hack_operators.specs.declared.class.OperandClass.TheVariants as class
use Rattle.hack_operators.specs.inside.Tables.{place, type_by}

-- what holds of each class
each : (P : OperandClass → Type 0) → P class.Error → P class.Int → P class.Float → P class.Num → P class.Str → P class.Bool → P class.Arraykey → P class.Other
    → (c : OperandClass) → P c
each P error int float num str bool arraykey other class.Error = error
each P error int float num str bool arraykey other class.Int = int
each P error int float num str bool arraykey other class.Float = float
each P error int float num str bool arraykey other class.Num = num
each P error int float num str bool arraykey other class.Str = str
each P error int float num str bool arraykey other class.Bool = bool
each P error int float num str bool arraykey other class.Arraykey = arraykey
each P error int float num str bool arraykey other class.Other = other

-- the table has what the definition gives
abbrev Has : List (List ℕ) → (rules.OperandClass → rules.OperandClass → Option HackType) → OperandClass → OperandClass → Type 0
Has table gives left right = type_by (cell table (place left) (place right)) ≡ gives (class_seen left) (class_seen right)

-- a row, and all of them
row : (table : List (List ℕ)) (gives : rules.OperandClass → rules.OperandClass → Option HackType) (left : OperandClass)
    → Has table gives left class.Error → Has table gives left class.Int → Has table gives left class.Float → Has table gives left class.Num
    → Has table gives left class.Str → Has table gives left class.Bool → Has table gives left class.Arraykey → Has table gives left class.Other
    → (right : OperandClass) → Has table gives left right
row table gives left = each (λ right. Has table gives left right)

abbrev Rows : List (List ℕ) → (rules.OperandClass → rules.OperandClass → Option HackType) → OperandClass → Type 0
Rows table gives left = (right : OperandClass) → Has table gives left right

-- `+ - *`
abbrev pub sums : List (List ℕ)
sums =
    (0 ∷ 0 ∷ 0 ∷ 0 ∷ 0 ∷ 0 ∷ 0 ∷ 0 ∷ [])
    ∷ (0 ∷ 1 ∷ 2 ∷ 3 ∷ 0 ∷ 0 ∷ 0 ∷ 0 ∷ [])
    ∷ (0 ∷ 2 ∷ 2 ∷ 2 ∷ 0 ∷ 0 ∷ 0 ∷ 0 ∷ [])
    ∷ (0 ∷ 3 ∷ 2 ∷ 3 ∷ 0 ∷ 0 ∷ 0 ∷ 0 ∷ [])
    ∷ (0 ∷ 0 ∷ 0 ∷ 0 ∷ 0 ∷ 0 ∷ 0 ∷ 0 ∷ [])
    ∷ (0 ∷ 0 ∷ 0 ∷ 0 ∷ 0 ∷ 0 ∷ 0 ∷ 0 ∷ [])
    ∷ (0 ∷ 0 ∷ 0 ∷ 0 ∷ 0 ∷ 0 ∷ 0 ∷ 0 ∷ [])
    ∷ (0 ∷ 0 ∷ 0 ∷ 0 ∷ 0 ∷ 0 ∷ 0 ∷ 0 ∷ []) ∷ []

pub sums_are : (left right : OperandClass) → Has sums sum_of left right
sums_are = each (Rows sums sum_of)
    (row sums sum_of class.Error refl refl refl refl refl refl refl refl)
    (row sums sum_of class.Int refl refl refl refl refl refl refl refl)
    (row sums sum_of class.Float refl refl refl refl refl refl refl refl)
    (row sums sum_of class.Num refl refl refl refl refl refl refl refl)
    (row sums sum_of class.Str refl refl refl refl refl refl refl refl)
    (row sums sum_of class.Bool refl refl refl refl refl refl refl refl)
    (row sums sum_of class.Arraykey refl refl refl refl refl refl refl refl)
    (row sums sum_of class.Other refl refl refl refl refl refl refl refl)

-- `/ **`
abbrev pub quotients : List (List ℕ)
quotients =
    (0 ∷ 0 ∷ 0 ∷ 0 ∷ 0 ∷ 0 ∷ 0 ∷ 0 ∷ [])
    ∷ (0 ∷ 3 ∷ 2 ∷ 3 ∷ 0 ∷ 0 ∷ 0 ∷ 0 ∷ [])
    ∷ (0 ∷ 2 ∷ 2 ∷ 2 ∷ 0 ∷ 0 ∷ 0 ∷ 0 ∷ [])
    ∷ (0 ∷ 3 ∷ 2 ∷ 3 ∷ 0 ∷ 0 ∷ 0 ∷ 0 ∷ [])
    ∷ (0 ∷ 0 ∷ 0 ∷ 0 ∷ 0 ∷ 0 ∷ 0 ∷ 0 ∷ [])
    ∷ (0 ∷ 0 ∷ 0 ∷ 0 ∷ 0 ∷ 0 ∷ 0 ∷ 0 ∷ [])
    ∷ (0 ∷ 0 ∷ 0 ∷ 0 ∷ 0 ∷ 0 ∷ 0 ∷ 0 ∷ [])
    ∷ (0 ∷ 0 ∷ 0 ∷ 0 ∷ 0 ∷ 0 ∷ 0 ∷ 0 ∷ []) ∷ []

pub quotients_are : (left right : OperandClass) → Has quotients quotient_of left right
quotients_are = each (Rows quotients quotient_of)
    (row quotients quotient_of class.Error refl refl refl refl refl refl refl refl)
    (row quotients quotient_of class.Int refl refl refl refl refl refl refl refl)
    (row quotients quotient_of class.Float refl refl refl refl refl refl refl refl)
    (row quotients quotient_of class.Num refl refl refl refl refl refl refl refl)
    (row quotients quotient_of class.Str refl refl refl refl refl refl refl refl)
    (row quotients quotient_of class.Bool refl refl refl refl refl refl refl refl)
    (row quotients quotient_of class.Arraykey refl refl refl refl refl refl refl refl)
    (row quotients quotient_of class.Other refl refl refl refl refl refl refl refl)

-- `% & | ^`
abbrev pub bits : List (List ℕ)
bits =
    (0 ∷ 0 ∷ 0 ∷ 0 ∷ 0 ∷ 0 ∷ 0 ∷ 0 ∷ [])
    ∷ (0 ∷ 1 ∷ 0 ∷ 0 ∷ 0 ∷ 0 ∷ 0 ∷ 0 ∷ [])
    ∷ (0 ∷ 0 ∷ 0 ∷ 0 ∷ 0 ∷ 0 ∷ 0 ∷ 0 ∷ [])
    ∷ (0 ∷ 0 ∷ 0 ∷ 0 ∷ 0 ∷ 0 ∷ 0 ∷ 0 ∷ [])
    ∷ (0 ∷ 0 ∷ 0 ∷ 0 ∷ 0 ∷ 0 ∷ 0 ∷ 0 ∷ [])
    ∷ (0 ∷ 0 ∷ 0 ∷ 0 ∷ 0 ∷ 0 ∷ 0 ∷ 0 ∷ [])
    ∷ (0 ∷ 0 ∷ 0 ∷ 0 ∷ 0 ∷ 0 ∷ 0 ∷ 0 ∷ [])
    ∷ (0 ∷ 0 ∷ 0 ∷ 0 ∷ 0 ∷ 0 ∷ 0 ∷ 0 ∷ []) ∷ []

pub bits_are : (left right : OperandClass) → Has bits bits_of left right
bits_are = each (Rows bits bits_of)
    (row bits bits_of class.Error refl refl refl refl refl refl refl refl)
    (row bits bits_of class.Int refl refl refl refl refl refl refl refl)
    (row bits bits_of class.Float refl refl refl refl refl refl refl refl)
    (row bits bits_of class.Num refl refl refl refl refl refl refl refl)
    (row bits bits_of class.Str refl refl refl refl refl refl refl refl)
    (row bits bits_of class.Bool refl refl refl refl refl refl refl refl)
    (row bits bits_of class.Arraykey refl refl refl refl refl refl refl refl)
    (row bits bits_of class.Other refl refl refl refl refl refl refl refl)

-- `.`
abbrev pub texts : List (List ℕ)
texts =
    (0 ∷ 0 ∷ 0 ∷ 0 ∷ 0 ∷ 0 ∷ 0 ∷ 0 ∷ [])
    ∷ (0 ∷ 4 ∷ 4 ∷ 4 ∷ 4 ∷ 0 ∷ 4 ∷ 0 ∷ [])
    ∷ (0 ∷ 4 ∷ 4 ∷ 4 ∷ 4 ∷ 0 ∷ 4 ∷ 0 ∷ [])
    ∷ (0 ∷ 4 ∷ 4 ∷ 4 ∷ 4 ∷ 0 ∷ 4 ∷ 0 ∷ [])
    ∷ (0 ∷ 4 ∷ 4 ∷ 4 ∷ 4 ∷ 0 ∷ 4 ∷ 0 ∷ [])
    ∷ (0 ∷ 0 ∷ 0 ∷ 0 ∷ 0 ∷ 0 ∷ 0 ∷ 0 ∷ [])
    ∷ (0 ∷ 4 ∷ 4 ∷ 4 ∷ 4 ∷ 0 ∷ 4 ∷ 0 ∷ [])
    ∷ (0 ∷ 0 ∷ 0 ∷ 0 ∷ 0 ∷ 0 ∷ 0 ∷ 0 ∷ []) ∷ []

pub texts_are : (left right : OperandClass) → Has texts text_of left right
texts_are = each (Rows texts text_of)
    (row texts text_of class.Error refl refl refl refl refl refl refl refl)
    (row texts text_of class.Int refl refl refl refl refl refl refl refl)
    (row texts text_of class.Float refl refl refl refl refl refl refl refl)
    (row texts text_of class.Num refl refl refl refl refl refl refl refl)
    (row texts text_of class.Str refl refl refl refl refl refl refl refl)
    (row texts text_of class.Bool refl refl refl refl refl refl refl refl)
    (row texts text_of class.Arraykey refl refl refl refl refl refl refl refl)
    (row texts text_of class.Other refl refl refl refl refl refl refl refl)

-- `< <= > >= <=>`
abbrev pub orders : List (List ℕ)
orders =
    (0 ∷ 0 ∷ 0 ∷ 0 ∷ 0 ∷ 0 ∷ 0 ∷ 0 ∷ [])
    ∷ (0 ∷ 1 ∷ 1 ∷ 1 ∷ 0 ∷ 0 ∷ 0 ∷ 0 ∷ [])
    ∷ (0 ∷ 1 ∷ 1 ∷ 1 ∷ 0 ∷ 0 ∷ 0 ∷ 0 ∷ [])
    ∷ (0 ∷ 1 ∷ 1 ∷ 1 ∷ 0 ∷ 0 ∷ 0 ∷ 0 ∷ [])
    ∷ (0 ∷ 0 ∷ 0 ∷ 0 ∷ 1 ∷ 0 ∷ 0 ∷ 0 ∷ [])
    ∷ (0 ∷ 0 ∷ 0 ∷ 0 ∷ 0 ∷ 0 ∷ 0 ∷ 0 ∷ [])
    ∷ (0 ∷ 0 ∷ 0 ∷ 0 ∷ 0 ∷ 0 ∷ 0 ∷ 0 ∷ [])
    ∷ (0 ∷ 0 ∷ 0 ∷ 0 ∷ 0 ∷ 0 ∷ 0 ∷ 0 ∷ []) ∷ []

abbrev Takes : OperandClass → OperandClass → Type 0
Takes left right =
    (cell orders (place left) (place right) == 1)
    ≡ ((is_number (class_seen left) && is_number (class_seen right)) || (is_string (class_seen left) && is_string (class_seen right)))

order_row : (left : OperandClass) → Takes left class.Error → Takes left class.Int → Takes left class.Float → Takes left class.Num → Takes left class.Str
    → Takes left class.Bool → Takes left class.Arraykey → Takes left class.Other → (right : OperandClass) → Takes left right
order_row left = each (λ right. Takes left right)

pub orders_are : (left right : OperandClass) → Takes left right
orders_are = each (λ left. (right : OperandClass) → Takes left right)
    (order_row class.Error refl refl refl refl refl refl refl refl)
    (order_row class.Int refl refl refl refl refl refl refl refl)
    (order_row class.Float refl refl refl refl refl refl refl refl)
    (order_row class.Num refl refl refl refl refl refl refl refl)
    (order_row class.Str refl refl refl refl refl refl refl refl)
    (order_row class.Bool refl refl refl refl refl refl refl refl)
    (order_row class.Arraykey refl refl refl refl refl refl refl refl)
    (order_row class.Other refl refl refl refl refl refl refl refl)
