-- What can be told of two types without looking anything up (docs/language.md, Subtyping).
use Rattle.std.specs.Prelude.{Bool, true, false}
use Rattle.hack_sub.specs.declared.top.Top.{Top}
use Rattle.hack_sub.specs.declared.top.Top.TheVariants as top

abbrev pub is_any : Top → Bool
is_any top.Any = true
is_any _ = false

abbrev pub is_nothing : Top → Bool
is_nothing top.Nothing = true
is_nothing _ = false

abbrev pub is_mixed : Top → Bool
is_mixed top.Mixed = true
is_mixed _ = false

abbrev pub is_void : Top → Bool
is_void top.Void = true
is_void _ = false

abbrev pub is_nonnull : Top → Bool
is_nonnull top.Nonnull = true
is_nonnull _ = false

abbrev pub is_null : Top → Bool
is_null top.Null = true
is_null _ = false

abbrev pub is_option : Top → Bool
is_option top.Option = true
is_option _ = false

abbrev pub is_this : Top → Bool
is_this top.This = true
is_this _ = false

-- a container, a shape, or `this`
abbrev pub is_made : Top → Bool
is_made top.Container = true
is_made top.Shape = true
is_made top.This = true
is_made _ = false

-- the primitives below `num`, below `arraykey` and below `nonnull`
abbrev pub to_num : Top → Bool
to_num top.Int = true
to_num top.Float = true
to_num _ = false

abbrev pub to_arraykey : Top → Bool
to_arraykey top.Int = true
to_arraykey top.Str = true
to_arraykey _ = false

abbrev pub to_nonnull : Top → Bool
to_nonnull top.Int = true
to_nonnull top.Float = true
to_nonnull top.Str = true
to_nonnull top.Bool = true
to_nonnull top.Num = true
to_nonnull top.Arraykey = true
to_nonnull _ = false

abbrev pub widens : Top → Top → Bool
widens lower top.Num = to_num lower
widens lower top.Arraykey = to_arraykey lower
widens lower top.Nonnull = to_nonnull lower
widens lower _ = false
