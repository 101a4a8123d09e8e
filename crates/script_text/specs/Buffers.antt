-- The bytes of a buffer that are in use.
use Rattle.std.specs.Prelude.{◌≡◌, ◌≤◌, ℕ, List, vec_len, slice_range}
use Rattle.script_text.specs.declared.buffer.Buffer.TheInside.{Inside}

abbrev pub in_use : Inside → List ℕ
in_use buffer = slice_range buffer.bytes.items buffer.start buffer.end

pub record IsBuffer (buffer : Inside) : Type 0 where
  pub order : buffer.start ≤ buffer.end
  pub inside : buffer.end ≤ vec_len buffer.bytes
  pub size : vec_len buffer.bytes ≡ 65536
