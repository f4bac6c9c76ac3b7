-- Only private functions and proofs need these: places among the items of an array.
use Rattle.std.specs.Prelude.{ℕ, zero, suc, List}
use Rattle.mx_msgpack.specs.Items.{after_value}

-- the bytes after so many values in a row
abbrev pub after_values : ℕ → List ℕ → List ℕ
after_values zero bytes = bytes
after_values (suc count) bytes = after_values count (after_value bytes)
