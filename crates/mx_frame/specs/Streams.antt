-- The bytes of a connection in a framer.
use Rattle.std.specs.Prelude.{ℕ, List}

pub record Stream : Type 0 where
  -- how many bytes were passed, or the greatest number of 64 bits
  pub passed : ℕ
  -- the bytes that came and weren't passed
  pub rest : List ℕ
