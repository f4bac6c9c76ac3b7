-- How many bytes are kept in place.
use Rattle.std.specs.Prelude.{ℕ}

abbrev pub max_short : ℕ
max_short = 30
