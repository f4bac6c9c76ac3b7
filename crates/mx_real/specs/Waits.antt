-- What rests of links leave as it was.
use Rattle.std.specs.Prelude.{◌≡◌, ℕ, List, map}
use Rattle.mx_real.specs.declared.link.TcpLink.{TcpLink}

module _ {R : Type 0} where
  -- the counts of a link: its faults, its read waits and its write waits
  abbrev pub counts_of : TcpLink R → ℕ × ℕ × ℕ
  counts_of link = (link.faults, link.read_waits, link.write_waits)

  -- the links have the counts that they had
  abbrev pub HaveSameCounts : (before now : List (TcpLink R)) → Type 0
  HaveSameCounts before now = map counts_of now ≡ map counts_of before
