-- Only private functions and proofs need these: reading a file from a place on.
use Rattle.std.specs.Prelude.{◌≡◌, ◌⊎◌, ℕ, ◌-◌, ◌≤◌, List, length, take, drop}
use Rattle.mx_outside.specs.Disks.{File}

-- Bytes of a file from a place on were put at the same place of these: none only where there is no room or no byte.
pub record ReadsOn (file : File) (from : ℕ) (bytes : List ℕ) (count : ℕ) : Type 0 where
  pub there : count ≤ length file.bytes - from
  pub same : take count (drop from bytes) ≡ take count (drop from file.bytes)
  pub some : count ≡ 0 → (length bytes ≤ from) ⊎ (length file.bytes ≤ from)
