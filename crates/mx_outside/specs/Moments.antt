-- The states that a directory had while calls on it went on.
use Rattle.std.specs.Prelude.{◌≡◌, ⊤, List, [], ◌∷◌, ◌++◌, Option, Some}
use Rattle.mx_outside.specs.Disks.{Disk}

-- the last of these states, the newest of which comes first, or the one before them all
abbrev pub newest : List Disk → Disk → Disk
newest [] start = start
newest (disk ∷ since) start = disk

-- each of these states has P, and comes by R from the one before it
abbrev pub Each : (Disk → Type 0) → (Disk → Disk → Type 0) → List Disk → Disk → Type 0
Each P R [] start = ⊤
Each P R (disk ∷ since) start = P disk × R (newest since start) disk × Each P R since start

-- From this state on, which came after those of the past, the directory had others: each has P, and comes by R from the
-- one before it.
pub record Moments (P : Disk → Type 0) (R : Disk → Disk → Type 0) (states : Option (List Disk)) (start : Disk) (past : List Disk) : Type 0 where
  pub since : List Disk
  pub told : states ≡ Some (since ++ start ∷ past)
  pub each : Each P R since start
