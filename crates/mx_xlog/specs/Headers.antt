-- The header of a journal or snapshot file: lines of text, and an empty one.
use Rattle.std.specs.Prelude.{◌≡◌, ℕ, suc, ◌<◌, ◌≤◌, List, [], ◌∷◌, ◌++◌, length, take, map, codes, decimal, slice_index, ◌==◌, if◌then◌else◌}
use Rattle.std.specs.List.{concat}
use Rattle.uuid.specs.Text.{hyphenated_text, lower}
use Rattle.mx_vclock.specs.Vclocks.{IsVclock}
use Rattle.mx_vclock.specs.Text.{vclock_text}
use Rattle.mx_xlog.specs.declared.head.Head.{Head}

-- the replica is one of the 32, and the clock is a vclock without replica id 0
pub record IsHead (head : Head) : Type 0 where
  pub replica : head.replica < 32
  pub sound : IsVclock head.clock
  pub nothing : slice_index head.clock 0 ≡ 0

-- the line of the replica id, which is omitted for replica 1
abbrev pub replica_lines : ℕ → List (List ℕ)
replica_lines id = if id == 1 then [] else (codes "Replica: " ++ decimal id) ∷ []

-- all lines of a header, without their newlines
abbrev pub header_lines : Head → List (List ℕ)
header_lines head =
    (if head.snapshot then codes "SNAP" else codes "XLOG") ∷ codes "0.13"
    ∷ (codes "Instance: " ++ hyphenated_text lower head.instance)
    ∷ (codes "ReplicaSet: " ++ hyphenated_text lower head.set)
    ∷ (replica_lines head.replica ++ (codes "VClock: " ++ vclock_text head.clock) ∷ [] ∷ [])

-- the lines, each with its newline
abbrev pub lines_text : List (List ℕ) → List ℕ
lines_text lines = concat (map (λ line. line ++ 0x0a ∷ []) lines)

-- the whole header
abbrev pub header_of : Head → List ℕ
header_of head = lines_text (header_lines head)

-- the bytes begin with the first `count` lines of some header
abbrev pub BeginsHeader : ℕ → List ℕ → Type 0
BeginsHeader count bytes =
    (head : Head) × (rest : List ℕ) × IsHead head × (count ≤ length (header_lines head))
    × (bytes ≡ lines_text (take count (header_lines head)) ++ rest)

-- the bytes begin with the header of this head, which has `size` bytes
pub record IsHeader (bytes : List ℕ) (head : Head) (size : ℕ) : Type 0 where
  pub fits : IsHead head
  pub sized : size ≡ length (header_of head)
  pub begins : (rest : List ℕ) × (bytes ≡ header_of head ++ rest)

-- The bytes begin with no header: this is the first line, counted from 1, that no header has after the lines before it.
abbrev pub IsFaultLine : List ℕ → ℕ → Type 0
IsFaultLine bytes line =
    (before : ℕ) × (line ≡ suc before) × BeginsHeader before bytes × (BeginsHeader line bytes → ⊥)
    × ((head : Head) (size : ℕ) → ¬ IsHeader bytes head size)
