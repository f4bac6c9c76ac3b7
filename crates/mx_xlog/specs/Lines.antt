-- Lines of bytes that end with a newline, and the lines of a header.
use Rattle.std.specs.Prelude.{◌≡◌, ℕ, ◌<◌, ⊤, List, [], ◌∷◌, ◌++◌, codes, decimal, slice_index}
use Rattle.uuid.specs.Text.{hyphenated_text, lower}
use Rattle.mx_vclock.specs.Vclocks.{IsVclock}
use Rattle.mx_vclock.specs.Text.{vclock_text}

-- the code of a newline
abbrev pub newline : ℕ
newline = 10

-- none of the bytes is a newline
abbrev pub IsLine : List ℕ → Type 0
IsLine [] = ⊤
IsLine (byte ∷ bytes) = (byte ≡ newline → ⊥) × IsLine bytes

-- the bytes begin with this line and its newline, and this is the rest
abbrev pub BeginsLine : List ℕ → List ℕ → List ℕ → Type 0
BeginsLine line rest bytes = IsLine line × (bytes ≡ line ++ newline ∷ rest)

-- the bytes have no newline
abbrev pub BeginsNoLine : List ℕ → Type 0
BeginsNoLine bytes = (line rest : List ℕ) → ¬ (bytes ≡ line ++ newline ∷ rest)

-- the line has this identifier after the prefix
abbrev pub TellsId : List ℕ → List ℕ → List ℕ → Type 0
TellsId prefix id line = line ≡ prefix ++ hyphenated_text lower id

-- the line has this replica id, which is one that has a line of its own
pub record TellsReplica (id : ℕ) (line : List ℕ) : Type 0 where
  pub below : id < 32
  pub other : id ≡ 1 → ⊥
  pub is : line ≡ codes "Replica: " ++ decimal id

-- the line has this vclock
pub record TellsClock (clock : List ℕ) (line : List ℕ) : Type 0 where
  pub sound : IsVclock clock
  pub nothing : slice_index clock 0 ≡ 0
  pub is : line ≡ codes "VClock: " ++ vclock_text clock
