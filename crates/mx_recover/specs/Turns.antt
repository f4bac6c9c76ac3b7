-- Only private functions and proofs need these: a pass over names of a directory, which changes the files of a kind, one after the other.
use Rattle.std.specs.Prelude.{◌≡◌, ℕ, Bool, List, [], ◌∷◌, Option, IsSome, Result, OnOk, ⊤, if◌then◌else◌}
use Rattle.std.specs.FinMap as finite
use Rattle.mx_outside.specs.Disks.{Disk, IfKnown}
use Rattle.mx_images.specs.Fair.{LeavesNoOther}
use Rattle.mx_images.specs.Changes.{IsNow, KeepsOthers, SameContents}

-- the disk after a name's turn
abbrev pub after_turn : (List ℕ → Bool) → (List ℕ → Disk → Disk) → List ℕ → Disk → Disk
after_turn kind change name disk = if kind name then change name disk else disk

-- the disk after the turns of all these names
abbrev pub after_turns : (List ℕ → Bool) → (List ℕ → Disk → Disk) → List (List ℕ) → Disk → Disk
after_turns kind change [] disk = disk
after_turns kind change (name ∷ names) disk = after_turns kind change names (after_turn kind change name disk)

-- each name is there when its turn comes
abbrev pub AreThere : (List ℕ → Bool) → (List ℕ → Disk → Disk) → List (List ℕ) → Disk → Type 0
AreThere kind change [] disk = ⊤
AreThere kind change (name ∷ names) disk = IsSome (finite.get disk.now name) × AreThere kind change names (after_turn kind change name disk)

-- at `Ok` the newest state is what this makes of the one before
abbrev pub Reaches : {T E : Type 0} → (Disk → Disk) → (before after : Option (List Disk)) → Result T E → Type 0
Reaches change before after result = IfKnown before (λ disk past. OnOk result (IsNow after (λ now. now ≡ change disk)))

-- Any crash image now was one before; the journals and snapshots read as before, and every file that isn't ours is as it was.
pub record OnlyCleans (older newer : Disk) : Type 0 where
  pub leaves : LeavesNoOther older newer
  pub reads : SameContents older.now newer.now
  pub others : KeepsOthers older newer
