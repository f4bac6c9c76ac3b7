-- Only private functions and proofs need these: what calls on a directory make of its states.
use Rattle.std.specs.Prelude.{◌≡◌, ◌⊎◌, ℕ, true, List, ◌∷◌, ◌++◌, take, Option, Some, Result, MatchResult}
use Rattle.std.specs.FinMap as finite
use Rattle.mx_outside.specs.Disks.{Disk, Files, IfKnown, Became, Stayed, synced_file, outcomes, appended, renamed}
use Rattle.mx_images.specs.Fair.{IsFair, IsFairEnd}
use Rattle.mx_files.specs.Names.{counts}
use Rattle.mx_images.specs.Changes.{SameBut, with_appended, renamed_durably}

-- All bytes were put at the end of a file, and synced. At an error a prefix of them may have been put there, and nothing was
-- synced.
abbrev pub AppendsSynced : {T E : Type 0} → (name more : List ℕ) → (before after : Option (List Disk)) → Result T E → Type 0
AppendsSynced name more before after result = IfKnown before (λ disk past. MatchResult result
    (λ value. after ≡ Some (with_appended name more disk ∷ appended name more disk ∷ disk ∷ past))
    (λ error. Stayed after disk past ⊎ ((count : ℕ) × Became after (appended name (take count more) disk) disk past)))

-- A file got its other name, and the names were synced. At an error it may have the other name.
abbrev pub RenamesDurably : {T E : Type 0} → (from to : List ℕ) → (before after : Option (List Disk)) → Result T E → Type 0
RenamesDurably from to before after result = IfKnown before (λ disk past. MatchResult result
    (λ value. after ≡ Some (renamed_durably from to disk ∷ renamed from to disk ∷ disk ∷ past))
    (λ error. Stayed after disk past ⊎ Became after (renamed from to disk) disk past))

-- what a journal or a snapshot may be after a crash is the same
abbrev pub CountsSame : Disk → Disk → Type 0
CountsSame older newer = (name : List ℕ) → counts name ≡ true → outcomes name newer ≡ outcomes name older

-- these files are a crash image, except for the one of this name, which has these bytes and an end
abbrev pub HasMade : (name bytes : List ℕ) → Disk → Files → Type 0
HasMade name bytes disk image =
    (was : Files) × IsFair disk was × SameBut name was image
    × (end : List ℕ) × IsFairEnd (synced_file bytes) end × (finite.get image name ≡ Some (synced_file (bytes ++ end)))

-- any crash image now was one before, except for the file of this name, which may have these bytes
abbrev pub MayMakeFile : (name bytes : List ℕ) → Disk → Disk → Type 0
MayMakeFile name bytes older newer = (image : Files) → IsFair newer image → IsFair older image ⊎ HasMade name bytes older image
