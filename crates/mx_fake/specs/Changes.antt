-- What the changes of a directory in memory make of it.
use Rattle.std.specs.Prelude.{◌⊎◌, List, [], ◌∷◌, Option, Result, MatchResult, string_bytes}
use Rattle.std.specs.FinMap as map
use Rattle.mx_outside.specs.Disks.{Disk, IfKnown, Became, Stayed, created, appended, file_synced, names_synced, renamed, removed}
use Rattle.mx_fake.specs.MemoryCrashes.{crash_disk}
use Rattle.mx_fake.specs.declared.change.Change.{Change}
use Rattle.mx_fake.specs.declared.change.Change.TheVariants.{Create, Append, Sync, SyncNames, Rename, Remove, Crash}

-- an empty directory
abbrev pub no_files : Disk
no_files = record { now = map.empty; older = map.empty }

-- what a change makes of the disk
abbrev pub step : Change → Disk → Disk
step (Create name) = created (string_bytes name)
step (Append name bytes) = appended (string_bytes name) bytes.items
step (Sync name) = file_synced (string_bytes name)
step SyncNames = names_synced
step (Rename from to) = renamed (string_bytes from) (string_bytes to)
step (Remove name) = removed (string_bytes name)
step (Crash choice) = crash_disk choice

-- the state after these changes, oldest first
abbrev pub replay : Disk → List Change → Disk
replay disk [] = disk
replay disk (change ∷ changes) = replay (step change disk) changes

-- this state after those of the past, and one for each change, newest first
abbrev pub states_from : Disk → List Disk → List Change → List Disk
states_from disk past [] = disk ∷ past
states_from disk past (change ∷ changes) = states_from (step change disk) (disk ∷ past) changes

-- all states of a directory that was empty at first, newest first
abbrev pub states_after : List Change → List Disk
states_after = states_from no_files []

-- nothing or this change
abbrev pub MayLeave : (Disk → Disk) → (before after : Option (List Disk)) → Type 0
MayLeave change before after = IfKnown before (λ disk past. Stayed after disk past ⊎ Became after (change disk) disk past)

-- the change at `Ok`, and at an error nothing or this part of it
abbrev pub MakesOrLeaves : {T E : Type 0} → (change part : Disk → Disk) → (before after : Option (List Disk)) → Result T E → Type 0
MakesOrLeaves change part before after result = IfKnown before (λ disk past. MatchResult result
    (λ value. Became after (change disk) disk past)
    (λ error. Stayed after disk past ⊎ Became after (part disk) disk past))
