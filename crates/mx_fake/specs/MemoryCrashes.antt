-- The crash of a directory in memory.
use Rattle.std.specs.Prelude.{ℕ, ◌+◌, ◌/◌, ◌%◌, ◌^◌, suc, Bool, List, [], ◌∷◌, take, min, length, map, Option, None, Some, cond, nat_eq}
use Rattle.std.specs.FinMap as map
use Rattle.mx_outside.specs.Disks.{File, Files, Disk, synced_file}

-- the synced bytes, and up to this many of those after them
abbrev pub crash_file : ℕ → File → File
crash_file more file = synced_file (take (min file.synced (length file.bytes) + more) file.bytes)

-- each file after a crash
abbrev pub crash_files : ℕ → Files → Files
crash_files more files = map.from_entries (map (λ e. (e.0, crash_file more e.1)) (map.entries files))

-- the oldest of a file and those before it, newest first
abbrev pub oldest_file : Option File → List (Option File) → Option File
oldest_file file [] = file
oldest_file file (was ∷ older) = oldest_file was older

-- the files with this one at a name, or none there
abbrev pub set_file : List ℕ → Option File → Files → Files
set_file name None files = map.remove files name
set_file name (Some file) files = map.insert files name file

-- the names that changed since the names were synced, in ascending order, each with what it was then
abbrev pub changed_names : Disk → List (List ℕ × Option File)
changed_names disk = map (λ e. (e.0, oldest_file (map.get disk.now e.0) e.1)) (map.entries disk.older)

-- whether a choice has the bit of this number, modulo 8
abbrev pub has_bit : ℕ → ℕ → Bool
has_bit choice number = nat_eq (choice / 2 ^ (number % 8) % 2) 1

-- the files with each of these names put back to what it was, if the choice has the bit of its number; the numbers count
-- from this one on
abbrev pub put_back : (choice number : ℕ) → List (List ℕ × Option File) → Files → Files
put_back choice number [] files = files
put_back choice number (e ∷ es) files = put_back choice (suc number) es (cond (has_bit choice number) (set_file e.0 e.1 files) files)

-- The first name that changed since the names were synced has the number 0: a name is as it was then where the choice has
-- the bit of its number, and else as it is now. The 256th part of the choice is how many bytes of each file stay beyond its
-- synced ones.
abbrev pub crash_disk : ℕ → Disk → Disk
crash_disk choice disk = record { now = crash_files (choice / 256) (put_back choice 0 (changed_names disk) disk.now); older = map.empty }
