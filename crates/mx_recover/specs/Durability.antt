-- A directory whose journals are durable.
use Rattle.std.specs.Prelude.{◌≡◌, ℕ, true, false, List, None}
use Rattle.std.specs.Option.{option_map}
use Rattle.std.specs.FinMap as finite
use Rattle.mx_outside.specs.Disks.{Disk, synced_file}
use Rattle.mx_files.specs.Names.{is_journal, is_draft}

-- no file waits for its name
abbrev pub HasNoDraft : Disk → Type 0
HasNoDraft disk = (name : List ℕ) → is_draft name ≡ true → finite.get disk.now name ≡ None

-- The journals have the bytes that they had, all of them durable. No draft remains. All names are durable.
pub record MadeDurable (before after : Disk) : Type 0 where
  pub journals : (name : List ℕ) → is_journal name ≡ true → finite.get after.now name ≡ option_map (λ file. synced_file file.bytes) (finite.get before.now name)
  pub drafts : HasNoDraft after
  pub others : (name : List ℕ) → is_journal name ≡ false → is_draft name ≡ false → finite.get after.now name ≡ finite.get before.now name
  pub older : after.older ≡ finite.empty
