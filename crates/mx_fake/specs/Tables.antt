-- When tables hold a state of a directory in memory.
use Rattle.std.specs.Prelude.{◌≡◌, ◌≢◌, ℕ, List, [], None, Some}
use Rattle.std.specs.BTreeMap as tree
use Rattle.std.specs.Option.{option_map}
use Rattle.std.specs.FinMap as map
use Rattle.std.specs.String.{string_cmp}
use Rattle.mx_outside.specs.Disks.{Disk}
use Rattle.mx_fake.specs.FileMaps.{map_of}
use Rattle.mx_fake.specs.MemoryCrashes.{oldest_file}
use Rattle.mx_fake.specs.declared.tables.Tables.{Tables}

-- the files now, and for each name that changed since the names were synced what it was then
pub record IsTablesOf (disk : Disk) (tables : Tables) : Type 0 where
  pub now : tables.files ≡ disk.now
  pub before : (name : List ℕ) → map.get (map_of tables.before.entries) name ≡ option_map (oldest_file None) (map.get disk.older name)
  pub ordered : tree.IsOrdered string_cmp tables.before
  pub some : (name : List ℕ) → map.get disk.older name ≢ Some []
