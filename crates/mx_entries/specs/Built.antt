-- Only private functions and proofs need these: an index that was made of some tuples.
use Rattle.std.specs.Prelude.{◌≡◌, ℕ, true, List, length}
use Rattle.std.specs.FinMap.{entries}
use Rattle.std.specs.List.{AllByRecursion}
use Rattle.mx_schema.specs.declared.index_def.IndexDef.{IndexDef}
use Rattle.mx_schema.specs.Picks.{Indexed}
use Rattle.mx_schema.specs.Sound.{AreUnique, HaveKeys}
use Rattle.mx_schema.specs.State.{Tuples}
use Rattle.mx_entries.specs.Entries.{IndexEntry}
use Rattle.mx_entries.specs.KeptEntries.{StoresEntries, kept_entries}

-- the tuples' primary keys have so many parts
abbrev pub AreLong : ℕ → Tuples → Type 0
AreLong long tuples = AllByRecursion (λ (entry : Indexed). length entry.0 ≡ long) (entries tuples)

-- the entries of an index of these tuples, each of which has a key, and of a unique index its own
pub record IsBuilt (def : IndexDef) (long : ℕ) (tuples : Tuples) (kept : List IndexEntry) : Type 0 where
  pub keeps : StoresEntries kept (kept_entries def tuples)
  pub whole : AreLong long tuples
  pub have : HaveKeys def tuples
  pub unique : def.unique ≡ true → AreUnique def tuples
