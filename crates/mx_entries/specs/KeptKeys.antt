-- The keys of an index's entries.
use Rattle.std.specs.Prelude.{ℕ, List, ◌++◌}
use Rattle.mx_key.specs.Keys.{Key}
use Rattle.mx_schema.specs.declared.index_def.IndexDef.{IndexDef}
use Rattle.mx_schema.specs.State.{key_in, key_or_none}

-- the key of a tuple's entry in an index: its index key, and behind it its primary key
abbrev pub kept_key : IndexDef → (primary : Key) → (tuple : List ℕ) → Key
kept_key def primary tuple = key_or_none (key_in def.key tuple) ++ primary
