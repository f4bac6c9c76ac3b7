-- What a transaction sees of a space: its tuples under the transaction's own writes.
use Rattle.std.specs.Prelude.{◌≡◌, ◌||◌, ℕ, Bool, true, List, Option, Some, None, is_some}
use Rattle.std.specs.BTreeMap.{is_at}
use Rattle.std.specs.BTreeSet.{contains}
use Rattle.std.specs.Cmp.Lexicographic.{slice_cmp}
use Rattle.std.specs.FinMap.{empty, entries, get}
use Rattle.std.specs.Map.{lookup}
use Rattle.std.specs.Option.{option_copied}
use Rattle.std.specs.Ordering.{nat_cmp}
use Rattle.mx_key.specs.Comparable.{comparable_of}
use Rattle.mx_key.specs.Keys.{Key, AreFit}
use Rattle.mx_schema.specs.declared.schema.Schema.{Schema}
use Rattle.mx_schema.specs.State.{Tuples}
use Rattle.mx_space.specs.declared.overlay.OverlaidSpace.{OverlaidSpace}
use Rattle.mx_space.specs.declared.view.SpaceView.{SpaceView}
use Rattle.mx_space.specs.Kept.{StoresIndexed}
use Rattle.mx_entries.specs.OwnWrites.{OwnWrites, under, IsOfKey}

-- the key of a tuple that was put or taken out, as its bytes tell
abbrev pub hides : OverlaidSpace → (key : List ℕ) → Bool
hides over key = is_some (lookup (is_at (slice_cmp nat_cmp key)) over.own.tuples.entries) || contains (slice_cmp nat_cmp) over.removed key

-- memory has these writes in a space that is described so: the tuples that were put, with their entries, and the keys that were written
pub record StoresWritten (schema : Option Schema) (over : OverlaidSpace) (written : OwnWrites) : Type 0 where
  pub own : StoresIndexed schema over.own (under written empty)
  pub keys : (key : Key) → AreFit key → hides over (comparable_of key) ≡ is_some (get written key)
  pub removed : (bytes : List ℕ) → contains (slice_cmp nat_cmp) over.removed bytes ≡ true → IsOfKey bytes
  pub fit : (key : Key) → is_some (get written key) ≡ true → AreFit key

-- the writes of an overlay, where there is one; none where there isn't
abbrev pub StoresOver : (schema : Option Schema) → Option OverlaidSpace → OwnWrites → Type 0
StoresOver schema None written = written ≡ empty
StoresOver schema (Some over) written = StoresWritten schema over written

-- a view of a space that is described so, which has these tuples, under these writes: it shows `under written all`
pub record Sees (schema : Option Schema) (view : SpaceView) (all : Tuples) (written : OwnWrites) : Type 0 where
  pub state : StoresIndexed schema view.space.now all
  pub over : StoresOver schema (option_copied view.over) written

-- ---- only private functions and proofs need these
