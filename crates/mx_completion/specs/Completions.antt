-- What bytes can become, whatever bytes follow them, as a spelling of some form.
use Rattle.std.specs.Prelude.{◌≡◌, ⊤, ℕ, ◌+◌, ◌≤◌, ℤ, pos, List, ◌++◌, length, take}
use Rattle.mx_msgpack.specs.Grammar.{Value, Values, Array, Str, Spells, SpellsInt}
use Rattle.mx_msgpack.specs.Spelling.{AreBytes}
use Rattle.mx_completion.specs.declared.completion.Completion.{Completion}
use Rattle.mx_completion.specs.declared.completion.Completion.TheVariants.{Whole, Missing, Impossible}

-- ---- forms of values

abbrev pub IsValueSpelling : (room : ℕ) → List ℕ → Type 0
IsValueSpelling room bytes = (value : Value) × Spells room value bytes

abbrev pub IsArraySpelling : (room : ℕ) → List ℕ → Type 0
IsArraySpelling room bytes = (values : Values) × Spells room (Array values) bytes

abbrev pub IsTextSpelling : List ℕ → Type 0
IsTextSpelling bytes = (text : List ℕ) × Spells 0 (Str text) bytes

abbrev pub IsIntSpelling : List ℕ → Type 0
IsIntSpelling bytes = (number : ℤ) × SpellsInt number bytes

-- a number from this one on
abbrev pub IsUnsignedSpelling : (least : ℕ) → List ℕ → Type 0
IsUnsignedSpelling least bytes = (number : ℕ) × (least ≤ number) × SpellsInt (pos number) bytes

-- ---- completions

-- such a spelling stands as the completion says, or can be made of the bytes
abbrev pub IsReached : (Is : List ℕ → Type 0) (bytes : List ℕ) → Completion → Type 0
IsReached Is bytes (Whole size) = (size ≤ length bytes) × Is (take size bytes)
IsReached Is bytes (Missing least) = (1 ≤ least) × (missing : List ℕ) × AreBytes missing × (length missing ≡ least) × Is (bytes ++ missing)
IsReached Is bytes Impossible = ⊤

-- a spelling that stands first in the bytes once others follow them isn't other than the completion says
abbrev pub Allows : (bytes : List ℕ) → Completion → (spelling : List ℕ) → Type 0
Allows bytes (Whole size) spelling = spelling ≡ take size bytes
Allows bytes (Missing least) spelling = length bytes + least ≤ length spelling
Allows bytes Impossible spelling = ⊥

-- the completion is that of the bytes
pub record Completes (Is : List ℕ → Type 0) (bytes : List ℕ) (completion : Completion) : Type 0 where
  pub stands : IsReached Is bytes completion
  pub allows : (missing spelling rest : List ℕ) → AreBytes missing → bytes ++ missing ≡ spelling ++ rest → Is spelling → Allows bytes completion spelling

-- at most so many bytes are missing
abbrev pub MissesAtMost : (most : ℕ) → Completion → Type 0
MissesAtMost most (Missing least) = least ≤ most
MissesAtMost most _ = ⊤
