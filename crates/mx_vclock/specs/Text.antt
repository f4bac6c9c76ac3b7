-- The text of a vclock, as `{}` or `{1: 5, 2: 7}`, and which bytes begin such a text.
use Rattle.std.specs.Prelude.{◌≡◌, ℕ, suc, ◌<◌, ◌≤◌, List, [], ◌∷◌, ◌++◌, length, take, codes, decimal, ◌==◌, if◌then◌else◌}
use Rattle.mx_vclock.specs.Vclocks.{IsVclock}

-- the texts of the components that aren't 0, the first of these lsns being this replica id's
abbrev pub component_texts : ℕ → List ℕ → List (List ℕ)
component_texts id [] = []
component_texts id (lsn ∷ lsns) =
    if lsn == 0 then component_texts (suc id) lsns
    else (decimal id ++ codes ": " ++ decimal lsn) ∷ component_texts (suc id) lsns

-- the parts one after the other, with this between them
abbrev pub join_with : List ℕ → List (List ℕ) → List ℕ
join_with between [] = []
join_with between (part ∷ []) = part
join_with between (part ∷ next ∷ parts) = part ++ between ++ join_with between (next ∷ parts)

-- the whole text of a vclock
abbrev pub vclock_text : List ℕ → List ℕ
vclock_text clock = codes "{" ++ join_with (codes ", ") (component_texts 0 clock) ++ codes "}"

-- the bytes are the whole text of some vclock
abbrev pub IsText : List ℕ → Type 0
IsText bytes = (clock : List ℕ) × IsVclock clock × (bytes ≡ vclock_text clock)

-- the text of some vclock begins with the bytes
abbrev pub BeginsText : List ℕ → Type 0
BeginsText bytes = (clock rest : List ℕ) × IsVclock clock × (vclock_text clock ≡ bytes ++ rest)

-- The bytes are no text, and this is the place of the first byte after which no text goes on; the bytes' end where
-- they only stop too soon.
pub record IsFaultAt (bytes : List ℕ) (at : ℕ) : Type 0 where
  pub within : at ≤ length bytes
  pub before : BeginsText (take at bytes)
  pub stops : at < length bytes → ¬ BeginsText (take (suc at) bytes)
  pub unfinished : at ≡ length bytes → ¬ IsText bytes
