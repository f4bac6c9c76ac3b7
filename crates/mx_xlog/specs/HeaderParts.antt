-- For private contracts and proofs alone: the parts of a header, and what their readers find.
use Rattle.std.specs.Prelude.{◌≡◌, ℕ, Bool, List, [], ◌∷◌, ◌++◌, codes, if◌then◌else◌}
use Rattle.uuid.specs.Text.{hyphenated_text, lower}
use Rattle.mx_xlog.specs.Lines.{IsLine, newline}

-- the first line: a snapshot or a journal
abbrev pub file_type : Bool → List ℕ
file_type snapshot = if snapshot then codes "SNAP" else codes "XLOG"

-- the line says whether the file is a snapshot
abbrev pub TellsFileType : Bool → List ℕ → Type 0
TellsFileType snapshot line = line ≡ file_type snapshot

-- the first four lines
abbrev pub opening_lines : Bool → List ℕ → List ℕ → List (List ℕ)
opening_lines snapshot instance set =
    file_type snapshot ∷ codes "0.13"
    ∷ (codes "Instance: " ++ hyphenated_text lower instance)
    ∷ (codes "ReplicaSet: " ++ hyphenated_text lower set) ∷ []

-- the bytes begin with a line that has the value, and this is the rest
abbrev pub BeginsWith : {X : Type 0} → (X → List ℕ → Type 0) → X → List ℕ → List ℕ → Type 0
BeginsWith Tells value rest bytes = (line : List ℕ) × Tells value line × (bytes ≡ line ++ newline ∷ rest)

-- the bytes begin with no line that has such a value
abbrev pub BeginsNone : {X : Type 0} → (X → List ℕ → Type 0) → List ℕ → Type 0
BeginsNone {X} Tells bytes = (value : X) (line rest : List ℕ) → IsLine line → Tells value line → ¬ (bytes ≡ line ++ newline ∷ rest)
