-- Only private functions and proofs need these: completions of spellings that stand one after the other.
use Rattle.std.specs.Prelude.{◌≡◌, ℕ, zero, suc, ◌+◌, List, [], ◌++◌, drop}
use Rattle.mx_completion.specs.declared.completion.Completion.{Completion}
use Rattle.mx_completion.specs.declared.completion.Completion.TheVariants.{Whole, Missing, Impossible}

-- one spelling, and then another
abbrev pub InTurn : (Is Next : List ℕ → Type 0) → List ℕ → Type 0
InTurn Is Next bytes = (front rest : List ℕ) × (bytes ≡ front ++ rest) × Is front × Next rest

-- so many spellings
abbrev pub InRow : (Is : List ℕ → Type 0) → (count : ℕ) → List ℕ → Type 0
InRow Is zero bytes = bytes ≡ []
InRow Is (suc count) bytes = InTurn Is (InRow Is count) bytes

-- the completion from so many bytes before on
abbrev pub longer : (before : ℕ) → Completion → Completion
longer before (Whole size) = Whole (before + size)
longer before (Missing least) = Missing least
longer before Impossible = Impossible

-- the completion of a spelling and then another, of this many bytes at least, by theirs
abbrev pub in_turn : (least : ℕ) → (next : ℕ → Completion) → (first : Completion) → Completion
in_turn least next (Whole size) = longer size (next size)
in_turn least next (Missing missing) = Missing (missing + least)
in_turn least next Impossible = Impossible

-- the completion of so many spellings, each of a byte at least
abbrev pub in_row : (one : List ℕ → Completion) → (count : ℕ) → List ℕ → Completion
in_row one zero bytes = Whole 0
in_row one (suc count) bytes = in_turn count (λ size. in_row one count (drop size bytes)) (one bytes)
