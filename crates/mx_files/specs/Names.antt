-- The names of journals and snapshots (twenty digits and an ending), and which names count.
use Rattle.std.specs.Prelude.{ℕ, zero, suc, ◌+◌, ◌/◌, ◌%◌, Bool, ◌&&◌, ◌||◌, List, [], ◌∷◌, ◌++◌, length, take, drop, codes, nat_eq, nat_le, ◌==◌}
use Rattle.std.specs.List.{list_all}
use Rattle.std.specs.Cmp.Lexicographic.{pointwise}

-- the last so many decimal digits of a number
abbrev pub digits : ℕ → ℕ → List ℕ
digits zero number = []
digits (suc width) number = digits width (number / 10) ++ (48 + number % 10) ∷ []

-- the name of the journal that begins at a vclock of this signature
abbrev pub journal_name : ℕ → List ℕ
journal_name signature = digits 20 signature ++ codes ".xlog"

abbrev pub draft_ending : List ℕ
draft_ending = codes ".inprogress"

abbrev pub is_digit : ℕ → Bool
is_digit byte = nat_le 48 byte && nat_le byte 57

-- twenty digits and this ending
abbrev pub is_numbered : List ℕ → List ℕ → Bool
is_numbered ending name =
    (length name == 20 + length ending) && list_all is_digit (take 20 name) && pointwise nat_eq (drop 20 name) ending

abbrev pub is_journal : List ℕ → Bool
is_journal name = is_numbered (codes ".xlog") name

abbrev pub is_snapshot : List ℕ → Bool
is_snapshot name = is_numbered (codes ".snap") name

-- a file that was begun and never got its name
abbrev pub is_draft : List ℕ → Bool
is_draft name = is_numbered (codes ".xlog.inprogress") name || is_numbered (codes ".snap.inprogress") name

abbrev pub same_bytes : List ℕ → List ℕ → Bool
same_bytes xs ys = pointwise nat_eq xs ys

-- the names of the files that decide what a directory recovers to
abbrev pub counts : List ℕ → Bool
counts name = is_journal name || is_snapshot name

-- the names that a database gives its files
abbrev pub is_ours : List ℕ → Bool
is_ours name = counts name || is_draft name
