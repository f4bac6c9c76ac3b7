-- The arguments of a command line.
use Rattle.std.specs.Prelude.{ℕ, Bool, false, not, ◌&&◌, ◌==◌, List, [], ◌∷◌, Option, Some, None, codes, if◌then◌else◌}
use Rattle.std.specs.Str.{bytes_eq}

-- an argument that names a directory: it has a first byte, which is no dash
abbrev pub is_directory : List ℕ → Bool
is_directory [] = false
is_directory (byte ∷ bytes) = not (byte == 45)

-- `trace` and a directory
abbrev pub is_command : List (List ℕ) → Bool
is_command [] = false
is_command (command ∷ []) = false
is_command (command ∷ directory ∷ []) = bytes_eq command (codes "trace") && is_directory directory
is_command (command ∷ directory ∷ more ∷ others) = false

-- the second argument
abbrev pub second : List (List ℕ) → Option (List ℕ)
second [] = None
second (first ∷ []) = None
second (first ∷ argument ∷ others) = Some argument

-- the directory of a command
abbrev pub directory_argument : List (List ℕ) → Option (List ℕ)
directory_argument arguments = if is_command arguments then second arguments else None
