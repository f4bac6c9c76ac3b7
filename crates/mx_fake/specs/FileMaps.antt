-- A file and a directory's files as values.
use Rattle.std.specs.Prelude.{ℕ, List, map, String, string_bytes, refl}
use Rattle.std.specs.Cmp.Lexicographic.{slice_cmp}
use Rattle.std.specs.Coded.{Coded, code_by, coded×, coded_ℕ, coded_list}
use Rattle.std.specs.FinMap as map
use Rattle.std.specs.FinMap.{FinMap}
use Rattle.std.specs.Ordering.{nat_cmp}
use Rattle.mx_outside.specs.Disks.{File, Files}

-- a file coded as its two fields
abbrev pub file_code : Coded File
file_code =
    code_by (List ℕ × ℕ) (coded× (coded_list coded_ℕ) coded_ℕ) (λ f. (f.bytes, f.synced)) (λ p. record { bytes = p.0; synced = p.1 }) (λ _. refl)

-- files coded by name
abbrev pub files_code : Coded Files
files_code = map.code (coded_list coded_ℕ) file_code

module _ {Y X : Type 0} where
  -- the entries by the bytes of their names
  abbrev pub by_bytes : List (String Y × X) → List (List ℕ × X)
  by_bytes entries = map (λ e. (string_bytes e.0, e.1)) entries

  -- a tree's entries as a map
  abbrev pub map_of : List (String Y × X) → FinMap (slice_cmp nat_cmp) X
  map_of entries = map.from_entries (by_bytes entries)
