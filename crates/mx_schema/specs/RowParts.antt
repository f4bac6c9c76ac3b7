-- Only private functions and proofs need these: a field of a row as what it says of an index.
use Rattle.std.specs.Prelude.{Bool, true, false, ℕ, suc, List, [], ◌∷◌, Option, codes, nat_lt, if◌then◌else◌}
use Rattle.mx_msgpack.specs.Projections.{as_text, first_as}
use Rattle.mx_msgpack.specs.Readers.{◌>>=◌}
use Rattle.mx_schema.specs.declared.index_def.IndexDef.{IndexDef}
use Rattle.mx_schema.specs.declared.index_def.IndexKind.{IndexKind}
use Rattle.mx_schema.specs.TextMaps.{is_same_text, text_pairs_in, value_of_key}
use Rattle.mx_schema.specs.IndexRows.{index_kind_of, unique_in}

-- the type of an index
abbrev pub kind_in : List ℕ → Option IndexKind
kind_in spelling = first_as as_text spelling >>= index_kind_of

-- whether no two tuples have one key, by an index's options
abbrev pub options_in : List ℕ → Option Bool
options_in spelling = text_pairs_in spelling >>= (λ pairs. unique_in (value_of_key (codes "unique") pairs))

-- how many indexes stand before the first one with a greater number
abbrev pub index_place : (id : ℕ) → List IndexDef → ℕ
index_place id [] = 0
index_place id (other ∷ others) = if nat_lt id other.id.0 then 0 else suc (index_place id others)

-- one of these rows is this one
abbrev pub is_among : (wanted : List ℕ) → List (List ℕ) → Bool
is_among wanted [] = false
is_among wanted (row ∷ others) = if is_same_text row wanted then true else is_among wanted others
