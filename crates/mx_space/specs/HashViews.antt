-- Only private functions and proofs need these: how tuples in a hash map are seen in the order of their primary keys.
use Rattle.std.specs.Prelude.{List, refl}
use Rattle.std.specs.Coded.{Coded, code_by, coded×, coded_ℕ, coded_list}
use Rattle.std.specs.FinMap.{entries}
use Rattle.mx_hash.specs.Views.{map_of}
use Rattle.mx_schema.specs.Stored.{StoredTuple}
use Rattle.mx_entries.specs.TupleMaps.{TupleEntries}

abbrev pub tuple_entries : List StoredTuple → TupleEntries
tuple_entries entries = record { entries = entries }

abbrev pub tuple_entries_code : Coded TupleEntries
tuple_entries_code =
    code_by (List StoredTuple) (coded_list (coded× (coded_list coded_ℕ) (coded_list coded_ℕ))) (λ t. t.entries) (λ l. record { entries = l }) (λ _. refl)

-- the entries of a hash map in the order of their keys
abbrev pub hash_entries : List StoredTuple → List StoredTuple
hash_entries kept = entries (map_of kept)
