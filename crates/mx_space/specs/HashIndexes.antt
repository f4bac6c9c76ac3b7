-- Only private functions and proofs need these: how the entries of a hash index are kept.
use Rattle.std.specs.Prelude.{◌≡◌, ℕ, List, ◌++◌, drop, map, Option, Some, None, nat_eq, if◌then◌else◌}
use Rattle.std.specs.FinMap.{entries}
use Rattle.std.specs.Hash.FoldHasher as folding
use Rattle.std.specs.List.{AllByRecursion}
use Rattle.std.specs.Map.{lookup}
use Rattle.std.specs.Str.{bytes_eq}
use Rattle.mx_key.specs.Prefixes.{prefix, prefix_size}
use Rattle.mx_hash.specs.Views.{map_of}
use Rattle.mx_space.specs.declared.held_entry.HeldEntry.{HeldEntry}
use Rattle.mx_entries.specs.Entries.{IndexEntry}

-- the hash of some bytes
abbrev pub hash_number : List ℕ → ℕ
hash_number bytes = folding.finish (folding.write folding.initial bytes)

-- that of an entry's index key, which has so many parts
abbrev pub key_hash : (parts : ℕ) → (key : List ℕ) → ℕ
key_hash parts key = hash_number (prefix parts key)

abbrev pub held_entry : HeldEntry → IndexEntry
held_entry held = (held.key, drop held.begin held.key)

-- an entry is held by the hash of its index key, with the size of that
abbrev pub ArePlaced : (parts : ℕ) → List (ℕ × HeldEntry) → Type 0
ArePlaced parts held =
    (place : ℕ) (entry : HeldEntry) → lookup (nat_eq place) held ≡ Some entry → (place ≡ key_hash parts entry.key) × (entry.begin ≡ prefix_size parts entry.key)

-- a primary key begins where an entry's index key ends
abbrev pub AreFronted : (parts : ℕ) → List IndexEntry → Type 0
AreFronted parts entries = AllByRecursion (λ (entry : IndexEntry). entry.1 ≡ drop (prefix_size parts entry.0) entry.0) entries

-- what an entry leads to, where it stands under a key
abbrev pub under_own : (key : List ℕ) → Option HeldEntry → Option (List ℕ)
under_own key None = None
under_own key (Some held) = if bytes_eq key held.key then Some (drop held.begin held.key) else None

abbrev pub held_entries : List (ℕ × HeldEntry) → List IndexEntry
held_entries held = map (λ (one : ℕ × HeldEntry). held_entry one.1) held

-- the entries that are held, and others, in the order of their keys
abbrev pub hash_index_entries : List (ℕ × HeldEntry) → (others : List IndexEntry) → List IndexEntry
hash_index_entries held others = entries (map_of (others ++ held_entries held))
