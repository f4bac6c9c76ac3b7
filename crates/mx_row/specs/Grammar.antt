-- The grammar of a journal's transactions: rows, each a header map and a body map of MessagePack, whose values under their keys
-- are the row's. Of a key that comes more than once the last value counts, and other keys may come too.
use Rattle.std.specs.Prelude.{◌≡◌, ◌⊎◌, ℕ, suc, ◌≤◌, pos, Bool, true, false, List, [], ◌∷◌, ◌++◌, length}
use Rattle.std.specs.List.{AllByRecursion}
use Rattle.mx_msgpack.specs.Grammar.{Value, Int, Pairs, NoPair, MorePairs, MapHead, Spells, max_length}
use Rattle.mx_base.specs.Keys.{type_key, replica_key, lsn_key, row_number_key, is_last_key, space_key, base_key, parts_key, tuple_key, operations_key}
use Rattle.mx_row.specs.declared.row.Row.{Row}
use Rattle.mx_row.specs.declared.tx.Tx.{Tx}
use Rattle.mx_row.specs.declared.header.Place.{Place}
use Rattle.mx_row.specs.declared.header.Place.TheVariants.{Alone, Numbered}
use Rattle.mx_row.specs.Rows.{IsInsert, IsReplace, IsUpdate, IsDelete, IsUpsert, IsTransaction}

-- ---- maps

-- a pair of a map, and how its value is spelled
pub record KeyValue : Type 0 where
  pub key : Value
  pub value : Value
  pub spelling : List ℕ

abbrev pub pairs_of : List KeyValue → Pairs
pairs_of [] = NoPair
pairs_of (entry ∷ others) = MorePairs entry.key entry.value (pairs_of others)

-- the bytes spell the pairs, one after the other
abbrev pub SpellEntries : List KeyValue → List ℕ → Type 0
SpellEntries [] bytes = bytes ≡ []
SpellEntries (entry ∷ others) bytes =
    (front rest : List ℕ) × (bytes ≡ (front ++ entry.spelling) ++ rest) × Spells 63 entry.key front × Spells 63 entry.value entry.spelling
    × SpellEntries others rest

-- the bytes spell the map of these pairs
abbrev pub SpellsMap : List KeyValue → List ℕ → Type 0
SpellsMap entries bytes =
    (head content : List ℕ) × MapHead (length entries) head × (length entries ≤ max_length) × (bytes ≡ head ++ content)
    × SpellEntries entries content

-- no pair has this key
abbrev pub HasNone : (key : ℕ) → List KeyValue → Type 0
HasNone key entries = AllByRecursion (λ entry. ¬ (entry.key ≡ Int (pos key))) entries

-- the last pair of this key has a value that is spelled so
abbrev pub IsUnder : (key : ℕ) → List KeyValue → (spelling : List ℕ) → Type 0
IsUnder key [] spelling = ⊥
IsUnder key (entry ∷ others) spelling =
    IsUnder key others spelling ⊎ ((entry.key ≡ Int (pos key)) × (entry.spelling ≡ spelling) × HasNone key others)

-- the last pair of this key has this number, in any spelling
abbrev pub HasNumber : (key : ℕ) → List KeyValue → (number : ℕ) → Type 0
HasNumber key entries number = (spelling : List ℕ) × IsUnder key entries spelling × Spells 63 (Int (pos number)) spelling

-- ---- rows

-- the header says which row of its transaction it is: nothing of a row alone, else its number, and that it is the last one by the number 1
abbrev pub HasPlace : List KeyValue → Place → Type 0
HasPlace header Alone = HasNone row_number_key header
HasPlace header (Numbered number true) = HasNumber row_number_key header number × HasNumber is_last_key header 1
HasPlace header (Numbered number false) = HasNumber row_number_key header number × ¬ HasNumber is_last_key header 1

-- the number of a tuple's first field, which is 0 where no pair says it
abbrev pub HasBase : List KeyValue → (base : ℕ) → Type 0
HasBase body base = (HasNone base_key body × (base ≡ 0)) ⊎ HasNumber base_key body base

-- the body has the parts of the row's type
abbrev pub HasParts : List KeyValue → Row → Type 0
HasParts body row =
    (IsInsert row × IsUnder tuple_key body row.tuple)
    ⊎ (IsReplace row × IsUnder tuple_key body row.tuple)
    ⊎ (IsUpdate row × HasBase body row.index_base × IsUnder parts_key body row.key × IsUnder tuple_key body row.ops)
    ⊎ (IsDelete row × IsUnder parts_key body row.key)
    ⊎ (IsUpsert row × HasBase body row.index_base × IsUnder tuple_key body row.tuple × IsUnder operations_key body row.ops)

-- the bytes spell the row with this replica id, lsn and place
pub record SpellsRow (replica lsn : ℕ) (place : Place) (row : Row) (bytes : List ℕ) : Type 0 where
  pub header : List KeyValue
  pub body : List KeyValue
  pub front : List ℕ
  pub behind : List ℕ
  pub both : bytes ≡ front ++ behind
  pub header_spelled : SpellsMap header front
  pub body_spelled : SpellsMap body behind
  pub kind : HasNumber type_key header row.kind
  pub replica_is : HasNumber replica_key header replica
  pub lsn_is : HasNumber lsn_key header lsn
  pub place_is : HasPlace header place
  pub space : HasNumber space_key body row.space.0
  pub parts : HasParts body row

-- ---- transactions

abbrev pub is_none_left : List Row → Bool
is_none_left [] = true
is_none_left (row ∷ rows) = false

-- the bytes spell the rows one after the other, numbered from this number on, each with the next lsn, and the last one as the last
abbrev pub SpellsNumbered : (replica lsn number : ℕ) → List Row → List ℕ → Type 0
SpellsNumbered replica lsn number [] bytes = bytes ≡ []
SpellsNumbered replica lsn number (row ∷ rows) bytes =
    (front rest : List ℕ) × (bytes ≡ front ++ rest) × SpellsRow replica lsn (Numbered number (is_none_left rows)) row front
    × SpellsNumbered replica (suc lsn) (suc number) rows rest

-- the bytes spell one row, which is a transaction by itself
abbrev pub SpellsAlone : (replica lsn : ℕ) → List Row → List ℕ → Type 0
SpellsAlone replica lsn rows bytes = (row : Row) × (rows ≡ row ∷ []) × SpellsRow replica lsn Alone row bytes

-- the bytes spell the transaction, which is one that can be written
pub record SpellsTransaction (transaction : Tx) (bytes : List ℕ) : Type 0 where
  pub sound : IsTransaction transaction
  pub rows : SpellsAlone transaction.replica.0 transaction.first.0 transaction.rows bytes
      ⊎ SpellsNumbered transaction.replica.0 transaction.first.0 0 transaction.rows bytes
