-- The pairs of a map by the grammar, and as they are read.
use Rattle.std.proofs.Common.{◌≡◌, ℕ, suc, ◌-◌, Bool, true, false, List, [], ◌∷◌, ◌++◌, length, Option, Some, None, Ok, refl, sym, ap, ◌∙◌, subst, append_assoc, inl, inr}
use Rattle.std.specs.Prelude.{⊤, pos, if◌then◌else◌}
use Rattle.std.specs.Option.{option_map, option_or}
use Rattle.std.proofs.lemmas.Bool.{eqb-true, eq-eqb, false≢true}
use Rattle.std.proofs.lemmas.List.{append-nil, take_at, drop_at, take-append-drop}
use Rattle.mx_msgpack.specs.Grammar as grammar
use Rattle.mx_msgpack.specs.Grammar.{Value, Pairs, NoPair, MorePairs, pair_count, MapHead, max_length, Spells, SpellsPairs}
use Rattle.mx_msgpack.specs.Items.{after_value}
use Rattle.mx_msgpack.specs.Maps.{Pair, is_key, map_at, pairs_from, pairs_in, value_under}
use Rattle.mx_msgpack.specs.Reading.{after_first, reading_of, ShownMap}
use Rattle.mx_msgpack.specs.Readers.{unsigned_at, unsigned_in}
use Rattle.mx_msgpack.proofs.GrammarLaws.{value_again}
use Rattle.mx_msgpack.proofs.ItemLaws.{first_is}
use Rattle.mx_msgpack.proofs.Measured.{front_is}
use Rattle.mx_msgpack.proofs.Options.{mapped_some, same_some}
use Rattle.mx_msgpack.proofs.PrefixLaws.{one_value}
use Rattle.mx_msgpack.proofs.Results.{ok_is}
use Rattle.mx_msgpack.proofs.UnsignedLaws.{int_read, unsigned_spelled}
use Rattle.mx_row.specs.Grammar.{KeyValue, pairs_of, SpellEntries, SpellsMap, HasNone, IsUnder}
use Rattle.mx_completion.proofs.MapLaws.{first_spelled, map_known, map_parts, map_reads, pairs_known}

-- ---- keys that are numbers

-- the value that stands first is the number that is read
pub number_is : (value : Value) (front more : List ℕ) (number : ℕ) → Spells 63 value front → unsigned_in (front ++ more) ≡ Some number
    → value ≡ grammar.Int (pos number)
number_is value front more number s e =
    let read = mapped_some (λ (found : ℕ × List ℕ). found.0) (unsigned_at (front ++ more)) number e in
    let u = unsigned_spelled (front ++ more) read.0 read.1 in
    let first = value_again 0 63 value front more s in
    let second = value_again 0 63 (grammar.Int (pos read.0.0)) u.0 read.0.1 u.2 in
    let rest : more ≡ read.0.1 = ok_is more read.0.1 (sym first ∙ ap (after_first 0 63) u.1 ∙ second) in
    let size = length (front ++ more) - length more in
    let same : front ≡ u.0 = sym (front_is (front ++ more) front more size refl refl) ∙ front_is (front ++ more) u.0 read.0.1 size u.1 (ap (λ (l : List ℕ). length (front ++ more) - length l) (sym rest)) in
    one_value 63 value (grammar.Int (pos read.0.0)) front s (subst (λ (l : List ℕ). Spells 63 (grammar.Int (pos read.0.0)) l) (sym same) u.2) ∙ ap (λ (n : ℕ). grammar.Int (pos n)) read.2

pub number_read : (number : ℕ) (front more : List ℕ) → Spells 63 (grammar.Int (pos number)) front → unsigned_in (front ++ more) ≡ Some number
number_read number front more s = ap (option_map (λ (found : ℕ × List ℕ). found.0)) (int_read number front more s)

-- a value that stands alone
pub whole_number_is : (value : Value) (bytes : List ℕ) (number : ℕ) → Spells 63 value bytes → unsigned_in bytes ≡ Some number → Spells 63 (grammar.Int (pos number)) bytes
whole_number_is value bytes number s e =
    let is = number_is value bytes [] number s (ap unsigned_in (append-nil bytes) ∙ e) in
    subst (λ (v : Value). Spells 63 v bytes) is s

pub whole_number_read : (number : ℕ) (bytes : List ℕ) → Spells 63 (grammar.Int (pos number)) bytes → unsigned_in bytes ≡ Some number
whole_number_read number bytes s = ap unsigned_in (sym (append-nil bytes)) ∙ number_read number bytes [] s

-- ---- pairs

-- the pairs are read as these, which have their keys and their values' spellings
abbrev pub AreRead : List KeyValue → List Pair → Type 0
AreRead [] [] = ⊤
AreRead (entry ∷ others) (pair ∷ pairs) =
    ((number : ℕ) → is_key number pair.key ≡ true → entry.key ≡ grammar.Int (pos number))
    × ((number : ℕ) → entry.key ≡ grammar.Int (pos number) → is_key number pair.key ≡ true)
    × (pair.value ≡ entry.spelling) × ((value : Value) × Spells 63 value entry.spelling) × AreRead others pairs
AreRead _ _ = ⊥

key_is : (key : Value) (front more : List ℕ) (number : ℕ) → Spells 63 key front → is_key number (unsigned_in (front ++ more)) ≡ true → key ≡ grammar.Int (pos number)
key_is key front more number s e = by_read (unsigned_in (front ++ more)) refl e
  where
    by_read : (read : Option ℕ) → unsigned_in (front ++ more) ≡ read → is_key number read ≡ true → key ≡ grammar.Int (pos number)
    by_read None is e = absurd (false≢true e)
    by_read (Some found) is e = number_is key front more found s is ∙ ap (λ (n : ℕ). grammar.Int (pos n)) (eqb-true found number e)

key_found : (key : Value) (front more : List ℕ) (number : ℕ) → Spells 63 key front → key ≡ grammar.Int (pos number) → is_key number (unsigned_in (front ++ more)) ≡ true
key_found key front more number s is =
    rw (number_read number front more (subst (λ (v : Value). Spells 63 v front) is s)) (eq-eqb number number refl)

pub entries_read : (entries : List KeyValue) (content : List ℕ) → SpellEntries entries content → AreRead entries (pairs_from (length entries) content)
entries_read [] content e = tt
entries_read (entry ∷ others) content (front, rest, e, key, value, each) =
    let whole = e ∙ append_assoc front entry.spelling rest in
    let behind = ap after_value whole ∙ (first_is entry.key front (entry.spelling ++ rest) key).1 in
    let here = first_is entry.value entry.spelling rest value in
    rw (behind, here.0, here.1, whole) (
      λ number is. key_is entry.key front (entry.spelling ++ rest) number key is,
      λ number is. key_found entry.key front (entry.spelling ++ rest) number key is,
      refl,
      (entry.value, value),
      entries_read others rest each,
    )

-- ---- the value of a key

by_test : (here : Bool) (value : List ℕ) (found : List ℕ) → (if here then Some value else None) ≡ Some found → (here ≡ true) × (value ≡ found)
by_test true value found e = (refl, same_some value found e)
by_test false value found e = absurd cc

none_by_test : (here : Bool) (value : List ℕ) → (if here then Some value else None) ≡ None → here ≡ false
none_by_test true value e = absurd cc
none_by_test false value e = refl

pub none_found : (key : ℕ) (entries : List KeyValue) (pairs : List Pair) → AreRead entries pairs → HasNone key entries → value_under key pairs ≡ None
none_found key [] [] read none = refl
none_found key [] (pair ∷ pairs) read none = absurd read
none_found key (entry ∷ others) [] read none = absurd read
none_found key (entry ∷ others) (pair ∷ pairs) (is, has, value, spelled, each) (differs, none) =
    rw (none_found key others pairs each none) (by_key (is_key key pair.key) refl)
  where
    by_key : (here : Bool) → is_key key pair.key ≡ here → option_or None (if here then Some pair.value else None) ≡ None
    by_key true e = absurd (differs (is key e))
    by_key false e = refl

pub value_found : (key : ℕ) (entries : List KeyValue) (pairs : List Pair) (spelling : List ℕ) → AreRead entries pairs → IsUnder key entries spelling
    → value_under key pairs ≡ Some spelling
value_found key [] pairs spelling read under = absurd under
value_found key (entry ∷ others) [] spelling read under = absurd read
value_found key (entry ∷ others) (pair ∷ pairs) spelling (is, has, value, spelled, each) (inl later) = rw (value_found key others pairs spelling each later) refl
value_found key (entry ∷ others) (pair ∷ pairs) spelling (is, has, value, spelled, each) (inr (k, s, none)) =
    rw (none_found key others pairs each none, has key k) (ap (λ (l : List ℕ). Some l) (value ∙ s))

pub has_none : (key : ℕ) (entries : List KeyValue) (pairs : List Pair) → AreRead entries pairs → value_under key pairs ≡ None → HasNone key entries
has_none key [] [] read e = tt
has_none key [] (pair ∷ pairs) read e = absurd read
has_none key (entry ∷ others) [] read e = absurd read
has_none key (entry ∷ others) (pair ∷ pairs) (is, has, value, spelled, each) e = by_later (λ l. has_none key others pairs each l) (value_under key pairs) refl e
  where
    by_later : (value_under key pairs ≡ None → HasNone key others) → (later : Option (List ℕ)) → value_under key pairs ≡ later
        → option_or later (if is_key key pair.key then Some pair.value else None) ≡ None → HasNone key (entry ∷ others)
    by_later among None l e = (λ k. false≢true (sym (none_by_test (is_key key pair.key) pair.value e) ∙ has key k), among l)
    by_later among (Some x) l e = absurd cc

pub is_under : (key : ℕ) (entries : List KeyValue) (pairs : List Pair) (spelling : List ℕ) → AreRead entries pairs → value_under key pairs ≡ Some spelling
    → IsUnder key entries spelling × ((value : Value) × Spells 63 value spelling)
is_under key [] [] spelling read e = absurd cc
is_under key [] (pair ∷ pairs) spelling read e = absurd read
is_under key (entry ∷ others) [] spelling read e = absurd read
is_under key (entry ∷ others) (pair ∷ pairs) spelling (is, has, value, spelled, each) e = by_later (λ l. is_under key others pairs spelling each l) (value_under key pairs) refl e
  where
    by_later : (value_under key pairs ≡ Some spelling → IsUnder key others spelling × ((value : Value) × Spells 63 value spelling))
        → (later : Option (List ℕ)) → value_under key pairs ≡ later → option_or later (if is_key key pair.key then Some pair.value else None) ≡ Some spelling
        → IsUnder key (entry ∷ others) spelling × ((value : Value) × Spells 63 value spelling)
    by_later among None l e =
        let t = by_test (is_key key pair.key) pair.value spelling e in
        let same = sym value ∙ t.1 in
        (inr (is key t.0, same, has_none key others pairs each l), (spelled.0, subst (λ (s : List ℕ). Spells 63 spelled.0 s) same spelled.1))
    by_later among (Some x) l e = let u = among (l ∙ e) in (inl u.0, u.1)

-- ---- maps

pub entries_spelled : (entries : List KeyValue) (content : List ℕ) → SpellEntries entries content → SpellsPairs 63 (pairs_of entries) content × (pair_count (pairs_of entries) ≡ length entries)
entries_spelled [] content e = (e, refl)
entries_spelled (entry ∷ others) content (front, rest, e, key, value, each) =
    let s = entries_spelled others rest each in
    ((front, entry.spelling, rest, e, key, value, s.0), ap suc s.1)

pub map_spelled : (entries : List KeyValue) (bytes : List ℕ) → SpellsMap entries bytes → Spells 64 (grammar.Map (pairs_of entries)) bytes
map_spelled entries bytes (head, content, h, few, e, each) =
    let s = entries_spelled entries content each in
    (head, content, rw s.1 h, rw s.1 few, e, s.0)

-- a map of the grammar is read, whatever follows
pub map_found : (entries : List KeyValue) (front rest : List ℕ) → SpellsMap entries front
    → (map_at (front ++ rest) ≡ Some (front, rest)) × AreRead entries (pairs_in (front ++ rest))
map_found entries front rest (head, content, h, few, e, each) =
    let s = entries_spelled entries content each in
    let count = pair_count (pairs_of entries) in
    let read : reading_of (front ++ rest) ≡ Ok (ShownMap count content, length front) =
    rw e (map_reads (pairs_of entries) head content rest (rw s.1 h) (rw s.1 few) s.0) in (
      map_known (front ++ rest) count content (length front) read
          ∙ (λ i. Some (take_at front rest (length front) refl i, drop_at front rest (length front) refl i)),
      subst (AreRead entries) (sym (pairs_known (front ++ rest) count content (length front) read ∙ ap (λ (n : ℕ). pairs_from n content) s.1))
          (entries_read entries content each),
    )

-- ---- a map that is read

entries_of : (pairs : Pairs) (content : List ℕ) → SpellsPairs 63 pairs content → (entries : List KeyValue) × (length entries ≡ pair_count pairs) × SpellEntries entries content
entries_of NoPair content e = ([], refl, e)
entries_of (MorePairs key value others) content (front, middle, rest, e, s, t, each) =
    let o = entries_of others rest each in
    (record { key = key; value = value; spelling = middle } ∷ o.0, ap suc o.1, (front, rest, e, s, t, o.2))

map_of : (pairs : Pairs) (bytes : List ℕ) → Spells 64 (grammar.Map pairs) bytes → (entries : List KeyValue) × SpellsMap entries bytes
map_of pairs bytes (head, content, h, few, e, each) =
    let o = entries_of pairs content each in
    (o.0, (head, content, rw o.1 h, rw o.1 few, e, o.2))

-- the map that stands first is one of the grammar
pub map_is_spelled : (bytes : List ℕ) (found : List ℕ × List ℕ) → map_at bytes ≡ Some found
    → (bytes ≡ found.0 ++ found.1) × (entries : List KeyValue) × SpellsMap entries found.0 × AreRead entries (pairs_in bytes)
map_is_spelled bytes found e =
    let p = map_parts bytes found e in
    let v = first_spelled bytes (ShownMap p.count p.items) p.size p.read in
    let (pairs, is, n, inside) = v.2 in
    let m = map_of pairs found.0 (subst (λ (x : Value). Spells 64 x found.0) is (subst (λ (l : List ℕ). Spells 64 v.0 l) p.front v.1)) in
    let whole : bytes ≡ found.0 ++ found.1 = sym (take-append-drop p.size bytes) ∙ (λ i. p.front i ++ p.rest i) in
    (whole, m.0, m.1, subst (λ (l : List ℕ). AreRead m.0 (pairs_in l)) (sym whole) (map_found m.0 found.0 found.1 m.1).1)
