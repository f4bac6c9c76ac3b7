-- Transactions by the grammar are read, and what is read is one of the grammar.
use Rattle.std.proofs.Common.{◌≡◌, ◌⊎◌, ℕ, zero, suc, ◌+◌, ◌-◌, ◌<◌, ◌≤◌, ◌^◌, Bool, true, false, List, [], ◌∷◌, ◌++◌, length, Option, Some, None, refl, sym, ap, ◌∙◌, subst, append_assoc, inl, inr, arith}
use Rattle.std.specs.Prelude.{nat_le, ◌==◌, if◌then◌else◌}
use Rattle.std.specs.List.{AllByRecursion}
use Rattle.std.specs.Option.{option_map}
use Rattle.std.proofs.lemmas.Bool.{and_from, eqb-true, eq-eqb, false≢true, true≢false, le-leb, ne_eqb}
use Rattle.std.proofs.lemmas.List.{append-nil}
use Rattle.mx_base.specs.Keys.{type_key, replica_key, lsn_key, row_number_key, is_last_key, space_key, base_key, parts_key, tuple_key, operations_key}
use Rattle.mx_msgpack.specs.Maps.{Pair, pairs_in, value_under}
use Rattle.mx_msgpack.specs.Readers.{in_front, unsigned_in}
use Rattle.mx_msgpack.proofs.InnerLaws.{AreInner, body_inner}
use Rattle.mx_msgpack.proofs.Options.{bind_some, allowed, same_some}
use Rattle.mx_vclock.specs.Vclocks.{max_lsn}
use Rattle.mx_request.specs.Spelling.{IsInnerArray, AreOperations}
use Rattle.mx_request.specs.Values.{number_to, number_32, array_in}
use Rattle.mx_request.proofs.ValueTextLaws.{array_read_again}
use Rattle.mx_row.specs.declared.row.Row.{Row}
use Rattle.mx_row.specs.declared.tx.Tx.{Tx}
use Rattle.mx_row.specs.declared.header.Header.{Header}
use Rattle.mx_row.specs.declared.header.Place.{Place}
use Rattle.mx_row.specs.declared.header.Place.TheVariants.{Alone, Numbered}
use Rattle.mx_row.specs.Limits.{max_rows, max_transaction_size, rows_size}
use Rattle.mx_row.specs.Values.{value_held, lsn_in, base_in, row_operations_in}
use Rattle.mx_row.specs.Rows.{is_number, row_place_by, place_among, header_in, row_number, ends_transaction, comes_next, whole_row_at, rows_behind, IsRow, IsTransaction, row_text, placed_text, rows_text, transaction_at, transaction_text}
use Rattle.mx_row.specs.Grammar.{KeyValue, IsUnder, HasNumber, HasPlace, HasBase, HasParts, is_none_left, SpellsRow, SpellsNumbered, SpellsAlone, SpellsTransaction}
use Rattle.mx_row.proofs.EntryLaws.{AreRead, none_found, value_found, has_none, is_under, whole_number_is, whole_number_read, map_found, map_is_spelled}
use Rattle.mx_row.proofs.ReadLaws.{held_some, lsn_parts, base_most, under_array, under_operations, header_parts, header_from, RowParts, Inserts, Replaces, Updates, Deletes, Upserts, row_parts, row_from, whole_row_parts, whole_row_from}
use Rattle.mx_row.proofs.BehindLaws.{next_is, numbered, behind_last, behind_full, behind_next, next_row, last_row, transaction_parts, transaction_from, transaction_is}
use Rattle.mx_row.proofs.RowLaws.{operations_again, header_of, row_again}

module _ (entries : List KeyValue) (pairs : List Pair) (read : AreRead entries pairs) where
  -- ---- what the grammar says is read

  under_read : {X : Type 0} (reader : List ℕ → Option X) (key : ℕ) (spelling : List ℕ) (x : X) → IsUnder key entries spelling → reader spelling ≡ Some x
      → value_held reader (value_under key pairs) ≡ Some x
  under_read reader key spelling x under e = rw (value_found key entries pairs spelling read under) e

  number_held : (key number : ℕ) → HasNumber key entries number → value_held unsigned_in (value_under key pairs) ≡ Some number
  number_held key number (spelling, under, s) = under_read unsigned_in key spelling number under (whole_number_read number spelling s)

  number_to_held : (most key number : ℕ) → number ≤ most → HasNumber key entries number → value_held (number_to most) (value_under key pairs) ≡ Some number
  number_to_held most key number few (spelling, under, s) =
      under_read (number_to most) key spelling number under (rw (whole_number_read number spelling s, le-leb number most few) refl)

  lsn_held : (key lsn : ℕ) → 1 ≤ lsn → lsn ≤ max_lsn → HasNumber key entries lsn → value_held lsn_in (value_under key pairs) ≡ Some lsn
  lsn_held key lsn some most (spelling, under, s) =
      under_read lsn_in key spelling lsn under (rw (whole_number_read lsn spelling s, le-leb lsn max_lsn most, ne_eqb lsn 0 (λ e. omega arith)) refl)

  array_held : (key : ℕ) (array : List ℕ) → IsInnerArray array → IsUnder key entries array → value_held array_in (value_under key pairs) ≡ Some array
  array_held key array inner under = under_read array_in key array array under (array_read_again array inner)

  operations_held : (key : ℕ) (operations : List ℕ) → AreOperations operations → IsUnder key entries operations
      → value_held row_operations_in (value_under key pairs) ≡ Some operations
  operations_held key operations each under = under_read row_operations_in key operations operations under (operations_again operations each)

  base_held : (base : ℕ) → base ≤ 1 → HasBase entries base → base_in (value_under base_key pairs) ≡ Some base
  base_held base few (inl (none, is)) = rw (none_found base_key entries pairs read none) (ap (λ (n : ℕ). Some n) (sym is))
  base_held base few (inr (spelling, under, s)) =
      rw (value_found base_key entries pairs spelling read under, whole_number_read base spelling s, le-leb base 1 few) refl

  is_number_is : (wanted : ℕ) (found : Option ℕ) → is_number wanted found ≡ true → found ≡ Some wanted
  is_number_is wanted None e = absurd cc
  is_number_is wanted (Some number) e = ap (λ (n : ℕ). Some n) (eqb-true number wanted e)

  -- the number 1 says that the row is the last one
  abbrev says_last : Bool
  says_last = is_number 1 (value_held unsigned_in (value_under is_last_key pairs))

  last_said : HasNumber is_last_key entries 1 → says_last ≡ true
  last_said last = rw (number_held is_last_key 1 last) refl

  -- ---- what is read the grammar says

  under_is : {X : Type 0} (reader : List ℕ → Option X) (key : ℕ) (x : X) → value_held reader (value_under key pairs) ≡ Some x
      → (spelling : List ℕ) × IsUnder key entries spelling × (reader spelling ≡ Some x)
  under_is reader key x e =
      let h = held_some reader (value_under key pairs) x e in
      (h.0, (is_under key entries pairs h.0 read h.1).0, h.2)

  number_found : (key number : ℕ) (spelling : List ℕ) → value_under key pairs ≡ Some spelling → unsigned_in spelling ≡ Some number → HasNumber key entries number
  number_found key number spelling e u =
      let i = is_under key entries pairs spelling read e in
      (spelling, i.0, whole_number_is i.1.0 spelling number i.1.1 u)

  has_number : (key number : ℕ) → value_held unsigned_in (value_under key pairs) ≡ Some number → HasNumber key entries number
  has_number key number e = let h = held_some unsigned_in (value_under key pairs) number e in number_found key number h.0 h.1 h.2

  place_held : (place : Place) → HasPlace entries place → row_place_by (value_under row_number_key pairs) (value_under is_last_key pairs) ≡ Some place
  place_held Alone none = rw (none_found row_number_key entries pairs read none) refl
  place_held (Numbered number true) ((spelling, under, s), last) =
      rw (value_found row_number_key entries pairs spelling read under, whole_number_read number spelling s, last_said last) refl
  place_held (Numbered number false) ((spelling, under, s), other) = by_said says_last refl
    where
      by_said : (said : Bool) → says_last ≡ said
          → row_place_by (value_under row_number_key pairs) (value_under is_last_key pairs) ≡ Some (Numbered number false)
      by_said true e = absurd (other (has_number is_last_key 1 (is_number_is 1 (value_held unsigned_in (value_under is_last_key pairs)) e)))
      by_said false e = rw (value_found row_number_key entries pairs spelling read under, whole_number_read number spelling s, e) refl

  number_of_to : (most : ℕ) (value : List ℕ) (number : ℕ) → number_to most value ≡ Some number → unsigned_in value ≡ Some number
  number_of_to most value number e =
      let b = bind_some (unsigned_in value) (λ n. if nat_le n most then Some n else None) number e in
      let t = allowed (nat_le b.0 most) (Some b.0) number b.2 in
      b.1 ∙ t.1

  has_number_to : (most key number : ℕ) → value_held (number_to most) (value_under key pairs) ≡ Some number → HasNumber key entries number
  has_number_to most key number e =
      let h = held_some (number_to most) (value_under key pairs) number e in
      number_found key number h.0 h.1 (number_of_to most h.0 number h.2)

  has_lsn : (key lsn : ℕ) → value_held lsn_in (value_under key pairs) ≡ Some lsn → HasNumber key entries lsn
  has_lsn key lsn e =
      let h = held_some lsn_in (value_under key pairs) lsn e in
      number_found key lsn h.0 h.1 (lsn_parts h.0 lsn h.2).0

  has_under : (key : ℕ) (spelling : List ℕ) → value_under key pairs ≡ Some spelling → IsUnder key entries spelling
  has_under key spelling e = (is_under key entries pairs spelling read e).0

  has_base : (base : ℕ) → base_in (value_under base_key pairs) ≡ Some base → HasBase entries base
  has_base base e = by_value (value_under base_key pairs) refl e
    where
      by_value : (value : Option (List ℕ)) → value_under base_key pairs ≡ value → base_in value ≡ Some base → HasBase entries base
      by_value None v e = inl (has_none base_key entries pairs read v, sym (same_some 0 base e))
      by_value (Some spelling) v e = inr (number_found base_key base spelling v (number_of_to 1 spelling base e))

  has_place : (place : Place) → row_place_by (value_under row_number_key pairs) (value_under is_last_key pairs) ≡ Some place → HasPlace entries place
  has_place place e = by_value (value_under row_number_key pairs) refl e
    where
      numbered_so : (number : ℕ) → HasNumber row_number_key entries number → (said : Bool) → says_last ≡ said → HasPlace entries (Numbered number said)
      numbered_so number has true e = (has, has_number is_last_key 1 (is_number_is 1 (value_held unsigned_in (value_under is_last_key pairs)) e))
      numbered_so number has false e = (has, λ last. false≢true (sym e ∙ last_said last))

      by_value : (value : Option (List ℕ)) → value_under row_number_key pairs ≡ value → row_place_by value (value_under is_last_key pairs) ≡ Some place
          → HasPlace entries place
      by_value None v e = subst (HasPlace entries) (same_some Alone place e) (has_none row_number_key entries pairs read v)
      by_value (Some spelling) v e =
          let number = bind_some (unsigned_in spelling) (λ number. Some (Numbered number says_last)) place e in
          subst (HasPlace entries) (same_some (Numbered number.0 says_last) place number.2)
          (numbered_so number.0 (number_found row_number_key number.0 spelling v number.1) says_last refl)

-- ---- rows

header_spelled : (header : Header) (entries : List KeyValue) (pairs : List Pair) → AreRead entries pairs
    → HasNumber type_key entries header.kind → HasNumber replica_key entries header.replica.0 → HasNumber lsn_key entries header.lsn.0
    → HasPlace entries header.place → header.replica.0 < 32 → 1 ≤ header.lsn.0 → header.lsn.0 ≤ max_lsn → header_in pairs ≡ Some header
header_spelled header entries pairs read kind replica lsn place few some most =
    header_from _ _ _ _ _ header (record {
      kind = number_held entries pairs read type_key header.kind kind;
      replica_is = number_to_held entries pairs read 31 replica_key header.replica.0 (omega arith) replica;
      lsn_is = lsn_held entries pairs read lsn_key header.lsn.0 some most lsn;
      place_is = place_held entries pairs read header.place place;
    })

body_spelled : (row : Row) (entries : List KeyValue) (pairs : List Pair) → AreRead entries pairs → IsRow row → HasNumber space_key entries row.space.0
    → HasParts entries row → RowParts row.kind pairs row
body_spelled row entries pairs read is space parts =
    let fits = is.space in
    let space_is = number_to_held entries pairs read (2 ^ 32 - 1) space_key row.space.0 (omega arith) space in
    elim parts [
      | inl ((e, inner), tuple) ↦
          Inserts (ap (λ (r : Row). r.kind) e)
          (record { space_is = space_is; tuple_is = array_held entries pairs read tuple_key row.tuple inner tuple; is = e; short = is.short })
      | inr (inl ((e, inner), tuple)) ↦
          Replaces (ap (λ (r : Row). r.kind) e)
          (record { space_is = space_is; tuple_is = array_held entries pairs read tuple_key row.tuple inner tuple; is = e; short = is.short })
      | inr (inr (inl ((e, few, inner, each), base, key, operations))) ↦
          Updates (ap (λ (r : Row). r.kind) e) (record {
            space_is = space_is;
            base_is = base_held entries pairs read row.index_base few base;
            key_is = array_held entries pairs read parts_key row.key inner key;
            operations_are = operations_held entries pairs read tuple_key row.ops each operations;
            is = e;
            short = is.short;
          })
      | inr (inr (inr (inl ((e, inner), key)))) ↦
          Deletes (ap (λ (r : Row). r.kind) e)
          (record { space_is = space_is; key_is = array_held entries pairs read parts_key row.key inner key; is = e; short = is.short })
      | inr (inr (inr (inr ((e, few, inner, each), base, tuple, operations)))) ↦
          Upserts (ap (λ (r : Row). r.kind) e) (record {
            space_is = space_is;
            base_is = base_held entries pairs read row.index_base few base;
            tuple_is = array_held entries pairs read tuple_key row.tuple inner tuple;
            operations_are = operations_held entries pairs read operations_key row.ops each operations;
            is = e;
            short = is.short;
          })
    ]

-- a row that is spelled is read, whatever follows
row_read : (replica lsn : ℕ) (place : Place) (row : Row) (bytes more : List ℕ) → SpellsRow replica lsn place row bytes → IsRow row
    → replica < 32 → 1 ≤ lsn → lsn ≤ max_lsn → whole_row_at (bytes ++ more) ≡ Some ((header_of row.kind replica lsn place, row), more)
row_read replica lsn place row bytes more s is few some most =
    let whole : bytes ++ more ≡ s.front ++ (s.behind ++ more) = ap (λ (l : List ℕ). l ++ more) s.both ∙ append_assoc s.front s.behind more in
    let h = map_found s.header s.front (s.behind ++ more) s.header_spelled in
    let b = map_found s.body s.behind more s.body_spelled in
    let header = header_of row.kind replica lsn place in
    rw whole (whole_row_from (s.front ++ (s.behind ++ more)) ((header, row), more) (record {
      header_map = (s.front, s.behind ++ more);
      body_map = (s.behind, more);
      header_first = h.0;
      header_is = header_spelled header s.header (pairs_in (s.front ++ (s.behind ++ more))) h.1 s.kind s.replica_is s.lsn_is s.place_is few some most;
      body_first = b.0;
      row_is = row_from row.kind (pairs_in (s.behind ++ more)) row (body_spelled row s.body (pairs_in (s.behind ++ more)) b.1 is s.space s.parts);
      rest = refl;
    }))

-- the row of a body has its type
kind_is : (kind : ℕ) (pairs : List Pair) (row : Row) → RowParts kind pairs row → kind ≡ row.kind
kind_is kind pairs row (Inserts k p) = k ∙ sym (ap (λ (r : Row). r.kind) p.is)
kind_is kind pairs row (Replaces k p) = k ∙ sym (ap (λ (r : Row). r.kind) p.is)
kind_is kind pairs row (Updates k p) = k ∙ sym (ap (λ (r : Row). r.kind) p.is)
kind_is kind pairs row (Deletes k p) = k ∙ sym (ap (λ (r : Row). r.kind) p.is)
kind_is kind pairs row (Upserts k p) = k ∙ sym (ap (λ (r : Row). r.kind) p.is)

space_of : (kind : ℕ) (pairs : List Pair) (row : Row) → RowParts kind pairs row → value_held number_32 (value_under space_key pairs) ≡ Some row.space.0
space_of kind pairs row (Inserts k p) = p.space_is
space_of kind pairs row (Replaces k p) = p.space_is
space_of kind pairs row (Updates k p) = p.space_is
space_of kind pairs row (Deletes k p) = p.space_is
space_of kind pairs row (Upserts k p) = p.space_is

parts_of : (kind : ℕ) (entries : List KeyValue) (pairs : List Pair) (row : Row) → AreRead entries pairs → AreInner pairs → RowParts kind pairs row → HasParts entries row
parts_of kind entries pairs row read inner (Inserts k p) =
    let t = under_array tuple_key pairs row.tuple inner p.tuple_is in
    inl ((p.is, t.1), has_under entries pairs read tuple_key row.tuple t.0)
parts_of kind entries pairs row read inner (Replaces k p) =
    let t = under_array tuple_key pairs row.tuple inner p.tuple_is in
    inr (inl ((p.is, t.1), has_under entries pairs read tuple_key row.tuple t.0))
parts_of kind entries pairs row read inner (Updates k p) =
    let key = under_array parts_key pairs row.key inner p.key_is in
    let operations = under_operations tuple_key pairs row.ops inner p.operations_are in
    inr (inr (inl (
      (p.is, base_most (value_under base_key pairs) row.index_base p.base_is, key.1, operations.1),
      has_base entries pairs read row.index_base p.base_is,
      has_under entries pairs read parts_key row.key key.0,
      has_under entries pairs read tuple_key row.ops operations.0,
    )))
parts_of kind entries pairs row read inner (Deletes k p) =
    let key = under_array parts_key pairs row.key inner p.key_is in
    inr (inr (inr (inl ((p.is, key.1), has_under entries pairs read parts_key row.key key.0))))
parts_of kind entries pairs row read inner (Upserts k p) =
    let t = under_array tuple_key pairs row.tuple inner p.tuple_is in
    let operations = under_operations operations_key pairs row.ops inner p.operations_are in
    inr (inr (inr (inr (
      (p.is, base_most (value_under base_key pairs) row.index_base p.base_is, t.1, operations.1),
      has_base entries pairs read row.index_base p.base_is,
      has_under entries pairs read tuple_key row.tuple t.0,
      has_under entries pairs read operations_key row.ops operations.0,
    ))))

-- a row that is read is spelled
pub row_is_spelled : (bytes : List ℕ) (found : (Header × Row) × List ℕ) → whole_row_at bytes ≡ Some found
    → (front : List ℕ) × (bytes ≡ front ++ found.1) × SpellsRow found.0.0.replica.0 found.0.0.lsn.0 found.0.0.place found.0.1 front
row_is_spelled bytes found e =
    let p = whole_row_parts bytes found e in
    let header = found.0.0 in
    let row = found.0.1 in
    let h = map_is_spelled bytes p.header_map p.header_first in
    let b = map_is_spelled p.header_map.1 p.body_map p.body_first in
    let head = header_parts _ _ _ _ _ header p.header_is in
    let header_pairs = pairs_in bytes in
    let body_pairs = pairs_in p.header_map.1 in
    let parts = row_parts header.kind body_pairs row p.row_is in
    let whole : bytes ≡ (p.header_map.0 ++ p.body_map.0) ++ found.1 =
    h.0 ∙ ap (λ (l : List ℕ). p.header_map.0 ++ l) (b.0 ∙ ap (λ (l : List ℕ). p.body_map.0 ++ l) p.rest)
    ∙ sym (append_assoc p.header_map.0 p.body_map.0 found.1) in (
      p.header_map.0 ++ p.body_map.0,
      whole,
      record {
        header = h.1;
        body = b.1;
        front = p.header_map.0;
        behind = p.body_map.0;
        both = refl;
        header_spelled = h.2;
        body_spelled = b.2;
        kind = subst (HasNumber type_key h.1) (kind_is header.kind body_pairs row parts) (has_number h.1 header_pairs h.3 type_key header.kind head.kind);
        replica_is = has_number_to h.1 header_pairs h.3 31 replica_key header.replica.0 head.replica_is;
        lsn_is = has_lsn h.1 header_pairs h.3 lsn_key header.lsn.0 head.lsn_is;
        place_is = has_place h.1 header_pairs h.3 header.place head.place_is;
        space = has_number_to b.1 body_pairs b.3 (2 ^ 32 - 1) space_key row.space.0 (space_of header.kind body_pairs row parts);
        parts = parts_of header.kind b.1 body_pairs row b.3 (body_inner p.header_map.1) parts;
      },
    )

-- a row that is written is spelled
row_written : (replica lsn : ℕ) (place : Place) (row : Row) → replica < 32 → 1 ≤ lsn → lsn ≤ max_lsn → row_number place < 2 ^ 64 → IsRow row
    → SpellsRow replica lsn place row (row_text replica lsn place row)
row_written replica lsn place row few some most number is =
    let text = row_text replica lsn place row in
    let r = row_is_spelled (text ++ []) ((header_of row.kind replica lsn place, row), []) (row_again replica lsn place row [] few some most number is) in
    let same : r.0 ≡ text = sym (append-nil r.0) ∙ sym r.1 ∙ append-nil text in
    subst (SpellsRow replica lsn place row) same r.2

-- ---- the rows behind a row

-- the rows after that with this header
abbrev SpellsBehind : Header → List Row → List ℕ → Type 0
SpellsBehind header rows bytes = SpellsNumbered header.replica.0 (suc header.lsn.0) (suc (row_number header.place)) rows bytes

-- the rows stand first in the bytes, and the row before them says whether there is any
abbrev StandBehind : Header → List ℕ → List Row × List ℕ → Type 0
StandBehind header bytes found =
    (ends_transaction header.place ≡ is_none_left found.0) × (front : List ℕ) × (bytes ≡ front ++ found.1) × SpellsBehind header found.0 front

module _ (header next : Header) (row : Row) (rows : List Row) (front behind : List ℕ) (follows : comes_next header next ≡ true) where
  next_spelled : ends_transaction next.place ≡ is_none_left rows → SpellsRow next.replica.0 next.lsn.0 next.place row front
      → SpellsRow header.replica.0 (suc header.lsn.0) (Numbered (suc (row_number header.place)) (is_none_left rows)) row front
  next_spelled last first =
      let f = next_is header next follows in
      let place : next.place ≡ Numbered (suc (row_number header.place)) (is_none_left rows) =
      numbered next.place (row_number header.place) f.2 ∙ ap (λ (is_last : Bool). Numbered (suc (row_number header.place)) is_last) last in
      subst (λ (x : ℕ × ℕ × Place). SpellsRow x.0 x.1 x.2 row front) (λ i. (f.0 i, f.1 i, place i)) first

  others_spelled : SpellsBehind next rows behind
      → SpellsNumbered header.replica.0 (suc (suc header.lsn.0)) (suc (suc (row_number header.place))) rows behind
  others_spelled others =
      let f = next_is header next follows in
      subst (λ (x : ℕ × ℕ × ℕ). SpellsNumbered x.0 (suc x.1) (suc x.2) rows behind) (λ i. (f.0 i, f.1 i, f.2 i)) others

behind_spelled : (most : ℕ) (header : Header) (bytes : List ℕ) (found : List Row × List ℕ) → rows_behind most header bytes ≡ Some found
    → StandBehind header bytes found
behind_spelled zero header bytes found e = by_place (ends_transaction header.place) refl
  where
    by_place : (last : Bool) → ends_transaction header.place ≡ last → StandBehind header bytes found
    by_place true last = subst (StandBehind header bytes) (last_row zero header bytes found last e) (last, [], refl, refl)
    by_place false more = let none = behind_full header bytes more in absurd cc
behind_spelled (suc most) header bytes found e = by_place (behind_spelled most) (ends_transaction header.place) refl
  where
    by_place : ((next : Header) (rest : List ℕ) (others : List Row × List ℕ) → rows_behind most next rest ≡ Some others → StandBehind next rest others)
        → (last : Bool) → ends_transaction header.place ≡ last → StandBehind header bytes found
    by_place again true last = subst (StandBehind header bytes) (last_row (suc most) header bytes found last e) (last, [], refl, refl)
    by_place again false more =
        let n = next_row most header bytes found more e in
        let next = n.next.0.0 in
        let row = n.next.0.1 in
        let s = row_is_spelled bytes n.next n.read in
        let others = again next n.next.1 n.others n.behind in
        subst (StandBehind header bytes) n.same (
          more,
          s.0 ++ others.1,
          s.1 ∙ ap (λ (l : List ℕ). s.0 ++ l) others.2 ∙ sym (append_assoc s.0 others.1 n.others.1),
          (
            s.0,
            others.1,
            refl,
            next_spelled header next row n.others.0 s.0 others.1 n.follows others.0 s.2,
            others_spelled header next row n.others.0 s.0 others.1 n.follows others.3,
          ),
        )

behind_read : (most : ℕ) (header : Header) (rows : List Row) (bytes more : List ℕ) → SpellsBehind header rows bytes → ends_transaction header.place ≡ is_none_left rows
    → length rows ≤ most → AllByRecursion IsRow rows → header.replica.0 < 32 → header.lsn.0 + length rows ≤ max_lsn
    → rows_behind most header (bytes ++ more) ≡ Some (rows, more)
behind_read most header [] bytes more none last few each low fits =
    ap (λ (l : List ℕ). rows_behind most header (l ++ more)) none ∙ behind_last header more most last
behind_read zero header (row ∷ rows) bytes more s last few each low fits = absurd (omega arith)
behind_read (suc most) header (row ∷ rows) bytes more (front, rest, both, first, others) last few (is, each) low fits =
    let lsn = suc header.lsn.0 in
    let place = Numbered (suc (row_number header.place)) (is_none_left rows) in
    let next = header_of row.kind header.replica.0 lsn place in
    let whole : bytes ++ more ≡ front ++ (rest ++ more) = ap (λ (l : List ℕ). l ++ more) both ∙ append_assoc front rest more in
    let read = row_read header.replica.0 lsn place row front (rest ++ more) first is low (omega arith) (omega arith) in
    let follows : comes_next header next ≡ true =
    and_from _ _ (and_from _ _ (eq-eqb header.replica.0 header.replica.0 refl) (eq-eqb lsn lsn refl))
    (eq-eqb (suc (row_number header.place)) (suc (row_number header.place)) refl) in
    ap (rows_behind (suc most) header) whole
    ∙ behind_next header (front ++ (rest ++ more)) last ((next, row), rest ++ more) read most follows
    ∙ ap (option_map (in_front row)) (behind_read most next rows rest more others refl (omega arith) each low (omega arith))

-- ---- the laws

-- the first row and those behind it are a transaction
first_and_others : (transaction : Tx) (place : Place) (row : Row) (rows : List Row) (front rest more : List ℕ) → IsTransaction transaction
    → transaction.rows ≡ row ∷ rows → row_number place ≡ 0 → ends_transaction place ≡ is_none_left rows
    → SpellsRow transaction.replica.0 transaction.first.0 place row front → SpellsNumbered transaction.replica.0 (suc transaction.first.0) 1 rows rest
    → transaction_at (front ++ (rest ++ more)) ≡ Some (transaction, more)
first_and_others transaction place row rows front rest more is are begins last first others =
    let header = header_of row.kind transaction.replica.0 transaction.first.0 place in
    let (row_is, each) = subst (AllByRecursion IsRow) are is.rows in
    let count = ap length are in
    let lsns = is.lsns in
    let read = row_read transaction.replica.0 transaction.first.0 place row front (rest ++ more) first row_is is.replica lsns.0 (omega (arith, is.some)) in
    let behind = subst (λ (number : ℕ). SpellsNumbered transaction.replica.0 (suc transaction.first.0) (suc number) rows rest) (sym begins) others in
    transaction_from (front ++ (rest ++ more)) (transaction, more) (record {
      first = ((header, row), rest ++ more);
      others = (rows, more);
      read = read;
      begins = begins;
      behind = behind_read (max_rows - 1) header rows rest more behind last (omega (arith, is.few)) each is.replica (omega arith);
      short = subst (λ (r : List Row). rows_size r ≤ max_transaction_size) are is.short;
      same = ap (λ (r : List Row). (record { replica = transaction.replica; first = transaction.first; rows = r }, more)) (sym are);
    })

-- what is spelled is read, whatever follows
pub spelled_read : (transaction : Tx) (bytes more : List ℕ) → SpellsTransaction transaction bytes → transaction_at (bytes ++ more) ≡ Some (transaction, more)
spelled_read transaction bytes more s =
    elim s.rows [
      | inl (row, one, alone) ↦ first_and_others transaction Alone row [] bytes [] more s.sound one refl refl alone refl
      | inr each ↦ numbered_read transaction.rows refl each
    ]
  where
    numbered_read : (rows : List Row) → transaction.rows ≡ rows → SpellsNumbered transaction.replica.0 transaction.first.0 0 rows bytes
        → transaction_at (bytes ++ more) ≡ Some (transaction, more)
    numbered_read [] none each = let some = s.sound.some in absurd (omega (arith, ap length none))
    numbered_read (row ∷ rows) are (front, rest, both, first, others) =
        ap transaction_at (ap (λ (l : List ℕ). l ++ more) both ∙ append_assoc front rest more)
        ∙ first_and_others transaction (Numbered 0 (is_none_left rows)) row rows front rest more s.sound are refl refl first others

-- the bytes spell the transaction's rows
abbrev SpelledRows : Tx → List ℕ → Type 0
SpelledRows t bytes = SpellsAlone t.replica.0 t.first.0 t.rows bytes ⊎ SpellsNumbered t.replica.0 t.first.0 0 t.rows bytes

-- what is read is spelled
pub read_spelled : (bytes rest : List ℕ) (transaction : Tx) → transaction_at bytes ≡ Some (transaction, rest)
    → (front : List ℕ) × (bytes ≡ front ++ rest) × SpellsTransaction transaction front
read_spelled bytes rest transaction e =
    let p = transaction_parts bytes (transaction, rest) e in
    let s = row_is_spelled bytes p.first p.read in
    let others = behind_spelled (max_rows - 1) p.first.0.0 p.first.1 p.others p.behind in
    let header = p.first.0.0 in
    let tx-is : record { replica = header.replica; first = header.lsn; rows = p.first.0.1 ∷ p.others.0 } ≡ transaction = ap (λ (x : Tx × List ℕ). x.0) p.same in
    let rest-is : p.others.1 ≡ rest = ap (λ (x : Tx × List ℕ). x.1) p.same in
    let whole : bytes ≡ (s.0 ++ others.1) ++ rest =
    s.1 ∙ ap (λ (l : List ℕ). s.0 ++ l) (others.2 ∙ ap (λ (l : List ℕ). others.1 ++ l) rest-is) ∙ sym (append_assoc s.0 others.1 rest) in
    let each : SpelledRows (record { replica = header.replica; first = header.lsn; rows = p.first.0.1 ∷ p.others.0 }) (s.0 ++ others.1) =
    by_first header.replica.0 header.lsn.0 header.place p.first.0.1 p.others.0 s.0 others.1 p.begins others.0 s.2
    (subst (λ (number : ℕ). SpellsNumbered header.replica.0 (suc header.lsn.0) (suc number) p.others.0 others.1) p.begins others.3) in
    (s.0 ++ others.1, whole, record { sound = transaction_is bytes (transaction, rest) e; rows = subst (λ (t : Tx). SpelledRows t (s.0 ++ others.1)) tx-is each })
  where
    by_first : (replica lsn : ℕ) (place : Place) (row : Row) (rows : List Row) (front text : List ℕ) → row_number place ≡ 0 → ends_transaction place ≡ is_none_left rows
        → SpellsRow replica lsn place row front → SpellsNumbered replica (suc lsn) 1 rows text
        → SpellsAlone replica lsn (row ∷ rows) (front ++ text) ⊎ SpellsNumbered replica lsn 0 (row ∷ rows) (front ++ text)
    by_first replica lsn Alone row [] front text begins last first none =
        inl (row, refl, subst (SpellsRow replica lsn Alone row) (sym (append-nil front) ∙ ap (λ (l : List ℕ). front ++ l) (sym none)) first)
    by_first replica lsn Alone row (other ∷ rows) front text begins last first others = absurd (true≢false last)
    by_first replica lsn (Numbered number is_last) row rows front text begins last first others =
        inr (front, text, refl, subst (λ (p : Place). SpellsRow replica lsn p row front) (λ i. Numbered (begins i) (last i)) first, others)

-- rows that are numbered as they are written
placed_spelled : (count replica lsn number : ℕ) (rows : List Row) → ¬ (count ≡ 1) → number + length rows ≡ count → count ≤ max_rows → replica < 32 → 1 ≤ lsn
    → (lsn + length rows) - 1 ≤ max_lsn → AllByRecursion IsRow rows → SpellsNumbered replica lsn number rows (placed_text count replica lsn number rows)
placed_spelled count replica lsn number [] several all few low some most each = refl
placed_spelled count replica lsn number (row ∷ rows) several all few low some most (is, each) =
    let place : place_among count number ≡ Numbered number (is_none_left rows) = rw (ne_eqb count 1 several) (ap (λ (last : Bool). Numbered number last) (is_last rows all)) in (
      row_text replica lsn (place_among count number) row,
      placed_text count replica (suc lsn) (suc number) rows,
      refl,
      subst (λ (p : Place). SpellsRow replica lsn (Numbered number (is_none_left rows)) row (row_text replica lsn p row)) (sym place)
          (row_written replica lsn (Numbered number (is_none_left rows)) row low some (omega arith) (omega arith) is),
      placed_spelled count replica (suc lsn) (suc number) rows several (omega (arith, all)) few low (omega arith) (omega (arith, most)) each,
    )
  where
    is_last : (rows : List Row) → number + length (row ∷ rows) ≡ count → (suc number == count) ≡ is_none_left rows
    is_last [] all = eq-eqb (suc number) count (omega (arith, all))
    is_last (other ∷ rows) all = ne_eqb (suc number) count (λ e. omega (arith, all, e))

-- what is written is spelled
pub written_spelled : (transaction : Tx) → IsTransaction transaction → SpellsTransaction transaction (transaction_text transaction)
written_spelled transaction is = record { sound = is; rows = by_rows transaction.rows is.some is.few is.lsns.1 is.rows }
  where
    replica : ℕ
    replica = transaction.replica.0

    first : ℕ
    first = transaction.first.0

    by_rows : (rows : List Row) → 1 ≤ length rows → length rows ≤ max_rows → (first + length rows) - 1 ≤ max_lsn → AllByRecursion IsRow rows
        → SpellsAlone replica first rows (rows_text replica first rows) ⊎ SpellsNumbered replica first 0 rows (rows_text replica first rows)
    by_rows [] some few most each = absurd (omega arith)
    by_rows (row ∷ []) some few most (row_is, each) =
        let text = row_text replica first Alone row in
        inl (
          row,
          refl,
          subst (SpellsRow replica first Alone row) (sym (append-nil text))
              (row_written replica first Alone row is.replica is.lsns.0 (omega arith) (omega arith) row_is),
        )
    by_rows (row ∷ other ∷ rows) some few most each =
        let count = length (row ∷ other ∷ rows) in
        inr (placed_spelled count replica first 0 (row ∷ other ∷ rows) (λ e. omega arith) (omega arith) few is.replica is.lsns.0 most each)

-- what is written is read again, whatever follows
pub transaction_again : (transaction : Tx) (rest : List ℕ) → IsTransaction transaction → transaction_at (transaction_text transaction ++ rest) ≡ Some (transaction, rest)
transaction_again transaction rest is = spelled_read transaction (transaction_text transaction) rest (written_spelled transaction is)
