-- What is read of a row is a row: its steps taken apart and put together.
use Rattle.std.proofs.Common.{◌≡◌, ℕ, ◌<◌, ◌≤◌, ◌^◌, ◌-◌, List, length, Option, Some, None, refl, sym, ap, ◌∙◌, subst, inl, inr, arith}
use Rattle.std.specs.Prelude.{false, nat_le, ◌==◌, is_some, if◌then◌else◌}
use Rattle.std.proofs.lemmas.Bool.{cond_both, eqb-true, eqb-false, leb-true, le-leb}
use Rattle.mx_base.specs.declared.refusal.Refusal.{Refusal}
use Rattle.mx_msgpack.specs.Projections.{as_array, first_as}
use Rattle.mx_msgpack.specs.Reading.{reading_of, ShownArray}
use Rattle.std.specs.Prelude.{Ok}
use Rattle.mx_msgpack.specs.Readers.{unsigned_in}
use Rattle.mx_msgpack.specs.Maps.{Pair, map_at, pairs_in, value_under}
use Rattle.mx_msgpack.proofs.InnerLaws.{IsInner, AreInner, under_inner, body_inner}
use Rattle.mx_msgpack.proofs.Options.{bind_some, passed, allowed, mapped_some, same_some}
use Rattle.mx_msgpack.proofs.ProjectionLaws.{first_as_read, array_is}
use Rattle.mx_vclock.specs.Vclocks.{max_lsn}
use Rattle.mx_base.specs.Keys.{replica_key, lsn_key, space_key, base_key, parts_key, tuple_key, operations_key}
use Rattle.mx_request.specs.Operators.{shape_fault}
use Rattle.mx_request.specs.Spelling.{IsInnerArray, AreOperations}
use Rattle.mx_request.specs.Values.{number_to, number_32, array_in}
use Rattle.mx_request.proofs.InnerLaws.{array_inner}
use Rattle.mx_row.specs.declared.header.Header.{Header}
use Rattle.mx_row.specs.declared.row.Row.{Row}
use Rattle.mx_row.specs.Values.{value_held, lsn_in, base_in, row_operations_in}
use Rattle.mx_row.specs.Rows.{insert_type, replace_type, update_type, delete_type, upsert_type, max_body_size, tuple_row, update_row, delete_row, upsert_row, row_body_text, IsRow, row_place_by, header_by, header_in, header_at, short_enough, tuple_by, update_by, delete_by, upsert_by, row_in, row_at, whole_row_at}

-- ---- values

number_most : (most : ℕ) (value : List ℕ) (x : ℕ) → number_to most value ≡ Some x → x ≤ most
number_most most value x e =
    let b = bind_some (unsigned_in value) (λ number. if nat_le number most then Some number else None) x e in
    let t = allowed (nat_le b.0 most) (Some b.0) x b.2 in
    subst (λ (n : ℕ). n ≤ most) (same_some b.0 x t.1) (leb-true b.0 most t.0)

-- a value that is there
pub held_some : {X : Type 0} (read : List ℕ → Option X) (value : Option (List ℕ)) (x : X) → value_held read value ≡ Some x
    → (found : List ℕ) × (value ≡ Some found) × (read found ≡ Some x)
held_some read None x e = absurd cc
held_some read (Some found) x e = (found, refl, e)

held_most : (most : ℕ) (value : Option (List ℕ)) (x : ℕ) → value_held (number_to most) value ≡ Some x → x ≤ most
held_most most value x e = let h = held_some (number_to most) value x e in number_most most h.0 x h.2

pub lsn_parts : (value : List ℕ) (x : ℕ) → lsn_in value ≡ Some x → (unsigned_in value ≡ Some x) × (1 ≤ x) × (x ≤ max_lsn)
lsn_parts value x e =
    let b = bind_some (number_to max_lsn value) (λ number. if number == 0 then None else Some number) x e in
    let p = passed (b.0 == 0) (Some b.0) x b.2 in
    let same = same_some b.0 x p.1 in
    let u = bind_some (unsigned_in value) (λ number. if nat_le number max_lsn then Some number else None) b.0 b.1 in
    let t = allowed (nat_le u.0 max_lsn) (Some u.0) b.0 u.2 in
    let most = leb-true u.0 max_lsn t.0 in
    let differs = eqb-false b.0 0 p.0 in
    let is = same_some u.0 b.0 t.1 in
    (u.1 ∙ t.1 ∙ p.1, omega arith, omega arith)

pub base_most : (value : Option (List ℕ)) (x : ℕ) → base_in value ≡ Some x → x ≤ 1
base_most None x e = let s = same_some 0 x e in omega arith
base_most (Some value) x e = number_most 1 value x e

array_inside : (value x : List ℕ) → IsInner value → array_in value ≡ Some x → (value ≡ x) × IsInnerArray x
array_inside value x inner e =
    let array = mapped_some (λ (array : ℕ × List ℕ). value) (first_as as_array value) x e in
    let first = first_as_read as_array value array.0 array.1 in
    let what = array_is first.0 array.0 first.3 in
    let read : reading_of value ≡ Ok (ShownArray array.0.0 array.0.1, first.1) = first.2 ∙ (λ i. Ok (what i, first.1)) in
    (array.2, subst IsInnerArray array.2 (array_inner value array.0.0 array.0.1 first.1 inner read))

operations_inside : (value x : List ℕ) → IsInner value → row_operations_in value ≡ Some x → (value ≡ x) × AreOperations x
operations_inside value x inner e =
    let array = bind_some (array_in value) (λ operations. if is_some (shape_fault operations) then None else Some operations) x e in
    let a = array_inside value array.0 inner array.1 in
    let p = passed (is_some (shape_fault array.0)) (Some array.0) x array.2 in
    let same = same_some array.0 x p.1 in
    (a.0 ∙ same, subst AreOperations same (a.1, none (shape_fault array.0) p.0))
  where
    none : (fault : Option Refusal) → is_some fault ≡ false → fault ≡ None
    none None e = refl
    none (Some refusal) e = absurd cc

-- the values of a body stand in a map
pub under_array : (key : ℕ) (body : List Pair) (x : List ℕ) → AreInner body → value_held array_in (value_under key body) ≡ Some x
    → (value_under key body ≡ Some x) × IsInnerArray x
under_array key body x inner e =
    let h = held_some array_in (value_under key body) x e in
    let a = array_inside h.0 x (under_inner key body h.0 inner h.1) h.2 in
    (h.1 ∙ ap (λ (l : List ℕ). Some l) a.0, a.1)

pub under_operations : (key : ℕ) (body : List Pair) (x : List ℕ) → AreInner body → value_held row_operations_in (value_under key body) ≡ Some x
    → (value_under key body ≡ Some x) × AreOperations x
under_operations key body x inner e =
    let h = held_some row_operations_in (value_under key body) x e in
    let a = operations_inside h.0 x (under_inner key body h.0 inner h.1) h.2 in
    (h.1 ∙ ap (λ (l : List ℕ). Some l) a.0, a.1)

-- ---- a header

pub record HeaderParts (type replica lsn row_number is_last : Option (List ℕ)) (header : Header) : Type 0 where
  pub kind : value_held unsigned_in type ≡ Some header.kind
  pub replica_is : value_held (number_to 31) replica ≡ Some header.replica.0
  pub lsn_is : value_held lsn_in lsn ≡ Some header.lsn.0
  pub place_is : row_place_by row_number is_last ≡ Some header.place

pub header_parts : (type replica lsn row_number is_last : Option (List ℕ)) (header : Header) → header_by type replica lsn row_number is_last ≡ Some header
    → HeaderParts type replica lsn row_number is_last header
unfolding header_by
header_parts type replica lsn row_number is_last header e =
    let kind = bind_some (value_held unsigned_in type) _ header e in
    let id = bind_some (value_held (number_to 31) replica) _ header kind.2 in
    let number = bind_some (value_held lsn_in lsn) _ header id.2 in
    let place = bind_some (row_place_by row_number is_last) _ header number.2 in
    let same : record { kind = kind.0; replica = record { 0 = id.0 }; lsn = record { 0 = number.0 }; place = place.0 } ≡ header = same_some _ header place.2 in
    record {
      kind = kind.1 ∙ ap (λ (h : Header). Some h.kind) same;
      replica_is = id.1 ∙ ap (λ (h : Header). Some h.replica.0) same;
      lsn_is = number.1 ∙ ap (λ (h : Header). Some h.lsn.0) same;
      place_is = place.1 ∙ ap (λ (h : Header). Some h.place) same;
    }

pub header_from : (type replica lsn row_number is_last : Option (List ℕ)) (header : Header) → HeaderParts type replica lsn row_number is_last header
    → header_by type replica lsn row_number is_last ≡ Some header
unfolding header_by
header_from type replica lsn row_number is_last header p = rw (p.kind, p.replica_is, p.lsn_is, p.place_is) refl

pub header_within : (header : Header) (pairs : List Pair) → header_in pairs ≡ Some header → (header.replica.0 < 32) × (1 ≤ header.lsn.0) × (header.lsn.0 ≤ max_lsn)
header_within header pairs e =
    let p = header_parts _ _ _ _ _ header e in
    let most = held_most 31 (value_under replica_key pairs) header.replica.0 p.replica_is in
    let lsn = held_some lsn_in (value_under lsn_key pairs) header.lsn.0 p.lsn_is in
    let l = lsn_parts lsn.0 header.lsn.0 lsn.2 in
    (omega arith, l.1, l.2)

-- ---- the rows of each type

short_is : (row found : Row) → short_enough row ≡ Some found → (row ≡ found) × (length (row_body_text row) ≤ max_body_size)
short_is row found e =
    let t = allowed (nat_le (length (row_body_text row)) max_body_size) (Some row) found e in
    (same_some row found t.1, leb-true _ _ t.0)

pub is_short : (row : Row) → length (row_body_text row) ≤ max_body_size → short_enough row ≡ Some row
is_short row short = rw (le-leb (length (row_body_text row)) max_body_size short) refl

pub record TupleParts (kind : ℕ) (space tuple : Option (List ℕ)) (row : Row) : Type 0 where
  pub space_is : value_held number_32 space ≡ Some row.space.0
  pub tuple_is : value_held array_in tuple ≡ Some row.tuple
  pub is : row ≡ tuple_row kind row.space.0 row.tuple
  pub short : length (row_body_text row) ≤ max_body_size

pub tuple_parts : (kind : ℕ) (space tuple : Option (List ℕ)) (row : Row) → tuple_by kind space tuple ≡ Some row → TupleParts kind space tuple row
unfolding tuple_by
tuple_parts kind space tuple row e =
    let s = bind_some (value_held number_32 space) _ row e in
    let t = bind_some (value_held array_in tuple) _ row s.2 in
    let short = short_is (tuple_row kind s.0 t.0) row t.2 in
    subst (TupleParts kind space tuple) short.0 (record { space_is = s.1; tuple_is = t.1; is = refl; short = short.1 })

pub tuple_from : (kind : ℕ) (space tuple : Option (List ℕ)) (row : Row) → TupleParts kind space tuple row → tuple_by kind space tuple ≡ Some row
unfolding tuple_by
tuple_from kind space tuple row p =
    let short = subst (λ (r : Row). length (row_body_text r) ≤ max_body_size) p.is p.short in
    rw (p.space_is, p.tuple_is) (is_short (tuple_row kind row.space.0 row.tuple) short ∙ ap (λ (r : Row). Some r) (sym p.is))

pub record UpdateParts (space base key operations : Option (List ℕ)) (row : Row) : Type 0 where
  pub space_is : value_held number_32 space ≡ Some row.space.0
  pub base_is : base_in base ≡ Some row.index_base
  pub key_is : value_held array_in key ≡ Some row.key
  pub operations_are : value_held row_operations_in operations ≡ Some row.ops
  pub is : row ≡ update_row row.space.0 row.index_base row.key row.ops
  pub short : length (row_body_text row) ≤ max_body_size

pub update_parts : (space base key operations : Option (List ℕ)) (row : Row) → update_by space base key operations ≡ Some row
    → UpdateParts space base key operations row
unfolding update_by
update_parts space base key operations row e =
    let s = bind_some (value_held number_32 space) _ row e in
    let b = bind_some (base_in base) _ row s.2 in
    let k = bind_some (value_held array_in key) _ row b.2 in
    let o = bind_some (value_held row_operations_in operations) _ row k.2 in
    let short = short_is (update_row s.0 b.0 k.0 o.0) row o.2 in
    subst (UpdateParts space base key operations) short.0
    (record { space_is = s.1; base_is = b.1; key_is = k.1; operations_are = o.1; is = refl; short = short.1 })

pub update_from : (space base key operations : Option (List ℕ)) (row : Row) → UpdateParts space base key operations row
    → update_by space base key operations ≡ Some row
unfolding update_by
update_from space base key operations row p =
    let short = subst (λ (r : Row). length (row_body_text r) ≤ max_body_size) p.is p.short in
    rw (p.space_is, p.base_is, p.key_is, p.operations_are)
    (is_short (update_row row.space.0 row.index_base row.key row.ops) short ∙ ap (λ (r : Row). Some r) (sym p.is))

pub record DeleteParts (space key : Option (List ℕ)) (row : Row) : Type 0 where
  pub space_is : value_held number_32 space ≡ Some row.space.0
  pub key_is : value_held array_in key ≡ Some row.key
  pub is : row ≡ delete_row row.space.0 row.key
  pub short : length (row_body_text row) ≤ max_body_size

pub delete_parts : (space key : Option (List ℕ)) (row : Row) → delete_by space key ≡ Some row → DeleteParts space key row
unfolding delete_by
delete_parts space key row e =
    let s = bind_some (value_held number_32 space) _ row e in
    let k = bind_some (value_held array_in key) _ row s.2 in
    let short = short_is (delete_row s.0 k.0) row k.2 in
    subst (DeleteParts space key) short.0 (record { space_is = s.1; key_is = k.1; is = refl; short = short.1 })

pub delete_from : (space key : Option (List ℕ)) (row : Row) → DeleteParts space key row → delete_by space key ≡ Some row
unfolding delete_by
delete_from space key row p =
    let short = subst (λ (r : Row). length (row_body_text r) ≤ max_body_size) p.is p.short in
    rw (p.space_is, p.key_is) (is_short (delete_row row.space.0 row.key) short ∙ ap (λ (r : Row). Some r) (sym p.is))

pub record UpsertParts (space base tuple operations : Option (List ℕ)) (row : Row) : Type 0 where
  pub space_is : value_held number_32 space ≡ Some row.space.0
  pub base_is : base_in base ≡ Some row.index_base
  pub tuple_is : value_held array_in tuple ≡ Some row.tuple
  pub operations_are : value_held row_operations_in operations ≡ Some row.ops
  pub is : row ≡ upsert_row row.space.0 row.index_base row.tuple row.ops
  pub short : length (row_body_text row) ≤ max_body_size

pub upsert_parts : (space base tuple operations : Option (List ℕ)) (row : Row) → upsert_by space base tuple operations ≡ Some row
    → UpsertParts space base tuple operations row
unfolding upsert_by
upsert_parts space base tuple operations row e =
    let s = bind_some (value_held number_32 space) _ row e in
    let b = bind_some (base_in base) _ row s.2 in
    let t = bind_some (value_held array_in tuple) _ row b.2 in
    let o = bind_some (value_held row_operations_in operations) _ row t.2 in
    let short = short_is (upsert_row s.0 b.0 t.0 o.0) row o.2 in
    subst (UpsertParts space base tuple operations) short.0
    (record { space_is = s.1; base_is = b.1; tuple_is = t.1; operations_are = o.1; is = refl; short = short.1 })

pub upsert_from : (space base tuple operations : Option (List ℕ)) (row : Row) → UpsertParts space base tuple operations row
    → upsert_by space base tuple operations ≡ Some row
unfolding upsert_by
upsert_from space base tuple operations row p =
    let short = subst (λ (r : Row). length (row_body_text r) ≤ max_body_size) p.is p.short in
    rw (p.space_is, p.base_is, p.tuple_is, p.operations_are)
    (is_short (upsert_row row.space.0 row.index_base row.tuple row.ops) short ∙ ap (λ (r : Row). Some r) (sym p.is))

-- ---- a row of any type

-- which row a body of this type has
pub data RowParts (kind : ℕ) (body : List Pair) (row : Row) : Type 0 where
  Inserts : kind ≡ insert_type → TupleParts insert_type (value_under space_key body) (value_under tuple_key body) row → RowParts kind body row
  Replaces : kind ≡ replace_type → TupleParts replace_type (value_under space_key body) (value_under tuple_key body) row → RowParts kind body row
  Updates : kind ≡ update_type
      → UpdateParts (value_under space_key body) (value_under base_key body) (value_under parts_key body) (value_under tuple_key body) row
      → RowParts kind body row
  Deletes : kind ≡ delete_type → DeleteParts (value_under space_key body) (value_under parts_key body) row → RowParts kind body row
  Upserts : kind ≡ upsert_type
      → UpsertParts (value_under space_key body) (value_under base_key body) (value_under tuple_key body) (value_under operations_key body) row
      → RowParts kind body row

pub row_parts : (kind : ℕ) (body : List Pair) (row : Row) → row_in kind body ≡ Some row → RowParts kind body row
row_parts kind body row e =
    let P = λ (r : Option Row). r ≡ Some row → RowParts kind body row in
    (cond_both (kind == insert_type) _ _ P (λ t k. Inserts (eqb-true kind insert_type t) (tuple_parts insert_type _ _ row k)) (λ _.
    cond_both (kind == replace_type) _ _ P (λ t k. Replaces (eqb-true kind replace_type t) (tuple_parts replace_type _ _ row k)) (λ _.
    cond_both (kind == update_type) _ _ P (λ t k. Updates (eqb-true kind update_type t) (update_parts _ _ _ _ row k)) (λ _.
    cond_both (kind == delete_type) _ _ P (λ t k. Deletes (eqb-true kind delete_type t) (delete_parts _ _ row k)) (λ _.
    cond_both (kind == upsert_type) _ _ P (λ t k. Upserts (eqb-true kind upsert_type t) (upsert_parts _ _ _ _ row k)) (λ _ k. absurd cc)))))) e

pub row_from : (kind : ℕ) (body : List Pair) (row : Row) → RowParts kind body row → row_in kind body ≡ Some row
row_from kind body row (Inserts k p) = rw k (tuple_from insert_type _ _ row p)
row_from kind body row (Replaces k p) = rw k (tuple_from replace_type _ _ row p)
row_from kind body row (Updates k p) = rw k (update_from _ _ _ _ row p)
row_from kind body row (Deletes k p) = rw k (delete_from _ _ row p)
row_from kind body row (Upserts k p) = rw k (upsert_from _ _ _ _ row p)

space_fits : (value : Option (List ℕ)) (space : ℕ) → value_held number_32 value ≡ Some space → space < 2 ^ 32
space_fits value space e = let most = held_most (2 ^ 32 - 1) value space e in omega arith

pub row_is : (kind : ℕ) (body : List Pair) (row : Row) → AreInner body → RowParts kind body row → IsRow row
row_is kind body row inner (Inserts k p) =
    record {
      space = space_fits (value_under space_key body) row.space.0 p.space_is;
      parts = inl (p.is, (under_array tuple_key body row.tuple inner p.tuple_is).1);
      short = p.short;
    }
row_is kind body row inner (Replaces k p) =
    record {
      space = space_fits (value_under space_key body) row.space.0 p.space_is;
      parts = inr (inl (p.is, (under_array tuple_key body row.tuple inner p.tuple_is).1));
      short = p.short;
    }
row_is kind body row inner (Updates k p) =
    record {
      space = space_fits (value_under space_key body) row.space.0 p.space_is;
      parts = inr (inr (inl (
        p.is,
        base_most (value_under base_key body) row.index_base p.base_is,
        (under_array parts_key body row.key inner p.key_is).1,
        (under_operations tuple_key body row.ops inner p.operations_are).1,
      )));
      short = p.short;
    }
row_is kind body row inner (Deletes k p) =
    record {
      space = space_fits (value_under space_key body) row.space.0 p.space_is;
      parts = inr (inr (inr (inl (p.is, (under_array parts_key body row.key inner p.key_is).1))));
      short = p.short;
    }
row_is kind body row inner (Upserts k p) =
    record {
      space = space_fits (value_under space_key body) row.space.0 p.space_is;
      parts = inr (inr (inr (inr (
        p.is,
        base_most (value_under base_key body) row.index_base p.base_is,
        (under_array tuple_key body row.tuple inner p.tuple_is).1,
        (under_operations operations_key body row.ops inner p.operations_are).1,
      ))));
      short = p.short;
    }

-- ---- a row with its header

pub header_first_parts : (bytes : List ℕ) (found : Header × List ℕ) → header_at bytes ≡ Some found
    → (map : List ℕ × List ℕ) × (map_at bytes ≡ Some map) × (header_in (pairs_in bytes) ≡ Some found.0) × (map.1 ≡ found.1)
unfolding header_at
header_first_parts bytes found e =
    let first = bind_some (map_at bytes) _ found e in
    let header = bind_some (header_in (pairs_in bytes)) _ found first.2 in
    let same = same_some (header.0, first.0.1) found header.2 in
    (first.0, first.1, header.1 ∙ ap (λ (x : Header × List ℕ). Some x.0) same, ap (λ (x : Header × List ℕ). x.1) same)

pub row_first_parts : (kind : ℕ) (bytes : List ℕ) (found : Row × List ℕ) → row_at kind bytes ≡ Some found
    → (map : List ℕ × List ℕ) × (map_at bytes ≡ Some map) × (row_in kind (pairs_in bytes) ≡ Some found.0) × (map.1 ≡ found.1)
unfolding row_at
row_first_parts kind bytes found e =
    let first = bind_some (map_at bytes) _ found e in
    let row = bind_some (row_in kind (pairs_in bytes)) _ found first.2 in
    let same = same_some (row.0, first.0.1) found row.2 in
    (first.0, first.1, row.1 ∙ ap (λ (x : Row × List ℕ). Some x.0) same, ap (λ (x : Row × List ℕ). x.1) same)

-- how a row was read with its header
pub record WholeRow (bytes : List ℕ) (found : (Header × Row) × List ℕ) : Type 0 where
  pub header_map : List ℕ × List ℕ
  pub body_map : List ℕ × List ℕ
  pub header_first : map_at bytes ≡ Some header_map
  pub header_is : header_in (pairs_in bytes) ≡ Some found.0.0
  pub body_first : map_at header_map.1 ≡ Some body_map
  pub row_is : row_in found.0.0.kind (pairs_in header_map.1) ≡ Some found.0.1
  pub rest : body_map.1 ≡ found.1

pub whole_row_parts : (bytes : List ℕ) (found : (Header × Row) × List ℕ) → whole_row_at bytes ≡ Some found → WholeRow bytes found
unfolding whole_row_at
whole_row_parts bytes found e =
    let header = bind_some (header_at bytes) _ found e in
    let row = bind_some (row_at header.0.0.kind header.0.1) _ found header.2 in
    let h = header_first_parts bytes header.0 header.1 in
    let r = row_first_parts header.0.0.kind header.0.1 row.0 row.1 in
    subst (WholeRow bytes) (same_some ((header.0.0, row.0.0), row.0.1) found row.2) (record {
      header_map = h.0;
      body_map = r.0;
      header_first = h.1;
      header_is = h.2;
      body_first = ap map_at h.3 ∙ r.1;
      row_is = ap (λ (l : List ℕ). row_in header.0.0.kind (pairs_in l)) h.3 ∙ r.2;
      rest = r.3;
    })

pub whole_row_from : (bytes : List ℕ) (found : (Header × Row) × List ℕ) → WholeRow bytes found → whole_row_at bytes ≡ Some found
unfolding whole_row_at header_at row_at
whole_row_from bytes found p = rw (p.header_first, p.header_is, p.body_first, p.row_is) (ap (λ (rest : List ℕ). Some (found.0, rest)) p.rest)

-- a row that is read, and its header's numbers
pub record IsReadRow (header : Header) (row : Row) : Type 0 where
  pub replica : header.replica.0 < 32
  pub some : 1 ≤ header.lsn.0
  pub most : header.lsn.0 ≤ max_lsn
  pub row_is : IsRow row

pub whole_row_is : (bytes : List ℕ) (found : (Header × Row) × List ℕ) → whole_row_at bytes ≡ Some found → IsReadRow found.0.0 found.0.1
whole_row_is bytes found e =
    let p = whole_row_parts bytes found e in
    let h = header_within found.0.0 (pairs_in bytes) p.header_is in
    record {
      replica = h.0;
      some = h.1;
      most = h.2;
      row_is = row_is found.0.0.kind (pairs_in p.header_map.1) found.0.1 (body_inner p.header_map.1) (row_parts found.0.0.kind (pairs_in p.header_map.1) found.0.1 p.row_is);
    }
