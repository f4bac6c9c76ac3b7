-- What bytes in which no whole row stands first can become, by what their maps can have.
use Rattle.std.proofs.Common.{◌≡◌, ℕ, suc, ◌+◌, ◌-◌, ◌<◌, ◌≤◌, Bool, true, false, List, [], ◌++◌, length, Option, Some, None, refl, sym, ap, ◌∙◌, subst, append_assoc, inl, inr, arith}
use Rattle.std.specs.Prelude.{◌&&◌, ◌||◌, is_some, nat_le, if◌then◌else◌}
use Rattle.std.proofs.lemmas.Bool.{and_parts, leb-true, leb-false, lt-ltb, ltb-true}
use Rattle.std.proofs.lemmas.List.{append-nil, length-append}
use Rattle.mx_msgpack.specs.Maps.{Pair, map_at, pairs_in}
use Rattle.mx_msgpack.specs.Spelling.{AreBytes}
use Rattle.mx_msgpack.proofs.InnerLaws.{body_inner}
use Rattle.mx_msgpack.proofs.MapLaws.{map_alone}
use Rattle.mx_msgpack.proofs.ShortestLaws.{front_of}
use Rattle.mx_vclock.specs.Vclocks.{max_lsn}
use Rattle.mx_completion.specs.declared.field.Field.{Field}
use Rattle.mx_completion.specs.Costs.{CostsOf, IsLeast, total_cost}
use Rattle.mx_row.specs.declared.header.Header.{Header}
use Rattle.mx_row.specs.declared.header.Place.{Place}
use Rattle.mx_row.specs.declared.progress.Progress.{Progress}
use Rattle.mx_row.specs.declared.row.Row.{Row}
use Rattle.mx_row.specs.Bodies.{insert_type, replace_type, update_type, delete_type, upsert_type, max_body_size, row_body_text}
use Rattle.mx_row.specs.Cuts.{MayFollow, has_room_behind, may_follow, and_row}
use Rattle.mx_row.specs.Limits.{max_rows}
use Rattle.mx_row.specs.Rows.{IsRow, ends_transaction, header_at, header_in, row_at, row_in, row_number, whole_row_at}
use Rattle.mx_row.specs.Stops.{BodyFits, CanBeBody, CanHave, Decides, HeaderFits, IsKind, IsNumbered, body_room, delete_fields, header_fields, keys_size, least_body, tuple_fields, update_fields, upsert_fields}
use Rattle.mx_row.proofs.BodyLaws.{Costs, body_least, delete_costs, delete_of_costs, tuple_costs, tuple_of_costs, update_costs, update_of_costs, upsert_costs, upsert_of_costs}
use Rattle.mx_row.proofs.ByteLaws.{both_bytes, smallest}
use Rattle.mx_row.proofs.EntryLaws.{map_found, map_is_spelled}
use Rattle.mx_row.proofs.FieldLaws.{IsNextHeader, costs_header, header_costs}
use Rattle.mx_row.proofs.PartLaws.{ends_beyond, ends_within, map_stands, pairs_stand}
use Rattle.mx_row.proofs.ProgressLaws.{kind_least, end_from, end_parts, leads_from, leads_parts, room_from, room_parts}
use Rattle.mx_row.proofs.ReadLaws.{Deletes, Inserts, Replaces, RowParts, Updates, Upserts, row_first_parts, row_from, row_is, row_parts, whole_row_is, whole_row_parts}
use Rattle.mx_row.proofs.RowLaws.{body_again}

-- ---- answers

pub decides_as : {One Other : Type 0} (answer : Bool) → (One → Other) → (Other → One) → Decides One answer → Decides Other answer
decides_as answer forth back decides = (λ e. forth (decides.0 e), λ e holds. decides.1 e (back holds))

pub decides_true : {Holds : Type 0} → Holds → Decides Holds true
decides_true holds = (λ e. holds, λ e. absurd cc)

pub decides_false : {Holds : Type 0} → ¬ Holds → Decides Holds false
decides_false never = (λ e. absurd cc, λ e. never)

-- ---- a map that is made of bytes

-- the least that makes a map of the bytes, of what makes one
pub record Completed (bytes more : List ℕ) (found : List ℕ × List ℕ) : Type 0 where
  pub missing : List ℕ
  pub some : 1 ≤ length missing
  pub parts : more ≡ missing ++ found.1
  pub whole : map_at (bytes ++ missing) ≡ Some (bytes ++ missing, [])
  pub same : pairs_in (bytes ++ missing) ≡ pairs_in (bytes ++ more)

pub completed : (bytes more : List ℕ) (found : List ℕ × List ℕ) → map_at bytes ≡ None → map_at (bytes ++ more) ≡ Some found → Completed bytes more found
completed bytes more found none e = by_length (nat_le (length found.0) (length bytes)) refl
  where
    by_length : (within : Bool) → nat_le (length found.0) (length bytes) ≡ within → Completed bytes more found
    by_length true is =
        let s = map_is_spelled (bytes ++ more) found e in
        let w = ends_within bytes more found.0 found.1 s.0 (leb-true (length found.0) (length bytes) is) in
        let read : map_at bytes ≡ Some (found.0, w.0) = ap map_at w.1 ∙ (map_found s.1 found.0 w.0 s.2).0 in
        absurd cc
    by_length false is =
        let s = map_is_spelled (bytes ++ more) found e in
        let beyond = leb-false (length found.0) (length bytes) is in
        let b = ends_beyond bytes more found.0 found.1 s.0 (omega (arith, beyond)) in
        let long = ap length b.1 ∙ length-append bytes b.0 in
        let whole : map_at (bytes ++ b.0) ≡ Some (bytes ++ b.0, []) = ap map_at (sym (append-nil (bytes ++ b.0)) ∙ ap (λ (l : List ℕ). l ++ []) (sym b.1)) ∙ (map_found s.1 found.0 [] s.2).0 ∙ ap (λ (l : List ℕ). Some (l, [])) b.1 in
        record { missing = b.0; some = omega (arith, beyond, long); parts = b.2; whole = whole; same = ap pairs_in (sym b.1) ∙ map_alone (bytes ++ more) found.0 found.1 e }

-- ---- bodies

kind_of : (kind : ℕ) {body : List Pair} {row : Row} → RowParts kind body row → IsKind kind
kind_of kind (Inserts k p) = inl k
kind_of kind (Replaces k p) = inr (inl k)
kind_of kind (Updates k p) = inr (inr (inl k))
kind_of kind (Deletes k p) = inr (inr (inr (inl k)))
kind_of kind (Upserts k p) = inr (inr (inr (inr k)))

pub row_found : (kind : ℕ) (all : List ℕ) (row : Row) → map_at all ≡ Some (all, []) → row_in kind (pairs_in all) ≡ Some row → row_at kind all ≡ Some (row, [])
unfolding row_at
row_found kind all row whole is = rw (whole, is) refl

module _ (most : ℕ) (bytes : List ℕ) (none : map_at bytes ≡ None) where
  -- a body that the bytes can become has fields that cost no more
  has_fields : (kind keys : ℕ) (fields : List Field) (more : List ℕ) (row : Row) (rest : List ℕ) → AreBytes more → row_at kind (bytes ++ more) ≡ Some (row, rest)
      → length (row_body_text row) ≤ most
      → ((body : List Pair) → row_in kind body ≡ Some row → (cost : ℕ) × (total_cost fields body ≡ Some cost) × (length (row_body_text row) ≡ keys + cost))
      → (keys ≤ most) × CanHave (most - keys) fields bytes
  has_fields kind keys fields more row rest each e short costs =
      let p = row_first_parts kind (bytes ++ more) (row, rest) e in
      let c = completed bytes more p.0 none p.1 in
      let all = costs (pairs_in (bytes ++ more)) p.2 in
      let size = all.2 in (
        omega (arith, size, short),
        (
          all.0,
          (
            c.missing,
            front_of more c.missing p.0.1 c.parts each,
            c.some,
            c.whole,
            ap (total_cost fields) c.same ∙ all.1,
            omega (arith, size, short),
          ),
        ),
      )

  -- and fields that cost no more make one
  makes_body : (kind keys : ℕ) (fields : List Field) → most ≤ max_body_size → (keys ≤ most) × CanHave (most - keys) fields bytes
      → ((body : List Pair) (cost : ℕ) → total_cost fields body ≡ Some cost → keys + cost ≤ max_body_size
      → (row : Row) × (row_in kind body ≡ Some row) × (length (row_body_text row) ≡ keys + cost))
      → CanBeBody kind most bytes
  makes_body kind keys fields few (fits, (cost, (missing, each, some, whole, total, high))) rows =
      let row = rows (pairs_in (bytes ++ missing)) cost total (omega (arith, fits, high, few)) in
      let size = row.2 in
      (missing, each, row.0, [], row_found kind (bytes ++ missing) row.0 whole row.1, omega (arith, size, fits, high))

  module _ (few : most ≤ max_body_size) (answer : Bool) where
    pub insert_decided : (kind : ℕ) → kind ≡ insert_type → Decides ((keys_size insert_type ≤ most) × CanHave (most - keys_size insert_type) tuple_fields bytes) answer
        → Decides (CanBeBody kind most bytes) answer
    insert_decided kind is =
        decides_as answer
        (λ can. makes_body kind (keys_size insert_type) tuple_fields few can (λ body cost total short. let r = tuple_of_costs body insert_type cost (inl refl) total short in (r.0, row_from kind body r.0 (Inserts is r.1), r.2)))
        (λ (more, each, row, rest, e, short). has_fields kind (keys_size insert_type) tuple_fields more row rest each e short (λ body found. costs body row (row_parts kind body row found)))
      where
        costs : (body : List Pair) (row : Row) → RowParts kind body row → Costs insert_type tuple_fields body row
        costs body row (Inserts k p) = tuple_costs body insert_type row (inl refl) p
        costs body row (Replaces k p) = absurd (omega (arith, is, k))
        costs body row (Updates k p) = absurd (omega (arith, is, k))
        costs body row (Deletes k p) = absurd (omega (arith, is, k))
        costs body row (Upserts k p) = absurd (omega (arith, is, k))

    pub replace_decided : (kind : ℕ) → kind ≡ replace_type → Decides ((keys_size insert_type ≤ most) × CanHave (most - keys_size insert_type) tuple_fields bytes) answer
        → Decides (CanBeBody kind most bytes) answer
    replace_decided kind is =
        decides_as answer
        (λ can. makes_body kind (keys_size insert_type) tuple_fields few can (λ body cost total short. let r = tuple_of_costs body replace_type cost (inr refl) total short in (r.0, row_from kind body r.0 (Replaces is r.1), r.2)))
        (λ (more, each, row, rest, e, short). has_fields kind (keys_size insert_type) tuple_fields more row rest each e short (λ body found. costs body row (row_parts kind body row found)))
      where
        costs : (body : List Pair) (row : Row) → RowParts kind body row → Costs insert_type tuple_fields body row
        costs body row (Inserts k p) = absurd (omega (arith, is, k))
        costs body row (Replaces k p) = tuple_costs body replace_type row (inr refl) p
        costs body row (Updates k p) = absurd (omega (arith, is, k))
        costs body row (Deletes k p) = absurd (omega (arith, is, k))
        costs body row (Upserts k p) = absurd (omega (arith, is, k))

    pub update_decided : (kind : ℕ) → kind ≡ update_type → Decides ((keys_size update_type ≤ most) × CanHave (most - keys_size update_type) update_fields bytes) answer
        → Decides (CanBeBody kind most bytes) answer
    update_decided kind is =
        decides_as answer
        (λ can. makes_body kind (keys_size update_type) update_fields few can (λ body cost total short. let r = update_of_costs body cost total short in (r.0, row_from kind body r.0 (Updates is r.1), r.2)))
        (λ (more, each, row, rest, e, short). has_fields kind (keys_size update_type) update_fields more row rest each e short (λ body found. costs body row (row_parts kind body row found)))
      where
        costs : (body : List Pair) (row : Row) → RowParts kind body row → Costs update_type update_fields body row
        costs body row (Inserts k p) = absurd (omega (arith, is, k))
        costs body row (Replaces k p) = absurd (omega (arith, is, k))
        costs body row (Updates k p) = update_costs body row p
        costs body row (Deletes k p) = absurd (omega (arith, is, k))
        costs body row (Upserts k p) = absurd (omega (arith, is, k))

    pub delete_decided : (kind : ℕ) → kind ≡ delete_type → Decides ((keys_size delete_type ≤ most) × CanHave (most - keys_size delete_type) delete_fields bytes) answer
        → Decides (CanBeBody kind most bytes) answer
    delete_decided kind is =
        decides_as answer
        (λ can. makes_body kind (keys_size delete_type) delete_fields few can (λ body cost total short. let r = delete_of_costs body cost total short in (r.0, row_from kind body r.0 (Deletes is r.1), r.2)))
        (λ (more, each, row, rest, e, short). has_fields kind (keys_size delete_type) delete_fields more row rest each e short (λ body found. costs body row (row_parts kind body row found)))
      where
        costs : (body : List Pair) (row : Row) → RowParts kind body row → Costs delete_type delete_fields body row
        costs body row (Inserts k p) = absurd (omega (arith, is, k))
        costs body row (Replaces k p) = absurd (omega (arith, is, k))
        costs body row (Updates k p) = absurd (omega (arith, is, k))
        costs body row (Deletes k p) = delete_costs body row p
        costs body row (Upserts k p) = absurd (omega (arith, is, k))

    pub upsert_decided : (kind : ℕ) → kind ≡ upsert_type → Decides ((keys_size upsert_type ≤ most) × CanHave (most - keys_size upsert_type) upsert_fields bytes) answer
        → Decides (CanBeBody kind most bytes) answer
    upsert_decided kind is =
        decides_as answer
        (λ can. makes_body kind (keys_size upsert_type) upsert_fields few can (λ body cost total short. let r = upsert_of_costs body cost total short in (r.0, row_from kind body r.0 (Upserts is r.1), r.2)))
        (λ (more, each, row, rest, e, short). has_fields kind (keys_size upsert_type) upsert_fields more row rest each e short (λ body found. costs body row (row_parts kind body row found)))
      where
        costs : (body : List Pair) (row : Row) → RowParts kind body row → Costs upsert_type upsert_fields body row
        costs body row (Inserts k p) = absurd (omega (arith, is, k))
        costs body row (Replaces k p) = absurd (omega (arith, is, k))
        costs body row (Updates k p) = absurd (omega (arith, is, k))
        costs body row (Deletes k p) = absurd (omega (arith, is, k))
        costs body row (Upserts k p) = upsert_costs body row p

  -- no other type has a body
  pub no_body : (kind : ℕ) → ¬ IsKind kind → Decides (CanBeBody kind most bytes) false
  no_body kind other = decides_false (λ (more, each, row, rest, e, short).
      other (kind_of kind (row_parts kind (pairs_in (bytes ++ more)) row (row_first_parts kind (bytes ++ more) (row, rest) e).2)))

-- ---- a row behind the rows

module _ (rows : Progress) (room : has_room_behind rows ≡ true) (header : Header) (row : Row) (is : IsRow row) where
  -- a row that may follow leaves its body no more room
  pub may_take : MayFollow rows header row → length (row_body_text row) ≤ body_room rows (ends_transaction header.place)
  may_take (inl on) =
      let leads = leads_parts rows header row on in
      let behind = room_parts (and_row rows header row) leads.room in
      let short = is.short in let size = behind.short in
      subst (λ (ends : Bool). length (row_body_text row) ≤ body_room rows ends) (sym leads.further) (omega (arith, short, size))
  may_take (inr on) =
      let end = end_parts rows header row on in
      let short = is.short in let size = end.short in
      subst (λ (ends : Bool). length (row_body_text row) ≤ body_room rows ends) (sym end.last) (omega (arith, short, size))

  -- and one that takes no more may follow as the last one
  pub ends_within_room : may_follow rows.last header ≡ true → ends_transaction header.place ≡ true → length (row_body_text row) ≤ body_room rows true → MayFollow rows header row
  ends_within_room follows last short =
      let some = (room_parts rows room).short in
      inr (end_from rows header row (record { follows = follows; last = last; short = omega (arith, short, some) }))

  -- or with others behind it
  pub leads_within_room : may_follow rows.last header ≡ true → ends_transaction header.place ≡ false → suc rows.count < max_rows → header.lsn.0 < max_lsn
      → length (row_body_text row) ≤ body_room rows false → MayFollow rows header row
  leads_within_room follows further few low short =
      let least = body_least row is in
      let some = kind_least row.kind in
      inl (leads_from rows header row (record {
        follows = follows;
        further = further;
        room = room_from (and_row rows header row) (record { few = few; short = omega (arith, short, least, some); lsn = lt-ltb _ _ low });
      }))

  pub may_limits : MayFollow rows header row → ends_transaction header.place ≡ false → (suc rows.count < max_rows) × (header.lsn.0 < max_lsn)
  may_limits (inl on) further =
      let behind = room_parts (and_row rows header row) (leads_parts rows header row on).room in
      (behind.few, ltb-true _ _ behind.lsn)
  may_limits (inr on) further = let last = (end_parts rows header row on).last in absurd cc

  pub may_be_next : MayFollow rows header row → may_follow rows.last header ≡ true
  may_be_next (inl on) = (leads_parts rows header row on).follows
  may_be_next (inr on) = (end_parts rows header row on).follows

-- the row of a body that is read
pub body_is : (kind : ℕ) (bytes : List ℕ) (found : Row × List ℕ) → row_at kind bytes ≡ Some found → IsRow found.0
body_is kind bytes found e = row_is kind (pairs_in bytes) found.0 (body_inner bytes) (row_parts kind (pairs_in bytes) found.0 (row_first_parts kind bytes found e).2)

module _ (rows : Progress) (room : has_room_behind rows ≡ true) (header : Header) (bytes : List ℕ) where
  -- a row can't follow, or isn't the last one where one has to be
  pub apart_decided : may_follow rows.last header ≡ false → Decides (BodyFits rows header bytes) false
  apart_decided apart = decides_false (λ (more, each, row, rest, e, may).
      let on = may_be_next rows room header row (body_is header.kind (bytes ++ more) (row, rest) e) may in absurd cc)

  pub limits_decided : ends_transaction header.place ≡ false → ¬ ((suc rows.count < max_rows) × (header.lsn.0 < max_lsn)) → Decides (BodyFits rows header bytes) false
  limits_decided further beyond = decides_false (λ (more, each, row, rest, e, may).
      beyond (may_limits rows room header row (body_is header.kind (bytes ++ more) (row, rest) e) may further))

  pub fits_decided : (ends answer : Bool) → ends_transaction header.place ≡ ends → may_follow rows.last header ≡ true
      → (ends ≡ false → (suc rows.count < max_rows) × (header.lsn.0 < max_lsn)) → Decides (CanBeBody header.kind (body_room rows ends) bytes) answer
      → Decides (BodyFits rows header bytes) answer
  fits_decided ends answer place follows limits =
      decides_as answer
      (λ (more, each, row, rest, e, short).
      (more, each, row, rest, e, by_end ends place limits row (body_is header.kind (bytes ++ more) (row, rest) e) short))
      (λ (more, each, row, rest, e, may).
      let short = may_take rows room header row (body_is header.kind (bytes ++ more) (row, rest) e) may in
      (more, each, row, rest, e, subst (λ (b : Bool). length (row_body_text row) ≤ body_room rows b) place short))
    where
      by_end : (ends : Bool) → ends_transaction header.place ≡ ends → (ends ≡ false → (suc rows.count < max_rows) × (header.lsn.0 < max_lsn)) → (row : Row) → IsRow row
          → length (row_body_text row) ≤ body_room rows ends → MayFollow rows header row
      by_end true last limits row is short = ends_within_room rows room header row is follows last short
      by_end false further limits row is short = let (few, low) = limits refl in leads_within_room rows room header row is follows further few low short

-- ---- headers

pub header_found : (all rest map : List ℕ) (header : Header) → map_at all ≡ Some (map, rest) → header_in (pairs_in all) ≡ Some header → header_at all ≡ Some (header, rest)
unfolding header_at
header_found all rest map header whole is = rw (whole, is) refl

pub whole_found : (all rest end : List ℕ) (header : Header) (row : Row) → header_at all ≡ Some (header, rest) → row_at header.kind rest ≡ Some (row, end)
    → whole_row_at all ≡ Some ((header, row), end)
unfolding whole_row_at
whole_found all rest end header row is read = rw (is, read) refl

-- a row is of its header's type
pub row_kind_is : (bytes : List ℕ) (found : (Header × Row) × List ℕ) → whole_row_at bytes ≡ Some found → found.0.1.kind ≡ found.0.0.kind
row_kind_is bytes ((header, row), rest) e = let p = whole_row_parts bytes ((header, row), rest) e in by_parts (row_parts header.kind (pairs_in p.header_map.1) row p.row_is)
  where
    by_parts : {body : List Pair} → RowParts header.kind body row → row.kind ≡ header.kind
    by_parts (Inserts k p) = ap (λ (r : Row). r.kind) p.is ∙ sym k
    by_parts (Replaces k p) = ap (λ (r : Row). r.kind) p.is ∙ sym k
    by_parts (Updates k p) = ap (λ (r : Row). r.kind) p.is ∙ sym k
    by_parts (Deletes k p) = ap (λ (r : Row). r.kind) p.is ∙ sym k
    by_parts (Upserts k p) = ap (λ (r : Row). r.kind) p.is ∙ sym k

-- and its header's type is one of a row
pub header_kind : (bytes : List ℕ) (found : (Header × Row) × List ℕ) → whole_row_at bytes ≡ Some found → IsKind found.0.0.kind
header_kind bytes found e = let p = whole_row_parts bytes found e in kind_of found.0.0.kind (row_parts found.0.0.kind (pairs_in p.header_map.1) found.0.1 p.row_is)

-- a header that a row has that may follow
next_header : (rows : Progress) (room : has_room_behind rows ≡ true) (bytes : List ℕ) (found : (Header × Row) × List ℕ) → whole_row_at bytes ≡ Some found → MayFollow rows found.0.0 found.0.1
    → IsNextHeader rows found.0.0
next_header rows room bytes ((header, row), rest) e may =
    let is = whole_row_is bytes ((header, row), rest) e in
    let replica = is.replica in
    record { follows = may_be_next rows room header row is.row_is may; low = is.some; high = by_end (ends_transaction header.place) refl; replica = omega (arith, replica) }
  where
    by_end : (ends : Bool) → ends_transaction header.place ≡ ends → header.lsn.0 ≤ (if ends then max_lsn else max_lsn - 1)
    by_end true last = (whole_row_is bytes ((header, row), rest) e).most
    by_end false further = let low = (may_limits rows room header row (whole_row_is bytes ((header, row), rest) e).row_is may further).1 in omega (arith, low)

module _ (rows : Progress) (room : has_room_behind rows ≡ true) (numbered : IsNumbered rows) (kind : ℕ) (place : Place) (bytes : List ℕ) where
  -- no row may follow this one, and it isn't the last
  pub full_decided : ends_transaction place ≡ false → ¬ (suc rows.count < max_rows) → Decides (HeaderFits rows kind place bytes) false
  full_decided further full = decides_false (λ (more, each, header, row, rest, e, may, kind_is, place_is).
      full (may_limits rows room header row (whole_row_is (bytes ++ more) ((header, row), rest) e).row_is may (ap ends_transaction place_is ∙ further)).0)

  pub tight_decided : ¬ (least_body kind ≤ body_room rows (ends_transaction place)) → Decides (HeaderFits rows kind place bytes) false
  tight_decided tight = decides_false (λ (more, each, header, row, rest, e, may, kind_is, place_is).
      let is = (whole_row_is (bytes ++ more) ((header, row), rest) e).row_is in
      let takes = subst (λ (p : Place). length (row_body_text row) ≤ body_room rows (ends_transaction p)) place_is (may_take rows room header row is may) in
      let least = body_least row is in
      let row_kind = row_kind_is (bytes ++ more) ((header, row), rest) e in
      let same : least_body row.kind ≡ least_body kind = ap least_body (row_kind ∙ kind_is) in
      tight (omega (arith, takes, least, same)))

  module _ (none : map_at bytes ≡ None) (is_kind : IsKind kind) (number : row_number place ≡ rows.count)
      (further : ends_transaction place ≡ false → suc rows.count < max_rows) (fits : least_body kind ≤ body_room rows (ends_transaction place)) (answer : Bool)
    where
      pub header_decided : Decides (CanHave 0 (header_fields rows kind place) bytes) answer → Decides (HeaderFits rows kind place bytes) answer
      header_decided = decides_as answer forth back
        where
          forth : CanHave 0 (header_fields rows kind place) bytes → HeaderFits rows kind place bytes
          forth (cost, (missing, each, some, whole, total, high)) =
              let (header, is, next, kind_is, place_is) = costs_header rows kind place (pairs_in (bytes ++ missing)) cost numbered number total in
              let small = smallest kind is_kind in
              let text = row_body_text small.row in
              let all : (bytes ++ missing) ++ text ≡ bytes ++ (missing ++ text) = append_assoc bytes missing text in
              let header_is : header_at ((bytes ++ missing) ++ text) ≡ Some (header, text) =
              header_found ((bytes ++ missing) ++ text) text (bytes ++ missing) header (map_stands (bytes ++ missing) text (bytes ++ missing, []) whole)
              (ap header_in (pairs_stand (bytes ++ missing) text (bytes ++ missing, []) whole) ∙ is) in
              let row_is : row_at header.kind text ≡ Some (small.row, []) =
              ap (λ (k : ℕ). row_at k text) (kind_is ∙ sym small.kind_is) ∙ ap (row_at small.row.kind) (sym (append-nil text)) ∙ body_again small.row [] small.is in (
                missing ++ text,
                both_bytes missing text each small.bytes,
                header,
                small.row,
                [],
                ap whole_row_at (sym all) ∙ whole_found ((bytes ++ missing) ++ text) text [] header small.row header_is row_is,
                may header small.row small.is next.follows place_is next.high (let size = small.size in omega (arith, size, fits)) (ends_transaction place) refl,
                kind_is,
                place_is,
              )
            where
              may : (header : Header) (row : Row) → IsRow row → may_follow rows.last header ≡ true → header.place ≡ place
                  → header.lsn.0 ≤ (if ends_transaction header.place then max_lsn else max_lsn - 1)
                  → length (row_body_text row) ≤ body_room rows (ends_transaction place) → (ends : Bool) → ends_transaction place ≡ ends → MayFollow rows header row
              may header row is follows place_is high short true last =
                  ends_within_room rows room header row is follows (ap ends_transaction place_is ∙ last) (subst (λ (b : Bool). length (row_body_text row) ≤ body_room rows b) last short)
              may header row is follows place_is high short false more =
                  let ends = ap ends_transaction place_is ∙ more in
                  let low : header.lsn.0 ≤ max_lsn - 1 = subst (λ (b : Bool). header.lsn.0 ≤ (if b then max_lsn else max_lsn - 1)) ends high in
                  leads_within_room rows room header row is follows ends (further more) (omega (arith, low)) (subst (λ (b : Bool). length (row_body_text row) ≤ body_room rows b) more short)

          back : HeaderFits rows kind place bytes → CanHave 0 (header_fields rows kind place) bytes
          back (more, each, header, row, rest, e, may, kind_is, place_is) =
              let p = whole_row_parts (bytes ++ more) ((header, row), rest) e in
              let c = completed bytes more p.header_map none p.header_first in
              let total = header_costs rows header (pairs_in (bytes ++ more)) p.header_is (next_header rows room (bytes ++ more) ((header, row), rest) e may) in
              let fields : header_fields rows header.kind header.place ≡ header_fields rows kind place = λ i. header_fields rows (kind_is i) (place_is i) in (
                0,
                (
                  c.missing,
                  front_of more c.missing p.header_map.1 c.parts each,
                  c.some,
                  c.whole,
                  ap (λ (l : List Field). total_cost l (pairs_in (bytes ++ c.missing))) (sym fields) ∙ ap (total_cost (header_fields rows header.kind header.place)) c.same ∙ total,
                  omega arith,
                ),
              )

-- ---- the least cost

pub least_decided : (keys most : ℕ) (fields : List Field) (bytes : List ℕ) → keys ≤ most → (cost : Option ℕ) → IsLeast (CostsOf (most - keys) fields bytes) cost
    → Decides ((keys ≤ most) × CanHave (most - keys) fields bytes) (is_some cost)
least_decided keys most fields bytes fits None never = decides_false (λ (within, (cost, costs)). never cost costs)
least_decided keys most fields bytes fits (Some cost) (costs, least) = decides_true (fits, (cost, costs))

-- the fields of a header, as they are put together
pub place_decided : (fields others : List Field) (bytes : List ℕ) (answer : Bool) → fields ≡ others → Decides ((0 ≤ 0) × CanHave (0 - 0) fields bytes) answer
    → Decides (CanHave 0 others bytes) answer
place_decided fields others bytes answer same =
    decides_as answer (λ (few, can). subst (λ (l : List Field). CanHave 0 l bytes) same can) (λ can. (omega arith, subst (λ (l : List Field). CanHave 0 l bytes) (sym same) can))

-- ---- tests of the limits

pub allows_parts : (ends few low : Bool) → (ends || (few && low)) ≡ true → ends ≡ false → (few ≡ true) × (low ≡ true)
allows_parts true few low e further = absurd cc
allows_parts false few low e further = and_parts few low e

pub place_allows : (ends few : Bool) → (ends || few) ≡ true → ends ≡ false → few ≡ true
place_allows true few e further = absurd cc
place_allows false few e further = e

pub no_kind : (kind : ℕ) → ¬ (kind ≡ insert_type) → ¬ (kind ≡ replace_type) → ¬ (kind ≡ update_type) → ¬ (kind ≡ delete_type) → ¬ (kind ≡ upsert_type) → ¬ IsKind kind
no_kind kind a b c d e (inl k) = a k
no_kind kind a b c d e (inr (inl k)) = b k
no_kind kind a b c d e (inr (inr (inl k))) = c k
no_kind kind a b c d e (inr (inr (inr (inl k)))) = d k
no_kind kind a b c d e (inr (inr (inr (inr k)))) = e k
