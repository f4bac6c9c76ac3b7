-- The rows of a journal: what is written is read again, whatever follows, and takes no more bytes than a row counts.
use Rattle.std.proofs.Common.{◌≡◌, ℕ, ◌-◌, ◌^◌, ◌<◌, ◌≤◌, Bool, true, false, Option, List, [], ◌∷◌, ◌++◌, length, Some, None, refl, sym, ap, subst, ◌∙◌, append_assoc, inl, inr, arith}
use Rattle.std.specs.Prelude.{pos, map, ◌==◌, if◌then◌else◌}
use Rattle.std.specs.Option.{option_map}
use Rattle.std.proofs.lemmas.Bool.{cond_both, eqb-true, le-leb, ne_eqb}
use Rattle.std.proofs.lemmas.List.{length-append}
use Rattle.mx_base.specs.Keys.{base_key, is_last_key}
use Rattle.mx_msgpack.specs.Grammar as grammar
use Rattle.mx_msgpack.specs.Grammar.{Spells}
use Rattle.mx_msgpack.specs.Readers.{unsigned_in}
use Rattle.mx_msgpack.specs.Spelling.{shortest_unsigned}
use Rattle.mx_msgpack.proofs.UnsignedLaws.{unsigned_read}
use Rattle.mx_vclock.specs.Vclocks.{max_lsn}
use Rattle.mx_request.specs.declared.request.Request.TheVariants as request
use Rattle.mx_request.specs.Spelling.{Written, unless_default, map_text, IsInnerArray, AreOperations}
use Rattle.mx_request.specs.Values.{number_to, number_32, array_in}
use Rattle.mx_request.proofs.MapTextLaws.{AreWhole, as_read}
use Rattle.mx_request.proofs.UnderKeyLaws.{found, OnlyKey, only_key, change_space, change_base, change_key, change_operations, upsertion_space, upsertion_base, upsertion_tuple, upsertion_operations}
use Rattle.mx_request.proofs.ValueTextLaws.{number_inner, number_read_again, unsigned_read_again, array_read_again}
use Rattle.mx_request.proofs.WholeLaws.{body_whole}
use Rattle.mx_request.proofs.WriterLaws.{pairs_text}
use Rattle.mx_msgpack.proofs.SpellingLaws.{shortest_length}
use Rattle.mx_row.specs.declared.header.Header.{Header}
use Rattle.mx_row.specs.declared.row.Row.{Row}
use Rattle.mx_row.specs.declared.header.Place.{Place}
use Rattle.mx_row.specs.declared.header.Place.TheVariants.{Alone, Numbered}
use Rattle.mx_row.specs.Limits.{row_size}
use Rattle.mx_row.specs.Values.{value_held, lsn_in, base_in, row_operations_in}
use Rattle.mx_row.specs.Rows.{insert_type, replace_type, update_type, delete_type, upsert_type, max_body_size, insert_row, replace_row, update_row, delete_row, upsert_row, tuple_pairs, update_pairs, delete_pairs, upsert_pairs, row_body_text, row_header_pairs, row_text, IsUpdate, IsUpsert, IsRow, header_in, header_at, row_place_by, place_pairs, row_number, row_at, whole_row_at}
use Rattle.mx_row.proofs.SizeLaws.{short_text, unless_few}
use Rattle.mx_row.proofs.PairLaws.{map_again, pairs_again_in}
use Rattle.mx_row.proofs.ReadLaws.{header_from, RowParts, Inserts, Replaces, Updates, Deletes, Upserts, row_from}

-- ---- the header of a row

small_read : (number : ℕ) → number < 0x80 → unsigned_in (number ∷ []) ≡ Some number
small_read number few = ap (option_map (λ (found : ℕ × List ℕ). found.0)) (unsigned_read number (number ∷ []) [] (inl (few, refl)))

small : (number : ℕ) → number < 0x80 → (value : grammar.Value) × Spells 63 value (number ∷ [])
small number few = (grammar.Int (pos number), inl (number, refl, inl (few, refl)))

lsn_again : (lsn : ℕ) → 1 ≤ lsn → lsn ≤ max_lsn → lsn_in (shortest_unsigned lsn) ≡ Some lsn
lsn_again lsn some most = rw (number_read_again max_lsn lsn most (omega arith), ne_eqb lsn 0 (λ e. omega arith)) refl

-- the value of a place's last key
abbrev last_value : Bool → Option (List ℕ)
last_value is_last = if is_last then Some (1 ∷ []) else None

place_again : (number : ℕ) (is_last : Bool) → number < 2 ^ 64 → row_place_by (Some (shortest_unsigned number)) (last_value is_last) ≡ Some (Numbered number is_last)
place_again number true fits = rw (unsigned_read_again number fits, small_read 1 (omega arith)) refl
place_again number false fits = rw (unsigned_read_again number fits) refl

place_whole : (place : Place) → row_number place < 2 ^ 64 → AreWhole (place_pairs place)
place_whole Alone fits = tt
place_whole (Numbered number true) fits = (omega arith, number_inner number fits, (omega arith, small 1 (omega arith), tt))
place_whole (Numbered number false) fits = (omega arith, number_inner number fits, tt)

place_few : (place : Place) → length (place_pairs place) ≤ 2
place_few Alone = omega arith
place_few (Numbered number true) = omega arith
place_few (Numbered number false) = omega arith

-- the header of these values, and its pairs as they are written
abbrev pub header_of : (kind replica lsn : ℕ) → Place → Header
header_of kind replica lsn place = record { kind = kind; replica = record { 0 = replica }; lsn = record { 0 = lsn }; place = place }

abbrev pairs_of : (kind replica lsn : ℕ) → Place → List Written
pairs_of kind replica lsn place = row_header_pairs kind replica lsn ++ place_pairs place

-- the values fit a header
record Fits (kind replica lsn : ℕ) (place : Place) : Type 0 where
  low : kind < 0x80
  few : replica < 32
  some : 1 ≤ lsn
  most : lsn ≤ max_lsn
  number : row_number place < 2 ^ 64

module _ (kind replica lsn : ℕ) where
  header_whole : (place : Place) → Fits kind replica lsn place → AreWhole (pairs_of kind replica lsn place)
  header_whole place fits =
      let low = fits.few in
      let most = fits.most in (
        omega arith,
        small kind fits.low,
        (omega arith, small replica (omega arith), (omega arith, number_inner lsn (omega arith), place_whole place fits.number)),
      )

  header_few : (place : Place) → length (pairs_of kind replica lsn place) < 0x10
  header_few place = let l = place_few place in omega arith

  replica_again : replica < 32 → number_to 31 (replica ∷ []) ≡ Some replica
  replica_again few = rw (small_read replica (omega arith), le-leb replica 31 (omega arith)) refl

  header_found : (place : Place) → Fits kind replica lsn place → header_in (map as_read (pairs_of kind replica lsn place)) ≡ Some (header_of kind replica lsn place)
  header_found Alone fits =
      header_from _ _ _ _ _ (header_of kind replica lsn Alone)
      (record { kind = small_read kind fits.low; replica_is = replica_again fits.few; lsn_is = lsn_again lsn fits.some fits.most; place_is = refl })
  header_found (Numbered number true) fits =
      header_from _ _ _ _ _ (header_of kind replica lsn (Numbered number true)) (record {
        kind = small_read kind fits.low;
        replica_is = replica_again fits.few;
        lsn_is = lsn_again lsn fits.some fits.most;
        place_is = place_again number true fits.number;
      })
  header_found (Numbered number false) fits =
      header_from _ _ _ _ _ (header_of kind replica lsn (Numbered number false)) (record {
        kind = small_read kind fits.low;
        replica_is = replica_again fits.few;
        lsn_is = lsn_again lsn fits.some fits.most;
        place_is = place_again number false fits.number;
      })

  header_again : (place : Place) (rest : List ℕ) → Fits kind replica lsn place
      → header_at (map_text (pairs_of kind replica lsn place) ++ rest) ≡ Some (header_of kind replica lsn place, rest)
  unfolding header_at
  header_again place rest fits =
      let pairs = pairs_of kind replica lsn place in
      let whole = header_whole place fits in
      let few = header_few place in
      rw (map_again pairs rest few whole, pairs_again_in pairs rest few whole, header_found place fits) refl

-- ---- the body of a row

module _ (space : ℕ) (fits : space < 2 ^ 32) where
  space_again : number_32 (shortest_unsigned space) ≡ Some space
  space_again = number_read_again (2 ^ 32 - 1) space (omega arith) (omega arith)

base_held : (base : ℕ) → base ≤ 1 → base_in (found base_key (unless_default base_key 0 base)) ≡ Some base
base_held base few =
    cond_both (base == 0) _ _ (λ (pairs : List Written). base_in (found base_key pairs) ≡ Some base)
    (λ t. ap (λ (n : ℕ). Some n) (sym (eqb-true base 0 t))) (λ _. number_read_again 1 base few (omega arith))

pub operations_again : (operations : List ℕ) → AreOperations operations → row_operations_in operations ≡ Some operations
operations_again operations (inner, shape) = rw (array_read_again operations inner, shape) refl

-- the pairs of a body are read as the row
by_pairs : (kind : ℕ) (pairs : List Written) (row : Row) (rest : List ℕ) → length pairs < 0x10 → AreWhole pairs → RowParts kind (map as_read pairs) row
    → row_at kind (map_text pairs ++ rest) ≡ Some (row, rest)
unfolding row_at
by_pairs kind pairs row rest few whole parts =
    rw (map_again pairs rest few whole, pairs_again_in pairs rest few whole, row_from kind (map as_read pairs) row parts) refl

no_key : OnlyKey 0x11 []
no_key other differ = refl

based_few : (base : ℕ) (one other : Written) → length (unless_default base_key 0 base ++ one ∷ other ∷ []) < 0xf
based_few base one other =
    let l = length-append (unless_default base_key 0 base) (one ∷ other ∷ []) in
    omega (arith, unless_few base_key 0 base)

update_again : (space base : ℕ) (key operations rest : List ℕ) → space < 2 ^ 32 → IsUpdate (update_row space base key operations)
    → length (row_body_text (update_row space base key operations)) ≤ max_body_size
    → row_at update_type (row_body_text (update_row space base key operations) ++ rest) ≡ Some (update_row space base key operations, rest)
update_again space base key operations rest fits (is, few, inner, each) short =
    let spelled = shortest_unsigned space in
    let b = unless_default base_key 0 base in
    let kb = only_key base_key 0 base in
    by_pairs update_type (update_pairs space base key operations) (update_row space base key operations) rest
    (omega (arith, based_few base (0x20, key) (0x21, operations)))
    (body_whole (request.Update (record { 0 = space }) (record { 0 = 0 }) base key operations) (fits, omega arith, few, inner, each) tt)
    (Updates refl (record {
      space_is = ap (value_held number_32) (change_space spelled key operations [] b no_key kb) ∙ space_again space fits;
      base_is = ap base_in (change_base spelled key operations [] b no_key kb) ∙ base_held base few;
      key_is = ap (value_held array_in) (change_key spelled key operations [] b no_key kb) ∙ array_read_again key inner;
      operations_are = ap (value_held row_operations_in) (change_operations spelled key operations [] b no_key kb) ∙ operations_again operations each;
      is = refl;
      short = short;
    }))

upsert_again : (space base : ℕ) (tuple operations rest : List ℕ) → space < 2 ^ 32 → IsUpsert (upsert_row space base tuple operations)
    → length (row_body_text (upsert_row space base tuple operations)) ≤ max_body_size
    → row_at upsert_type (row_body_text (upsert_row space base tuple operations) ++ rest) ≡ Some (upsert_row space base tuple operations, rest)
upsert_again space base tuple operations rest fits (is, few, inner, each) short =
    let spelled = shortest_unsigned space in
    let b = unless_default base_key 0 base in
    let kb = only_key base_key 0 base in
    by_pairs upsert_type (upsert_pairs space base tuple operations) (upsert_row space base tuple operations) rest
    (omega (arith, based_few base (0x21, tuple) (0x28, operations)))
    (body_whole (request.Upsert (record { 0 = space }) base tuple operations) (fits, few, inner, each) tt)
    (Upserts refl (record {
      space_is = ap (value_held number_32) (upsertion_space spelled tuple operations b kb) ∙ space_again space fits;
      base_is = ap base_in (upsertion_base spelled tuple operations b kb) ∙ base_held base few;
      tuple_is = ap (value_held array_in) (upsertion_tuple spelled tuple operations b kb) ∙ array_read_again tuple inner;
      operations_are = ap (value_held row_operations_in) (upsertion_operations spelled tuple operations b kb) ∙ operations_again operations each;
      is = refl;
      short = short;
    }))

delete_again : (space : ℕ) (key rest : List ℕ) → space < 2 ^ 32 → IsInnerArray key → length (row_body_text (delete_row space key)) ≤ max_body_size
    → row_at delete_type (row_body_text (delete_row space key) ++ rest) ≡ Some (delete_row space key, rest)
delete_again space key rest fits inner short =
    by_pairs delete_type (delete_pairs space key) (delete_row space key) rest (omega arith)
    (body_whole (request.Delete (record { 0 = space }) (record { 0 = 0 }) key) (fits, omega arith, inner) tt)
    (Deletes refl (record { space_is = space_again space fits; key_is = array_read_again key inner; is = refl; short = short }))

insert_again : (space : ℕ) (tuple rest : List ℕ) → space < 2 ^ 32 → IsInnerArray tuple → length (row_body_text (insert_row space tuple)) ≤ max_body_size
    → row_at insert_type (row_body_text (insert_row space tuple) ++ rest) ≡ Some (insert_row space tuple, rest)
insert_again space tuple rest fits inner short =
    by_pairs insert_type (tuple_pairs space tuple) (insert_row space tuple) rest (omega arith)
    (body_whole (request.Insert (record { 0 = space }) tuple) (fits, inner) tt)
    (Inserts refl (record { space_is = space_again space fits; tuple_is = array_read_again tuple inner; is = refl; short = short }))

replace_again : (space : ℕ) (tuple rest : List ℕ) → space < 2 ^ 32 → IsInnerArray tuple → length (row_body_text (replace_row space tuple)) ≤ max_body_size
    → row_at replace_type (row_body_text (replace_row space tuple) ++ rest) ≡ Some (replace_row space tuple, rest)
replace_again space tuple rest fits inner short =
    by_pairs replace_type (tuple_pairs space tuple) (replace_row space tuple) rest (omega arith)
    (body_whole (request.Replace (record { 0 = space }) tuple) (fits, inner) tt)
    (Replaces refl (record { space_is = space_again space fits; tuple_is = array_read_again tuple inner; is = refl; short = short }))

abbrev ReadAgain : List ℕ → Row → Type 0
ReadAgain rest row = row_at row.kind (row_body_text row ++ rest) ≡ Some (row, rest)

short_as : (row other : Row) → row ≡ other → length (row_body_text row) ≤ max_body_size → length (row_body_text other) ≤ max_body_size
short_as row other e short = subst (λ (r : Row). length (row_body_text r) ≤ max_body_size) e short

pub body_again : (row : Row) (rest : List ℕ) → IsRow row → ReadAgain rest row
body_again row rest is =
    elim is.parts [
      | inl (e, inner) ↦ subst (ReadAgain rest) (sym e) (insert_again row.space.0 row.tuple rest is.space inner (short_as row _ e is.short))
      | inr (inl (e, inner)) ↦ subst (ReadAgain rest) (sym e) (replace_again row.space.0 row.tuple rest is.space inner (short_as row _ e is.short))
      | inr (inr (inl (e, few, inner, each))) ↦
          subst (ReadAgain rest) (sym e)
          (update_again row.space.0 row.index_base row.key row.ops rest is.space (refl, few, inner, each) (short_as row _ e is.short))
      | inr (inr (inr (inl (e, inner)))) ↦ subst (ReadAgain rest) (sym e) (delete_again row.space.0 row.key rest is.space inner (short_as row _ e is.short))
      | inr (inr (inr (inr (e, few, inner, each)))) ↦
          subst (ReadAgain rest) (sym e)
          (upsert_again row.space.0 row.index_base row.tuple row.ops rest is.space (refl, few, inner, each) (short_as row _ e is.short))
    ]

-- a row's type is one byte
pub kind_low : (row : Row) → IsRow row → row.kind < 0x80
kind_low row is =
    elim is.parts [
      | inl (e, inner) ↦ low_as _ e (omega arith)
      | inr (inl (e, inner)) ↦ low_as _ e (omega arith)
      | inr (inr (inl (e, few, inner, each))) ↦ low_as _ e (omega arith)
      | inr (inr (inr (inl (e, inner)))) ↦ low_as _ e (omega arith)
      | inr (inr (inr (inr (e, few, inner, each)))) ↦ low_as _ e (omega arith)
    ]
  where
    low_as : (other : Row) → row ≡ other → other.kind < 0x80 → row.kind < 0x80
    low_as other e low = subst (λ (r : Row). r.kind < 0x80) (sym e) low

-- ---- a whole row

-- what is written of a row is read again, whatever follows
pub row_again : (replica lsn : ℕ) (place : Place) (row : Row) (rest : List ℕ) → replica < 32 → 1 ≤ lsn → lsn ≤ max_lsn → row_number place < 2 ^ 64 → IsRow row
    → whole_row_at (row_text replica lsn place row ++ rest) ≡ Some ((header_of row.kind replica lsn place, row), rest)
unfolding whole_row_at
row_again replica lsn place row rest few some most number is =
    let text = map_text (pairs_of row.kind replica lsn place) in
    let whole = append_assoc text (row_body_text row) rest in
    let fits : Fits row.kind replica lsn place = record { low = kind_low row is; few = few; some = some; most = most; number = number } in
    rw (whole, header_again row.kind replica lsn place (row_body_text row ++ rest) fits, body_again row rest is) refl

place_length : (place : Place) → length (pairs_text (place_pairs place)) ≤ 12
place_length Alone = omega arith
place_length (Numbered number true) =
    let l = length-append (shortest_unsigned number) (is_last_key ∷ 1 ∷ []) in
    omega (arith, l, shortest_length number)
place_length (Numbered number false) =
    let l = length-append (shortest_unsigned number) [] in
    omega (arith, l, shortest_length number)

-- a row takes no more bytes than it counts, and one at least
pub row_length : (replica lsn : ℕ) (place : Place) (row : Row)
    → (1 ≤ length (row_text replica lsn place row)) × (length (row_text replica lsn place row) ≤ row_size row)
row_length replica lsn place row =
    let pairs = pairs_of row.kind replica lsn place in
    let both = length-append (map_text pairs) (row_body_text row) in
    let text = ap length (short_text pairs (header_few row.kind replica lsn place)) in
    let last = length-append (shortest_unsigned lsn) (pairs_text (place_pairs place)) in
    let number = shortest_length lsn in
    let numbered = place_length place in
    (omega arith, omega arith)
