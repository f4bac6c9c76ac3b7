-- What is written of numbers and of the smallest rows are bytes.
use Rattle.std.proofs.Common.{◌≡◌, ℕ, zero, suc, ◌^◌, ◌<◌, Bool, true, List, [], ◌∷◌, ◌++◌, length, None, refl, sym, ap, inl, inr, arith}
use Rattle.std.specs.Prelude.{◌&&◌, nat_lt}
use Rattle.std.specs.Int.{byte_at}
use Rattle.std.proofs.lemmas.Bool.{and_parts, cond_both, ltb-true}
use Rattle.byteorder.specs.Endian.{big_bytes}
use Rattle.mx_msgpack.specs.Grammar as grammar
use Rattle.mx_msgpack.specs.Reading.{head_at, after_first, reading_of}
use Rattle.mx_msgpack.specs.Spelling.{AreBytes, shortest_unsigned, map_head}
use Rattle.mx_base.specs.Keys.{type_key, replica_key, lsn_key, row_number_key, is_last_key}
use Rattle.mx_request.specs.Operators.{shape_fault}
use Rattle.mx_request.specs.Spelling.{IsInnerArray, AreOperations, map_text}
use Rattle.mx_row.specs.declared.header.Place.TheVariants.{Numbered}
use Rattle.mx_row.specs.declared.row.Row.{Row}
use Rattle.mx_row.specs.Bodies.{insert_type, replace_type, tuple_row, update_row, delete_row, upsert_row, row_body_text}
use Rattle.mx_row.specs.Rows.{IsRow, place_pairs, row_header_pairs, row_text}
use Rattle.mx_row.specs.Stops.{IsKind, least_body}

pub no_bytes : AreBytes []
no_bytes i = omega arith

pub byte_and : (byte : ℕ) (bytes : List ℕ) → byte < 2 ^ 8 → AreBytes bytes → AreBytes (byte ∷ bytes)
byte_and byte bytes low each zero = low
byte_and byte bytes low each (suc i) = each i

pub both_bytes : (front rest : List ℕ) → AreBytes front → AreBytes rest → AreBytes (front ++ rest)
both_bytes [] rest each others = others
both_bytes (byte ∷ front) rest each others = byte_and byte (front ++ rest) (each 0) (both_bytes front rest (λ i. each (suc i)) others)

byte_below : (place number : ℕ) → byte_at place number < 2 ^ 8
byte_below zero number = omega arith
byte_below (suc place) number = omega arith

number_bytes : (width number : ℕ) → AreBytes (big_bytes width number)
number_bytes zero number i = omega arith
number_bytes (suc width) number zero = byte_below width number
number_bytes (suc width) number (suc i) = number_bytes width number i

pub unsigned_bytes : (number : ℕ) → AreBytes (shortest_unsigned number)
unfolding shortest_unsigned
unsigned_bytes number =
    cond_both (nat_lt number 0x80) _ _ AreBytes (λ t. byte_and number [] (let low = ltb-true _ _ t in omega (arith, low)) no_bytes) (λ _.
    cond_both (nat_lt number (2 ^ 8)) _ _ AreBytes (λ _. byte_and 0xcc (big_bytes 1 number) (omega arith) (number_bytes 1 number)) (λ _.
    cond_both (nat_lt number (2 ^ 16)) _ _ AreBytes (λ _. byte_and 0xcd (big_bytes 2 number) (omega arith) (number_bytes 2 number)) (λ _.
    cond_both (nat_lt number (2 ^ 32)) _ _ AreBytes (λ _. byte_and 0xce (big_bytes 4 number) (omega arith) (number_bytes 4 number)) (λ _.
    byte_and 0xcf (big_bytes 8 number) (omega arith) (number_bytes 8 number)))))

-- ---- the smallest rows

-- the array of no item
abbrev empty : List ℕ
empty = 0x90 ∷ []

empty_inner : IsInnerArray empty
empty_inner = (grammar.NoValue, (empty, [], inl (omega arith, refl), omega arith, refl, refl))

empty_shape : shape_fault empty ≡ None
unfolding reading_of head_at after_first
empty_shape = refl

empty_operations : AreOperations empty
empty_operations = (empty_inner, empty_shape)

-- the smallest row of a type
pub record Smallest (kind : ℕ) : Type 0 where
  pub row : Row
  pub is : IsRow row
  pub kind_is : row.kind ≡ kind
  pub size : length (row_body_text row) ≡ least_body kind
  pub bytes : AreBytes (row_body_text row)

-- bytes that are known are tested
abbrev all_low : List ℕ → Bool
all_low [] = true
all_low (byte ∷ bytes) = nat_lt byte 0x100 && all_low bytes

low_bytes : (bytes : List ℕ) → all_low bytes ≡ true → AreBytes bytes
low_bytes [] e = no_bytes
low_bytes (byte ∷ bytes) e = let p = and_parts (nat_lt byte 0x100) (all_low bytes) e in byte_and byte bytes (ltb-true byte 0x100 p.0) (low_bytes bytes p.1)

pub smallest : (kind : ℕ) → IsKind kind → Smallest kind
unfolding shortest_unsigned map_head
smallest kind (inl e) =
    let row = tuple_row insert_type 0 empty in
    record { row = row; is = record { space = omega arith; parts = inl (refl, empty_inner); short = omega arith }; kind_is = sym e; size = ap least_body (sym e); bytes = low_bytes (row_body_text row) refl }
smallest kind (inr (inl e)) =
    let row = tuple_row replace_type 0 empty in
    record { row = row; is = record { space = omega arith; parts = inr (inl (refl, empty_inner)); short = omega arith }; kind_is = sym e; size = ap least_body (sym e); bytes = low_bytes (row_body_text row) refl }
smallest kind (inr (inr (inl e))) =
    let row = update_row 0 0 empty empty in
    record { row = row; is = record { space = omega arith; parts = inr (inr (inl (refl, omega arith, empty_inner, empty_operations))); short = omega arith }; kind_is = sym e; size = ap least_body (sym e); bytes = low_bytes (row_body_text row) refl }
smallest kind (inr (inr (inr (inl e)))) =
    let row = delete_row 0 empty in
    record { row = row; is = record { space = omega arith; parts = inr (inr (inr (inl (refl, empty_inner)))); short = omega arith }; kind_is = sym e; size = ap least_body (sym e); bytes = low_bytes (row_body_text row) refl }
smallest kind (inr (inr (inr (inr e)))) =
    let row = upsert_row 0 0 empty empty in
    record { row = row; is = record { space = omega arith; parts = inr (inr (inr (inr (refl, omega arith, empty_inner, empty_operations)))); short = omega arith }; kind_is = sym e; size = ap least_body (sym e); bytes = low_bytes (row_body_text row) refl }

-- ---- the last row of a transaction

pub last_bytes : (replica lsn number : ℕ) (row : Row) → replica < 32 → row.kind < 0x80 → AreBytes (row_body_text row) → AreBytes (row_text replica lsn (Numbered number true) row)
unfolding map_head
last_bytes replica lsn number row few low body = both_bytes (map_text (row_header_pairs row.kind replica lsn ++ place_pairs (Numbered number true))) (row_body_text row) head body
  where
    last_are : AreBytes (shortest_unsigned number ++ is_last_key ∷ 1 ∷ [])
    last_are = both_bytes (shortest_unsigned number) (is_last_key ∷ 1 ∷ []) (unsigned_bytes number) (low_bytes (is_last_key ∷ 1 ∷ []) refl)

    numbers : AreBytes (shortest_unsigned lsn ++ row_number_key ∷ (shortest_unsigned number ++ is_last_key ∷ 1 ∷ []))
    numbers =
        both_bytes (shortest_unsigned lsn) (row_number_key ∷ (shortest_unsigned number ++ is_last_key ∷ 1 ∷ [])) (unsigned_bytes lsn)
        (byte_and row_number_key (shortest_unsigned number ++ is_last_key ∷ 1 ∷ []) (omega arith) last_are)

    head : AreBytes (map_text (row_header_pairs row.kind replica lsn ++ place_pairs (Numbered number true)))
    head =
        let after = shortest_unsigned lsn ++ row_number_key ∷ (shortest_unsigned number ++ is_last_key ∷ 1 ∷ []) in
        byte_and 0x85 (type_key ∷ row.kind ∷ replica_key ∷ replica ∷ lsn_key ∷ after) (omega arith)
        (byte_and type_key (row.kind ∷ replica_key ∷ replica ∷ lsn_key ∷ after) (omega arith)
        (byte_and row.kind (replica_key ∷ replica ∷ lsn_key ∷ after) (omega (arith, low))
        (byte_and replica_key (replica ∷ lsn_key ∷ after) (omega arith)
        (byte_and replica (lsn_key ∷ after) (omega (arith, few))
        (byte_and lsn_key after (omega arith) numbers)))))
