-- The rows after the first one of a transaction, and the transaction: the steps of reading taken apart and put together.
use Rattle.std.proofs.Common.{◌≡◌, ℕ, zero, suc, ◌+◌, ◌-◌, ◌<◌, ◌≤◌, Bool, true, false, List, [], ◌∷◌, ◌++◌, length, Option, Some, None, refl, sym, ap, ◌∙◌, subst, append_assoc, arith}
use Rattle.std.specs.Prelude.{◌==◌, nat_le, Result, Ok, Err, IfOk, IfSome, if◌then◌else◌}
use Rattle.std.specs.declared.alloc.AllocError.{AllocError}
use Rattle.std.specs.List.{AllByRecursion}
use Rattle.std.specs.Option.{option_map}
use Rattle.std.proofs.lemmas.Bool.{and_parts, eqb-true, eq-eqb, leb-true, le-leb, ne_eqb}
use Rattle.std.proofs.lemmas.List.{append-nil}
use Rattle.mx_msgpack.specs.Readers.{Advances, in_front, ◌>>=◌}
use Rattle.mx_msgpack.proofs.Options.{bind_some, allowed, mapped_some, same_some}
use Rattle.mx_vclock.specs.Vclocks.{max_lsn}
use Rattle.mx_row.specs.declared.header.Header.{Header}
use Rattle.mx_row.specs.declared.header.Place.{Place}
use Rattle.mx_row.specs.declared.header.Place.TheVariants.{Alone, Numbered}
use Rattle.mx_row.specs.declared.row.Row.{Row}
use Rattle.mx_row.specs.declared.tx.Tx.{Tx}
use Rattle.mx_row.specs.Limits.{max_rows, max_transaction_size, rows_size}
use Rattle.mx_row.specs.Rows.{IsRow, IsTransaction, row_number, ends_transaction, comes_next, whole_row_at, rows_behind, tx_of, tx_behind, transaction_at}
use Rattle.mx_row.proofs.PairLaws.{map_at-Advances}
use Rattle.mx_row.proofs.ReadLaws.{whole_row_parts, whole_row_is}

pub whole_row_at-Advances : Advances whole_row_at
whole_row_at-Advances bytes found e =
    let p = whole_row_parts bytes found e in
    let first = map_at-Advances bytes p.header_map p.header_first in
    let second = map_at-Advances p.header_map.1 p.body_map p.body_first in
    let l = ap length p.rest in
    omega arith

-- ---- headers in order

pub next_is : (header next : Header) → comes_next header next ≡ true
    → (next.replica.0 ≡ header.replica.0) × (next.lsn.0 ≡ suc header.lsn.0) × (row_number next.place ≡ suc (row_number header.place))
next_is header next e =
    let numbered = and_parts _ _ e in
    let first = and_parts _ _ numbered.0 in
    (eqb-true _ _ first.0, eqb-true _ _ first.1, eqb-true _ _ numbered.1)

-- a place with a number above 0
pub numbered : (place : Place) (number : ℕ) → row_number place ≡ suc number → place ≡ Numbered (suc number) (ends_transaction place)
numbered Alone number e = absurd (omega (arith, e))
numbered (Numbered found is_last) number e = ap (λ (n : ℕ). Numbered n is_last) e

-- ---- the rows behind a row

module _ (header : Header) (bytes : List ℕ) where
  -- none, where the row is the last one
  pub behind_last : (most : ℕ) → ends_transaction header.place ≡ true → rows_behind most header bytes ≡ Some ([], bytes)
  unfolding rows_behind
  behind_last zero last = rw last refl
  behind_last (suc most) last = rw last refl

  module _ (more : ends_transaction header.place ≡ false) where
    pub behind_full : rows_behind 0 header bytes ≡ None
    unfolding rows_behind
    behind_full = rw more refl

    pub behind_unread : (most : ℕ) → whole_row_at bytes ≡ None → rows_behind most header bytes ≡ None
    unfolding rows_behind
    behind_unread zero e = rw more refl
    behind_unread (suc most) e = rw (more, e) refl

    module _ (next : (Header × Row) × List ℕ) (read : whole_row_at bytes ≡ Some next) where
      -- the next row, and those behind it
      pub behind_next : (most : ℕ) → comes_next header next.0.0 ≡ true
          → rows_behind (suc most) header bytes ≡ option_map (in_front next.0.1) (rows_behind most next.0.0 next.1)
      unfolding rows_behind
      behind_next most e = rw (more, read, e) refl

      pub behind_apart : (most : ℕ) → comes_next header next.0.0 ≡ false → rows_behind most header bytes ≡ None
      unfolding rows_behind
      behind_apart zero e = rw more refl
      behind_apart (suc most) e = rw (more, read, e) refl

-- how the rows behind one that isn't the last were read
pub record NextRow (most : ℕ) (header : Header) (bytes : List ℕ) (found : List Row × List ℕ) : Type 0 where
  pub next : (Header × Row) × List ℕ
  pub others : List Row × List ℕ
  pub read : whole_row_at bytes ≡ Some next
  pub follows : comes_next header next.0.0 ≡ true
  pub behind : rows_behind most next.0.0 next.1 ≡ Some others
  pub same : in_front next.0.1 others ≡ found

-- what follows the next row
abbrev next_then : (most : ℕ) (header : Header) → (Header × Row) × List ℕ → Option (List Row × List ℕ)
next_then most header next = if comes_next header next.0.0 then option_map (in_front next.0.1) (rows_behind most next.0.0 next.1) else None

pub next_row : (most : ℕ) (header : Header) (bytes : List ℕ) (found : List Row × List ℕ) → ends_transaction header.place ≡ false
    → rows_behind (suc most) header bytes ≡ Some found → NextRow most header bytes found
unfolding rows_behind
next_row most header bytes found more e =
    let next = bind_some (whole_row_at bytes) (next_then most header) found (rw more at e) in
    let follows = allowed (comes_next header next.0.0.0) (option_map (in_front next.0.0.1) (rows_behind most next.0.0.0 next.0.1)) found next.2 in
    let others = mapped_some (in_front next.0.0.1) (rows_behind most next.0.0.0 next.0.1) found follows.1 in
    record { next = next.0; others = others.0; read = next.1; follows = follows.0; behind = others.1; same = others.2 }

pub last_row : (most : ℕ) (header : Header) (bytes : List ℕ) (found : List Row × List ℕ) → ends_transaction header.place ≡ true
    → rows_behind most header bytes ≡ Some found → ([], bytes) ≡ found
last_row most header bytes found last e = same_some ([], bytes) found (sym (behind_last header bytes most last) ∙ e)

-- what is known of the rows behind a row
pub record AreBehind (most : ℕ) (header : Header) (bytes : List ℕ) (found : List Row × List ℕ) : Type 0 where
  pub few : length found.0 ≤ most
  pub rows : AllByRecursion IsRow found.0
  pub lsns : header.lsn.0 ≤ max_lsn → header.lsn.0 + length found.0 ≤ max_lsn
  pub shorter : length found.1 ≤ length bytes

none_behind : (most : ℕ) (header : Header) (bytes : List ℕ) → AreBehind most header bytes ([], bytes)
none_behind most header bytes = record { few = omega arith; rows = tt; lsns = λ most. omega arith; shorter = omega arith }

pub are_behind : (most : ℕ) (header : Header) (bytes : List ℕ) (found : List Row × List ℕ) → rows_behind most header bytes ≡ Some found
    → AreBehind most header bytes found
are_behind zero header bytes found e = by_place (ends_transaction header.place) refl
  where
    by_place : (last : Bool) → ends_transaction header.place ≡ last → AreBehind zero header bytes found
    by_place true last = subst (AreBehind zero header bytes) (last_row zero header bytes found last e) (none_behind zero header bytes)
    by_place false more = let none = behind_full header bytes more in absurd cc
are_behind (suc most) header bytes found e = by_place (are_behind most) (ends_transaction header.place) refl
  where
    by_place : ((next : Header) (rest : List ℕ) (others : List Row × List ℕ) → rows_behind most next rest ≡ Some others → AreBehind most next rest others)
        → (last : Bool) → ends_transaction header.place ≡ last → AreBehind (suc most) header bytes found
    by_place again true last = subst (AreBehind (suc most) header bytes) (last_row (suc most) header bytes found last e) (none_behind (suc most) header bytes)
    by_place again false more =
        let n = next_row most header bytes found more e in
        let others = again n.next.0.0 n.next.1 n.others n.behind in
        let is = whole_row_is bytes n.next n.read in
        let lsn = (next_is header n.next.0.0 n.follows).1 in
        let fits = others.lsns is.most in
        let less = whole_row_at-Advances bytes n.next n.read in
        subst (AreBehind (suc most) header bytes) n.same (record {
          few = omega (arith, others.few);
          rows = (is.row_is, others.rows);
          lsns = λ most. omega (arith, fits, lsn);
          shorter = omega (arith, others.shorter, less);
        })

-- ---- the rows so far, and those behind the last of them

abbrev pub joined : List Row → Option (List Row × List ℕ) → Option (List Row × List ℕ)
joined rows = option_map (λ (behind : List Row × List ℕ). (rows ++ behind.0, behind.1))

joined_next : (rows : List Row) (row : Row) (behind : Option (List Row × List ℕ))
    → joined rows (option_map (in_front row) behind) ≡ joined (rows ++ row ∷ []) behind
joined_next rows row None = refl
joined_next rows row (Some behind) = ap (λ (l : List Row). Some (l, behind.1)) (sym (append_assoc rows (row ∷ []) behind.0))

module _ (rows : List Row) (count : ℕ) (header : Header) (bytes : List ℕ) where
  abbrev pub all_rows : Option (List Row × List ℕ)
  all_rows = joined rows (rows_behind (max_rows - count) header bytes)

  -- the last of them ends the transaction
  pub all_read : ends_transaction header.place ≡ true → all_rows ≡ Some (rows, bytes)
  all_read last = ap (joined rows) (behind_last header bytes (max_rows - count) last) ∙ ap (λ (l : List Row). Some (l, bytes)) (append-nil rows)

  module _ (more : ends_transaction header.place ≡ false) where
    pub none_fits : max_rows ≤ count → all_rows ≡ None
    none_fits full =
        let none : max_rows - count ≡ 0 = omega arith in
        ap (λ (most : ℕ). joined rows (rows_behind most header bytes)) none ∙ ap (joined rows) (behind_full header bytes more)

    pub none_stands : whole_row_at bytes ≡ None → all_rows ≡ None
    none_stands e = ap (joined rows) (behind_unread header bytes more (max_rows - count) e)

    module _ (next : (Header × Row) × List ℕ) (read : whole_row_at bytes ≡ Some next) where
      pub none_follows : comes_next header next.0.0 ≡ false → all_rows ≡ None
      none_follows e = ap (joined rows) (behind_apart header bytes more next read (max_rows - count) e)

      pub one_follows : count < max_rows → comes_next header next.0.0 ≡ true
          → all_rows ≡ joined (rows ++ next.0.1 ∷ []) (rows_behind (max_rows - suc count) next.0.0 next.1)
      one_follows room e =
          let step : max_rows - count ≡ suc (max_rows - suc count) = omega arith in
          ap (λ (most : ℕ). joined rows (rows_behind most header bytes)) step
          ∙ ap (joined rows) (behind_next header bytes more next read (max_rows - suc count) e)
          ∙ joined_next rows next.0.1 (rows_behind (max_rows - suc count) next.0.0 next.1)

-- ---- a transaction

pub record TransactionParts (bytes : List ℕ) (found : Tx × List ℕ) : Type 0 where
  pub first : (Header × Row) × List ℕ
  pub others : List Row × List ℕ
  pub read : whole_row_at bytes ≡ Some first
  pub begins : row_number first.0.0.place ≡ 0
  pub behind : rows_behind (max_rows - 1) first.0.0 first.1 ≡ Some others
  pub short : rows_size (first.0.1 ∷ others.0) ≤ max_transaction_size
  pub same : (record { replica = first.0.0.replica; first = first.0.0.lsn; rows = first.0.1 ∷ others.0 }, others.1) ≡ found

abbrev tx_and_rest : Header → List Row × List ℕ → Tx × List ℕ
tx_and_rest first rows = (record { replica = first.replica; first = first.lsn; rows = rows.0 }, rows.1)

pub transaction_parts : (bytes : List ℕ) (found : Tx × List ℕ) → transaction_at bytes ≡ Some found → TransactionParts bytes found
unfolding transaction_at
transaction_parts bytes found e =
    let first = bind_some (whole_row_at bytes) _ found e in
    let header = first.0.0.0 in
    let begins = allowed (row_number header.place == 0) _ found first.2 in
    let rows = bind_some (option_map (in_front first.0.0.1) (rows_behind (max_rows - 1) header first.0.1)) (tx_of header) found begins.1 in
    let others = mapped_some (in_front first.0.0.1) (rows_behind (max_rows - 1) header first.0.1) rows.0 rows.1 in
    let short = allowed (nat_le (rows_size rows.0.0) max_transaction_size) (Some (tx_and_rest header rows.0)) found rows.2 in
    record {
      first = first.0;
      others = others.0;
      read = first.1;
      begins = eqb-true _ _ begins.0;
      behind = others.1;
      short = subst (λ (r : List Row × List ℕ). rows_size r.0 ≤ max_transaction_size) (sym others.2) (leb-true _ _ short.0);
      same = ap (tx_and_rest header) others.2 ∙ same_some (tx_and_rest header rows.0) found short.1;
    }

pub transaction_from : (bytes : List ℕ) (found : Tx × List ℕ) → TransactionParts bytes found → transaction_at bytes ≡ Some found
unfolding transaction_at
transaction_from bytes found p =
    rw (p.read, eq-eqb _ _ p.begins, p.behind, le-leb _ _ p.short) (ap (λ (x : Tx × List ℕ). Some x) p.same)

-- no row stands first
pub none_first : (bytes : List ℕ) → whole_row_at bytes ≡ None → transaction_at bytes ≡ None
unfolding transaction_at
none_first bytes e = rw e refl

module _ (bytes : List ℕ) (first : (Header × Row) × List ℕ) (read : whole_row_at bytes ≡ Some first) where
  -- the row that stands first isn't the first of a transaction
  pub none_begins : ¬ (row_number first.0.0.place ≡ 0) → transaction_at bytes ≡ None
  unfolding transaction_at
  none_begins other = rw (read, ne_eqb (row_number first.0.0.place) 0 other) refl

  module _ (begins : row_number first.0.0.place ≡ 0) where
    pub one_begins : transaction_at bytes ≡ tx_behind first.0.0 first.0.1 first.1
    unfolding transaction_at
    one_begins = rw (read, eq-eqb (row_number first.0.0.place) 0 begins) refl

    -- the row is a transaction by itself
    pub one_alone : ends_transaction first.0.0.place ≡ true
        → transaction_at bytes ≡ Some (record { replica = first.0.0.replica; first = first.0.0.lsn; rows = first.0.1 ∷ [] }, first.1)
    one_alone last =
        let short = (whole_row_is bytes first read).row_is.short in
        let fits : rows_size (first.0.1 ∷ []) ≤ max_transaction_size = omega arith in
        one_begins ∙ ap (λ (o : Option (List Row × List ℕ)). option_map (in_front first.0.1) o >>= tx_of first.0.0) (behind_last first.0.0 first.1 (max_rows - 1) last)
        ∙ rw (le-leb (rows_size (first.0.1 ∷ [])) max_transaction_size fits) refl

-- what is read is a transaction
pub transaction_is : (bytes : List ℕ) (found : Tx × List ℕ) → transaction_at bytes ≡ Some found → IsTransaction found.0
transaction_is bytes found e =
    let p = transaction_parts bytes found e in
    let is = whole_row_is bytes p.first p.read in
    let others = are_behind (max_rows - 1) p.first.0.0 p.first.1 p.others p.behind in
    let lsns = others.lsns is.most in
    subst (λ (f : Tx × List ℕ). IsTransaction f.0) p.same (record {
      replica = is.replica;
      lsns = (is.some, omega (arith, lsns));
      some = omega arith;
      rows = (is.row_is, others.rows);
      few = omega (arith, others.few);
      short = p.short;
    })

pub transaction_at-Advances : Advances transaction_at
transaction_at-Advances bytes found e =
    let p = transaction_parts bytes found e in
    let first = whole_row_at-Advances bytes p.first p.read in
    let others = are_behind (max_rows - 1) p.first.0.0 p.first.1 p.others p.behind in
    let l = ap (λ (x : Tx × List ℕ). length x.1) p.same in
    omega (arith, first, others.shorter)

-- a transaction that is read, behind a view
pub read_sound : {X : Type 0} (view : X → Tx × List ℕ) (bytes : List ℕ) (result : Result (Option X) AllocError)
    → IfOk result (λ found. option_map view found ≡ transaction_at bytes) → IfOk result (λ found. IfSome found (λ x. IsTransaction (view x).0))
read_sound view bytes (Ok None) e = tt
read_sound view bytes (Ok (Some x)) e = transaction_is bytes (view x) (sym e)
read_sound view bytes (Err error) e = tt

pub read_rows : {X : Type 0} (view : X → Tx × List ℕ) (bytes : List ℕ) (result : Result (Option X) AllocError)
    → IfOk result (λ found. option_map view found ≡ transaction_at bytes) → IfOk result (λ found. IfSome found (λ x. AllByRecursion IsRow (view x).0.rows))
read_rows view bytes (Ok None) e = tt
read_rows view bytes (Ok (Some x)) e = (transaction_is bytes (view x) (sym e)).rows
read_rows view bytes (Err error) e = tt
