-- The rows of a transaction so far: what may follow them, and what stands behind them where a transaction stands in all bytes.
use Rattle.std.proofs.Common.{◌≡◌, ℕ, zero, suc, ◌+◌, ◌-◌, ◌<◌, ◌≤◌, Bool, true, false, List, [], ◌∷◌, ◌++◌, Option, Some, None, refl, sym, ap, ◌∙◌, subst, append_assoc, inl, inr, arith}
use Rattle.std.specs.Prelude.{◌==◌, not}
use Rattle.std.specs.Option.{option_map}
use Rattle.std.proofs.lemmas.Bool.{cond_both, and_parts, eqb-true, eq-eqb, leb-true, le-leb, ltb-true, lt-ltb}
use Rattle.mx_msgpack.specs.Readers.{in_front}
use Rattle.mx_msgpack.proofs.Options.{same_some}
use Rattle.mx_row.specs.declared.header.Header.{Header}
use Rattle.mx_row.specs.declared.progress.Progress.{Progress}
use Rattle.mx_row.specs.declared.row.Row.{Row}
use Rattle.mx_row.specs.declared.tx.Tx.{Tx}
use Rattle.mx_row.specs.Cuts.{AreSoFar, FitsFirst, MayFollow, has_room_behind, is_end_of, is_lsn_left, leads_on, may_follow, min_row_size, none_yet, one_more, and_row}
use Rattle.mx_row.specs.Limits.{max_rows, max_transaction_size, row_size, rows_size}
use Rattle.mx_row.specs.Rows.{row_number, ends_transaction, whole_row_at, rows_behind, transaction_at}
use Rattle.mx_row.specs.Stops.{IsNumbered, IsNumberedBy}
use Rattle.mx_row.specs.Bodies.{update_type, upsert_type}
use Rattle.mx_row.specs.Stops.{least_body}
use Rattle.std.specs.Prelude.{map}
use Rattle.std.proofs.lemmas.List.Sums.{sum_by-cons}
use Rattle.mx_row.proofs.BodyLaws.{body_least}
use Rattle.mx_row.proofs.BehindLaws.{behind_full, behind_next, last_row, next_is, next_row, transaction_from, transaction_parts}
use Rattle.mx_row.proofs.GrammarLaws.{row_is_spelled}
use Rattle.mx_row.proofs.PartLaws.{row_stands}
use Rattle.mx_row.proofs.ReadLaws.{whole_row_is}

-- ---- what the rows so far have

pub record HasRoom (rows : Progress) : Type 0 where
  pub few : rows.count < max_rows
  pub short : rows.size + min_row_size ≤ max_transaction_size
  pub lsn : is_lsn_left rows.last ≡ true

pub room_parts : (rows : Progress) → has_room_behind rows ≡ true → HasRoom rows
room_parts rows e =
    let a = and_parts _ _ e in
    let b = and_parts _ _ a.0 in
    record { few = ltb-true _ _ b.0; short = leb-true _ _ b.1; lsn = a.1 }

pub room_from : (rows : Progress) → HasRoom rows → has_room_behind rows ≡ true
room_from rows room = rw (lt-ltb _ _ room.few, le-leb _ _ room.short, room.lsn) refl

pub record LeadsOn (rows : Progress) (header : Header) (row : Row) : Type 0 where
  pub follows : may_follow rows.last header ≡ true
  pub further : ends_transaction header.place ≡ false
  pub room : has_room_behind (and_row rows header row) ≡ true

not_true : (b : Bool) → not b ≡ true → b ≡ false
not_true true e = absurd cc
not_true false e = refl

pub leads_parts : (rows : Progress) (header : Header) (row : Row) → leads_on rows header row ≡ true → LeadsOn rows header row
leads_parts rows header row e =
    let a = and_parts _ _ e in
    let b = and_parts _ _ a.0 in
    record { follows = b.0; further = not_true _ b.1; room = a.1 }

pub leads_from : (rows : Progress) (header : Header) (row : Row) → LeadsOn rows header row → leads_on rows header row ≡ true
leads_from rows header row leads = rw (leads.follows, leads.further, leads.room) refl

pub record IsEnd (rows : Progress) (header : Header) (row : Row) : Type 0 where
  pub follows : may_follow rows.last header ≡ true
  pub last : ends_transaction header.place ≡ true
  pub short : rows.size + row_size row ≤ max_transaction_size

pub end_parts : (rows : Progress) (header : Header) (row : Row) → is_end_of rows header row ≡ true → IsEnd rows header row
end_parts rows header row e =
    let a = and_parts _ _ e in
    let b = and_parts _ _ a.0 in
    record { follows = b.0; last = b.1; short = leb-true _ _ a.1 }

pub end_from : (rows : Progress) (header : Header) (row : Row) → IsEnd rows header row → is_end_of rows header row ≡ true
end_from rows header row end = rw (end.follows, end.last, le-leb _ _ end.short) refl

pub so_far_numbered : {bytes rest : List ℕ} {rows : Progress} → AreSoFar bytes rows rest → IsNumbered rows
so_far_numbered none_yet = refl
so_far_numbered (one_more {rest = rest} {others = others} {rows = rows} header row so_far read on) = (
  next_number rows.count rows.last header (so_far_numbered so_far) (leads_parts rows header row on).follows,
  (whole_row_is rest ((header, row), others) read).replica,
)
  where
    next_number : (count : ℕ) (last : Option Header) (header : Header) → IsNumberedBy count last → may_follow last header ≡ true → suc count ≡ suc (row_number header.place)
    next_number count None header numbered on = let first = eqb-true (row_number header.place) 0 on in omega (arith, first, numbered)
    next_number count (Some last) header numbered on = let next = (next_is last header on).2 in let number = numbered.0 in omega (arith, next, number)

pub so_far_within : {bytes rest : List ℕ} {rows : Progress} → AreSoFar bytes rows rest → (front : List ℕ) × (bytes ≡ front ++ rest)
so_far_within none_yet = ([], refl)
so_far_within (one_more {rest = rest} {others = others} header row so_far read on) =
    let (front, parts) = so_far_within so_far in
    let (spelling, row_parts, spelled) = row_is_spelled rest ((header, row), others) read in
    (front ++ spelling, parts ∙ ap (λ (l : List ℕ). front ++ l) row_parts ∙ sym (append_assoc front spelling others))

-- ---- what stands behind the rows

pub rows_more : (row : Row) (rows : List Row) → rows_size (row ∷ rows) ≡ row_size row + rows_size rows
rows_more row rows = sum_by-cons (λ (n : ℕ). n) (row_size row) (map row_size rows)

-- the rows of a transaction from the next one on
pub record TailAt (rows : Progress) (bytes : List ℕ) : Type 0 where
  pub first : (Header × Row) × List ℕ
  pub others : List Row × List ℕ
  pub read : whole_row_at bytes ≡ Some first
  pub follows : may_follow rows.last first.0.0 ≡ true
  pub behind : rows_behind (max_rows - suc rows.count) first.0.0 first.1 ≡ Some others
  pub short : rows.size + rows_size (first.0.1 ∷ others.0) ≤ max_transaction_size

abbrev StandsWith : (bytes : List ℕ) → (rest : List ℕ) → Type 0
StandsWith bytes rest = (transaction : Tx) × (transaction_at bytes ≡ Some (transaction, rest))

-- with them a transaction stands
pub tail_stands : {bytes rest : List ℕ} {rows : Progress} (more : List ℕ) → AreSoFar bytes rows rest → (tail : TailAt rows (rest ++ more)) → StandsWith (bytes ++ more) tail.others.1
tail_stands {bytes = bytes} more none_yet tail =
    let header = tail.first.0.0 in
    let tx : Tx = record { replica = header.replica; first = header.lsn; rows = tail.first.0.1 ∷ tail.others.0 } in (
      tx,
      transaction_from (bytes ++ more) (tx, tail.others.1) (record {
        first = tail.first;
        others = tail.others;
        read = tail.read;
        begins = eqb-true _ _ tail.follows;
        behind = tail.behind;
        short = let short = tail.short in omega arith;
        same = refl;
      }),
    )
tail_stands more (one_more {rest = rest} {others = others} {rows = rows} header row so_far read on) tail =
    let leads = leads_parts rows header row on in
    let room = room_parts (and_row rows header row) leads.room in
    let step : max_rows - suc rows.count ≡ suc (max_rows - suc (suc rows.count)) = let few = room.few in omega arith in
    let next : rows_behind (max_rows - suc rows.count) header (others ++ more) ≡ Some (tail.first.0.1 ∷ tail.others.0, tail.others.1) =
    ap (λ (n : ℕ). rows_behind n header (others ++ more)) step
    ∙ behind_next header (others ++ more) leads.further tail.first tail.read (max_rows - suc (suc rows.count)) tail.follows
    ∙ ap (option_map (in_front tail.first.0.1)) tail.behind in
    tail_stands more so_far (record {
      first = ((header, row), others ++ more);
      others = (tail.first.0.1 ∷ tail.others.0, tail.others.1);
      read = row_stands rest more ((header, row), others) read;
      follows = leads.follows;
      behind = next;
      short = let short = tail.short in let more = rows_more row (tail.first.0.1 ∷ tail.others.0) in omega (arith, short, more);
    })

-- and where one stands, they do
pub stands_tail : {bytes rest : List ℕ} {rows : Progress} (more : List ℕ) → AreSoFar bytes rows rest → (found : Tx × List ℕ) → transaction_at (bytes ++ more) ≡ Some found
    → TailAt rows (rest ++ more)
stands_tail {bytes = bytes} more none_yet found e =
    let p = transaction_parts (bytes ++ more) found e in
    record { first = p.first; others = p.others; read = p.read; follows = eq-eqb _ _ p.begins; behind = p.behind; short = let short = p.short in omega arith }
stands_tail more (one_more {rest = rest} {others = others} {rows = rows} header row so_far read on) found e =
    let tail = stands_tail more so_far found e in
    let leads = leads_parts rows header row on in
    let room = room_parts (and_row rows header row) leads.room in
    let step : max_rows - suc rows.count ≡ suc (max_rows - suc (suc rows.count)) = let few = room.few in omega arith in
    let same = same_some ((header, row), others ++ more) tail.first (sym (row_stands rest more ((header, row), others) read) ∙ tail.read) in
    let n =
    next_row (max_rows - suc (suc rows.count)) header (others ++ more) tail.others leads.further
    (ap (λ (m : ℕ). rows_behind m header (others ++ more)) (sym step) ∙ ap (λ (f : (Header × Row) × List ℕ). rows_behind (max_rows - suc rows.count) f.0.0 f.1) same ∙ tail.behind) in
    let sizes : rows.size + rows_size (row ∷ n.next.0.1 ∷ n.others.0) ≤ max_transaction_size =
    subst (λ (l : List Row). rows.size + rows_size (row ∷ l) ≤ max_transaction_size) (sym (ap (λ (x : List Row × List ℕ). x.0) n.same))
    (subst (λ (f : (Header × Row) × List ℕ). rows.size + rows_size (f.0.1 ∷ tail.others.0) ≤ max_transaction_size) (sym same) tail.short) in
    record { first = n.next; others = n.others; read = n.read; follows = n.follows; behind = n.behind; short = let more = rows_more row (n.next.0.1 ∷ n.others.0) in omega (arith, sizes, more) }

-- ---- the next row

pub kind_least : (kind : ℕ) → 5 ≤ least_body kind
kind_least kind = cond_both (kind == update_type) _ _ (λ n. 5 ≤ n) (λ _. omega arith) (λ _. cond_both (kind == upsert_type) _ _ (λ n. 5 ≤ n) (λ _. omega arith) (λ _. omega arith))

-- a row takes as many bytes as the smallest one at least
pub row_least : (bytes : List ℕ) (found : (Header × Row) × List ℕ) → whole_row_at bytes ≡ Some found → min_row_size ≤ row_size found.0.1
row_least bytes found e =
    let is = (whole_row_is bytes found e).row_is in
    let least = body_least found.0.1 is in
    let some = kind_least found.0.1.kind in
    omega (arith, least, some)

-- the next row of a transaction may follow the rows
pub tail_fits : (rows : Progress) (bytes : List ℕ) → TailAt rows bytes → FitsFirst rows bytes
tail_fits rows bytes tail = (tail.first.0.0, tail.first.0.1, tail.first.1, tail.read, by_end (ends_transaction tail.first.0.0.place) refl)
  where
    header : Header
    header = tail.first.0.0

    row : Row
    row = tail.first.0.1

    by_end : (ends : Bool) → ends_transaction header.place ≡ ends → MayFollow rows header row
    by_end true last =
        let none = last_row (max_rows - suc rows.count) header tail.first.1 tail.others last tail.behind in
        let short : rows.size + rows_size (row ∷ []) ≤ max_transaction_size = subst (λ (x : List Row × List ℕ). rows.size + rows_size (row ∷ x.0) ≤ max_transaction_size) (sym none) tail.short in
        inr (end_from rows header row (record { follows = tail.follows; last = last; short = omega (arith, short) }))
    by_end false further = by_most (max_rows - suc rows.count) refl
      where
        by_most : (most : ℕ) → max_rows - suc rows.count ≡ most → MayFollow rows header row
        by_most zero full =
            let none = behind_full header tail.first.1 further in
            let some = ap (λ (n : ℕ). rows_behind n header tail.first.1) (sym full) ∙ tail.behind in
            absurd cc
        by_most (suc most) left =
            let n = next_row most header tail.first.1 tail.others further (ap (λ (m : ℕ). rows_behind m header tail.first.1) (sym left) ∙ tail.behind) in
            let least = row_least tail.first.1 n.next n.read in
            let lsn = (next_is header n.next.0.0 n.follows).1 in
            let lsn_most = (whole_row_is tail.first.1 n.next n.read).most in
            let short : rows.size + rows_size (row ∷ n.next.0.1 ∷ n.others.0) ≤ max_transaction_size =
            subst (λ (l : List Row). rows.size + rows_size (row ∷ l) ≤ max_transaction_size) (sym (ap (λ (x : List Row × List ℕ). x.0) n.same)) tail.short in
            inl (leads_from rows header row (record {
              follows = tail.follows;
              further = further;
              room = room_from (and_row rows header row) (record { few = omega (arith, left); short = let more = rows_more row (n.next.0.1 ∷ n.others.0) in let others = rows_more n.next.0.1 n.others.0 in omega (arith, short, more, others, least); lsn = lt-ltb _ _ (omega (arith, lsn, lsn_most)) });
            }))
