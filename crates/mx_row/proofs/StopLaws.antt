-- Where a transaction stops: bytes that can become a row that may follow are a proper prefix of one, and behind others none stands.
use Rattle.std.proofs.Common.{◌≡◌, ℕ, suc, ◌-◌, ◌<◌, ◌≤◌, Bool, true, false, List, [], ◌∷◌, ◌++◌, length, drop, Option, Some, None, refl, sym, ap, ◌∙◌, subst, append_assoc, inl, inr, arith}
use Rattle.std.specs.Prelude.{nat_le}
use Rattle.std.specs.Option.{option_map}
use Rattle.std.proofs.lemmas.Bool.{eq-eqb, leb-true, leb-false, ltb-true}
use Rattle.std.proofs.lemmas.List.{append-nil, drop_at, length-append}
use Rattle.mx_msgpack.specs.Maps.{map_at}
use Rattle.mx_msgpack.specs.Readers.{in_front}
use Rattle.mx_msgpack.specs.Spelling.{AreBytes}
use Rattle.mx_msgpack.proofs.MapLaws.{map_alone}
use Rattle.mx_msgpack.proofs.Options.{same_some}
use Rattle.mx_msgpack.proofs.ShortestLaws.{front_of}
use Rattle.mx_vclock.specs.Vclocks.{max_lsn}
use Rattle.mx_row.specs.declared.header.Header.{Header}
use Rattle.mx_row.specs.declared.header.Place.TheVariants.{Numbered}
use Rattle.mx_row.specs.declared.progress.Progress.{Progress}
use Rattle.mx_row.specs.declared.row.Row.{Row}
use Rattle.mx_row.specs.declared.tx.Tx.{Tx}
use Rattle.mx_row.specs.Bodies.{delete_type}
use Rattle.mx_row.specs.Cuts.{AreSoFar, IsProperPrefix, MayFollow, RowsStopAt, leads_on, and_row}
use Rattle.mx_row.specs.Grammar.{SpellsTransaction}
use Rattle.mx_row.specs.Limits.{max_rows}
use Rattle.mx_row.specs.Rows.{comes_next, header_in, row_in, row_number, row_text, rows_behind, transaction_at, whole_row_at}
use Rattle.mx_row.specs.Stops.{CanFit}
use Rattle.mx_row.proofs.BehindLaws.{behind_last, behind_next}
use Rattle.mx_row.proofs.ByteLaws.{both_bytes, last_bytes, smallest}
use Rattle.mx_row.proofs.EntryLaws.{map_found, map_is_spelled}
use Rattle.mx_row.proofs.FitLaws.{number_is}
use Rattle.mx_row.proofs.GrammarLaws.{read_spelled, spelled_read}
use Rattle.mx_row.proofs.PartLaws.{ends_beyond, ends_within, row_stands}
use Rattle.mx_row.proofs.ProgressLaws.{TailAt, end_parts, leads_parts, room_parts, rows_more, so_far_numbered, so_far_within, stands_tail, tail_fits, tail_stands}
use Rattle.mx_row.proofs.ReadLaws.{whole_row_from, whole_row_is, whole_row_parts}
use Rattle.mx_row.proofs.RowLaws.{header_of, row_again}

-- the bytes of a row that stands first, whatever follows them
pub row_front : (bytes : List ℕ) (found : (Header × Row) × List ℕ) → whole_row_at bytes ≡ Some found
    → (front : List ℕ) × (bytes ≡ front ++ found.1) × ((more : List ℕ) → whole_row_at (front ++ more) ≡ Some (found.0, more))
row_front bytes found e =
    let p = whole_row_parts bytes found e in
    let h = map_is_spelled bytes p.header_map p.header_first in
    let b = map_is_spelled p.header_map.1 p.body_map p.body_first in
    let header = p.header_map.0 in
    let body = p.body_map.0 in (
      header ++ body,
      h.0 ∙ ap (λ (l : List ℕ). header ++ l) (b.0 ∙ ap (λ (l : List ℕ). body ++ l) p.rest) ∙ sym (append_assoc header body found.1),
      λ more.
          let header_first = ap map_at (append_assoc header body more) ∙ (map_found h.1 header (body ++ more) h.2).0 in
          let body_first = (map_found b.1 body more b.2).0 in
          whole_row_from ((header ++ body) ++ more) (found.0, more) (record {
            header_map = (header, body ++ more);
            body_map = (body, more);
            header_first = header_first;
            header_is = ap header_in (sym (map_alone ((header ++ body) ++ more) header (body ++ more) header_first) ∙ map_alone bytes header p.header_map.1 p.header_first) ∙ p.header_is;
            body_first = body_first;
            row_is = ap (row_in found.0.0.kind) (sym (map_alone (body ++ more) body more body_first) ∙ map_alone p.header_map.1 body p.body_map.1 p.body_first) ∙ p.row_is;
            rest = refl;
          }),
    )

-- the bytes that are missing of a row, and nothing behind it
pub record MissingRow (rest more : List ℕ) (found : (Header × Row) × List ℕ) : Type 0 where
  pub missing : List ℕ
  pub some : 1 ≤ length missing
  pub parts : more ≡ missing ++ found.1
  pub read : (behind : List ℕ) → whole_row_at ((rest ++ missing) ++ behind) ≡ Some (found.0, behind)

missing_row : (rest more : List ℕ) (found : (Header × Row) × List ℕ) → whole_row_at rest ≡ None → whole_row_at (rest ++ more) ≡ Some found → MissingRow rest more found
missing_row rest more found none e = by_length (row_front (rest ++ more) found e)
  where
    by_within : (front : List ℕ) → rest ++ more ≡ front ++ found.1 → ((behind : List ℕ) → whole_row_at (front ++ behind) ≡ Some (found.0, behind))
        → (within : Bool) → nat_le (length front) (length rest) ≡ within → MissingRow rest more found
    by_within front both reads true is =
        let w = ends_within rest more front found.1 both (leb-true (length front) (length rest) is) in
        let stands : whole_row_at rest ≡ Some (found.0, w.0) = ap whole_row_at w.1 ∙ reads w.0 in
        absurd cc
    by_within front both reads false is =
        let beyond = leb-false (length front) (length rest) is in
        let b = ends_beyond rest more front found.1 both (omega (arith, beyond)) in
        let long = ap length b.1 ∙ length-append rest b.0 in
        record { missing = b.0; some = omega (arith, beyond, long); parts = b.2; read = λ behind. ap (λ (l : List ℕ). whole_row_at (l ++ behind)) (sym b.1) ∙ reads behind }

    by_length : (front : List ℕ) × (rest ++ more ≡ front ++ found.1) × ((behind : List ℕ) → whole_row_at (front ++ behind) ≡ Some (found.0, behind)) → MissingRow rest more found
    by_length (front, both, reads) = by_within front both reads (nat_le (length front) (length rest)) refl

-- a transaction that ends where all bytes do
whole_prefix : (bytes missing : List ℕ) → AreBytes missing → 1 ≤ length missing → (transaction : Tx) × (transaction_at (bytes ++ missing) ≡ Some (transaction, [])) → IsProperPrefix bytes
whole_prefix bytes missing each some (tx, e) =
    let s = read_spelled (bytes ++ missing) [] tx e in
    let spelled = subst (SpellsTransaction tx) (sym (append-nil s.0) ∙ sym s.1) s.2 in
    (tx, missing, each, some, spelled)

module _ {bytes rest : List ℕ} {rows : Progress} (so_far : AreSoFar bytes rows rest) where
  -- bytes that can become a row that may follow are a proper prefix
  pub inside : whole_row_at rest ≡ None → CanFit rows rest → IsProperPrefix bytes
  inside none (more, each, (header, row, end, e, may)) = by_end may
    where
      m : MissingRow rest more ((header, row), end)
      m = missing_row rest more ((header, row), end) none e

      each_missing : AreBytes m.missing
      each_missing = front_of more m.missing end m.parts each

      by_end : MayFollow rows header row → IsProperPrefix bytes
      by_end (inr on) =
          let p = end_parts rows header row on in
          let short = p.short in
          let one = rows_more row [] in
          let tail : TailAt rows (rest ++ m.missing) = record {
            first = ((header, row), []);
            others = ([], []);
            read = ap whole_row_at (sym (append-nil (rest ++ m.missing))) ∙ m.read [];
            follows = p.follows;
            behind = behind_last header [] (max_rows - suc rows.count) p.last;
            short = omega (arith, short, one);
          } in
          whole_prefix bytes m.missing each_missing m.some (tail_stands m.missing so_far tail)
      by_end (inl on) =
          let p = leads_parts rows header row on in
          let room = room_parts (and_row rows header row) p.room in
          let is = whole_row_is (rest ++ more) ((header, row), end) e in
          let small = smallest delete_type (inr (inr (inr (inl refl)))) in
          let lsn = ltb-true header.lsn.0 max_lsn room.lsn in
          let number = number_is rows.count rows.last header (so_far_numbered so_far) p.follows in
          let place = Numbered (suc (row_number header.place)) true in
          let text = row_text header.replica.0 (suc header.lsn.0) place small.row in
          let low : small.row.kind < 0x80 = let k = small.kind_is in omega (arith, k) in
          let few = room.few in
          let next : (Header × Row) × List ℕ = ((header_of small.row.kind header.replica.0 (suc header.lsn.0) place, small.row), []) in
          let read : whole_row_at text ≡ Some next =
          ap whole_row_at (sym (append-nil text))
          ∙ row_again header.replica.0 (suc header.lsn.0) place small.row [] is.replica (omega arith) (omega (arith, lsn)) (omega (arith, number, few)) small.is in
          let step : max_rows - suc rows.count ≡ suc (max_rows - suc (suc rows.count)) = omega (arith, few) in
          let follows : comes_next header next.0.0 ≡ true =
          rw (eq-eqb header.replica.0 header.replica.0 refl, eq-eqb (suc header.lsn.0) (suc header.lsn.0) refl, eq-eqb (suc (row_number header.place)) (suc (row_number header.place)) refl) refl in
          let behind : rows_behind (max_rows - suc rows.count) header text ≡ Some (small.row ∷ [], []) =
          ap (λ (n : ℕ). rows_behind n header text) step
          ∙ behind_next header text p.further next read (max_rows - suc (suc rows.count)) follows
          ∙ ap (option_map (in_front small.row)) (behind_last next.0.0 [] (max_rows - suc (suc rows.count)) refl) in
          let all : (rest ++ m.missing) ++ text ≡ rest ++ (m.missing ++ text) = append_assoc rest m.missing text in
          let two = rows_more row (small.row ∷ []) in
          let one = rows_more small.row [] in
          let short = room.short in
          let size = small.size in
          let tail : TailAt rows (rest ++ (m.missing ++ text)) = record {
            first = ((header, row), text);
            others = (small.row ∷ [], []);
            read = ap whole_row_at (sym all) ∙ m.read text;
            follows = p.follows;
            behind = behind;
            short = omega (arith, short, one, two, size);
          } in
          let long = length-append m.missing text in
          let some = m.some in
          whole_prefix bytes (m.missing ++ text) (both_bytes m.missing text each_missing (last_bytes header.replica.0 (suc header.lsn.0) (suc (row_number header.place)) small.row is.replica low small.bytes))
          (omega (arith, long, some)) (tail_stands (m.missing ++ text) so_far tail)

  pub rest_within : length rest ≤ length bytes
  rest_within = let (front, parts) = so_far_within so_far in let long = ap length parts ∙ length-append front rest in omega (arith, long)

  -- where no bytes make such a row, the rows stop
  pub stops : ¬ CanFit rows rest → RowsStopAt bytes (length bytes - length rest)
  stops never =
      let within = rest_within in
      record { rows = rows; rest = rest; so_far = so_far; place = omega (arith, within); none = λ more each fits. never (more, each, fits) }

  -- a row stands next that doesn't lead on, and no transaction stands
  pub apart : (next : (Header × Row) × List ℕ) → transaction_at bytes ≡ None → whole_row_at rest ≡ Some next → leads_on rows next.0.0 next.0.1 ≡ false → ¬ CanFit rows rest
  apart next none read off (more, each, (header, row, end, e, may)) = by_end (subst (λ (f : (Header × Row) × List ℕ). MayFollow rows f.0.0 f.0.1) (sym same) may)
    where
      same : ◌≡◌ {A = (Header × Row) × List ℕ} (next.0, next.1 ++ more) ((header, row), end)
      same = same_some (next.0, next.1 ++ more) ((header, row), end) (sym (row_stands rest more next read) ∙ e)

      by_end : MayFollow rows next.0.0 next.0.1 → ⊥
      by_end (inl on) = absurd cc
      by_end (inr on) =
          let p = end_parts rows next.0.0 next.0.1 on in
          let short = p.short in
          let one = rows_more next.0.1 [] in
          let tail : TailAt rows (rest ++ []) = record {
            first = next;
            others = ([], next.1);
            read = ap whole_row_at (append-nil rest) ∙ read;
            follows = p.follows;
            behind = behind_last next.0.0 next.1 (max_rows - suc rows.count) p.last;
            short = omega (arith, short, one);
          } in
          let stands = tail_stands [] so_far tail in
          let here : transaction_at bytes ≡ Some (stands.0, next.1) = ap transaction_at (sym (append-nil bytes)) ∙ stands.1 in
          absurd cc

-- where the rows stop, no transaction stands once others follow
pub never_stands : (bytes more : List ℕ) (at : ℕ) → AreBytes more → RowsStopAt bytes at → transaction_at (bytes ++ more) ≡ None
never_stands bytes more at each stop = by_found (transaction_at (bytes ++ more)) refl
  where
    by_found : (found : Option (Tx × List ℕ)) → transaction_at (bytes ++ more) ≡ found → found ≡ None
    by_found None e = refl
    by_found (Some found) e = absurd (stop.none more each (tail_fits stop.rows (stop.rest ++ more) (stands_tail more stop.so_far found e)))

-- ---- a proper prefix

pub prefix_stands : (bytes : List ℕ) → IsProperPrefix bytes → (transaction : Tx) × (missing : List ℕ) × AreBytes missing × (transaction_at (bytes ++ missing) ≡ Some (transaction, []))
prefix_stands bytes (tx, missing, each, some, spelled) =
    (tx, missing, each, ap transaction_at (sym (append-nil (bytes ++ missing))) ∙ spelled_read tx (bytes ++ missing) [] spelled)

-- it begins with no transaction
pub none_whole : (bytes : List ℕ) → IsProperPrefix bytes → (other : Tx) (rest : List ℕ) → transaction_at bytes ≡ Some (other, rest) → ⊥
none_whole bytes (tx, missing, each, some, spelled) other rest e =
    let (front, parts, s) = read_spelled bytes rest other e in
    let longer : bytes ++ missing ≡ front ++ (rest ++ missing) = ap (λ (l : List ℕ). l ++ missing) parts ∙ append_assoc front rest missing in
    let stands : transaction_at (bytes ++ missing) ≡ Some (other, rest ++ missing) = ap transaction_at longer ∙ spelled_read other front (rest ++ missing) s in
    let whole = ap transaction_at (sym (append-nil (bytes ++ missing))) ∙ spelled_read tx (bytes ++ missing) [] spelled in
    let same = same_some (other, rest ++ missing) (tx, []) (sym stands ∙ whole) in
    let none = ap (λ (x : Tx × List ℕ). length x.1) same in
    let long = length-append rest missing in
    omega (arith, none, long, some)

-- where rows stop they are none
pub prefix_never : (bytes : List ℕ) (at : ℕ) → IsProperPrefix bytes → RowsStopAt bytes at → ⊥
prefix_never bytes at prefix stop =
    let (tx, missing, each, stands) = prefix_stands bytes prefix in
    let none = never_stands bytes missing at each stop in
    absurd cc

-- ---- the bytes that are left

module _ (bytes front rest : List ℕ) (parts : bytes ≡ front ++ rest) where
  pub part_within : length rest ≤ length bytes
  part_within = let long = ap length parts ∙ length-append front rest in omega arith

  pub part_behind : drop (length bytes - length rest) bytes ≡ rest
  part_behind =
      let long = ap length parts ∙ length-append front rest in
      ap (drop (length bytes - length rest)) parts ∙ drop_at front rest (length bytes - length rest) (omega arith)
