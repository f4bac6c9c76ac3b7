use Rattle.std.proofs.Common.{◌≡◌, ℕ, ◌+◌, ◌<◌, ◌++◌, List, ◌∷◌, [], length, take, get_or, rules, sym, ap, ◌∙◌, arith}
use Rattle.std.proofs.lemmas.List.{append_assoc, length-take-le, take_more}
use Rattle.mx_row.specs.declared.row.Row.{Row}
use Rattle.mx_row.specs.Rows.{place_among, placed_text, row_text}
use Rattle.mx_row.proofs.TextLaws.{placed_text-push}
use Rattle.mx_row.proofs.writing.write_rows.Goals as goal

pub loop-row-preserved : goal.loop-row-preserved
loop-row-preserved c =
    let rows = c.args.tx.now.rows in
    let replica = c.args.tx.now.replica.0 in
    let first = c.args.tx.now.first.0 in
    let row = c.row-item.result in
    let i = c.loop-row.row-index in
    let front = take i rows in
    let within : i < length rows = search rules in
    let item : row ≡ get_or rows i row = search rules in
    let more : take (i + 1) rows ≡ front ++ row ∷ [] = take_more rows i row within ∙ ap (λ (r : Row). front ++ r ∷ []) (sym item) in
    let short : length front ≡ i = length-take-le i rows (omega arith) in
    let number : length front ≡ c.loop-row.number = short ∙ sym c.loop-row.invariant.number in
    let lsn : first + length front ≡ first + c.loop-row.number = ap (λ (n : ℕ). first + n) number in
    let which : 0 + length front ≡ c.loop-row.number = omega arith in
    let is : c.place_among.result ≡ place_among (length rows) c.loop-row.number = rw c.as_slice-rows.ensures at c.place_among.ensures in
    let place = ap (place_among (length rows)) which ∙ sym is in
    let text = row_text replica (first + c.loop-row.number) c.place_among.result row in
    let so_far = placed_text (length rows) replica first 0 front in
    let step : placed_text (length rows) replica first 0 (take (i + 1) rows) ≡ so_far ++ text =
    ap (placed_text (length rows) replica first 0) more ∙ placed_text-push (length rows) replica first 0 front row
    ∙ (λ j. so_far ++ row_text replica (lsn j) (place j) row) in
    record {
      written = c.in_ok-write_placed.ensures ∙ ap (λ (l : List ℕ). l ++ text) c.loop-row.invariant.written
          ∙ append_assoc c.args.out.now so_far text ∙ ap (λ (l : List ℕ). c.args.out.now ++ l) (sym step);
      number = ap (λ (n : ℕ). n + 1) c.loop-row.invariant.number;
    }
