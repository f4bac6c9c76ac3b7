use Rattle.std.proofs.Common.{◌≡◌, ℕ, ◌++◌, suc, ◌<◌, ◌≤◌, List, ◌∷◌, [], vec_len, sym, ap, ◌∙◌, arith}
use Rattle.std.proofs.lemmas.List.{map_push}
use Rattle.mx_row.specs.declared.header.Header.{Header}
use Rattle.mx_row.specs.declared.row.Row.{Row}
use Rattle.mx_row.specs.Limits.{max_rows}
use Rattle.mx_row.specs.Views.{row_value, row_values}
use Rattle.mx_row.proofs.BehindLaws.{all_rows, whole_row_at-Advances, all_read, none_fits, none_stands, none_follows, one_follows}
use Rattle.mx_row.proofs.reading.read_behind.Goals as goal

pub returns-then-len-ge-MAX_ROWS : goal.returns-then-len-ge-MAX_ROWS
returns-then-len-ge-MAX_ROWS c =
    let rows = c.loop-last.rows.items in
    let full : max_rows ≤ vec_len c.loop-last.rows = rw c.len.ensures at c.if-len-ge-MAX_ROWS.true in
    sym (c.loop-last.invariant.behind
    ∙ none_fits (row_values rows) (vec_len c.loop-last.rows) c.loop-last.last c.loop-last.rest.now (sym c.ends_transaction.ensures ∙ c.loop-last-test.true) full)

pub returns-in_default : goal.returns-in_default
returns-in_default c =
    let rows = c.loop-last.rows.items in
    sym (c.loop-last.invariant.behind
    ∙ none_stands (row_values rows) (vec_len c.loop-last.rows) c.loop-last.last c.loop-last.rest.now (sym c.ends_transaction.ensures ∙ c.loop-last-test.true)
    (sym c.in_default.ensures))

pub returns-then-not-comes_next : goal.returns-then-not-comes_next
returns-then-not-comes_next c =
    let rows = c.loop-last.rows.items in
    sym (c.loop-last.invariant.behind
    ∙ none_follows (row_values rows) (vec_len c.loop-last.rows) c.loop-last.last c.loop-last.rest.now (sym c.ends_transaction.ensures ∙ c.loop-last-test.true)
    ((c.in-Some.next, row_value c.in-Some.row), c.in-Some.others.now) (sym c.in-Some.ensures) (sym c.comes_next.ensures ∙ c.if-not-comes_next.true))

pub loop-last-smaller : goal.loop-last-smaller
loop-last-smaller c = whole_row_at-Advances c.loop-last.rest.now ((c.in-Some.next, row_value c.in-Some.row), c.in-Some.others.now) (sym c.in-Some.ensures)

pub loop-last-preserved : goal.loop-last-preserved
loop-last-preserved c =
    let rows = c.loop-last.rows.items in
    let row = c.in-Some.row in
    let next : (Header × Row) × List ℕ = ((c.in-Some.next, row_value row), c.in-Some.others.now) in
    let room : vec_len c.loop-last.rows < max_rows = rw c.len.ensures at c.if-len-ge-MAX_ROWS.false in
    let pushed : c.push-in-loop-last.new.self.items ≡ rows ++ row ∷ [] = c.in_ok-push-2.ensures.items in
    let count : vec_len c.push-in-loop-last.new.self ≡ suc (vec_len c.loop-last.rows) = c.in_ok-push-2.ensures.len ∙ omega arith in
    let values : row_values c.push-in-loop-last.new.self.items ≡ row_values rows ++ row_value row ∷ [] = ap row_values pushed ∙ map_push row_value rows row in
    let step = one_follows (row_values rows) (vec_len c.loop-last.rows) c.loop-last.last c.loop-last.rest.now (sym c.ends_transaction.ensures ∙ c.loop-last-test.true) next
    (sym c.in-Some.ensures) room (sym c.comes_next.ensures ∙ c.if-not-comes_next.false) in
    record {
      behind = c.loop-last.invariant.behind ∙ step ∙ sym (λ i. all_rows (values i) (count i) c.in-Some.next c.in-Some.others.now);
      few = omega arith;
    }

pub returns : goal.returns
returns c =
    let rows = c.loop-last.rows.items in
    sym (c.loop-last.invariant.behind
    ∙ all_read (row_values rows) (vec_len c.loop-last.rows) c.loop-last.last c.loop-last.rest.now (sym c.ends_transaction.ensures ∙ c.loop-last-test.false))
