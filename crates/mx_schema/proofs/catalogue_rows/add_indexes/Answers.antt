use Rattle.std.proofs.Common.{[], ◌+◌, add-one, add-suc, map, sym}
use Rattle.std.proofs.lemmas.List.{get_or-map, length-map}
use Rattle.std.proofs.lemmas.Result.{err_from_is_err_and}
use Rattle.mx_schema.specs.SchemaChecks.{JudgesIndex, RowsMake, with_index_row}
use Rattle.mx_schema.proofs.MakeLaws.{ends_refused, one_more}
use Rattle.mx_schema.proofs.catalogue_rows.add_indexes.Goals as goal

pub returns-in_err-add_index : goal.returns-in_err-add_index
returns-in_err-add_index c =
    let rows = map (λ row. row.now) c.args.rows.now in
    let stands = get_or-map (λ row. row.now) c.args.rows.now c.loop-place.place _ [] c.loop-place-test.true in
    let p = err_from_is_err_and c.from_residual.result c.from_residual.ensures.1 in
    rw (p.1, p.2)
    (ends_refused JudgesIndex with_index_row (c.args.start + c.loop-place.place) c.loop-place.place rows c.loop-place.catalogue _ _ (λ made. RowsMake JudgesIndex with_index_row c.args.start rows c.args.catalogue.now made)
    (simp length-map c.loop-place-test.true) (sym stands) c.in_err-add_index.ensures c.loop-place.invariant)

pub loop-place-preserved : goal.loop-place-preserved
loop-place-preserved c =
    let rows = map (λ row. row.now) c.args.rows.now in
    let stands = get_or-map (λ row. row.now) c.args.rows.now c.loop-place.place _ [] c.loop-place-test.true in
    let added = c.in_ok-add_index.ensures in
    rw (add-one, add-suc)
    (one_more JudgesIndex with_index_row (c.args.start + c.loop-place.place) c.loop-place.place rows c.loop-place.catalogue c.add_index.new.catalogue _ added.0 (λ made. RowsMake JudgesIndex with_index_row c.args.start rows c.args.catalogue.now made)
    (simp length-map c.loop-place-test.true) (sym stands) added.1 added.2 c.loop-place.invariant)
