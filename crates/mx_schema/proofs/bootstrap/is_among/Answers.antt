use Rattle.std.proofs.Common.{◌∙◌, [], ap, cond, drop, map, suc, sym, true}
use Rattle.std.proofs.lemmas.List.{get_or-map, length-map}
use Rattle.mx_schema.specs.RowParts.{is_among}
use Rattle.mx_schema.specs.TextMaps.{is_same_text}
use Rattle.mx_schema.proofs.ListLaws.{passed_over, stops_at}
use Rattle.mx_schema.proofs.bootstrap.is_among.Goals as goal

pub returns-then-is_text : goal.returns-then-is_text
returns-then-is_text c =
    let rows = map (λ row. row.now) c.args.rows.now in
    let stands = get_or-map (λ row. row.now) c.args.rows.now c.loop-row.row-index _ [] c.loop-row-test.true in
    stops_at (is_among c.args.wanted.now) rows c.loop-row.row-index [] _ true (simp length-map c.loop-row-test.true)
    (ap (λ b. cond b true (is_among c.args.wanted.now (drop (suc c.loop-row.row-index) rows))) (ap (λ row. is_same_text row c.args.wanted.now) stands ∙ sym c.is_text.ensures ∙ c.if-is_text.true)) c.loop-row.invariant

pub loop-row-preserved : goal.loop-row-preserved
loop-row-preserved c =
    let rows = map (λ row. row.now) c.args.rows.now in
    let stands = get_or-map (λ row. row.now) c.args.rows.now c.loop-row.row-index _ [] c.loop-row-test.true in
    passed_over (is_among c.args.wanted.now) rows c.loop-row.row-index [] _ (simp length-map c.loop-row-test.true)
    (ap (λ b. cond b true (is_among c.args.wanted.now (drop (suc c.loop-row.row-index) rows))) (ap (λ row. is_same_text row c.args.wanted.now) stands ∙ sym c.is_text.ensures ∙ c.if-is_text.false)) c.loop-row.invariant
