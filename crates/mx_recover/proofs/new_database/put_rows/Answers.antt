use Rattle.std.proofs.Common.{[], add-one, map, sym}
use Rattle.std.proofs.lemmas.List.{get_or-map, length-map}
use Rattle.mx_recover.proofs.FirstRowLaws.{none_put, one_put, all_put}
use Rattle.mx_recover.proofs.new_database.put_rows.Goals as goal

pub loop-row-init : goal.loop-row-init
loop-row-init c = λ schemas before schema primary holds described there own.
    none_put schemas c.args.space.0 c.args.parts.now before (map (λ row. row.now) c.args.rows.now) c.args.state.now holds

pub loop-row-preserved : goal.loop-row-preserved
loop-row-preserved c = λ schemas before schema primary holds described there own.
    let rows = map (λ row. row.now) c.args.rows.now in
    let stands = get_or-map (λ row. row.now) c.args.rows.now c.loop-row.row-index _ [] c.loop-row-test.true in
    rw add-one
    (one_put schemas c.args.space.0 c.args.parts.now before rows c.loop-row.row-index _ c.in-Ok.keyed c.loop-row.state c.put.new.self schema primary described there own
    (simp length-map c.loop-row-test.true) (sym stands) c.in-Ok.ensures
    (λ state schema primary key. c.in_ok-put-in-Ok.ensures.ok schemas state schema primary key) (c.loop-row.invariant schemas before schema primary holds described there own))

pub returns : goal.returns
returns c = λ schemas before schema primary holds described there own.
    all_put schemas c.args.space.0 c.args.parts.now before (map (λ row. row.now) c.args.rows.now) c.loop-row.row-index c.loop-row.state (simp length-map c.loop-row-test.false)
    (c.loop-row.invariant schemas before schema primary holds described there own)
