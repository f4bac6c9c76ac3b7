use Rattle.std.proofs.Common.{sym, ap, subst}
use Rattle.std.specs.FinMap.{empty, entries}
use Rattle.mx_schema.specs.Picks.{indexed_with}
use Rattle.mx_schema.specs.State as plain
use Rattle.mx_schema.specs.Stored.{StoresTuples, stored_list}
use Rattle.mx_schema.proofs.StoredLaws.{primary_index, other_index}
use Rattle.mx_slow_state.specs.SlowSteps.{Finds}
use Rattle.mx_slow_state.proofs.SlowLaws.{finds}
use Rattle.mx_slow_state.proofs.slow_state.gather_by_index.Goals as goal

pub returns-then-def-eq0 : goal.returns-then-def-eq0
returns-then-def-eq0 c = λ all key keeps fit edges.
    let pick = c.args.pick.now in
    subst (λ (tuples : plain.Tuples). Finds (entries tuples) pick key c.gather.result) (sym (primary_index c.args.def.now all c.if-def-eq0.true))
    (finds all pick key (stored_list c.args.kept.now) c.args.range.now keeps fit edges c.gather.result c.gather.ensures)

pub returns : goal.returns
returns c = λ all key keeps fit edges.
    let pick = c.args.pick.now in
    let tuples : plain.Tuples = indexed_with c.args.def.now empty (entries all) in
    let indexed = c.in_ok-indexed.ensures all keeps in
    let same = ap stored_list c.as_slice.ensures.value in
    subst (λ (tuples : plain.Tuples). Finds (entries tuples) pick key c.gather-2.result) (sym (other_index c.args.def.now all c.if-def-eq0.false))
    (finds tuples pick key (stored_list c.as_slice.result.now) c.args.range.now (subst (λ kept. StoresTuples kept tuples) (sym same) indexed) fit edges c.gather-2.result c.gather-2.ensures)
