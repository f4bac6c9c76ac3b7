use Rattle.std.proofs.Common.{◌≡◌, sym, ap, subst}
use Rattle.std.specs.Prelude.{IfOk}
use Rattle.std.specs.FinMap.{empty, entries}
use Rattle.std.specs.Option.{option_map}
use Rattle.mx_key.specs.Comparable.{edges_of}
use Rattle.mx_schema.specs.Picks.{indexed_with}
use Rattle.mx_schema.specs.State as plain
use Rattle.mx_schema.specs.Stored.{StoresTuples, stored_list}
use Rattle.mx_schema.proofs.StoredLaws.{primary_index, other_index}
use Rattle.mx_slow.specs.SlowReadSteps.{scan_read}
use Rattle.mx_slow.specs.SlowTouches.{IsFitRange}
use Rattle.mx_slow.proofs.ReadFitLaws.{scan_fit, with_fit}
use Rattle.mx_slow.proofs.reads.scan_by_index.Goals as goal

pub returns-then-def-eq0 : goal.returns-then-def-eq0
returns-then-def-eq0 c = λ all key keeps fit edges.
    subst (λ (tuples : plain.Tuples). IfOk c.scan.result (λ read. (read ≡ option_map edges_of (scan_read (entries tuples) c.args.pick.now key)) × IsFitRange (scan_read (entries tuples) c.args.pick.now key)))
    (sym (primary_index c.args.def.now all c.if-def-eq0.true)) (with_fit _ c.scan.result _ (scan_fit (entries all) c.args.pick.now key keeps.fit fit) (c.scan.ensures all key keeps fit edges))

pub returns : goal.returns
returns c = λ all key keeps fit edges.
    let tuples : plain.Tuples = indexed_with c.args.def.now empty (entries all) in
    let same = ap stored_list c.as_slice.ensures.value in
    let stores = c.in_ok-indexed.ensures all keeps in
    subst (λ (tuples : plain.Tuples). IfOk c.scan-2.result (λ read. (read ≡ option_map edges_of (scan_read (entries tuples) c.args.pick.now key)) × IsFitRange (scan_read (entries tuples) c.args.pick.now key)))
    (sym (other_index c.args.def.now all c.if-def-eq0.false))
    (with_fit _ c.scan-2.result _ (scan_fit (entries tuples) c.args.pick.now key stores.fit fit)
    (c.scan-2.ensures tuples key (subst (λ kept. StoresTuples kept tuples) (sym same) stores) fit edges))
