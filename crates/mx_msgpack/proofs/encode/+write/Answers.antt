use Rattle.std.proofs.Common.{rules, ◌++◌, ◌<◌, sym, ap, ◌∙◌, subst, arith}
use Rattle.mx_msgpack.specs.Spelling.{shortest, array_head, map_head}
use Rattle.mx_msgpack.specs.Owned.{value_view, list_view, pair_list_view}
use Rattle.mx_msgpack.specs.Writing.{IsWritable}
use Rattle.mx_msgpack.proofs.OwnedLaws.{array_writable, map_writable, array_written, map_written, array_nodes, map_nodes, item_nodes, pair_item_nodes, nodes, all_nodes, pair_nodes}
use Rattle.mx_msgpack.proofs.WriterLaws.{writable_at, pair_writable_at, all_more, pairs_more}
use Rattle.mx_msgpack.proofs.encode.+write.Goals as goal

pub write_any-write_array_head-requires : goal.write_any-write_array_head-requires
write_any-write_array_head-requires t c =
    let w = array_writable c.args.value.now c.in-Array.values c.in-Array.is c.requires in
    omega (arith, w.0, c.len-in-Array.ensures)

pub write_any-write_map_head-requires : goal.write_any-write_map_head-requires
write_any-write_map_head-requires t c =
    let w = map_writable c.args.value.now c.in-Map.pairs c.in-Map.is c.requires in
    omega (arith, w.0, c.len-in-Map.ensures)

pub write_any-write_all-requires : goal.write_any-write_all-requires
write_any-write_all-requires t c =
    let w = array_writable c.args.value.now c.in-Array.values c.in-Array.is c.requires in
    let less = array_nodes c.args.value.now c.in-Array.values c.in-Array.is in
    rw c.as_slice-in-Array.ensures (search rules)

pub write_any-write_pairs-requires : goal.write_any-write_pairs-requires
write_any-write_pairs-requires t c =
    let w = map_writable c.args.value.now c.in-Map.pairs c.in-Map.is c.requires in
    let less = map_nodes c.args.value.now c.in-Map.pairs c.in-Map.is in
    rw c.as_slice-in-Map.ensures (search rules)

pub write_any-returns-in_ok-write_all-in-Array : goal.write_any-returns-in_ok-write_all-in-Array
write_any-returns-in_ok-write_all-in-Array t c =
    array_written c.args.out.now c.write_array_head.new.out c.write_all.new.out c.args.value.now c.in-Array.values c.in-Array.is
    (c.in_ok-write_array_head-in-Array.ensures ∙ ap (λ n. c.args.out.now ++ array_head n) c.len-in-Array.ensures)
    (rw c.as_slice-in-Array.ensures at c.in_ok-write_all-in-Array.ensures)

pub write_any-returns-in_ok-write_pairs-in-Map : goal.write_any-returns-in_ok-write_pairs-in-Map
write_any-returns-in_ok-write_pairs-in-Map t c =
    map_written c.args.out.now c.write_map_head.new.out c.write_pairs.new.out c.args.value.now c.in-Map.pairs c.in-Map.is
    (c.in_ok-write_map_head-in-Map.ensures ∙ ap (λ n. c.args.out.now ++ map_head n) c.len-in-Map.ensures)
    (rw c.as_slice-in-Map.ensures at c.in_ok-write_pairs-in-Map.ensures)

pub write_all-write_any-requires : goal.write_all-write_any-requires
write_all-write_any-requires t c =
    let xs = c.args.values.now in
    let x = c.value-item.result in
    let i = c.loop-value.value-index in
    let w : IsWritable (value_view x) = subst (λ y. IsWritable (value_view y)) (sym c.value-item.is) (writable_at xs i x c.requires (omega arith)) in
    let less : nodes (value_view x) < all_nodes (list_view xs) =
    subst (λ y. nodes (value_view y) < all_nodes (list_view xs)) (sym c.value-item.is) (item_nodes xs i x (omega arith)) in
    search rules

pub write_all-loop-value-preserved : goal.write_all-loop-value-preserved
write_all-loop-value-preserved t c =
    all_more c.args.out.now c.loop-value.out c.write_any.new.out c.args.values.now c.loop-value.value-index c.value-item.result (omega arith) c.loop-value.invariant
    (c.in_ok-write_any.ensures ∙ ap (λ y. c.loop-value.out ++ shortest (value_view y)) c.value-item.is)

pub write_pairs-write_any-requires : goal.write_pairs-write_any-requires
write_pairs-write_any-requires t c =
    let xs = c.args.pairs.now in
    let x = c.loop-key-item.result in
    let i = c.loop-key.key-index in
    let w : IsWritable (value_view x.0) = subst (λ y. IsWritable (value_view y.0)) (sym c.loop-key-item.is) (pair_writable_at xs i x c.requires (omega arith)).0 in
    let less : nodes (value_view x.0) < pair_nodes (pair_list_view xs) =
    subst (λ y. nodes (value_view y.0) < pair_nodes (pair_list_view xs)) (sym c.loop-key-item.is) (pair_item_nodes xs i x (omega arith)).0 in
    search rules

pub write_pairs-write_any-requires-in-loop-key : goal.write_pairs-write_any-requires-in-loop-key
write_pairs-write_any-requires-in-loop-key t c =
    let xs = c.args.pairs.now in
    let x = c.loop-key-item.result in
    let i = c.loop-key.key-index in
    let w : IsWritable (value_view x.1) = subst (λ y. IsWritable (value_view y.1)) (sym c.loop-key-item.is) (pair_writable_at xs i x c.requires (omega arith)).1 in
    let less : nodes (value_view x.1) < pair_nodes (pair_list_view xs) =
    subst (λ y. nodes (value_view y.1) < pair_nodes (pair_list_view xs)) (sym c.loop-key-item.is) (pair_item_nodes xs i x (omega arith)).1 in
    search rules

pub write_pairs-loop-key-preserved : goal.write_pairs-loop-key-preserved
write_pairs-loop-key-preserved t c =
    pairs_more c.args.out.now c.loop-key.out c.write_any.new.out c.write_any-in-loop-key.new.out c.args.pairs.now c.loop-key.key-index c.loop-key-item.result
    (omega arith) c.loop-key.invariant
    (c.in_ok-write_any.ensures ∙ ap (λ y. c.loop-key.out ++ shortest (value_view y.0)) c.loop-key-item.is)
    (c.in_ok-write_any-2.ensures ∙ ap (λ y. c.write_any.new.out ++ shortest (value_view y.1)) c.loop-key-item.is)
