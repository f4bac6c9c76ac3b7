use Rattle.std.specs.BTreeMap.{is_at}
use Rattle.std.specs.Cmp.Lexicographic.{slice_cmp}
use Rattle.std.specs.Ordering.{nat_cmp}
use Rattle.mx_entries.proofs.WholeKeyLaws.{pair_found}
use Rattle.mx_space.proofs.tuple_map.entry_in_tree.Goals as goal

pub returns : goal.returns
returns c =
    pair_found (λ pair. pair.0.now) (λ pair. pair.1.now) c.get_key_value.result (is_at (slice_cmp nat_cmp c.args.key.now)) c.args.tuples.now.entries
    c.get_key_value.ensures.key c.get_key_value.ensures.value
