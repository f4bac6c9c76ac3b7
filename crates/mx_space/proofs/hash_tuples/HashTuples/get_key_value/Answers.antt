use Rattle.std.proofs.Common.{sym, ap, ◌∙◌}
use Rattle.std.specs.BTreeMap.{is_at}
use Rattle.std.specs.Cmp.Lexicographic.{slice_cmp}
use Rattle.std.specs.Map.{lookup_entry}
use Rattle.std.specs.Option.{option_map}
use Rattle.std.specs.Ordering.{nat_cmp}
use Rattle.mx_space.specs.HashViews.{hash_entries}
use Rattle.mx_entries.specs.TupleMaps.{under_key}
use Rattle.mx_space.proofs.FirstTupleLaws.{looked_up, pair_is}
use Rattle.mx_entries.proofs.SortedLaws.{entry_of}
use Rattle.mx_space.proofs.hash_tuples.HashTuples.get_key_value.Goals as goal

pub returns : goal.returns
returns c =
    let key = c.args.key.now in
    let kept = c.self.inside.tuples.entries in
    pair_is (λ p. p.0.now) (λ p. p.1.now) key c.get_key_value.result _ c.get_key_value.ensures.same_key c.get_key_value.ensures.value
    ∙ ap (option_map (under_key key)) (looked_up kept key)
    ∙ sym (entry_of key (hash_entries kept))
    ∙ ap (λ t. lookup_entry (is_at (slice_cmp nat_cmp key)) t.entries) c.self.view_is
