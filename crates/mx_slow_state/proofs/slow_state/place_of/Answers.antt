use Rattle.std.proofs.Common.{rules, ◌≡◌, ◌<◌, ◌≤◌, true, false, length, slice_index_or}
use Rattle.std.specs.Ordering.{nat_cmp, is_lt}
use Rattle.std.specs.Cmp.Lexicographic.{slice_cmp}
use Rattle.mx_entries.proofs.WindowLaws.{taken_more, none_past}
use Rattle.mx_slow_state.proofs.slow_state.place_of.Goals as goal

pub loop-one-preserved : goal.loop-one-preserved
loop-one-preserved c =
    let is = c.loop-one.invariant in
    let lower : is_lt (slice_cmp nat_cmp c.one-item.result.key c.args.key.now) ≡ true = search rules in
    let within : c.loop-one.place < length c.args.kept.now = search rules in
    let item : c.one-item.result ≡ slice_index_or c.args.kept.now c.loop-one.place c.one-item.result = search rules in
    (search rules, taken_more (λ one. is_lt (slice_cmp nat_cmp one.key c.args.key.now) ≡ true) _ _ c.one-item.result within item is.1 lower)

pub returns-clause-there : goal.returns-clause-there
returns-clause-there c =
    let past : length c.args.kept.now ≤ c.loop-one.place = search rules in
    none_past (λ one. is_lt (slice_cmp nat_cmp one.key c.args.key.now) ≡ false) _ _ past
