use Rattle.std.proofs.Common.{◌∙◌}
use Rattle.mx_schema.proofs.StoredLaws.{none_indexed, one_indexed, all_indexed}
use Rattle.mx_space.proofs.selection.index_tuples.Goals as goal

pub loop-key-init : goal.loop-key-init
loop-key-init c = λ all keeps. none_indexed c.args.def.now all c.new-indexed.result.entries c.args.tuples.now.entries c.into_iter-key-iterator.result c.new-indexed.ensures.empty c.into_iter-key-iterator.ensures.into_iter_gives.0 keeps

pub loop-key-preserved : goal.loop-key-preserved
loop-key-preserved c = λ all keeps.
    one_indexed c.args.def.now all c.loop-key.indexed.entries c.set_entry.new.entries.entries c.loop-key.key-iterator c.next.new.self c.in-Some.key.now c.in-Some.tuple.now c.in_ok-key.field-0.key c.in_ok-key.field-0.tuple
    c.in-Some.ensures.steps (λ first fit is. rw c.as_slice-in-loop-key.ensures at (c.in_ok-key.ensures first fit (c.as_slice.ensures ∙ is))) c.in_ok-set_entry.ensures (c.loop-key.invariant all keeps)

pub returns : goal.returns
returns c = λ all keeps. all_indexed c.args.def.now all c.loop-key.indexed.entries c.loop-key.key-iterator c.in-None.ensures.steps.0 (c.loop-key.invariant all keeps)
