use Rattle.std.proofs.Common.{drop}
use Rattle.std.specs.Prelude.{Option}
use Rattle.std.specs.Option.{option_copied}
use Rattle.mx_key.specs.Keys.{Key}
use Rattle.mx_schema.specs.State.{State}
use Rattle.mx_write.specs.Lookup.{other_indexes}
use Rattle.mx_write.specs.Stages.{IsReplaced}
use Rattle.mx_write.specs.Unique.{are_free}
use Rattle.mx_slow.specs.SlowReadSteps.{AddsUpTo}
use Rattle.mx_slow_state.specs.SlowWrites.{IsSite}
use Rattle.mx_slow.proofs.write_reads.read_duplicates_in_others.Given as goal

-- what is read of the indexes to come is left
abbrev pub invariant-loop-def : goal.invariant-loop-def
invariant-loop-def l = (before : State) (key : Option Key) → IsSite before l.site → IsReplaced (option_copied l.replaced) key
    → AddsUpTo l.fn.reads l.reads
    (are_free before l.site.space.0 l.site.schema.now l.site.primary.now key l.tuple (other_indexes (drop l.def-index l.def-items))).reads
    (are_free before l.site.space.0 l.site.schema.now l.site.primary.now key l.tuple (other_indexes l.site.schema.now.indexes)).reads
