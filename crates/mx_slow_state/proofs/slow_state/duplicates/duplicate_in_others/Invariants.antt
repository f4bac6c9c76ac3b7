use Rattle.std.proofs.Common.{◌≡◌, drop}
use Rattle.std.specs.Prelude.{Option}
use Rattle.std.specs.Option.{option_copied}
use Rattle.mx_key.specs.Keys.{Key}
use Rattle.mx_schema.specs.State.{State}
use Rattle.mx_write.specs.Lookup.{other_indexes}
use Rattle.mx_write.specs.Stages.{IsReplaced, refusal_of}
use Rattle.mx_write.specs.Unique.{are_free}
use Rattle.mx_slow_state.specs.SlowWrites.{IsSite}
use Rattle.mx_slow_state.proofs.slow_state.duplicates.duplicate_in_others.Given as goal

-- no other tuple has a key of the indexes so far
abbrev pub invariant-loop-def : goal.invariant-loop-def
invariant-loop-def l = (before : State) (key : Option Key) → IsSite before l.site → IsReplaced (option_copied l.replaced) key
    → refusal_of (are_free before l.site.space.0 l.site.schema.now l.site.primary.now key l.tuple (other_indexes (drop l.def-index l.def-items))).outcome
    ≡ refusal_of (are_free before l.site.space.0 l.site.schema.now l.site.primary.now key l.tuple (other_indexes l.site.schema.now.indexes)).outcome
