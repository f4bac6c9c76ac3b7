use Rattle.std.proofs.Common.{◌≡◌, drop}
use Rattle.std.specs.Prelude.{Option}
use Rattle.std.specs.Option.{option_copied}
use Rattle.mx_key.specs.Keys.{Key}
use Rattle.mx_schema.specs.State.{State}
use Rattle.mx_write.specs.Lookup.{other_indexes}
use Rattle.mx_write.specs.Notes.{IsNotedUpTo}
use Rattle.mx_write.specs.Stages.{IsReplaced, refusal_of}
use Rattle.mx_judge.specs.Scopes.{IsTarget}
use Rattle.mx_write.specs.Unique.{are_free}
use Rattle.mx_judge.proofs.unique.duplicate_in_others.Given as goal

-- no other tuple has a key of the indexes so far, and the reads of them are noted
abbrev pub invariant-loop-def : goal.invariant-loop-def
invariant-loop-def l = (before : State) (key : Option Key) → IsTarget before l.target → IsReplaced (option_copied l.replaced) key
    → (refusal_of (are_free before l.target.scope.space.0 l.target.schema.now l.target.primary.now key l.tuple (other_indexes (drop l.def-index l.def-items))).outcome
    ≡ refusal_of (are_free before l.target.scope.space.0 l.target.schema.now l.target.primary.now key l.tuple (other_indexes l.target.schema.now.indexes)).outcome)
    × IsNotedUpTo l.initial.notes l.notes (are_free before l.target.scope.space.0 l.target.schema.now l.target.primary.now key l.tuple (other_indexes l.target.schema.now.indexes))
    (are_free before l.target.scope.space.0 l.target.schema.now l.target.primary.now key l.tuple (other_indexes (drop l.def-index l.def-items)))
