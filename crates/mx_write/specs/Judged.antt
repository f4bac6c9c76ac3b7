-- What a write comes to, stage by stage: what it read so far, and what its stages found, or the refusal of the first that refuses it.
use Rattle.std.specs.Prelude.{List, [], ◌++◌, Option, Some, None, Result, Ok, Err}
use Rattle.mx_base.specs.declared.refusal.Refusal.{Refusal}
use Rattle.mx_write.specs.Reads.{Read}

pub record Judged (X : Type 0) : Type 0 where
  pub reads : List Read
  pub outcome : Result X Refusal

-- what was found, without a read
abbrev pub found : {X : Type 0} → X → Judged X
found x = record { reads = []; outcome = Ok x }

-- a refusal, without a read
abbrev pub stopped : {X : Type 0} → Refusal → Judged X
stopped refusal = record { reads = []; outcome = Err refusal }

-- what is there, or else a refusal
abbrev pub found_or : {X : Type 0} → Refusal → Option X → Judged X
found_or refusal None = stopped refusal
found_or refusal (Some x) = found x

-- a refusal, where there is one
abbrev pub unless : Option Refusal → Judged (Unit {0})
unless None = found tt
unless (Some refusal) = stopped refusal

-- a result without a read
abbrev pub judged_as : {X : Type 0} → Result X Refusal → Judged X
judged_as outcome = record { reads = []; outcome = outcome }

-- a read of these ranges
abbrev pub reads_of : List Read → Judged (Unit {0})
reads_of reads = record { reads = reads; outcome = Ok tt }

-- the next stage, after these reads, where no earlier one refused
abbrev pub next_stage : {X Y : Type 0} → List Read → Result X Refusal → (X → Judged Y) → Judged Y
next_stage reads (Err refusal) stage = record { reads = reads; outcome = Err refusal }
next_stage reads (Ok x) stage = record { reads = reads ++ (stage x).reads; outcome = (stage x).outcome }

infixl 10 ◌>>=◌
abbrev pub ◌>>=◌ : {X Y : Type 0} → Judged X → (X → Judged Y) → Judged Y
judged >>= stage = next_stage judged.reads judged.outcome stage
