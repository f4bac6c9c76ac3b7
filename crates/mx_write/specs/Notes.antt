-- What a transaction notes of its reads.
use Rattle.std.specs.Prelude.{◌≡◌, ◌⊎◌, List, ◌++◌, Option, Some, None, Result, Err}
use Rattle.std.specs.List.{AllZip}
use Rattle.mx_base.specs.declared.refusal.Refusal.{Refusal}
use Rattle.mx_base.specs.declared.refusal.Refusal.TheVariants.{OutOfMemory}
use Rattle.mx_key.specs.declared.edge.KeyRange.{KeyRange}
use Rattle.mx_key.specs.Comparable.{edges_of}
use Rattle.mx_key.specs.Ranges.{AreFitEnds}
use Rattle.mx_tracker.specs.declared.read.Read as noted
use Rattle.mx_write.specs.Judged.{Judged}
use Rattle.mx_write.specs.Reads.{Read}

-- the range of a read that was noted
abbrev pub noted_range : noted.Read → KeyRange
noted_range coded = record { low = coded.low; high = coded.high }

-- what was noted is this read, whose numbers have 64 bits
pub record SpellsRead (coded : noted.Read) (read : Read) : Type 0 where
  pub space : coded.space ≡ read.space
  pub index : coded.index ≡ read.index
  pub range : noted_range coded ≡ edges_of read.range
  pub fit : AreFitEnds read.range

-- the reads that were noted, in order; none where reads aren't noted
abbrev pub Noted : Type 0
Noted = Option (List noted.Read)

-- these reads were noted behind the earlier ones, where reads are noted
abbrev pub AddsReads : (old new : Noted) → List Read → Type 0
AddsReads None new reads = new ≡ None
AddsReads (Some earlier) new reads = (more : List noted.Read) × (new ≡ Some (earlier ++ more)) × AllZip SpellsRead more reads

-- where what the rest reads is noted too, all that the whole reads is noted
abbrev pub IsNotedUpTo : {X Y : Type 0} → (old now : Noted) → (whole : Judged X) → (rest : Judged Y) → Type 0
IsNotedUpTo old now whole rest = (last : Noted) → AddsReads now last rest.reads → AddsReads old last whole.reads

-- what was judged is noted with all that it reads, unless memory ran out
abbrev pub NotesJudged : {A X : Type 0} → (old new : Noted) → Result A Refusal → Judged X → Type 0
NotesJudged old new result judged = (result ≡ Err OutOfMemory) ⊎ AddsReads old new judged.reads
