-- What an opening has come to, file after file.
use Rattle.std.specs.Prelude.{◌≡◌, ⊤, ◌<◌, Option, Some, None, slice_index}
use Rattle.mx_vclock.specs.Vclocks.{IsVclock}
use Rattle.mx_model.specs.declared.ids.Ids.{Ids}
use Rattle.mx_space.specs.Stored.{Holds}
use Rattle.mx_directory.specs.Directories as files
use Rattle.mx_recover.specs.declared.replay.Recovered.{Recovered}

-- a node's identifiers come from a file's header: its replica id is one of the 32
abbrev pub AreIds : Option Ids → Type 0
AreIds None = ⊤
AreIds (Some ids) = ids.me < 32

-- the memory has what the files so far recover to; its vclock is one that has nothing of the replica id 0
pub record StandsFor (memory : Recovered) (reached : files.Reached) : Type 0 where
  pub ids : memory.ids ≡ reached.ids
  pub holds : Holds memory.state reached.state
  pub clock : memory.clock ≡ reached.clock
  pub sound : IsVclock reached.clock
  pub nothing : slice_index reached.clock 0 ≡ 0
  pub whose : AreIds reached.ids
