-- Only private functions and proofs need these: which causes a step may meet.
use Rattle.std.specs.Prelude.{⊤, Bool, true, false, Result, Ok, Err}
use Rattle.mx_journal.specs.declared.fault.JournalFault.{JournalFault}
use Rattle.mx_journal.specs.declared.fault.JournalFault.TheVariants as fault
use Rattle.mx_top.specs.declared.stop.Stop.{Stop}
use Rattle.mx_top.specs.declared.stop.Stop.TheVariants.{BadInput, ReadFault, DiskFault, NoMemory}

-- a cause that reading meets
abbrev pub IsReadStop : Stop → Type 0
IsReadStop ReadFault = ⊤
IsReadStop NoMemory = ⊤
IsReadStop _ = ⊥

-- a cause that the directory meets
abbrev pub IsDiskStop : Stop → Type 0
IsDiskStop DiskFault = ⊤
IsDiskStop NoMemory = ⊤
IsDiskStop _ = ⊥

abbrev pub stop_of : JournalFault → Stop
stop_of fault.Failed = DiskFault
stop_of fault.NoMemory = NoMemory

-- the units ended in order: at the end of the input, or where it has a malformed one
abbrev pub are_in_order : Result (Unit {0}) Stop → Bool
are_in_order (Ok done) = true
are_in_order (Err (BadInput at)) = true
are_in_order (Err _) = false

-- this holds where the cause is a malformed unit
abbrev pub AtBadInput : Stop → Type 0 → Type 0
AtBadInput (BadInput at) P = P
AtBadInput _ P = ⊤
