-- The status of a run whose directory wasn't opened, and the exit status of the process.
use Rattle.std.specs.Prelude.{ℕ}
use Rattle.mx_real.specs.declared.open_fault.OpenFault.{OpenFault}
use Rattle.mx_real.specs.declared.open_fault.OpenFault.TheVariants.{NoMemory as NoMemoryToOpen}
use Rattle.mx_top.specs.declared.status.Status.{Status}
use Rattle.mx_top.specs.declared.status.Status.TheVariants.{Ok, BadInput, BadWords, ReadFault, WriteFault, DiskFault, NoMemory, Damaged}

-- the exit status of the process
abbrev pub exit_number : Status → ℕ
exit_number Ok = 0
exit_number (BadInput _) = 1
exit_number BadWords = 2
exit_number ReadFault = 3
exit_number WriteFault = 4
exit_number DiskFault = 5
exit_number NoMemory = 6
exit_number (Damaged _) = 7

-- the status of a run whose directory wasn't opened
abbrev pub unopened : OpenFault → Status
unopened NoMemoryToOpen = NoMemory
unopened _ = DiskFault
