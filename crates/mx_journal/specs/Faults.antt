-- What a journal answers where its directory gives nothing.
use Rattle.mx_outside.specs.declared.dir.DirFault.{DirFault}
use Rattle.mx_outside.specs.declared.dir.DirFault.TheVariants.{Failed, NoMemory}
use Rattle.mx_journal.specs.declared.fault.JournalFault.{JournalFault}
use Rattle.mx_journal.specs.declared.fault.JournalFault.TheVariants.{Failed as JournalFailed, NoMemory as JournalNoMemory}

abbrev pub fault_of : DirFault → JournalFault
fault_of Failed = JournalFailed
fault_of NoMemory = JournalNoMemory
