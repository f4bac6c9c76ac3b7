-- The fault of a recovery that a directory's fault is.
use Rattle.mx_outside.specs.declared.dir.DirFault.{DirFault}
use Rattle.mx_outside.specs.declared.dir.DirFault.TheVariants as dir
use Rattle.mx_recover.specs.declared.fault.RecoverFault.{RecoverFault}
use Rattle.mx_recover.specs.declared.fault.RecoverFault.TheVariants.{Failed, NoMemory}

abbrev pub fault_of_dir : DirFault → RecoverFault
fault_of_dir dir.Failed = Failed
fault_of_dir dir.NoMemory = NoMemory
