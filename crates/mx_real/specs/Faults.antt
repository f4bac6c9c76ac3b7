-- What an error of the system is told as.
use Rattle.std.specs.Prelude.{ℕ}
use Rattle.std.specs.IoError.{error_kind}
use Rattle.std.specs.declared.io.Error.{Error}
use Rattle.std.specs.declared.io.ErrorKind.{ErrorKind}
use Rattle.std.specs.declared.io.ErrorKind.TheVariants.{OutOfMemory, NotADirectory, AddrInUse, WouldBlock, Interrupted}
use Rattle.mx_outside.specs.declared.dir.DirFault.{DirFault}
use Rattle.mx_outside.specs.declared.dir.DirFault.TheVariants as dir
use Rattle.mx_outside.specs.declared.link.LinkStop.{LinkStop}
use Rattle.mx_outside.specs.declared.link.LinkStop.TheVariants as link
use Rattle.mx_real.specs.declared.listen_fault.ListenFault.{ListenFault}
use Rattle.mx_real.specs.declared.listen_fault.ListenFault.TheVariants as listening
use Rattle.mx_real.specs.declared.open_fault.OpenFault.{OpenFault}
use Rattle.mx_real.specs.declared.open_fault.OpenFault.TheVariants as opened

-- the fault of opening a folder that an error of this kind is
abbrev pub open_fault_of_kind : Error → ErrorKind → OpenFault
open_fault_of_kind error OutOfMemory = opened.NoMemory
open_fault_of_kind error NotADirectory = opened.NotFolder
open_fault_of_kind error _ = opened.NotOpened error

-- the fault of opening a folder, where a call of the system fails
abbrev pub open_fault_of : Error → OpenFault
open_fault_of error = open_fault_of_kind error (error_kind error)

-- the fault of a call on a directory that an error of this kind is
abbrev pub dir_fault_of_kind : ErrorKind → DirFault
dir_fault_of_kind OutOfMemory = dir.NoMemory
dir_fault_of_kind _ = dir.Failed

-- the fault of a call on a directory, where a call of the system fails
abbrev pub dir_fault_of : Error → DirFault
dir_fault_of error = dir_fault_of_kind (error_kind error)

-- the fault of listening on a port that an error of this kind is
abbrev pub listen_fault_of_kind : ℕ → Error → ErrorKind → ListenFault
listen_fault_of_kind port error AddrInUse = listening.InUse port
listen_fault_of_kind port error OutOfMemory = listening.NoMemory
listen_fault_of_kind port error _ = listening.Refused port error

-- the fault of listening on a port, where a call of the system fails
abbrev pub listen_fault_of : ℕ → Error → ListenFault
listen_fault_of port error = listen_fault_of_kind port error (error_kind error)

-- what a link that an error of this kind stops says
abbrev pub link_stop_of_kind : ErrorKind → LinkStop
link_stop_of_kind WouldBlock = link.NotReady
link_stop_of_kind Interrupted = link.NotReady
link_stop_of_kind _ = link.Failed

-- what a link says where a call of the system fails
abbrev pub link_stop_of : Error → LinkStop
link_stop_of error = link_stop_of_kind (error_kind error)
