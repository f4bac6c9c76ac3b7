-- What an error of the system is at a call for the next connection.
use Rattle.std.specs.Prelude.{ℤ, pos, List, [], ◌∷◌, Option, None, Some}
use Rattle.std.specs.declared.io.ErrorKind.{ErrorKind}
use Rattle.std.specs.declared.io.ErrorKind.TheVariants.{WouldBlock, Interrupted, ConnectionAborted, ConnectionReset, TimedOut, HostUnreachable, NetworkUnreachable, NetworkDown, PermissionDenied, OutOfMemory}
use Rattle.mx_real.specs.declared.no_link.NoLink.{NoLink}
use Rattle.mx_real.specs.declared.no_link.NoLink.TheVariants as no_link

-- That none has come, and that this one failed before it was accepted, are no faults of the listener. Errors of other kinds
-- go by their numbers.
abbrev pub no_link_of_kind : ErrorKind → Option NoLink
no_link_of_kind WouldBlock = Some no_link.NotReady
no_link_of_kind Interrupted = Some no_link.NotReady
no_link_of_kind ConnectionAborted = Some no_link.NotReady
no_link_of_kind ConnectionReset = Some no_link.NotReady
no_link_of_kind TimedOut = Some no_link.NotReady
no_link_of_kind HostUnreachable = Some no_link.NotReady
no_link_of_kind NetworkUnreachable = Some no_link.NotReady
no_link_of_kind NetworkDown = Some no_link.NotReady
no_link_of_kind PermissionDenied = Some no_link.NotReady
no_link_of_kind OutOfMemory = Some no_link.NoMemory
no_link_of_kind _ = None

-- Linux's numbers of what is no fault of the listener either: no descriptor is free in the system or in the process, and a
-- connection broke its protocol
abbrev pub passing_numbers : List ℤ
passing_numbers = pos 23 ∷ pos 24 ∷ pos 71 ∷ []
