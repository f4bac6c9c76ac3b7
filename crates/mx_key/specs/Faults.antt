-- Why fields make no key, as the calls return it, which may also run out of memory.
use Rattle.mx_key.specs.declared.fault.KeyFault.{KeyFault}
use Rattle.mx_key.specs.declared.fault.KeyFault.TheVariants as fault
use Rattle.mx_key.specs.declared.fault.NoKey.{NoKey}
use Rattle.mx_key.specs.declared.fault.NoKey.TheVariants.{Missing, Wrong}

-- the error that returns it
abbrev pub key_fault_of : NoKey → KeyFault
key_fault_of (Missing field) = fault.Missing field
key_fault_of (Wrong field expected) = fault.Wrong field expected
