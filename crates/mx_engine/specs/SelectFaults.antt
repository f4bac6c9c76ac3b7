-- Only private functions and proofs need this: the refusal of a SELECT that has a fault.
use Rattle.std.specs.Prelude.{◌≡◌, ℕ, List, length, Err}
use Rattle.mx_base.specs.declared.refusal.Refusal.{Refusal}
use Rattle.mx_base.specs.declared.refusal.Refusal.TheVariants.{OutOfMemory, ResultTooLong}
use Rattle.mx_entries.specs.declared.pick.SelectFault.{SelectFault}
use Rattle.mx_entries.specs.declared.pick.SelectFault.TheVariants.{Misfit, NoMemory, TooLong}
use Rattle.mx_key.specs.Parts.{key_of_array}
use Rattle.mx_schema.specs.declared.index_def.IndexDef.{IndexDef}
use Rattle.mx_write.specs.Lookup.{misfit_refusal}

-- this refusal is that of this fault by an index
abbrev pub IsFaultRefusal : IndexDef → SelectFault → Refusal → Type 0
IsFaultRefusal def (Misfit misfit) refusal = (key : List ℕ) → key_of_array def.key key ≡ Err misfit → refusal ≡ misfit_refusal (length def.key) misfit
IsFaultRefusal def TooLong refusal = refusal ≡ ResultTooLong
IsFaultRefusal def NoMemory refusal = refusal ≡ OutOfMemory
