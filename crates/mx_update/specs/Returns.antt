-- Only private functions need these: what a function returned that may also run out of memory.
use Rattle.std.specs.Prelude.{◌≡◌, ⊤, ℕ, List, Result, Ok, Err}
use Rattle.mx_update.specs.declared.failure.Failure.TheVariants as code
use Rattle.mx_update.specs.declared.failure.Failure.{Failure as CodeFailure}
use Rattle.mx_update.specs.declared.fault.OpFault.{OpFault}
use Rattle.mx_update.specs.declared.fault.OpFault.TheVariants as fault
use Rattle.mx_update.specs.Updates.{Field, Failure, Argument, Overflow}

-- it failed as this did, or memory ran out
abbrev pub FailsAs : {X : Type 0} → CodeFailure → Result X Failure → Type 0
FailsAs code.Argument answer = answer ≡ Err Argument
FailsAs code.Overflow answer = answer ≡ Err Overflow
FailsAs code.NoMemory answer = ⊤

-- what was returned, seen by `view`, is this, or memory ran out
abbrev pub Returns : {X Y : Type 0} → (X → Y) → Result X CodeFailure → Result Y Failure → Type 0
Returns view (Ok x) answer = answer ≡ Ok (view x)
Returns view (Err failure) answer = FailsAs failure answer

-- the fields after a change, which leaves them at a failure
abbrev pub Changes : {X : Type 0} → Result X CodeFailure → (before after : List Field) → Result (List Field) Failure → Type 0
Changes (Ok x) before after answer = answer ≡ Ok after
Changes (Err failure) before after answer = FailsAs failure answer × (after ≡ before)

-- the fault of an operation in this place
abbrev pub fault_at : (place : ℕ) → CodeFailure → OpFault
fault_at place code.Argument = fault.Argument place
fault_at place code.Overflow = fault.Overflow place
fault_at place code.NoMemory = fault.NoMemory
