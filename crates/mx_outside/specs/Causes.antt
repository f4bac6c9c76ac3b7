-- When a call on an object outside may fail.
use Rattle.std.specs.Prelude.{◌≡◌, ℕ, ◌+◌, ◌-◌, ◌^◌, ◌≤◌, ◌⊎◌, Bool, true, false, min, Result, OnOk, OnErr, IsErrOf}

-- A count of faults rose. One that stands at its last value counts as risen.
abbrev pub Rose : ℕ → ℕ → Type 0
Rose before now = min (before + 1) (2 ^ 64 - 1) ≤ now

-- The count never falls. A failure comes only where it rose, and a call that succeeds leaves it as it was.
pub record HasCause {T E : Type 0} (before now : ℕ) (result : Result T E) : Type 0 where
  pub later : before ≤ now
  pub failed : OnErr result (Rose before now)
  pub done : OnOk result (now ≡ before)

-- The same where only one of the errors is a failure of the object: at every other one, as out of memory, the count is as
-- it was.
pub record HasCauseOf {T E : Type 0} (failure : E) (before now : ℕ) (result : Result T E) : Type 0 where
  pub later : before ≤ now
  pub failed : IsErrOf result failure → Rose before now
  pub done : OnOk result (now ≡ before)
  pub quiet : IsErrOf result failure ⊎ (now ≡ before)

-- A sync succeeds only where none has failed: what one that failed may have lost, no later one makes durable.
pub record SyncsOnlyWhole {T E : Type 0} (failure : E) (before now : Bool) (result : Result T E) : Type 0 where
  pub done : OnOk result ((before ≡ false) × (now ≡ false))
  pub failed : IsErrOf result failure → now ≡ true
  pub stays : before ≡ true → now ≡ true
