-- Only private functions need these: why the value under a key is refused, before that is a refusal.
use Rattle.std.specs.Prelude.{◌≡◌, ℕ, Option, Some, None, Result, Ok, Err}
use Rattle.mx_base.specs.declared.refusal.Refusal.{Refusal}
use Rattle.mx_base.specs.declared.refusal.Refusal.TheVariants.{IllegalValue, MissingKey}
use Rattle.mx_request.specs.declared.value_fault.ValueFault.{ValueFault}
use Rattle.mx_request.specs.declared.value_fault.ValueFault.TheVariants.{Missing, Illegal}

abbrev pub value_refusal : ValueFault → Refusal
value_refusal (Missing key) = MissingKey key
value_refusal (Illegal key) = IllegalValue key

-- what a function returned, seen by `view`, is this value or this refusal
abbrev pub GivesValue : {X Y : Type 0} → (X → Y) → Result X ValueFault → Result Y Refusal → Type 0
GivesValue view (Ok x) answer = answer ≡ Ok (view x)
GivesValue view (Err fault) answer = answer ≡ Err (value_refusal fault)

-- the value under a key, where it is a legal one
abbrev pub legal_or_fault : {X : Type 0} → (key : ℕ) → Option X → Result X ValueFault
legal_or_fault key None = Err (Illegal key)
legal_or_fault key (Some x) = Ok x
