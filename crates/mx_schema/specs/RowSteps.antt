-- Only private functions and proofs need these: how the calls that add rows to a catalogue end, and which rows may be a new
-- database's own.
use Rattle.std.specs.Prelude.{◌≡◌, ◌⊎◌, ℕ, Bool, false, List, Option, Some, None, Result, Ok, Err, nat_le}
use Rattle.mx_schema.specs.declared.fault.SchemaFault.{SchemaFault}
use Rattle.mx_schema.specs.declared.fault.SchemaFault.TheVariants as fault
use Rattle.mx_schema.specs.Catalogues.{Catalogue}
use Rattle.mx_schema.specs.SchemaChecks.{RowFault, first_number}

-- The rows make this catalogue, or the fault is that of the first one that is refused; or out of memory.
abbrev pub EndsAt : {X : Type 0} → Result X SchemaFault → (Makes : Result Catalogue RowFault → Type 0) → (after : Catalogue) → Type 0
EndsAt (Ok x) Makes after = Makes (Ok after)
EndsAt (Err why) Makes after = ((found : RowFault) × (why ≡ fault.Row found.place found.refusal) × Makes (Err found)) ⊎ (why ≡ fault.NoMemory)

abbrev pub is_first_number : Option ℕ → Bool
is_first_number None = false
is_first_number (Some number) = nat_le number 512

-- the number of a space that a new database may have stands first
abbrev pub names_first_space : (fields : List (List ℕ)) → Bool
names_first_space fields = is_first_number (first_number fields)
