-- One entry of a format, for private functions; no public clause speaks of it.
use Rattle.std.specs.Prelude.{ℕ, List, Option, Some, None, Result, Ok, Err, if◌then◌else◌}
use Rattle.mx_tuple.specs.declared.formats.FormatEntry.{FormatEntry}
use Rattle.mx_tuple.specs.declared.checking.FieldFault.{FieldFault}
use Rattle.mx_tuple.specs.declared.checking.FieldFault.TheVariants.{Missing, Wrong}
use Rattle.mx_tuple.specs.Formats.{meets, may_be_absent}

-- the field in this place, which may be absent, against its entry
abbrev pub field_checked : ℕ → FormatEntry → Option (List ℕ) → Result Unit FieldFault
field_checked place entry None = if may_be_absent entry then Ok tt else Err (Missing place)
field_checked place entry (Some field) = if meets entry field then Ok tt else Err (Wrong place entry.kind)
