use Rattle.std.proofs.Common.{◌≡◌, drop}
use Rattle.mx_tuple.specs.Formats.{fields_checked}
use Rattle.mx_tuple.proofs.checking.check_fields.Given as goal

abbrev pub invariant-loop-place : goal.invariant-loop-place
invariant-loop-place l =
    fields_checked l.place (drop l.place l.entries) (drop l.place l.tuple.fields) ≡ fields_checked 0 l.entries l.tuple.fields
