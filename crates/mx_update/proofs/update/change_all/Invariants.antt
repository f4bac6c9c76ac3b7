use Rattle.std.proofs.Common.{◌≡◌, ◌+◌, ◌≤◌, length, drop}
use Rattle.std.specs.Prelude.{map}
use Rattle.mx_operations.specs.Views.{operation_view}
use Rattle.mx_update.specs.Updates.{fields_after}
use Rattle.mx_update.proofs.update.change_all.Given as goal

-- the operations that are left make of the fields what all make
abbrev pub invariant-loop-place : goal.invariant-loop-place
invariant-loop-place l = record {
  same : fields_after l.base l.place (map operation_view (drop l.place l.operations)) l.fields ≡ fields_after l.base 0 (map operation_view l.operations) l.initial.fields;
  few : length l.fields ≤ length l.initial.fields + l.place;
}
