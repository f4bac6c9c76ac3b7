use Rattle.std.proofs.Common.{◌≡◌, ◌+◌, ◌≤◌, length, drop}
use Rattle.std.specs.Prelude.{map}
use Rattle.mx_operations.specs.Views.{operation_view}
use Rattle.mx_update.specs.Updates.{fields_after_applicable}
use Rattle.mx_update.proofs.update.change_applicable.Given as goal

-- the operations that are left make of the fields what all make
abbrev pub invariant-loop-operation : goal.invariant-loop-operation
invariant-loop-operation l = record {
  same : fields_after_applicable l.base (map operation_view (drop l.operation-index l.operations)) l.fields ≡ fields_after_applicable l.base (map operation_view l.operations) l.initial.fields;
  few : length l.fields ≤ length l.initial.fields + l.operation-index;
}
