use Rattle.std.proofs.Common.{◌≡◌, ◌≤◌, length}
use Rattle.std.specs.Prelude.{map}
use Rattle.mx_operations.specs.Operations.{max_operations, operations_in}
use Rattle.mx_operations.specs.Views.{operation_view}
use Rattle.mx_update.proofs.OperationLaws.{then_from}
use Rattle.mx_update.proofs.ops.read_ops.Given as goal

-- the operations so far and those that are left are all
abbrev pub invariant-loop-place : goal.invariant-loop-place
invariant-loop-place l = record {
  same : then_from (map operation_view l.operations.items) l.place l.place-end l.rest ≡ operations_in l.bytes;
  counted : length l.operations.items ≡ l.place;
  few : length l.operations.items ≤ max_operations;
}
