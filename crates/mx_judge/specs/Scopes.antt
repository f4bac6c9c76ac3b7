-- Only private functions and proofs need these: how far a write was judged.
use Rattle.std.specs.Prelude.{◌≡◌, true, Some, None}
use Rattle.mx_schema.specs.Catalogues.{index_with, schema_of}
use Rattle.mx_schema.specs.State.{State, tuples_in}
use Rattle.mx_space.specs.OwnChanges.{HoldsView, ShowsTuples}
use Rattle.mx_judge.specs.declared.scope.Scope.{Scope}
use Rattle.mx_judge.specs.declared.scope.Target.{Target}
use Rattle.mx_write.specs.Judged.{◌>>=◌}
use Rattle.mx_write.specs.Writable.{describes_schema}

-- a write is judged over a view of this state; one of a row that describes a space or an index without own changes
pub record SeesState (before : State) (scope : Scope) : Type 0 where
  pub holds : HoldsView scope.view before
  pub alone : describes_schema scope.space.0 ≡ true → scope.view.over ≡ None

-- a space that is there and has a primary index
pub record IsTarget (before : State) (target : Target) : Type 0 where
  pub holds : HoldsView target.scope.view before
  pub alone : describes_schema target.scope.space.0 ≡ true → target.scope.view.over ≡ None
  pub stored : ShowsTuples (schema_of before target.scope.space.0) target.stored (tuples_in before target.scope.space.0)
  pub schema : target.schema.now ≡ target.stored.space.now.schema
  pub primary : index_with 0 target.schema.now.indexes ≡ Some target.primary.now
