use Rattle.std.proofs.Common.{◌≡◌, ℕ, map}
use Rattle.std.specs.Prelude.{Option, Some}
use Rattle.mx_schema.specs.declared.index_def.IndexDef.{IndexDef}
use Rattle.mx_schema.specs.declared.schema.Schema.{Schema}
use Rattle.mx_schema.specs.Catalogues.{index_with}
use Rattle.mx_schema.specs.State as plain
use Rattle.mx_space.specs.Stored.{HoldsBy}
use Rattle.mx_recover.proofs.FirstRowLaws.{PutSoFar}
use Rattle.mx_recover.proofs.new_database.put_rows.Given as goal

-- the rows so far were put
abbrev pub invariant-loop-row : goal.invariant-loop-row
invariant-loop-row l = (schemas : ℕ → Option Schema) (before : plain.State) (schema : Schema) (primary : IndexDef) → HoldsBy schemas l.initial.state before
    → schemas l.space.0 ≡ Some schema → index_with 0 schema.indexes ≡ Some primary → primary.key ≡ l.parts
    → PutSoFar schemas l.space.0 l.parts before (map (λ row. row.now) l.rows) l.row-index l.state
