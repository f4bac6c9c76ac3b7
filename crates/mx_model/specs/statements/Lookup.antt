-- How statements look up a space and an index of it, and what that reads.
use Rattle.std.specs.Prelude.{ℕ, [], ◌∷◌, Option, Some, None}
use Rattle.mx_base.specs.declared.refusal.Refusal.TheVariants.{IndexMissing, SpaceMissing}
use Rattle.mx_schema.specs.declared.index_def.IndexDef.{IndexDef}
use Rattle.mx_schema.specs.declared.schema.Schema.{Schema}
use Rattle.mx_schema.specs.Catalogues.{index_with, schema_of}
use Rattle.mx_schema.specs.State.{State}
use Rattle.mx_write.specs.Reads.{schema_reads, space_read}
use Rattle.mx_model.specs.statements.Answer.{Answer, refusal_after}

abbrev pub in_schema : (space : ℕ) → Option Schema → (Schema → Answer) → Answer
in_schema space None answer = refusal_after (space_read space ∷ []) (SpaceMissing (record { 0 = space }))
in_schema space (Some schema) answer = answer schema

-- the answer on a space as it is described, where there is such a space
abbrev pub in_space : State → (space : ℕ) → (Schema → Answer) → Answer
in_space before space answer = in_schema space (schema_of before space) answer

abbrev pub in_def : (space : ℕ) → Schema → (index : ℕ) → Option IndexDef → (IndexDef → Answer) → Answer
in_def space schema index None answer = refusal_after (schema_reads space) (IndexMissing (record { 0 = index }) schema.def.name)
in_def space schema index (Some def) answer = answer def

-- the answer on an index of a space, where it has that
abbrev pub in_index : (space : ℕ) → Schema → (index : ℕ) → (IndexDef → Answer) → Answer
in_index space schema index answer = in_def space schema index (index_with index schema.indexes) answer
