use Rattle.std.proofs.Common.{inl, inr}
use Rattle.mx_schema.proofs.catalogue_rows.add_index.Goals as goal

pub returns-in-Err : goal.returns-in-Err
returns-in-Err c =
    elim c.refused.ensures [
      | inl is ↦ inl (c.in-Err.refusal, rw c.in-Err.is at c.in_ok-index.ensures, is)
      | inr none ↦ inr none
    ]
