use Rattle.std.proofs.Common.{◌≡◌, ◌⊎◌, inl, inr, Option, Some, sym, ap, ◌∙◌}
use Rattle.std.specs.Option.{option_map}
use Rattle.mx_base.specs.declared.refusal.Refusal.{Refusal}
use Rattle.mx_schema.specs.declared.index_def.IndexDef.{IndexDef}
use Rattle.mx_schema.specs.declared.schema.Schema.{Schema}
use Rattle.mx_schema.specs.State.{Tuples, tuples_in}
use Rattle.mx_entries.specs.declared.build_fault.BuildFault.{BuildFault}
use Rattle.mx_entries.specs.declared.build_fault.BuildFault.TheVariants.{NoMemory}
use Rattle.mx_entries.specs.Builds.{build_fault}
use Rattle.mx_write.specs.Descriptions.{build_fault_on, build_refusal}
use Rattle.mx_write.specs.Stages.{Refuses}
use Rattle.mx_judge.proofs.descriptions.check_build.Goals as goal

refused_so : (tuples : Tuples) (def : IndexDef) (described : Option Schema) (schema : Schema) (fault : BuildFault) (why : Refusal) → described ≡ Some schema
    → why ≡ build_refusal schema def fault → (build_fault def tuples ≡ Some fault) ⊎ (fault ≡ NoMemory) → Refuses why (build_fault_on tuples def described)
refused_so tuples def described schema fault why is told (inl found) =
    inl (ap (build_fault_on tuples def) is ∙ ap (option_map (build_refusal schema def)) found ∙ ap (λ w. Some w) (sym told))
refused_so tuples def described schema fault why is told (inr none) = inr (told ∙ ap (build_refusal schema def) none)

pub returns-in_ok-build_refusal-in-Err : goal.returns-in_ok-build_refusal-in-Err
returns-in_ok-build_refusal-in-Err c = λ before holds none may.
    let row = c.args.row.now in
    let tuples = tuples_in before row.space.0 in
    let schema = c.in-Some.space.space.now.schema in
    let shows = rw c.in-Some.is at (c.space.ensures.shown before holds) in
    let alone = rw c.in-Some.is at (c.space.ensures.no_writes none) in
    refused_so tuples row.def _ schema c.in-Err.fault _ shows.sees.state.holds.is
    (c.in_ok-build_refusal-in-Err.ensures ∙ ap (λ s. build_refusal s row.def c.in-Err.fault) c.schema.ensures)
    (c.in-Err.ensures _ tuples shows alone may.first (may.other schema shows.sees.state.holds.is))
