use Rattle.std.proofs.Common.{◌≡◌, sym, ap, ◌∙◌, subst, eq-eqb}
use Rattle.std.specs.Prelude.{None, if◌then◌else◌}
use Rattle.std.specs.Option.{option_copied}
use Rattle.mx_schema.specs.Catalogues.{schema_of}
use Rattle.mx_schema.specs.IndexRows.{index_in}
use Rattle.mx_schema.specs.State.{index_rows, tuples_in}
use Rattle.mx_write.specs.Descriptions.{build_fault_by, build_fault_on}
use Rattle.mx_write.specs.Stages.{Checks}
use Rattle.mx_slow_state.proofs.SlowLaws.{space_found}
use Rattle.mx_slow_state.proofs.slow_state.SlowState.check_new_index.Goals as goal

pub returns-in-Some-space : goal.returns-in-Some-space
returns-in-Some-space c = λ before keeps may.
    let row = c.in-Some.row in
    let found = c.in-Some-space.found.now in
    let rows : c.args.space.0 ≡ index_rows = c.if-space-ne-INDEX_ROWS.false in
    let described = sym c.in_ok-row.ensures ∙ c.in-Some.is in
    let has = space_found (schema_of before row.space.0) (tuples_in before row.space.0) found (option_copied c.space.result) (ap option_copied (sym c.in-Some-space.is)) (c.space.ensures before keeps) in
    subst (Checks c.check_tuples.result)
    (sym (ap (λ b. if b then build_fault_by before (index_in c.args.tuple.now) else None) (eq-eqb c.args.space.0 index_rows rows) ∙ ap (build_fault_by before) described
    ∙ ap (build_fault_on (tuples_in before row.space.0) row.def) has.is))
    (c.check_tuples.ensures (tuples_in before row.space.0) has.keeps (may rows row described).first)
