use Rattle.std.proofs.Common.{subst}
use Rattle.std.proofs.lemmas.Result.{err_from_is_err_and}
use Rattle.mx_schema.specs.declared.index_def.IndexDef.{IndexDef}
use Rattle.mx_schema.specs.declared.schema.Schema.{Schema}
use Rattle.mx_judge.specs.declared.scope.Scope.{Scope}
use Rattle.mx_row.specs.Rows.{insert_type}
use Rattle.mx_write.specs.Insert.{inserts, inserts_taken}
use Rattle.mx_judge.specs.Makes.{JudgesMade}
use Rattle.mx_write.specs.Notes.{NotesJudged}
use Rattle.mx_write.specs.Stages.{in_target}
use Rattle.mx_write.specs.Writes.{Insert}
use Rattle.mx_write.proofs.NoteLaws.{as_result, noted_result}
use Rattle.mx_judge.proofs.EntryStageLaws.{judged_by}
use Rattle.mx_judge.proofs.TargetLaws.{own_bytes, own_fits, own_has}
use Rattle.mx_judge.proofs.scope.Scope.insert.Goals as goal

pub returns-in_err-target-clause-judges : goal.returns-in_err-target-clause-judges
unfolding inserts
returns-in_err-target-clause-judges c = λ before holds.
    let p = err_from_is_err_and c.from_residual.result c.from_residual.ensures.1 in
    let rest = λ (schema : Schema) (primary : IndexDef). inserts_taken before c.args.self.space.0 schema primary c.args.tuple.now in
    rw (p.1, p.2) (c.in_err-target.ensures.judges before rest holds)

pub returns-in_err-target-clause-notes : goal.returns-in_err-target-clause-notes
unfolding inserts
returns-in_err-target-clause-notes c = λ before holds.
    let p = err_from_is_err_and c.from_residual.result c.from_residual.ensures.1 in
    let rest = λ (schema : Schema) (primary : IndexDef). inserts_taken before c.args.self.space.0 schema primary c.args.tuple.now in
    rw (p.1, p.2) (as_result c.in_err-target.field-0.0 (c.in_err-target.ensures.notes before rest holds))

pub returns-clause-judges : goal.returns-clause-judges
unfolding inserts
returns-clause-judges c = λ before holds.
    let self = c.args.self in
    let tuple = c.args.tuple.now in
    let target = c.in_ok-target.target in
    let primary = target.primary.now in
    let rest = λ (s : Scope) (schema : Schema) (primary : IndexDef). inserts_taken before s.space.0 schema primary tuple in
    let (scope, is_target, has, reaches) = c.in_ok-target.ensures.judges before (rest self) holds in
    judged_by before self.space.0 (Insert tuple) c.add.result (inserts self.writer before self.space.0 tuple) (rest self target.schema.now primary) reaches
    (subst (λ (s : Scope). JudgesMade before s.space.0 (Insert tuple) c.add.result (rest s target.schema.now primary)) scope
    (c.add.ensures.judges before is_target (own_has primary tuple _ has) (own_fits primary tuple _ has) (own_bytes primary tuple _ has)))

pub returns-clause-notes : goal.returns-clause-notes
unfolding inserts
returns-clause-notes c = λ before holds.
    let self = c.args.self in
    let tuple = c.args.tuple.now in
    let target = c.in_ok-target.target in
    let primary = target.primary.now in
    let rest = λ (s : Scope) (schema : Schema) (primary : IndexDef). inserts_taken before s.space.0 schema primary tuple in
    let (scope, is_target, has, reaches) = c.in_ok-target.ensures.judges before (rest self) holds in
    noted_result c.args.notes.now c.find_target.new.notes c.add.new.notes c.add.result (in_target self.writer before self.space.0 insert_type tuple (rest self)) (rest self target.schema.now primary)
    (c.in_ok-target.ensures.notes before (rest self) holds)
    (subst (λ (s : Scope). NotesJudged c.find_target.new.notes c.add.new.notes c.add.result (rest s target.schema.now primary)) scope
    (c.add.ensures.notes before is_target (own_has primary tuple _ has) (own_fits primary tuple _ has) (own_bytes primary tuple _ has)))
