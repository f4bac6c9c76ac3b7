use Rattle.std.proofs.Common.{inr, subst}
use Rattle.std.specs.Prelude.{Option, Some, Ok, Err}
use Rattle.std.proofs.lemmas.Result.{err_from_is_err_and}
use Rattle.mx_schema.specs.declared.index_def.IndexDef.{IndexDef}
use Rattle.mx_schema.specs.declared.schema.Schema.{Schema}
use Rattle.mx_schema.specs.Picks.{Indexed}
use Rattle.mx_judge.specs.declared.scope.Scope.{Scope}
use Rattle.mx_write.specs.Update.{update_found, updates}
use Rattle.mx_judge.specs.Makes.{JudgesFound}
use Rattle.mx_write.specs.Writes.{Update}
use Rattle.mx_row.specs.Rows.{update_type}
use Rattle.mx_judge.specs.declared.made.Made as code
use Rattle.mx_write.specs.Notes.{NotesJudged}
use Rattle.mx_write.specs.Stages.{in_entry}
use Rattle.mx_write.proofs.NoteLaws.{adds_nothing, as_result, noted_err, noted_ok, noted_result}
use Rattle.mx_judge.proofs.EntryStageLaws.{judged_by_found}
use Rattle.mx_judge.proofs.scope.Scope.update.Goals as goal

pub returns-in_err-target-clause-judges : goal.returns-in_err-target-clause-judges
unfolding updates
returns-in_err-target-clause-judges c = λ before holds.
    let p = err_from_is_err_and c.from_residual.result c.from_residual.ensures.1 in
    let self = c.args.self in
    let rest = λ (schema : Schema) (primary : IndexDef) (entry : Option Indexed). update_found self.writer before self.space.0 c.args.index.0 c.args.base c.args.key.now c.args.operations.now schema primary entry in
    rw (p.1, p.2) (c.in_err-target.ensures.judges before rest holds)

pub returns-in_err-made-in-Some-clause-judges : goal.returns-in_err-made-in-Some-clause-judges
unfolding updates
returns-in_err-made-in-Some-clause-judges c = λ before holds.
    let p = err_from_is_err_and c.from_residual-in_err-made-in-Some.result c.from_residual-in_err-made-in-Some.ensures.1 in
    let self = c.args.self in
    let target = c.in_ok-target.target in
    let write = Update c.args.index.0 c.args.base c.args.key.now c.args.operations.now in
    let why = c.in_err-made-in-Some.field-0.0 in
    let rest = λ (s : Scope) (schema : Schema) (primary : IndexDef) (entry : Option Indexed). update_found s.writer before s.space.0 c.args.index.0 c.args.base c.args.key.now c.args.operations.now schema primary entry in
    let (scope, is_target, found) = c.in_ok-target.ensures.judges before (rest self) holds in
    let (own, reaches, fit, bytes, has) = rw c.in-Some.is at found in
    let last = λ (s : Scope). rest s target.schema.now target.primary.now (Some (own, c.in-Some.entry.tuple.now)) in
    rw (p.1, p.2) (judged_by_found before self.space.0 write (Err why) (updates self.writer before self.space.0 c.args.index.0 c.args.base c.args.key.now c.args.operations.now) (last self) reaches
    (subst (λ (s : Scope). JudgesFound before s.space.0 write (Err why) (last s)) scope (c.in_err-made-in-Some.ensures.judges before own is_target fit bytes has)))

pub returns-in_ok-made-in-Some-clause-judges : goal.returns-in_ok-made-in-Some-clause-judges
unfolding updates
returns-in_ok-made-in-Some-clause-judges c = λ before holds.
    let self = c.args.self in
    let target = c.in_ok-target.target in
    let write = Update c.args.index.0 c.args.base c.args.key.now c.args.operations.now in
    let made = c.in_ok-made-in-Some.made in
    let rest = λ (s : Scope) (schema : Schema) (primary : IndexDef) (entry : Option Indexed). update_found s.writer before s.space.0 c.args.index.0 c.args.base c.args.key.now c.args.operations.now schema primary entry in
    let (scope, is_target, found) = c.in_ok-target.ensures.judges before (rest self) holds in
    let (own, reaches, fit, bytes, has) = rw c.in-Some.is at found in
    let last = λ (s : Scope). rest s target.schema.now target.primary.now (Some (own, c.in-Some.entry.tuple.now)) in
    judged_by_found before self.space.0 write (Ok (Some made)) (updates self.writer before self.space.0 c.args.index.0 c.args.base c.args.key.now c.args.operations.now) (last self) reaches
    (subst (λ (s : Scope). JudgesFound before s.space.0 write (Ok (Some made)) (last s)) scope (c.in_ok-made-in-Some.ensures.judges before own is_target fit bytes has))

pub returns-in-None-clause-judges : goal.returns-in-None-clause-judges
unfolding updates
returns-in-None-clause-judges c = λ before holds.
    let self = c.args.self in
    let rest = λ (schema : Schema) (primary : IndexDef) (entry : Option Indexed). update_found self.writer before self.space.0 c.args.index.0 c.args.base c.args.key.now c.args.operations.now schema primary entry in
    let (scope, target, found) = c.in_ok-target.ensures.judges before rest holds in
    rw c.in-None.is at found

pub returns-in_err-target-clause-notes : goal.returns-in_err-target-clause-notes
unfolding updates
returns-in_err-target-clause-notes c = λ before holds.
    let p = err_from_is_err_and c.from_residual.result c.from_residual.ensures.1 in
    let self = c.args.self in
    let rest = λ (s : Scope) (schema : Schema) (primary : IndexDef) (entry : Option Indexed). update_found s.writer before s.space.0 c.args.index.0 c.args.base c.args.key.now c.args.operations.now schema primary entry in
    rw (p.1, p.2) (as_result c.in_err-target.field-0.0 (c.in_err-target.ensures.notes before (rest self) holds))

pub returns-in_err-made-in-Some-clause-notes : goal.returns-in_err-made-in-Some-clause-notes
unfolding updates
returns-in_err-made-in-Some-clause-notes c = λ before holds.
    let p = err_from_is_err_and c.from_residual-in_err-made-in-Some.result c.from_residual-in_err-made-in-Some.ensures.1 in
    let self = c.args.self in
    let target = c.in_ok-target.target in
    let rest = λ (s : Scope) (schema : Schema) (primary : IndexDef) (entry : Option Indexed). update_found s.writer before s.space.0 c.args.index.0 c.args.base c.args.key.now c.args.operations.now schema primary entry in
    let (scope, is_target, found) = c.in_ok-target.ensures.judges before (rest self) holds in
    let (own, reaches, fit, bytes, has) = rw c.in-Some.is at found in
    let last = λ (s : Scope). rest s target.schema.now target.primary.now (Some (own, c.in-Some.entry.tuple.now)) in
    let up_to = (rw c.in-Some.is at (c.in_ok-target.ensures.notes before (rest self) holds)) own has in
    rw (p.1, p.2) (noted_result c.args.notes.now c.find.new.notes c.change.new.notes (Err c.in_err-made-in-Some.field-0.0) (in_entry self.writer before self.space.0 update_type c.args.index.0 c.args.key.now (rest self)) (last self) up_to
    (noted_err c.find.new.notes c.change.new.notes c.in_err-made-in-Some.field-0.0 (last self)
    (subst (λ (s : Scope). NotesJudged {A = code.Made} c.find.new.notes c.change.new.notes (Err c.in_err-made-in-Some.field-0.0) (last s)) scope (c.in_err-made-in-Some.ensures.notes before own is_target fit bytes has))))

pub returns-in_ok-made-in-Some-clause-notes : goal.returns-in_ok-made-in-Some-clause-notes
unfolding updates
returns-in_ok-made-in-Some-clause-notes c = λ before holds.
    let self = c.args.self in
    let target = c.in_ok-target.target in
    let rest = λ (s : Scope) (schema : Schema) (primary : IndexDef) (entry : Option Indexed). update_found s.writer before s.space.0 c.args.index.0 c.args.base c.args.key.now c.args.operations.now schema primary entry in
    let (scope, is_target, found) = c.in_ok-target.ensures.judges before (rest self) holds in
    let (own, reaches, fit, bytes, has) = rw c.in-Some.is at found in
    let last = λ (s : Scope). rest s target.schema.now target.primary.now (Some (own, c.in-Some.entry.tuple.now)) in
    let up_to = (rw c.in-Some.is at (c.in_ok-target.ensures.notes before (rest self) holds)) own has in
    noted_result c.args.notes.now c.find.new.notes c.change.new.notes (Ok (Some c.in_ok-made-in-Some.made)) (in_entry self.writer before self.space.0 update_type c.args.index.0 c.args.key.now (rest self)) (last self) up_to
    (subst (λ (s : Scope). NotesJudged c.find.new.notes c.change.new.notes (Ok (Some c.in_ok-made-in-Some.made)) (last s)) scope (noted_ok c.find.new.notes c.change.new.notes _ _ (last target.scope) (c.in_ok-made-in-Some.ensures.notes before own is_target fit bytes has)))

pub returns-in-None-clause-notes : goal.returns-in-None-clause-notes
unfolding updates
returns-in-None-clause-notes c = λ before holds.
    let self = c.args.self in
    let rest = λ (s : Scope) (schema : Schema) (primary : IndexDef) (entry : Option Indexed). update_found s.writer before s.space.0 c.args.index.0 c.args.base c.args.key.now c.args.operations.now schema primary entry in
    inr ((rw c.in-None.is at (c.in_ok-target.ensures.notes before (rest self) holds)) _ (adds_nothing c.find.new.notes))
