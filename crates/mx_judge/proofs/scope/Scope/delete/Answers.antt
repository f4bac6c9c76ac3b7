use Rattle.std.proofs.Common.{inr, subst}
use Rattle.std.specs.Prelude.{Option, Some, Ok, Err}
use Rattle.std.proofs.lemmas.Result.{err_from_is_err_and}
use Rattle.mx_schema.specs.declared.index_def.IndexDef.{IndexDef}
use Rattle.mx_schema.specs.declared.schema.Schema.{Schema}
use Rattle.mx_schema.specs.Picks.{Indexed}
use Rattle.mx_judge.specs.declared.scope.Scope.{Scope}
use Rattle.mx_write.specs.Delete.{delete_found, deletes}
use Rattle.mx_judge.specs.Makes.{JudgesFound}
use Rattle.mx_write.specs.Writes.{Delete}
use Rattle.mx_write.proofs.NoteLaws.{adds_nothing, as_result, delete_noted}
use Rattle.mx_judge.proofs.EntryStageLaws.{judged_by_found}
use Rattle.mx_judge.proofs.scope.Scope.delete.Goals as goal

pub returns-in_err-target-clause-judges : goal.returns-in_err-target-clause-judges
unfolding deletes
returns-in_err-target-clause-judges c = λ before holds.
    let p = err_from_is_err_and c.from_residual.result c.from_residual.ensures.1 in
    let self = c.args.self in
    let rest = λ (schema : Schema) (primary : IndexDef) (entry : Option Indexed). delete_found self.writer before self.space.0 c.args.index.0 c.args.key.now entry in
    rw (p.1, p.2) (c.in_err-target.ensures.judges before rest holds)

pub returns-in_err-remove-in-Some-clause-judges : goal.returns-in_err-remove-in-Some-clause-judges
unfolding deletes
returns-in_err-remove-in-Some-clause-judges c = λ before holds.
    let p = err_from_is_err_and c.from_residual-in_err-remove-in-Some.result c.from_residual-in_err-remove-in-Some.ensures.1 in
    let self = c.args.self in
    let target = c.in_ok-target.target in
    let write = Delete c.args.index.0 c.args.key.now in
    let why = c.in_err-remove-in-Some.field-0.0 in
    let rest = λ (s : Scope) (schema : Schema) (primary : IndexDef) (entry : Option Indexed). delete_found s.writer before s.space.0 c.args.index.0 c.args.key.now entry in
    let (scope, is_target, found) = c.in_ok-target.ensures.judges before (rest self) holds in
    let (own, reaches, fit, bytes, has) = rw c.in-Some.is at found in
    let last = λ (s : Scope). rest s target.schema.now target.primary.now (Some (own, c.in-Some.entry.tuple.now)) in
    rw (p.1, p.2) (judged_by_found before self.space.0 write (Err why) (deletes self.writer before self.space.0 c.args.index.0 c.args.key.now) (last self) reaches
    (subst (λ (s : Scope). JudgesFound before s.space.0 write (Err why) (last s)) scope (c.in_err-remove-in-Some.ensures before own is_target fit bytes has)))

pub returns-in_ok-remove-in-Some-clause-judges : goal.returns-in_ok-remove-in-Some-clause-judges
unfolding deletes
returns-in_ok-remove-in-Some-clause-judges c = λ before holds.
    let self = c.args.self in
    let target = c.in_ok-target.target in
    let write = Delete c.args.index.0 c.args.key.now in
    let made = c.in_ok-remove-in-Some.field-0 in
    let rest = λ (s : Scope) (schema : Schema) (primary : IndexDef) (entry : Option Indexed). delete_found s.writer before s.space.0 c.args.index.0 c.args.key.now entry in
    let (scope, is_target, found) = c.in_ok-target.ensures.judges before (rest self) holds in
    let (own, reaches, fit, bytes, has) = rw c.in-Some.is at found in
    let last = λ (s : Scope). rest s target.schema.now target.primary.now (Some (own, c.in-Some.entry.tuple.now)) in
    judged_by_found before self.space.0 write (Ok (Some made)) (deletes self.writer before self.space.0 c.args.index.0 c.args.key.now) (last self) reaches
    (subst (λ (s : Scope). JudgesFound before s.space.0 write (Ok (Some made)) (last s)) scope (c.in_ok-remove-in-Some.ensures before own is_target fit bytes has))

pub returns-in-None-clause-judges : goal.returns-in-None-clause-judges
unfolding deletes
returns-in-None-clause-judges c = λ before holds.
    let self = c.args.self in
    let rest = λ (schema : Schema) (primary : IndexDef) (entry : Option Indexed). delete_found self.writer before self.space.0 c.args.index.0 c.args.key.now entry in
    let (scope, target, found) = c.in_ok-target.ensures.judges before rest holds in
    rw c.in-None.is at found

pub returns-in_err-target-clause-notes : goal.returns-in_err-target-clause-notes
unfolding deletes
returns-in_err-target-clause-notes c = λ before holds.
    let p = err_from_is_err_and c.from_residual.result c.from_residual.ensures.1 in
    let self = c.args.self in
    let rest = λ (s : Scope) (schema : Schema) (primary : IndexDef) (entry : Option Indexed). delete_found s.writer before s.space.0 c.args.index.0 c.args.key.now entry in
    rw (p.1, p.2) (as_result c.in_err-target.field-0.0 (c.in_err-target.ensures.notes before (rest self) holds))

pub returns-in_err-remove-in-Some-clause-notes : goal.returns-in_err-remove-in-Some-clause-notes
unfolding deletes
returns-in_err-remove-in-Some-clause-notes c = λ before holds.
    let self = c.args.self in
    let target = c.in_ok-target.target in
    let rest = λ (s : Scope) (schema : Schema) (primary : IndexDef) (entry : Option Indexed). delete_found s.writer before s.space.0 c.args.index.0 c.args.key.now entry in
    let (scope, is_target, found) = c.in_ok-target.ensures.judges before (rest self) holds in
    let (own, reaches, fit, bytes, has) = rw c.in-Some.is at found in
    let last = λ (s : Scope). rest s target.schema.now target.primary.now (Some (own, c.in-Some.entry.tuple.now)) in
    let up_to = (rw c.in-Some.is at (c.in_ok-target.ensures.notes before (rest self) holds)) own has in
    inr (up_to _ (delete_noted self.writer before self.space.0 c.args.index.0 c.args.key.now (Some (own, c.in-Some.entry.tuple.now)) c.find.new.notes))

pub returns-in_ok-remove-in-Some-clause-notes : goal.returns-in_ok-remove-in-Some-clause-notes
unfolding deletes
returns-in_ok-remove-in-Some-clause-notes c = λ before holds.
    let self = c.args.self in
    let target = c.in_ok-target.target in
    let rest = λ (s : Scope) (schema : Schema) (primary : IndexDef) (entry : Option Indexed). delete_found s.writer before s.space.0 c.args.index.0 c.args.key.now entry in
    let (scope, is_target, found) = c.in_ok-target.ensures.judges before (rest self) holds in
    let (own, reaches, fit, bytes, has) = rw c.in-Some.is at found in
    let last = λ (s : Scope). rest s target.schema.now target.primary.now (Some (own, c.in-Some.entry.tuple.now)) in
    let up_to = (rw c.in-Some.is at (c.in_ok-target.ensures.notes before (rest self) holds)) own has in
    inr (up_to _ (delete_noted self.writer before self.space.0 c.args.index.0 c.args.key.now (Some (own, c.in-Some.entry.tuple.now)) c.find.new.notes))

pub returns-in-None-clause-notes : goal.returns-in-None-clause-notes
unfolding deletes
returns-in-None-clause-notes c = λ before holds.
    let self = c.args.self in
    let rest = λ (s : Scope) (schema : Schema) (primary : IndexDef) (entry : Option Indexed). delete_found s.writer before s.space.0 c.args.index.0 c.args.key.now entry in
    inr ((rw c.in-None.is at (c.in_ok-target.ensures.notes before (rest self) holds)) _ (adds_nothing c.find.new.notes))
