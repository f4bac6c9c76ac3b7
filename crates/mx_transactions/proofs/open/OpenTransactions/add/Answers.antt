use Rattle.std.proofs.Common.{◌≡◌, ◌++◌, Some, refl, sym, ◌∙◌, subst}
use Rattle.std.specs.Prelude.{slice_get}
use Rattle.std.proofs.lemmas.Result.{err_from_is_err_and}
use Rattle.mx_tracker.specs.Tracks.{ChangesReads}
use Rattle.mx_model.specs.RunAlone.{run_with}
use Rattle.mx_write.specs.Notes.{SpellsRead}
use Rattle.mx_transactions.specs.Open.{HasWritten, reads_made}
use Rattle.mx_transactions.proofs.WorkLaws.{added_table, comes_to, reads_dropped, zip_append}
use Rattle.mx_transactions.proofs.MoveLaws.{item_there, nothing_changes, some_same}
use Rattle.mx_transactions.proofs.open.OpenTransactions.add.Goals as goal

pub returns-in_err-take : goal.returns-in_err-take
returns-in_err-take c = λ before run answer write to has holds stands is runs spelled elsewhere outcome makes row size answer_row changes.
    let here = rw (sym c.self.view_is) at is in
    let p = err_from_is_err_and c.from_residual.result c.from_residual.ensures.1 in
    rw p.1 (has, refl, runs, rw (sym c.self.view_is, c.in_err-take.ensures.err) (nothing_changes _ c.args.slot has here))

pub invariant_of-self-in-Ok : goal.invariant_of-self-in-Ok
invariant_of-self-in-Ok c =
    let live = rw (sym c.self.view_is) at c.requires.live in
    let noted = rw c.number-2.ensures.value at c.in_ok-take.ensures.ok in
    added_table _ c.args.slot c.number-3.result c.add.new.self c.take.new.self c.self.invariant live c.number-3.ensures.value noted.others

pub invariant_of-self-in-Err : goal.invariant_of-self-in-Err
invariant_of-self-in-Err c =
    let live = rw (sym c.self.view_is) at c.requires.live in
    let noted = rw c.number-2.ensures.value at c.in_ok-take.ensures.ok in
    let dropped = rw c.number-in-Err.ensures.value at c.truncate.ensures in
    added_table _ c.args.slot c.number-3.result c.add.new.self c.truncate.new.self c.self.invariant live c.number-3.ensures.value
    (λ other differs. dropped.others other differs ∙ noted.others other differs)

pub returns-in-Ok : goal.returns-in-Ok
returns-in-Ok c = λ before run answer write to has holds stands is runs spelled elsewhere outcome makes row size answer_row changes.
    let here = rw (sym c.self.view_is) at is in
    let there : slice_get c.self.inside.works.items c.args.slot ≡ Some c.index_mut-work.result.now =
    item_there c.self.inside.works.items c.args.slot c.number-3.result c.index_mut-work.result.now c.number-3.ensures.value c.number-3.ensures.bounded c.self.invariant.whole c.index_mut-work.ensures.value in
    let same : has.work ≡ c.index_mut-work.result.now = some_same (sym here.work ∙ there) in
    let noted = rw c.number-2.ensures.value at c.in_ok-take.ensures.ok in
    let reads = subst (λ r. ChangesReads c.self.inside.tracker c.take.new.self c.args.slot (r ++ c.args.reads)) (sym here.reads) noted in
    rw (sym c.self.view_is)
    (comes_to _ c.args.slot c.number-3.result has c.add.new.self c.take.new.self (has.reads ++ c.args.reads) before (run_with run answer) here c.number-3.ensures.value reads
    (c.in-Ok.ensures before run answer write to holds stands (subst (HasWritten before run) same runs.written) elsewhere outcome makes row size answer_row changes)
    (zip_append SpellsRead has.reads (reads_made run.answers) c.args.reads answer.reads runs.reads spelled))

pub returns-in-Err : goal.returns-in-Err
returns-in-Err c = λ before run answer write to has holds stands is runs spelled elsewhere outcome makes row size answer_row changes.
    let here = rw (sym c.self.view_is) at is in
    let there : slice_get c.self.inside.works.items c.args.slot ≡ Some c.index_mut-work.result.now =
    item_there c.self.inside.works.items c.args.slot c.number-3.result c.index_mut-work.result.now c.number-3.ensures.value c.number-3.ensures.bounded c.self.invariant.whole c.index_mut-work.ensures.value in
    let same : has.work ≡ c.index_mut-work.result.now = some_same (sym here.work ∙ there) in
    let count = rw c.number.ensures.value at c.len-before.ensures in
    let noted = rw c.number-2.ensures.value at c.in_ok-take.ensures.ok in
    let dropped = rw c.number-in-Err.ensures.value at c.truncate.ensures in
    let reads = subst (ChangesReads c.self.inside.tracker c.truncate.new.self c.args.slot) (sym here.reads)
    (reads_dropped c.self.inside.tracker c.take.new.self c.truncate.new.self c.args.slot c.args.reads c.len-before.result noted count dropped) in
    rw (sym c.self.view_is)
    (comes_to _ c.args.slot c.number-3.result has c.add.new.self c.truncate.new.self has.reads before run here c.number-3.ensures.value reads
    (c.in-Err.ensures before run answer write to holds stands (subst (HasWritten before run) same runs.written) elsewhere outcome makes row size answer_row changes)
    runs.reads)
