use Rattle.std.proofs.Common.{◌++◌, sym, ap, ◌∙◌}
use Rattle.std.proofs.lemmas.Result.{err_from_is_err_and}
use Rattle.mx_files.specs.Names.{draft_ending, counts, is_ours}
use Rattle.mx_images.specs.Changes.{KeepsOthers}
use Rattle.mx_images.proofs.MomentLaws.{steps_then}
use Rattle.mx_images.proofs.OtherLaws.{rename_others}
use Rattle.mx_journal.proofs.MakeLaws.{draft_counts, drafted_header, drafts_may, made_moments, failed_moments, there_now}
use Rattle.mx_images.proofs.ToldLaws.{made_changed, told_nothing}
use Rattle.mx_journal.proofs.making.make_file.Goals as goal

pub returns-clause-made : goal.returns-clause-made
returns-clause-made g c =
    made_changed (c.args.name.now ++ draft_ending) c.as_str.result.now c.as_str-2.result.now c.args.name.now c.args.bytes.now
    (g.D.Dir.states c.args.dir.now) (g.D.Dir.states c.write_draft.new.dir) (g.D.Dir.states c.rename_durably.new.dir)
    (c.as_str.ensures.value ∙ c.in_ok-draft.ensures) (c.as_str-2.ensures.value ∙ c.in_ok-draft.ensures) c.in_ok-write_draft.ensures.made c.in_ok-rename_durably.ensures.made

pub write_draft-requires : goal.write_draft-requires
write_draft-requires g c = ap counts (c.as_str.ensures.value ∙ c.in_ok-draft.ensures) ∙ draft_counts c.args.name.now

pub returns-in_err-write_draft-clause-moments : goal.returns-in_err-write_draft-clause-moments
returns-in_err-write_draft-clause-moments g c =
    drafts_may c.args.name.now c.args.bytes.now (g.D.Dir.states c.args.dir.now) (g.D.Dir.states c.write_draft.new.dir) c.in_err-write_draft.ensures.moments

pub returns-in_err-rename_durably-clause-moments : goal.returns-in_err-rename_durably-clause-moments
returns-in_err-rename_durably-clause-moments g c =
    failed_moments c.as_str.result.now c.as_str-2.result.now c.args.name.now c.args.bytes.now
    (g.D.Dir.states c.args.dir.now) (g.D.Dir.states c.write_draft.new.dir) (g.D.Dir.states c.rename_durably.new.dir)
    (c.as_str.ensures.value ∙ c.in_ok-draft.ensures) (c.as_str-2.ensures.value ∙ c.in_ok-draft.ensures)
    c.in_ok-write_draft.ensures.told c.in_ok-write_draft.ensures.made c.in_ok-write_draft.ensures.moments c.in_err-rename_durably.ensures.states

pub returns-clause-moments : goal.returns-clause-moments
returns-clause-moments g c =
    made_moments c.as_str.result.now c.as_str-2.result.now c.args.name.now c.args.bytes.now
    (g.D.Dir.states c.args.dir.now) (g.D.Dir.states c.write_draft.new.dir) (g.D.Dir.states c.rename_durably.new.dir)
    (c.as_str.ensures.value ∙ c.in_ok-draft.ensures) (c.as_str-2.ensures.value ∙ c.in_ok-draft.ensures)
    c.in_ok-write_draft.ensures.told c.in_ok-write_draft.ensures.made c.in_ok-write_draft.ensures.moments c.in_ok-rename_durably.ensures.states

pub returns-clause-there : goal.returns-clause-there
returns-clause-there g c = λ counting.
    there_now c.args.name.now c.args.bytes.now (g.D.Dir.states c.args.dir.now) (g.D.Dir.states c.rename_durably.new.dir) counting
    (made_changed (c.args.name.now ++ draft_ending) c.as_str.result.now c.as_str-2.result.now c.args.name.now c.args.bytes.now
    (g.D.Dir.states c.args.dir.now) (g.D.Dir.states c.write_draft.new.dir) (g.D.Dir.states c.rename_durably.new.dir)
    (c.as_str.ensures.value ∙ c.in_ok-draft.ensures) (c.as_str-2.ensures.value ∙ c.in_ok-draft.ensures) c.in_ok-write_draft.ensures.made c.in_ok-rename_durably.ensures.made)

pub returns-in_err-write_draft-clause-others : goal.returns-in_err-write_draft-clause-others
returns-in_err-write_draft-clause-others g c = λ head is ours its. c.write_draft.ensures.others (ap is_ours (c.as_str.ensures.value ∙ c.in_ok-draft.ensures) ∙ its)

pub returns-in_err-rename_durably-clause-others : goal.returns-in_err-rename_durably-clause-others
returns-in_err-rename_durably-clause-others g c = λ head is ours its.
    steps_then KeepsOthers _ _ _ (c.write_draft.ensures.others (ap is_ours (c.as_str.ensures.value ∙ c.in_ok-draft.ensures) ∙ its))
    (rename_others c.as_str-2.result.now c.args.name.now _ _ c.rename_durably.result
    (ap is_ours (c.as_str-2.ensures.value ∙ c.in_ok-draft.ensures) ∙ its) ours
    (ap counts (c.as_str-2.ensures.value ∙ c.in_ok-draft.ensures) ∙ draft_counts c.args.name.now) head
    (drafted_header c.as_str.result.now c.as_str-2.result.now c.args.bytes.now _ _ head is
    (c.as_str.ensures.value ∙ sym c.as_str-2.ensures.value) c.in_ok-write_draft.ensures.told c.in_ok-write_draft.ensures.made)
    c.rename_durably.ensures.states)

pub returns-clause-others : goal.returns-clause-others
returns-clause-others g c = λ head is ours its.
    steps_then KeepsOthers _ _ _ (c.write_draft.ensures.others (ap is_ours (c.as_str.ensures.value ∙ c.in_ok-draft.ensures) ∙ its))
    (rename_others c.as_str-2.result.now c.args.name.now _ _ c.rename_durably.result
    (ap is_ours (c.as_str-2.ensures.value ∙ c.in_ok-draft.ensures) ∙ its) ours
    (ap counts (c.as_str-2.ensures.value ∙ c.in_ok-draft.ensures) ∙ draft_counts c.args.name.now) head
    (drafted_header c.as_str.result.now c.as_str-2.result.now c.args.bytes.now _ _ head is
    (c.as_str.ensures.value ∙ sym c.as_str-2.ensures.value) c.in_ok-write_draft.ensures.told c.in_ok-write_draft.ensures.made)
    c.rename_durably.ensures.states)

pub returns-in_err-write_draft-clause-there : goal.returns-in_err-write_draft-clause-there
returns-in_err-write_draft-clause-there g c = λ counting.
    let failed = err_from_is_err_and c.from_residual-in_err-write_draft.result c.from_residual-in_err-write_draft.ensures.1 in
    rw failed.1 (told_nothing (g.D.Dir.states c.args.dir.now))

pub returns-in_err-rename_durably-clause-there : goal.returns-in_err-rename_durably-clause-there
returns-in_err-rename_durably-clause-there g c = λ counting.
    let failed = err_from_is_err_and c.from_residual-in_err-rename_durably.result c.from_residual-in_err-rename_durably.ensures.1 in
    rw failed.1 (told_nothing (g.D.Dir.states c.args.dir.now))
