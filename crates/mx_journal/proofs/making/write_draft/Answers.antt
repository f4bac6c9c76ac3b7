use Rattle.mx_outside.specs.Disks.{created}
use Rattle.mx_images.specs.Changes.{KeepsOthers, with_appended}
use Rattle.mx_images.proofs.MomentLaws.{may_make_steps, steps_then}
use Rattle.mx_images.proofs.OtherLaws.{append_others, created_others}
use Rattle.mx_images.proofs.ToldLaws.{became_changed, then_changed, told_after, told_nothing}
use Rattle.mx_journal.proofs.CallLaws.{drafting_begun, drafting_done, drafting_failed}
use Rattle.mx_images.proofs.DiskLaws.{has, there_created}
use Rattle.mx_journal.proofs.making.write_draft.Goals as goal

pub append_synced-requires : goal.append_synced-requires
append_synced-requires g c =
    let name = c.args.name.now in
    told_after (created name) (g.D.Dir.states c.args.dir.now) (g.D.Dir.states c.create.new.self) (λ disk. Unit {0}) (has name) c.in_ok-create.ensures.told
    (became_changed (created name) _ _ c.in_ok-create.ensures.made) (told_nothing _) (there_created name)

pub returns-clause-made : goal.returns-clause-made
returns-clause-made g c =
    let name = c.args.name.now in
    then_changed (created name) (with_appended name c.args.bytes.now) (g.D.Dir.states c.args.dir.now) (g.D.Dir.states c.create.new.self) (g.D.Dir.states c.append_synced.new.dir)
    (became_changed (created name) _ _ c.in_ok-create.ensures.made) c.in_ok-append_synced.ensures.made

pub returns-in_err-create-clause-moments : goal.returns-in_err-create-clause-moments
returns-in_err-create-clause-moments g c =
    drafting_begun c.args.name.now (g.D.Dir.states c.args.dir.now) (g.D.Dir.states c.create.new.self) c.requires c.in_err-create.ensures.made

pub returns-in_err-append_synced-clause-moments : goal.returns-in_err-append_synced-clause-moments
returns-in_err-append_synced-clause-moments g c =
    drafting_failed c.args.name.now c.args.bytes.now (g.D.Dir.states c.args.dir.now) (g.D.Dir.states c.create.new.self) (g.D.Dir.states c.append_synced.new.dir)
    c.requires c.in_ok-create.ensures.made c.in_err-append_synced.ensures.states

pub returns-clause-moments : goal.returns-clause-moments
returns-clause-moments g c =
    drafting_done c.args.name.now c.args.bytes.now (g.D.Dir.states c.args.dir.now) (g.D.Dir.states c.create.new.self) (g.D.Dir.states c.append_synced.new.dir)
    c.requires c.in_ok-create.ensures.made c.in_ok-append_synced.ensures.states

pub returns-in_err-create-clause-others : goal.returns-in_err-create-clause-others
returns-in_err-create-clause-others g c = λ ours.
    let name = c.args.name.now in
    may_make_steps KeepsOthers (created name) (λ disk. created_others name disk ours c.requires) _ _ c.create.result c.create.ensures.made

pub returns-in_err-append_synced-clause-others : goal.returns-in_err-append_synced-clause-others
returns-in_err-append_synced-clause-others g c = λ ours.
    let name = c.args.name.now in
    steps_then KeepsOthers _ _ _
    (may_make_steps KeepsOthers (created name) (λ disk. created_others name disk ours c.requires) _ _ c.create.result c.create.ensures.made)
    (append_others name c.args.bytes.now _ _ c.append_synced.result ours c.append_synced.ensures.states)

pub returns-clause-others : goal.returns-clause-others
returns-clause-others g c = λ ours.
    let name = c.args.name.now in
    steps_then KeepsOthers _ _ _
    (may_make_steps KeepsOthers (created name) (λ disk. created_others name disk ours c.requires) _ _ c.create.result c.create.ensures.made)
    (append_others name c.args.bytes.now _ _ c.append_synced.result ours c.append_synced.ensures.states)
