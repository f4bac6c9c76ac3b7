use Rattle.std.proofs.lemmas.Result.{err_from_is_err_and}
use Rattle.mx_outside.specs.Disks.{appended, file_synced}
use Rattle.mx_images.specs.Changes.{with_appended}
use Rattle.mx_images.proofs.ToldLaws.{became_changed, then_changed, told_after, told_chain}
use Rattle.mx_journal.proofs.CallLaws.{not_synced}
use Rattle.mx_images.proofs.DiskLaws.{has, there_appended, there_extended}
use Rattle.mx_journal.proofs.making.append_synced.Goals as goal

pub sync-requires : goal.sync-requires
sync-requires g c =
    let name = c.args.name.now in
    let bytes = c.args.bytes.now in
    told_after (appended name bytes) (g.D.Dir.states c.args.dir.now) (g.D.Dir.states c.append.new.self) (has name) (has name) c.in_ok-append.ensures.told
    (became_changed (appended name bytes) _ _ c.in_ok-append.ensures.bytes) c.requires (there_appended name bytes)

pub returns-in_err-sync-clause-states : goal.returns-in_err-sync-clause-states
returns-in_err-sync-clause-states g c =
    let p = err_from_is_err_and c.from_residual-in_err-sync.result c.from_residual-in_err-sync.ensures.1 in
    rw p.1
    (not_synced c.args.name.now c.args.bytes.now (g.D.Dir.states c.args.dir.now) (g.D.Dir.states c.append.new.self) (g.D.Dir.states c.sync.new.self)
    c.in_ok-append.ensures.bytes c.in_err-sync.ensures.synced)

pub returns-clause-made : goal.returns-clause-made
returns-clause-made g c =
    let name = c.args.name.now in
    let bytes = c.args.bytes.now in
    then_changed (appended name bytes) (file_synced name) (g.D.Dir.states c.args.dir.now) (g.D.Dir.states c.append.new.self) (g.D.Dir.states c.sync.new.self)
    (became_changed (appended name bytes) _ _ c.in_ok-append.ensures.bytes) (became_changed (file_synced name) _ _ c.in_ok-sync.ensures.synced)

pub returns-clause-there : goal.returns-clause-there
returns-clause-there g c =
    let name = c.args.name.now in
    let bytes = c.args.bytes.now in
    let before = g.D.Dir.states c.args.dir.now in
    let middle = g.D.Dir.states c.append.new.self in
    let after = g.D.Dir.states c.sync.new.self in
    told_after (with_appended name bytes) before after (has name) (has name) (told_chain before middle after c.in_ok-append.ensures.told c.in_ok-sync.ensures.told)
    (then_changed (appended name bytes) (file_synced name) before middle after
    (became_changed (appended name bytes) _ _ c.in_ok-append.ensures.bytes) (became_changed (file_synced name) _ _ c.in_ok-sync.ensures.synced))
    c.requires (there_extended name bytes)
