-- All that a ready server committed is durable.
use Rattle.std.proofs.Common.{◌≡◌, ◌≤◌, List, [], ◌∷◌, ◌++◌, length, take, refl, ap, ◌∙◌, sym, subst, arith, length-append}
use Rattle.std.specs.Prelude.{Option}
use Rattle.std.proofs.lemmas.List.{take_all}
use Rattle.mx_outside.specs.Disks.{Disk, IfKnown}
use Rattle.mx_model.specs.Bases.{Base}
use Rattle.mx_model.specs.Histories.{History, Asked, Left, Took, Confirmed, Looked, journal_of}
use Rattle.mx_serial.specs.Replies.{told_by, told_in}
use Rattle.mx_engine.specs.declared.engine.Engine.{Engine}
use Rattle.mx_journal.specs.declared.journal.Journal.{Journal}
use Rattle.mx_store.specs.Stores.{StepsSurvive, taken_of}
use Rattle.mx_directory.specs.Survival.{Survive, Lasts}
use Rattle.mx_node.specs.Ready.{Ready}
use Rattle.mx_store.proofs.StoreLaws.{journal_keeps, keep_longer, keep_on}

pub ready_keeps : (base : Base) (history : History) (engine : Engine) (journal : Journal) (states : Option (List Disk))
    → Ready base history engine journal states → StepsSurvive base history history states
ready_keeps base history engine journal states ready = λ origin transactions all.
    let commits = journal_of base history in
    let taken : taken_of base history ≡ commits = ap (λ n. take n commits) ready.taken ∙ take_all (length commits) commits (omega arith) in
    subst (λ txs. IfKnown states (λ disk past. Survive origin transactions (length (all.earlier ++ txs)) disk)) taken
    (journal_keeps base history journal states ready.behind.stands.legal ready.behind.has origin transactions all)

-- ---- steps without a reply

-- a longer history has no fewer replies
replies_grow : (base : Base) (more history : History) → length (told_in base history) ≤ length (told_in base (more ++ history))
replies_grow base [] history = omega arith
replies_grow base (entry ∷ more) history =
    let fewer = replies_grow base more history in
    let parts = length-append (told_in base (more ++ history)) (told_by base entry (more ++ history)) in
    omega arith

-- steps without a reply commit nothing
no_reply_no_commit : (base : Base) (more history : History) → length (told_in base (more ++ history)) ≤ length (told_in base history)
    → journal_of base (more ++ history) ≡ journal_of base history
no_reply_no_commit base [] history few = refl
no_reply_no_commit base (Asked name ask reply ∷ more) history few =
    let grow = replies_grow base more history in
    let parts = length-append (told_in base (more ++ history)) (told_by base (Asked name ask reply) (more ++ history)) in
    absurd (omega arith)
no_reply_no_commit base (Left connection ∷ more) history few =
    let parts = length-append (told_in base (more ++ history)) [] in
    no_reply_no_commit base more history (omega arith)
no_reply_no_commit base (Took transactions upto ∷ more) history few =
    let parts = length-append (told_in base (more ++ history)) [] in
    no_reply_no_commit base more history (omega arith)
no_reply_no_commit base (Confirmed upto ∷ more) history few =
    let parts = length-append (told_in base (more ++ history)) [] in
    no_reply_no_commit base more history (omega arith)
no_reply_no_commit base (Looked ∷ more) history few =
    let parts = length-append (told_in base (more ++ history)) [] in
    no_reply_no_commit base more history (omega arith)

-- so all that was committed still is durable after them
pub keep_unreplied : (base : Base) (more history : History) (old new : Option (List Disk)) → told_in base (more ++ history) ≡ told_in base history
    → StepsSurvive base history history old → Lasts base (more ++ history) old new → StepsSurvive base (more ++ history) (more ++ history) new
keep_unreplied base more history old new told keep lasts = λ origin transactions all.
    let few = ap length told in
    let same : journal_of base (more ++ history) ≡ journal_of base history = no_reply_no_commit base more history (omega arith) in
    let kept = keep_on base (more ++ history) history old new (keep_longer base more history history old keep) lasts in
    subst (λ txs. IfKnown new (λ disk past. Survive origin transactions (length (all.earlier ++ txs)) disk)) (sym same) (kept origin transactions all)
