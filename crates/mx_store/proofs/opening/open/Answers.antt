use Rattle.std.proofs.Common.{[], length, Ok, refl}
use Rattle.std.specs.Prelude.{⊤}
use Rattle.std.proofs.lemmas.List.{append-nil}
use Rattle.mx_images.specs.Changes.{KeepsOthers}
use Rattle.mx_images.proofs.MomentLaws.{joined, steps_same, steps_then}
use Rattle.mx_images.proofs.ToldLaws.{told_chain, told_same}
use Rattle.mx_directory.specs.Survival.{ReadsMost, Survive, NoFewerSurvive}
use Rattle.mx_directory.proofs.ReadLaws.{survivors_read}
use Rattle.mx_recover.specs.declared.fault.RecoverFault.{RecoverFault}
use Rattle.mx_store.proofs.OpenLaws.{durable_at, opens}
use Rattle.mx_store.proofs.RecoveryLaws.{durable_reads, unchanged_reads, unchanged_survive, left_survive, made_durable_after, some_survive}
use Rattle.mx_store.proofs.opening.open.Goals as goal

pub begin-requires-clause-durable : goal.begin-requires-clause-durable
begin-requires-clause-durable g c =
    let reached = c.in_ok-reached.ensures.stands in (
      reached.0,
      durable_at c.in_ok-reached.reached reached.0 _ _ _ reached.1 reached.2 c.recover.ensures.states c.make_durable.ensures.told c.in_ok-make_durable.ensures.durable,
    )

pub returns-in-Ok-clause-opened : goal.returns-in-Ok-clause-opened
returns-in-Ok-clause-opened g c =
    let reached = c.in_ok-reached.ensures.stands in
    opens {E = RecoverFault} (Ok c.in-Ok.opened) c.args.ids.now reached.0 _ _ _ refl reached.2
    (c.in-Ok.ensures.ready reached.0
    (durable_at c.in_ok-reached.reached reached.0 _ _ _ reached.1 reached.2 c.recover.ensures.states c.make_durable.ensures.told c.in_ok-make_durable.ensures.durable))

pub returns-in_err-reached-clause-moments : goal.returns-in_err-reached-clause-moments
returns-in_err-reached-clause-moments g c = λ origin earlier transactions recovers front follow.
    unchanged_survive origin transactions _ _ c.recover.ensures.states

pub returns-in_err-make_durable-clause-moments : goal.returns-in_err-make_durable-clause-moments
returns-in_err-make_durable-clause-moments g c = λ origin earlier transactions recovers front follow.
    left_survive earlier transactions _ _ _ front c.recover.ensures.states recovers c.make_durable.ensures.moments

pub returns-in-Ok-clause-moments : goal.returns-in-Ok-clause-moments
returns-in-Ok-clause-moments g c = λ origin earlier transactions recovers front follow.
    let reached = c.in_ok-reached.ensures.stands in
    let durable = durable_at c.in_ok-reached.reached reached.0 _ _ _ reached.1 reached.2 c.recover.ensures.states c.make_durable.ensures.told
    c.in_ok-make_durable.ensures.durable in
    joined (Survive origin transactions 0) (NoFewerSurvive origin transactions) _ _ _
    (left_survive earlier transactions _ _ _ front c.recover.ensures.states recovers c.make_durable.ensures.moments)
    (some_survive origin transactions (length earlier) _ _
    (c.begin.ensures.moments reached.0 origin earlier transactions durable
    (made_durable_after earlier c.in_ok-reached.reached reached.0 _ _ _ _ refl c.recover.ensures.states c.make_durable.ensures.told recovers
    reached.2 durable)
    front follow))

pub returns-in_err-reached-clause-told : goal.returns-in_err-reached-clause-told
returns-in_err-reached-clause-told g c = told_same _ _ c.recover.ensures.states

pub returns-in_err-make_durable-clause-told : goal.returns-in_err-make_durable-clause-told
returns-in_err-make_durable-clause-told g c = told_chain _ _ _ (told_same _ _ c.recover.ensures.states) c.make_durable.ensures.told

pub returns-in-Ok-clause-told : goal.returns-in-Ok-clause-told
returns-in-Ok-clause-told g c =
    told_chain _ _ _ (told_chain _ _ _ (told_same _ _ c.recover.ensures.states) c.make_durable.ensures.told) c.begin.ensures.told

pub returns-in-Err-Failed-clause-moments : goal.returns-in-Err-Failed-clause-moments
returns-in-Err-Failed-clause-moments g c = λ origin earlier transactions recovers front follow.
    let reached = c.in_ok-reached.ensures.stands in
    let durable = durable_at c.in_ok-reached.reached reached.0 _ _ _ reached.1 reached.2 c.recover.ensures.states c.make_durable.ensures.told
    c.in_ok-make_durable.ensures.durable in
    joined (Survive origin transactions 0) (NoFewerSurvive origin transactions) _ _ _
    (left_survive earlier transactions _ _ _ front c.recover.ensures.states recovers c.make_durable.ensures.moments)
    (some_survive origin transactions (length earlier) _ _
    (c.begin.ensures.moments reached.0 origin earlier transactions durable
    (made_durable_after earlier c.in_ok-reached.reached reached.0 _ _ _ _ refl c.recover.ensures.states c.make_durable.ensures.told recovers
    reached.2 durable)
    front follow))

pub returns-in-Err-Failed-clause-told : goal.returns-in-Err-Failed-clause-told
returns-in-Err-Failed-clause-told g c =
    told_chain _ _ _ (told_chain _ _ _ (told_same _ _ c.recover.ensures.states) c.make_durable.ensures.told) c.begin.ensures.told

pub returns-in-Err-NoMemory-clause-moments : goal.returns-in-Err-NoMemory-clause-moments
returns-in-Err-NoMemory-clause-moments g c = λ origin earlier transactions recovers front follow.
    let reached = c.in_ok-reached.ensures.stands in
    let durable = durable_at c.in_ok-reached.reached reached.0 _ _ _ reached.1 reached.2 c.recover.ensures.states c.make_durable.ensures.told
    c.in_ok-make_durable.ensures.durable in
    joined (Survive origin transactions 0) (NoFewerSurvive origin transactions) _ _ _
    (left_survive earlier transactions _ _ _ front c.recover.ensures.states recovers c.make_durable.ensures.moments)
    (some_survive origin transactions (length earlier) _ _
    (c.begin.ensures.moments reached.0 origin earlier transactions durable
    (made_durable_after earlier c.in_ok-reached.reached reached.0 _ _ _ _ refl c.recover.ensures.states c.make_durable.ensures.told recovers
    reached.2 durable)
    front follow))

pub returns-in-Err-NoMemory-clause-told : goal.returns-in-Err-NoMemory-clause-told
returns-in-Err-NoMemory-clause-told g c =
    told_chain _ _ _ (told_chain _ _ _ (told_same _ _ c.recover.ensures.states) c.make_durable.ensures.told) c.begin.ensures.told

pub returns-in_err-reached-clause-others : goal.returns-in_err-reached-clause-others
returns-in_err-reached-clause-others g c = steps_same KeepsOthers _ _ c.recover.ensures.states

pub returns-in_err-make_durable-clause-others : goal.returns-in_err-make_durable-clause-others
returns-in_err-make_durable-clause-others g c =
    steps_then KeepsOthers _ _ _ (steps_same KeepsOthers _ _ c.recover.ensures.states) c.make_durable.ensures.others

pub returns-in-Ok-clause-others : goal.returns-in-Ok-clause-others
returns-in-Ok-clause-others g c =
    steps_then KeepsOthers _ _ _
    (steps_then KeepsOthers _ _ _ (steps_same KeepsOthers _ _ c.recover.ensures.states) c.make_durable.ensures.others) c.begin.ensures.others

pub returns-in-Err-Failed-clause-others : goal.returns-in-Err-Failed-clause-others
returns-in-Err-Failed-clause-others g c =
    steps_then KeepsOthers _ _ _
    (steps_then KeepsOthers _ _ _ (steps_same KeepsOthers _ _ c.recover.ensures.states) c.make_durable.ensures.others) c.begin.ensures.others

pub returns-in-Err-NoMemory-clause-others : goal.returns-in-Err-NoMemory-clause-others
returns-in-Err-NoMemory-clause-others g c =
    steps_then KeepsOthers _ _ _
    (steps_then KeepsOthers _ _ _ (steps_same KeepsOthers _ _ c.recover.ensures.states) c.make_durable.ensures.others) c.begin.ensures.others

pub returns-in_err-reached-clause-reads : goal.returns-in_err-reached-clause-reads
returns-in_err-reached-clause-reads g c = λ origin earlier transactions recovers front follow.
    unchanged_reads origin transactions _ _ c.recover.ensures.states

pub returns-in_err-make_durable-clause-reads : goal.returns-in_err-make_durable-clause-reads
returns-in_err-make_durable-clause-reads g c = λ origin earlier transactions recovers front follow.
    durable_reads earlier transactions _ _ _ front c.recover.ensures.states recovers c.make_durable.ensures.moments c.make_durable.ensures.reads

pub returns-in-Ok-clause-reads : goal.returns-in-Ok-clause-reads
returns-in-Ok-clause-reads g c = λ origin earlier transactions recovers front follow.
    let reached = c.in_ok-reached.ensures.stands in
    let durable = durable_at c.in_ok-reached.reached reached.0 _ _ _ reached.1 reached.2 c.recover.ensures.states c.make_durable.ensures.told
    c.in_ok-make_durable.ensures.durable in
    joined (ReadsMost origin transactions) (λ older newer. ⊤) _ _ _
    (durable_reads earlier transactions _ _ _ front c.recover.ensures.states recovers c.make_durable.ensures.moments c.make_durable.ensures.reads)
    (survivors_read origin earlier transactions _ _ front
    (c.begin.ensures.moments reached.0 origin earlier earlier durable
    (made_durable_after earlier c.in_ok-reached.reached reached.0 _ _ _ _ refl c.recover.ensures.states c.make_durable.ensures.told recovers
    reached.2 durable)
    ([], append-nil earlier) recovers.follow))

pub returns-in-Err-Failed-clause-reads : goal.returns-in-Err-Failed-clause-reads
returns-in-Err-Failed-clause-reads g c = λ origin earlier transactions recovers front follow.
    let reached = c.in_ok-reached.ensures.stands in
    let durable = durable_at c.in_ok-reached.reached reached.0 _ _ _ reached.1 reached.2 c.recover.ensures.states c.make_durable.ensures.told
    c.in_ok-make_durable.ensures.durable in
    joined (ReadsMost origin transactions) (λ older newer. ⊤) _ _ _
    (durable_reads earlier transactions _ _ _ front c.recover.ensures.states recovers c.make_durable.ensures.moments c.make_durable.ensures.reads)
    (survivors_read origin earlier transactions _ _ front
    (c.begin.ensures.moments reached.0 origin earlier earlier durable
    (made_durable_after earlier c.in_ok-reached.reached reached.0 _ _ _ _ refl c.recover.ensures.states c.make_durable.ensures.told recovers
    reached.2 durable)
    ([], append-nil earlier) recovers.follow))

pub returns-in-Err-NoMemory-clause-reads : goal.returns-in-Err-NoMemory-clause-reads
returns-in-Err-NoMemory-clause-reads g c = λ origin earlier transactions recovers front follow.
    let reached = c.in_ok-reached.ensures.stands in
    let durable = durable_at c.in_ok-reached.reached reached.0 _ _ _ reached.1 reached.2 c.recover.ensures.states c.make_durable.ensures.told
    c.in_ok-make_durable.ensures.durable in
    joined (ReadsMost origin transactions) (λ older newer. ⊤) _ _ _
    (durable_reads earlier transactions _ _ _ front c.recover.ensures.states recovers c.make_durable.ensures.moments c.make_durable.ensures.reads)
    (survivors_read origin earlier transactions _ _ front
    (c.begin.ensures.moments reached.0 origin earlier earlier durable
    (made_durable_after earlier c.in_ok-reached.reached reached.0 _ _ _ _ refl c.recover.ensures.states c.make_durable.ensures.told recovers
    reached.2 durable)
    ([], append-nil earlier) recovers.follow))
