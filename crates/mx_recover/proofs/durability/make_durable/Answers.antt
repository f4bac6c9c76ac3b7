use Rattle.std.specs.Prelude.{OnOk}
use mathlib.Core.Path.{subst}
use Rattle.mx_outside.specs.Disks.{IfKnown}
use Rattle.mx_images.specs.Changes.{IsNow, KeepsOthers, SameContents}
use Rattle.mx_images.proofs.MomentLaws.{Steps, steps_same}
use Rattle.mx_images.proofs.ToldLaws.{told_chain, told_same}
use Rattle.mx_recover.specs.Durability.{MadeDurable}
use Rattle.mx_recover.specs.Turns.{OnlyCleans}
use Rattle.mx_recover.proofs.LeavingLaws.{clean_leaves, clean_others, clean_reads, same_leaves}
use Rattle.mx_recover.proofs.durability.make_durable.Goals as goal

pub returns-in_err-names-clause-told : goal.returns-in_err-names-clause-told
returns-in_err-names-clause-told g c = told_same _ _ c.list.ensures.states

pub returns-in_err-names-clause-moments : goal.returns-in_err-names-clause-moments
returns-in_err-names-clause-moments g c = same_leaves _ _ c.list.ensures.states

pub returns-clause-told : goal.returns-clause-told
returns-clause-told g c = told_chain _ _ _ (told_same _ _ c.list.ensures.states) c.sync_and_clean.ensures.told

pub returns-clause-durable : goal.returns-clause-durable
returns-clause-durable g c =
    subst (λ states. IfKnown states (λ disk past. OnOk c.sync_and_clean.result (IsNow (g.D.Dir.states c.sync_and_clean.new.dir) (MadeDurable disk))))
    c.list.ensures.states c.sync_and_clean.ensures.durable

pub returns-clause-moments : goal.returns-clause-moments
returns-clause-moments g c =
    clean_leaves _ _ (subst (λ states. Steps OnlyCleans states (g.D.Dir.states c.sync_and_clean.new.dir)) c.list.ensures.states c.sync_and_clean.ensures.moments)

pub returns-in_err-names-clause-others : goal.returns-in_err-names-clause-others
returns-in_err-names-clause-others g c = steps_same KeepsOthers _ _ c.list.ensures.states

pub returns-clause-others : goal.returns-clause-others
returns-clause-others g c =
    clean_others _ _ (subst (λ states. Steps OnlyCleans states (g.D.Dir.states c.sync_and_clean.new.dir)) c.list.ensures.states c.sync_and_clean.ensures.moments)

pub returns-in_err-names-clause-reads : goal.returns-in_err-names-clause-reads
returns-in_err-names-clause-reads g c = steps_same (λ older newer. SameContents older.now newer.now) _ _ c.list.ensures.states

pub returns-clause-reads : goal.returns-clause-reads
returns-clause-reads g c =
    clean_reads _ _ (subst (λ states. Steps OnlyCleans states (g.D.Dir.states c.sync_and_clean.new.dir)) c.list.ensures.states c.sync_and_clean.ensures.moments)
