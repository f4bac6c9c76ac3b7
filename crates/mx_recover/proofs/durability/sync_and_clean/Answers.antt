use Rattle.mx_outside.specs.Disks.{names_synced}
use Rattle.mx_recover.proofs.DurabilityLaws.{journals_come, drafts_come, makes_durable}
use Rattle.mx_images.proofs.MomentLaws.{makes_steps, steps_then}
use Rattle.mx_recover.specs.Turns.{OnlyCleans}
use Rattle.mx_recover.proofs.LeavingLaws.{names_clean}
use Rattle.mx_recover.proofs.durability.sync_and_clean.Goals as goal

pub sync_journals-requires : goal.sync_journals-requires
sync_journals-requires g c = journals_come _ _ c.requires

pub remove_drafts-requires : goal.remove_drafts-requires
remove_drafts-requires g c = drafts_come _ _ c.requires _ c.sync_journals.ensures.told c.in_ok-sync_journals.ensures.synced

pub returns-clause-durable : goal.returns-clause-durable
returns-clause-durable g c =
    makes_durable _ _ c.requires _ _ _ c.sync_names.result c.in_ok-sync_journals.ensures.synced c.in_ok-remove_drafts.ensures.removed c.sync_names.ensures.synced

pub returns-in_err-remove_drafts-clause-moments : goal.returns-in_err-remove_drafts-clause-moments
returns-in_err-remove_drafts-clause-moments g c = steps_then OnlyCleans _ _ _ c.sync_journals.ensures.moments c.remove_drafts.ensures.moments

pub returns-clause-moments : goal.returns-clause-moments
returns-clause-moments g c =
    steps_then OnlyCleans _ _ _ c.sync_journals.ensures.moments
    (steps_then OnlyCleans _ _ _ c.remove_drafts.ensures.moments (makes_steps OnlyCleans names_synced names_clean _ _ c.sync_names.result c.sync_names.ensures.synced))
