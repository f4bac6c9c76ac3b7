use Rattle.std.proofs.Common.{ap, map, refl, ◌∙◌, arith}
use Rattle.std.specs.String.{string_bytes}
use Rattle.std.proofs.lemmas.List.{nil_from_length}
use Rattle.mx_outside.specs.Disks.{file_synced}
use Rattle.mx_files.specs.Names.{is_journal}
use Rattle.mx_recover.proofs.PassingLaws.{begins, is_there, goes_on, ends}
use Rattle.mx_images.proofs.MomentLaws.{steps_none, steps_then}
use Rattle.mx_recover.specs.Turns.{OnlyCleans}
use Rattle.mx_recover.proofs.durability.sync_journals.Goals as goal

pub loop-name-init : goal.loop-name-init
loop-name-init g c = record { later = omega arith; quiet = refl; way = begins is_journal file_synced _ _ c.requires; moments = steps_none OnlyCleans (g.D.Dir.states c.args.dir.now) }

pub sync_if_journal-requires : goal.sync_if_journal-requires
sync_if_journal-requires g c =
    is_there is_journal file_synced _ _ _ _ _ _ _ (ap (map string_bytes) c.in-Some.ensures.cases.0) c.deref.ensures c.loop-name.invariant.way

pub loop-name-preserved : goal.loop-name-preserved
loop-name-preserved g c = record {
  later = omega arith;
  quiet = c.in_ok-sync_if_journal.ensures.cause.done ∙ c.loop-name.invariant.quiet;
  way = goes_on is_journal file_synced _ _ _ _ _ _ _ _ (ap (map string_bytes) c.in-Some.ensures.cases.0) c.deref.ensures c.loop-name.invariant.way
      c.sync_if_journal.ensures.told c.in_ok-sync_if_journal.ensures.synced;
  moments = steps_then OnlyCleans _ _ _ c.loop-name.invariant.moments c.sync_if_journal.ensures.moments;
}

pub returns-clause-synced : goal.returns-clause-synced
returns-clause-synced g c =
    ends is_journal file_synced _ _ _ _ (ap (map string_bytes) (nil_from_length _ c.in_default.ensures.cases)) c.loop-name.invariant.way

pub returns-in_err-sync_if_journal-clause-moments : goal.returns-in_err-sync_if_journal-clause-moments
returns-in_err-sync_if_journal-clause-moments g c = steps_then OnlyCleans _ _ _ c.loop-name.invariant.moments c.sync_if_journal.ensures.moments
