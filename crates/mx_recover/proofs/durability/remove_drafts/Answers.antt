use Rattle.std.proofs.Common.{ap, map, refl, ◌∙◌, arith}
use Rattle.std.specs.String.{string_bytes}
use Rattle.std.proofs.lemmas.List.{nil_from_length}
use Rattle.mx_outside.specs.Disks.{removed}
use Rattle.mx_files.specs.Names.{is_draft}
use Rattle.mx_recover.proofs.PassingLaws.{begins, is_there, goes_on, ends}
use Rattle.mx_images.proofs.MomentLaws.{steps_none, steps_then}
use Rattle.mx_recover.specs.Turns.{OnlyCleans}
use Rattle.mx_recover.proofs.durability.remove_drafts.Goals as goal

pub loop-name-init : goal.loop-name-init
loop-name-init g c = record { later = omega arith; quiet = refl; way = begins is_draft removed _ _ c.requires; moments = steps_none OnlyCleans (g.D.Dir.states c.args.dir.now) }

pub remove_if_draft-requires : goal.remove_if_draft-requires
remove_if_draft-requires g c =
    is_there is_draft removed _ _ _ _ _ _ _ (ap (map string_bytes) c.in-Some.ensures.cases.0) c.deref.ensures c.loop-name.invariant.way

pub loop-name-preserved : goal.loop-name-preserved
loop-name-preserved g c = record {
  later = omega arith;
  quiet = c.in_ok-remove_if_draft.ensures.cause.done ∙ c.loop-name.invariant.quiet;
  way = goes_on is_draft removed _ _ _ _ _ _ _ _ (ap (map string_bytes) c.in-Some.ensures.cases.0) c.deref.ensures c.loop-name.invariant.way
      c.remove_if_draft.ensures.told c.in_ok-remove_if_draft.ensures.removed;
  moments = steps_then OnlyCleans _ _ _ c.loop-name.invariant.moments c.remove_if_draft.ensures.moments;
}

pub returns-clause-removed : goal.returns-clause-removed
returns-clause-removed g c =
    ends is_draft removed _ _ _ _ (ap (map string_bytes) (nil_from_length _ c.in_default.ensures.cases)) c.loop-name.invariant.way

pub returns-in_err-remove_if_draft-clause-moments : goal.returns-in_err-remove_if_draft-clause-moments
returns-in_err-remove_if_draft-clause-moments g c = steps_then OnlyCleans _ _ _ c.loop-name.invariant.moments c.remove_if_draft.ensures.moments
