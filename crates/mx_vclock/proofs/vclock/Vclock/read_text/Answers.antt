use Rattle.std.proofs.Common.{◌+◌, refl, sym, ◌∙◌, subst, arith}
use Rattle.mx_vclock.proofs.Fitting.{noted}
use Rattle.mx_vclock.proofs.ReadLaws.{Leads, step_leads, leads_inside, leads_elsewhere, id_within, fault_inside, fault_at_end, read_whole}
use Rattle.mx_vclock.proofs.vclock.Vclock.read_text.Goals as goal
use Rattle.mx_vclock.proofs.vclock.Vclock.read_text.Goals.{in-Lsn, in_default-next}

pub returns-in_default-place : goal.returns-in_default-place
returns-in_default-place c =
    fault_at_end c.args.bytes.now c.loop-at.at c.loop-at.place c.loop-at.lsns c.loop-at.invariant c.loop-at-test.false c.loop-at.auto.at-end c.in_default-place.not-Done

pub returns-in-Done : goal.returns-in-Done
returns-in-Done c = (read_whole c.args.bytes.now c.loop-at.at c.loop-at.place c.loop-at.lsns c.loop-at.invariant c.loop-at-test.false c.loop-at.auto.at-end c.in-Done.is).1

pub invariant_of-result : goal.invariant_of-result
invariant_of-result c = (read_whole c.args.bytes.now c.loop-at.at c.loop-at.place c.loop-at.lsns c.loop-at.invariant c.loop-at-test.false c.loop-at.auto.at-end c.in-Done.is).0

pub returns-in_default : goal.returns-in_default
returns-in_default c = fault_inside c.args.bytes.now c.loop-at.at c.loop-at.place c.loop-at.lsns _ c.loop-at.invariant c.loop-at-test.true refl (sym c.next_place.ensures ∙ c.in_default.is)

pub offset_bounds-lsns-id : goal.offset_bounds-lsns-id
offset_bounds-lsns-id c =
    let l = step_leads c.args.bytes.now c.loop-at.at c.loop-at.place c.loop-at.lsns _ c.in-Some.next c.loop-at.invariant c.loop-at-test.true refl (sym c.next_place.ensures ∙ c.in-Some.is) in
    let i = id_within c.args.bytes.now _ c.in-Lsn.id c.in-Lsn.lsn _ (subst (λ p. Leads c.args.bytes.now (c.loop-at.at + 1) p (noted p c.loop-at.lsns)) c.in-Lsn.is l) in
    omega arith

pub bounds-lsns-id : goal.bounds-lsns-id
bounds-lsns-id c =
    let l = step_leads c.args.bytes.now c.loop-at.at c.loop-at.place c.loop-at.lsns _ c.in-Some.next c.loop-at.invariant c.loop-at-test.true refl (sym c.next_place.ensures ∙ c.in-Some.is) in
    id_within c.args.bytes.now _ c.in-Lsn.id c.in-Lsn.lsn _ (subst (λ p. Leads c.args.bytes.now (c.loop-at.at + 1) p (noted p c.loop-at.lsns)) c.in-Lsn.is l)

pub loop-at-preserved : goal.loop-at-preserved
loop-at-preserved c =
    let l = step_leads c.args.bytes.now c.loop-at.at c.loop-at.place c.loop-at.lsns _ c.in-Some.next c.loop-at.invariant c.loop-at-test.true refl (sym c.next_place.ensures ∙ c.in-Some.is) in
    elim c.match-next.branch [
      | in-Lsn w ↦ leads_inside c.args.bytes.now _ c.in-Some.next c.match-next.place c.loop-at.lsns c.match-next.lsns w.in-Lsn.id w.in-Lsn.lsn l w.in-Lsn.is w.place-is w.lsns-is
      | in_default-next w ↦ leads_elsewhere c.args.bytes.now _ c.in-Some.next c.match-next.place c.loop-at.lsns c.match-next.lsns l w.in_default-next.not-Lsn w.place-is w.lsns-is
    ]
