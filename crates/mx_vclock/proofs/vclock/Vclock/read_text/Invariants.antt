use Rattle.mx_vclock.proofs.ReadLaws.{Leads}
use Rattle.mx_vclock.proofs.vclock.Vclock.read_text.Given as goal

abbrev pub invariant-loop-at : goal.invariant-loop-at
invariant-loop-at l = Leads l.bytes l.at l.place l.lsns
