use Rattle.std.proofs.Common.{◌≤◌, refl, arith}
use Rattle.std.proofs.lemmas.List.Elements.{All-replicate}
use Rattle.mx_vclock.specs.Vclocks.{max_lsn}
use Rattle.mx_vclock.proofs.vclock.Vclock.new.Goals as goal

pub invariant_of-result : goal.invariant_of-result
invariant_of-result c = record {
  whole = refl;
  bounded = All-replicate (λ lsn. lsn ≤ max_lsn) 32 0 (omega arith);
}
