use Rattle.mx_model.proofs.OverlapFound.{doomed_overlap}
use Rattle.mx_serial.proofs.transaction_laws.a_conflict_has_its_commit.Goals as goal

pub returns : goal.returns
returns c = λ ids base journal is_write transaction doomed.
    let found = doomed_overlap ids base journal is_write transaction doomed in
    (found.0, found.1.commit, found.1.after, found.1.within, found.1.there, found.1.met)
