use Rattle.std.proofs.Common.{sym, ap, subst}
use Rattle.mx_request.specs.InPlace.{request_view}
use Rattle.mx_write.specs.Writes.{TupleIsBytes, write_in}
use Rattle.mx_write.proofs.write.write_in.Goals as goal

pub returns-in-Insert-clause-bytes : goal.returns-in-Insert-clause-bytes
returns-in-Insert-clause-bytes c = subst TupleIsBytes (sym (ap (λ r. write_in (request_view r)) c.in-Insert.is)) c.known_bytes-tuple.ensures.each

pub returns-in-Replace-clause-bytes : goal.returns-in-Replace-clause-bytes
returns-in-Replace-clause-bytes c = subst TupleIsBytes (sym (ap (λ r. write_in (request_view r)) c.in-Replace.is)) c.known_bytes-tuple-in-Replace.ensures.each

pub returns-in-Upsert-clause-bytes : goal.returns-in-Upsert-clause-bytes
returns-in-Upsert-clause-bytes c = subst TupleIsBytes (sym (ap (λ r. write_in (request_view r)) c.in-Upsert.is)) c.known_bytes-tuple-in-Upsert.ensures.each
