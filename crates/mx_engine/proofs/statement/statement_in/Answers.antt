use Rattle.std.proofs.Common.{sym, ap, subst}
use Rattle.mx_request.specs.InPlace.{request_view}
use Rattle.mx_request.specs.Spelling.{IsAskable}
use Rattle.mx_request.proofs.ValueTextLaws.{inner_is_array}
use Rattle.mx_request.specs.declared.request.Request.{Request}
use Rattle.mx_write.specs.Writes.{TupleIsBytes, write_in}
use Rattle.mx_write.proofs.KeyNameLaws.{well_formed_arrays}
use Rattle.mx_model.proofs.AnswerLaws.{write_fits}
use Rattle.mx_engine.proofs.ViewLaws.{write_stated}
use Rattle.mx_engine.proofs.statement.statement_in.Goals as goal

pub returns-in-Select-clause-arrays : goal.returns-in-Select-clause-arrays
returns-in-Select-clause-arrays c = let s = c.in-Select in inner_is_array s.key.now (subst IsAskable (ap request_view s.is) c.requires.askable).5

pub returns-in-Select-clause-bytes : goal.returns-in-Select-clause-bytes
returns-in-Select-clause-bytes c = subst (λ (request : Request). TupleIsBytes (write_in request)) (sym (ap request_view c.in-Select.is)) tt

pub returns : goal.returns
returns c =
    let is = sym c.in_ok-space.ensures.value in
    record {
      arrays = well_formed_arrays c.in_ok-space.write (write_fits (request_view c.args.request.now) _ _ c.requires.askable is).1;
      bytes = c.in_ok-space.ensures.bytes;
      value = sym (write_stated (request_view c.args.request.now) _ _ is);
    }
