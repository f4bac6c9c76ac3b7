use Rattle.std.proofs.Common.{Some, sym, ap, ◌∙◌, subst}
use Rattle.mx_msgpack.specs.Items.{IsArray}
use Rattle.mx_request.specs.Spelling.{IsAskable}
use Rattle.mx_request.specs.declared.request.Request.{Request}
use Rattle.mx_write.specs.Writes.{TupleIsBytes, write_in}
use Rattle.mx_request.proofs.ValueTextLaws.{inner_is_array}
use Rattle.mx_model.specs.statements.Statement.{Selects, statement_of}
use Rattle.mx_engine.proofs.statement.statement_of.Goals as goal

pub returns-in-Select-clause-bytes : goal.returns-in-Select-clause-bytes
returns-in-Select-clause-bytes c = subst (λ (request : Request). TupleIsBytes (write_in request)) (sym c.in-Select.is) tt

pub returns-in-Select-clause-value : goal.returns-in-Select-clause-value
returns-in-Select-clause-value c = λ askable.
    let s = c.in-Select in
    let whole = inner_is_array s.key (subst IsAskable s.is askable).5 in
    ap (λ key. Some (record { space = s.space.0; operation = Selects s.index.0 s.limit s.offset s.iterator key })) (c.array_or_empty.ensures.same (subst IsArray (sym c.as_slice.ensures) whole) ∙ c.as_slice.ensures) ∙ ap statement_of (sym s.is)
