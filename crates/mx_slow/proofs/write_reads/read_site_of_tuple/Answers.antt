use Rattle.std.proofs.Common.{[], ◌∷◌, refl, sym, subst}
use Rattle.std.proofs.lemmas.Result.{err_from_is_err_and}
use Rattle.mx_schema.specs.declared.schema.Schema.{Schema}
use Rattle.mx_schema.specs.Catalogues.{schema_of}
use Rattle.mx_schema.specs.State.{tuples_in}
use Rattle.mx_schema.specs.Stored.{StoresSpace, stored_list}
use Rattle.mx_write.specs.Judged.{Judged}
use Rattle.mx_write.specs.Made.{Made}
use Rattle.mx_write.specs.Reads.{index_read}
use Rattle.mx_slow_state.specs.SlowWrites.{of_tuple}
use Rattle.mx_slow.proofs.SlowStageLaws.{added_all, adds_on, by_refusal, index_missing_reads, not_taken_reads, of_index, taken_reads}
use Rattle.mx_slow.proofs.write_reads.read_site_of_tuple.Goals as goal

pub returns : goal.returns
returns c = λ before rest keeps.
    let tuple = c.args.tuple.now in
    let space = c.args.space.0 in
    let schema = c.in_ok-found.found.now.schema in
    let primary = c.in_ok-primary.primary.now in
    let later : Schema → Judged Made = λ schema. of_index space schema tuple (rest schema) in
    let (stored, upto) = c.in_ok-found.ensures before later keeps in (
      refl,
      record {
        stored = subst (λ kept. StoresSpace (schema_of before space) schema (stored_list kept) (tuples_in before space)) (sym c.as_slice.ensures.value) stored;
        primary = c.in_ok-primary.ensures;
      },
      c.in_ok-key.ensures.1,
      adds_on c.args.reads.now c.read_writable_space.new.reads c.push_rows.new.self (of_index space schema tuple (rest schema)).reads (of_tuple before space c.args.kind tuple rest).reads upto
          (index_read space ∷ []) (rest schema primary).reads (taken_reads space schema tuple (rest schema) primary c.in_ok-primary.ensures c.in_ok-key.ensures.0) c.in_ok-push_rows.ensures,
    )

pub returns-in_err-found : goal.returns-in_err-found
returns-in_err-found c = λ before rest keeps.
    let p = err_from_is_err_and c.from_residual.result c.from_residual.ensures.1 in
    rw (p.1, p.2) (c.in_err-found.ensures before (λ schema. of_index c.args.space.0 schema c.args.tuple.now (rest schema)) keeps)

pub returns-in_err-primary : goal.returns-in_err-primary
returns-in_err-primary c = λ before rest keeps.
    let p = err_from_is_err_and c.from_residual-in_err-primary.result c.from_residual-in_err-primary.ensures.1 in
    let tuple = c.args.tuple.now in
    let space = c.args.space.0 in
    let schema = c.in_ok-found.found.now.schema in
    let upto = (c.in_ok-found.ensures before (λ schema. of_index space schema tuple (rest schema)) keeps).1 in
    rw (p.1, p.2) (by_refusal c.in_err-primary.field-0.0 _ _
    (λ none. added_all c.args.reads.now c.read_writable_space.new.reads c.push_rows.new.self (of_index space schema tuple (rest schema)).reads (of_tuple before space c.args.kind tuple rest).reads upto
    (index_read space ∷ []) (index_missing_reads space schema tuple (rest schema) none.0) c.in_ok-push_rows.ensures) c.in_err-primary.ensures)

pub returns-in_err-key : goal.returns-in_err-key
returns-in_err-key c = λ before rest keeps.
    let p = err_from_is_err_and c.from_residual-in_err-key.result c.from_residual-in_err-key.ensures.1 in
    let tuple = c.args.tuple.now in
    let space = c.args.space.0 in
    let schema = c.in_ok-found.found.now.schema in
    let primary = c.in_ok-primary.primary.now in
    let upto = (c.in_ok-found.ensures before (λ schema. of_index space schema tuple (rest schema)) keeps).1 in
    rw (p.1, p.2) (by_refusal c.in_err-key.field-0.0 _ _
    (λ is. added_all c.args.reads.now c.read_writable_space.new.reads c.push_rows.new.self (of_index space schema tuple (rest schema)).reads (of_tuple before space c.args.kind tuple rest).reads upto
    (index_read space ∷ []) (not_taken_reads space schema tuple (rest schema) primary c.in_ok-primary.ensures c.in_err-key.field-0.0 is) c.in_ok-push_rows.ensures) c.in_err-key.ensures)
