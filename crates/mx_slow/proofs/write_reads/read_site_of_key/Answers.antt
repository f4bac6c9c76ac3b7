use Rattle.std.proofs.Common.{[], ◌∷◌, ◌++◌, length, refl, ap, append_assoc, sym, subst, ◌∙◌}
use Rattle.std.proofs.lemmas.Result.{err_from_is_err_and}
use Rattle.mx_key.specs.Parts.{whole_key_of_items}
use Rattle.mx_schema.specs.declared.schema.Schema.{Schema}
use Rattle.mx_schema.specs.Catalogues.{schema_of}
use Rattle.mx_schema.specs.State.{tuples_in}
use Rattle.mx_schema.specs.Stored.{StoresSpace, stored_list}
use Rattle.mx_write.specs.Judged.{Judged}
use Rattle.mx_write.specs.Lookup.{entry_with, key_or_refusal}
use Rattle.mx_write.specs.Made.{Made}
use Rattle.mx_write.specs.Reads.{index_read, key_read}
use Rattle.mx_slow.specs.SlowReads.{read_view}
use Rattle.mx_slow.specs.SlowReadSteps.{AddsUpTo}
use Rattle.mx_slow_state.specs.SlowWrites.{in_writable, of_key}
use Rattle.mx_slow_state.proofs.SlowSiteLaws.{is_site}
use Rattle.mx_slow.proofs.SlowStageLaws.{added_all, adds_on, by_refusal, key_asked_reads, key_refused_reads, of_unique, unique_refused_reads}
use Rattle.mx_slow.proofs.write_reads.read_site_of_key.Goals as goal

pub returns-in_err-def : goal.returns-in_err-def
returns-in_err-def c = λ before rest keeps.
    let p = err_from_is_err_and c.from_residual-in_err-def.result c.from_residual-in_err-def.ensures.1 in
    let key = c.args.key.now in
    let space = c.args.space.0 in
    let index = c.args.index.0 in
    let schema = c.in_ok-found.found.now.schema in
    let later : Schema → Judged Made = λ schema. of_unique before space index key schema (rest schema) in
    let old = c.args.reads.now in
    let mid = c.read_writable_space.new.reads in
    let upto = subst (λ named. AddsUpTo old mid (later schema).reads (in_writable before space c.args.kind named later).reads) c.primary_name-named.ensures (c.in_ok-found.ensures before later keeps).1 in
    rw (p.1, p.2) (by_refusal c.in_err-def.field-0.0 _ _
    (λ is. added_all old mid c.push_rows.new.self (later schema).reads (of_key before space c.args.kind index key rest).reads upto
    (index_read space ∷ []) (unique_refused_reads before space index key schema (rest schema) c.in_err-def.field-0.0 is) c.in_ok-push_rows.ensures) (c.in_err-def.ensures.outcome space))

pub returns-in_err-asked : goal.returns-in_err-asked
returns-in_err-asked c = λ before rest keeps.
    let p = err_from_is_err_and c.from_residual-in_err-asked.result c.from_residual-in_err-asked.ensures.1 in
    let key = c.args.key.now in
    let space = c.args.space.0 in
    let index = c.args.index.0 in
    let schema = c.in_ok-found.found.now.schema in
    let def = c.in_ok-def.def.now in
    let later : Schema → Judged Made = λ schema. of_unique before space index key schema (rest schema) in
    let old = c.args.reads.now in
    let mid = c.read_writable_space.new.reads in
    let why = c.in_err-asked.field-0.0 in
    let upto = subst (λ named. AddsUpTo old mid (later schema).reads (in_writable before space c.args.kind named later).reads) c.primary_name-named.ensures (c.in_ok-found.ensures before later keeps).1 in
    rw (p.1, p.2) (by_refusal why _ _
    (λ is. added_all old mid c.push_rows.new.self (later schema).reads (of_key before space c.args.kind index key rest).reads upto (index_read space ∷ [])
    (key_refused_reads before space index key schema (rest schema) def (c.in_ok-def.ensures.outcome space) c.in_ok-primary.primary.now c.in_ok-primary.ensures why
    (ap (key_or_refusal (length def.key)) (ap (whole_key_of_items def.key) (sym c.array_or_empty.ensures.items)) ∙ is))
    c.in_ok-push_rows.ensures) c.in_err-asked.ensures)

pub returns : goal.returns
returns c = λ before rest keeps.
    let key = c.args.key.now in
    let space = c.args.space.0 in
    let index = c.args.index.0 in
    let schema = c.in_ok-found.found.now.schema in
    let def = c.in_ok-def.def.now in
    let primary = c.in_ok-primary.primary.now in
    let (asked, fits, fit, bytes) = c.in_ok-asked.ensures in
    let later : Schema → Judged Made = λ schema. of_unique before space index key schema (rest schema) in
    let old = c.args.reads.now in
    let mid = c.read_writable_space.new.reads in
    let found = c.in_ok-found.ensures before later keeps in
    let keys = c.in_ok-push_key.ensures asked fit bytes in
    let upto = subst (λ named. AddsUpTo old mid (later schema).reads (in_writable before space c.args.kind named later).reads) c.primary_name-named.ensures found.1 in
    let kept = subst (λ kept. StoresSpace (schema_of before space) schema (stored_list kept) (tuples_in before space)) (sym c.as_slice.ensures.value) found.0 in (
      refl,
      is_site before _ kept c.in_ok-primary.ensures,
      entry_with before space primary def asked,
      c.in_ok-entry.ensures before asked (is_site before _ kept c.in_ok-primary.ensures) fit bytes,
      adds_on old mid c.push_key.new.self (later schema).reads (of_key before space c.args.kind index key rest).reads upto (index_read space ∷ key_read space index asked ∷ [])
          (rest schema primary (entry_with before space primary def asked)).reads
          (key_asked_reads before space index key schema (rest schema) def (c.in_ok-def.ensures.outcome space) primary c.in_ok-primary.ensures asked
          (ap (key_or_refusal (length def.key)) (ap (whole_key_of_items def.key) (sym c.array_or_empty.ensures.items) ∙ fits))) (
            keys.0 ∙ ap (λ l. l ++ read_view (key_read space index asked) ∷ []) c.in_ok-push_rows.ensures.0
                ∙ append_assoc mid (read_view (index_read space) ∷ []) (read_view (key_read space index asked) ∷ []),
            (c.in_ok-push_rows.ensures.1.0, keys.1),
          ),
    )
