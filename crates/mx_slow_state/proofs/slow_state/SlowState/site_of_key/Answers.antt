use Rattle.std.proofs.Common.{[], ◌∷◌, length, refl, ap, sym, subst, ◌∙◌}
use Rattle.mx_base.specs.declared.refusal.Refusal.TheVariants.{IndexMissing}
use Rattle.mx_key.specs.Parts.{whole_key_of_items}
use Rattle.mx_schema.specs.declared.schema.Schema.{Schema}
use Rattle.mx_schema.specs.Catalogues.{index_with, schema_of}
use Rattle.mx_schema.specs.State.{tuples_in}
use Rattle.mx_schema.specs.Stored.{StoresSpace, stored_list}
use Rattle.mx_write.specs.Judged.{Judged, reads_of, ◌>>=◌}
use Rattle.mx_write.specs.Lookup.{entry_with, key_or_refusal, the_key, the_primary, the_unique_index}
use Rattle.mx_write.specs.Made.{Made}
use Rattle.mx_write.specs.Reads.{key_read}
use Rattle.mx_write.proofs.StageLaws.{goes_on, is_found}
use Rattle.mx_slow_state.specs.SlowWrites.{in_writable}
use Rattle.mx_slow_state.proofs.SlowSiteLaws.{is_site}
use Rattle.mx_slow_state.proofs.slow_state.SlowState.site_of_key.Goals as goal

pub returns : goal.returns
returns c = λ before rest keeps.
    let key = c.args.key.now in
    let space = c.args.space.0 in
    let index = c.args.index.0 in
    let schema = c.in_ok-found.found.now.schema in
    let def = c.in_ok-def.def.now in
    let primary = c.in_ok-primary.primary.now in
    let (asked, fits, fit, bytes) = c.in_ok-asked.ensures in
    let later : Schema → Judged Made = λ schema.
    the_unique_index space schema index >>= λ def. the_primary schema >>= λ primary. the_key def key >>= λ asked.
    reads_of (key_read space index asked ∷ []) >>= λ _. rest schema primary (entry_with before space primary def asked) in
    let (stored, reaches) = c.in_ok-found.ensures before later keeps in
    let kept = subst (λ kept. StoresSpace (schema_of before space) schema (stored_list kept) (tuples_in before space)) (sym c.as_slice.ensures.value) stored in (
      refl,
      is_site before _ kept c.in_ok-primary.ensures,
      entry_with before space primary def asked,
      c.in_ok-entry.ensures before asked (is_site before _ kept c.in_ok-primary.ensures) fit bytes,
      ap (λ named. (in_writable before space c.args.kind named later).outcome) (sym c.primary_name.ensures)
          ∙ reaches
          ∙ goes_on (the_unique_index space schema index) _ def (c.in_ok-def.ensures.outcome space)
          ∙ goes_on (the_primary schema) _ primary (is_found (IndexMissing (record { 0 = 0 }) schema.def.name) (index_with 0 schema.indexes) primary c.in_ok-primary.ensures)
          ∙ goes_on (the_key def key) _ asked (ap (key_or_refusal (length def.key)) (ap (whole_key_of_items def.key) (sym c.array_or_empty.ensures.items) ∙ fits)),
    )
