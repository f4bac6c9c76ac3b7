use Rattle.std.proofs.Common.{Some, refl, sym, ap, ◌∙◌}
use Rattle.std.proofs.lemmas.Result.{err_from_is_err_and}
use Rattle.mx_write.specs.Lookup.{entry_with}
use Rattle.mx_write.specs.Stages.{in_entry}
use Rattle.mx_write.specs.Writable.{write_refusal}
use Rattle.mx_judge.proofs.EntryStageLaws.{judged_found, noted_entry, noted_found, noted_no_index, noted_no_key, noted_no_primary, reaches_entry, is_target}
use Rattle.mx_judge.proofs.scope.Scope.find.Goals as goal

pub returns-in_err-def-clause-notes : goal.returns-in_err-def-clause-notes
returns-in_err-def-clause-notes c = λ before rest holds.
    let self = c.args.self in
    let schema = c.schema-schema.result.now in
    let stored = c.in_ok-stored.ensures before holds.holds in
    let described = stored.sees.state.holds.is ∙ ap Some (sym c.schema-schema.ensures) in
    let writable = ap (write_refusal self.writer self.space.0 c.args.kind) (sym c.primary_name-named.ensures) ∙ sym c.write_refusal.ensures ∙ c.in_default.is in
    let p = err_from_is_err_and c.from_residual-in_err-def.result c.from_residual-in_err-def.ensures.1 in
    rw (p.1, p.2) (noted_no_index self.writer before self.space c.args.kind c.args.index.0 c.args.key.now rest schema described writable
    c.args.notes.now _ _ c.in_ok-note_space.ensures c.in_ok-note_indexes.ensures _ (c.in_err-def.ensures.outcome self.space.0))

pub returns-in_err-primary-clause-notes : goal.returns-in_err-primary-clause-notes
returns-in_err-primary-clause-notes c = λ before rest holds.
    let self = c.args.self in
    let schema = c.schema-schema.result.now in
    let stored = c.in_ok-stored.ensures before holds.holds in
    let described = stored.sees.state.holds.is ∙ ap Some (sym c.schema-schema.ensures) in
    let writable = ap (write_refusal self.writer self.space.0 c.args.kind) (sym c.primary_name-named.ensures) ∙ sym c.write_refusal.ensures ∙ c.in_default.is in
    let p = err_from_is_err_and c.from_residual-in_err-primary.result c.from_residual-in_err-primary.ensures.1 in
    rw (p.1, p.2) (noted_no_primary self.writer before self.space c.args.kind c.args.index.0 c.args.key.now rest schema described writable
    c.args.notes.now _ _ c.in_ok-note_space.ensures c.in_ok-note_indexes.ensures c.in_ok-def.def.now (c.in_ok-def.ensures.outcome self.space.0) _ c.in_err-primary.ensures)

pub returns-in_err-asked-clause-notes : goal.returns-in_err-asked-clause-notes
returns-in_err-asked-clause-notes c = λ before rest holds.
    let self = c.args.self in
    let schema = c.schema-schema.result.now in
    let stored = c.in_ok-stored.ensures before holds.holds in
    let described = stored.sees.state.holds.is ∙ ap Some (sym c.schema-schema.ensures) in
    let writable = ap (write_refusal self.writer self.space.0 c.args.kind) (sym c.primary_name-named.ensures) ∙ sym c.write_refusal.ensures ∙ c.in_default.is in
    let p = err_from_is_err_and c.from_residual-in_err-asked.result c.from_residual-in_err-asked.ensures.1 in
    rw (p.1, p.2) (noted_no_key self.writer before self.space c.args.kind c.args.index.0 c.args.key.now rest schema described writable
    c.args.notes.now _ _ c.in_ok-note_space.ensures c.in_ok-note_indexes.ensures c.in_ok-def.def.now (c.in_ok-def.ensures.outcome self.space.0) c.in_ok-primary.primary.now c.in_ok-primary.ensures _ c.in_err-asked.ensures)

pub returns-clause-judges : goal.returns-clause-judges
returns-clause-judges c = λ before rest holds.
    let self = c.args.self in
    let schema = c.schema-schema.result.now in
    let stored = c.in_ok-stored.ensures before holds.holds in
    let described = stored.sees.state.holds.is ∙ ap Some (sym c.schema-schema.ensures) in
    let writable = ap (write_refusal self.writer self.space.0 c.args.kind) (sym c.primary_name-named.ensures) ∙ sym c.write_refusal.ensures ∙ c.in_default.is in
    let def = c.in_ok-def.def.now in
    let primary = c.in_ok-primary.primary.now in
    let (asked, whole, fit, bytes) = c.in_ok-asked.ensures in
    let target = is_target before _ holds stored c.schema-schema.ensures c.in_ok-primary.ensures in
    let (there, unique) = c.in_ok-def.ensures.found in
    let found = c.in_ok-entry.ensures before asked target there unique fit bytes in
    let place = in_entry self.writer before self.space.0 c.args.kind c.args.index.0 c.args.key.now rest in (
      refl,
      target,
      judged_found place primary (rest schema primary) (entry_with before self.space.0 primary def asked) c.in_ok-entry.entry
          (reaches_entry self.writer before self.space c.args.kind c.args.index.0 c.args.key.now rest schema described writable
          def primary asked (c.in_ok-def.ensures.outcome self.space.0) c.in_ok-primary.ensures whole) found,
    )

pub returns-clause-notes : goal.returns-clause-notes
returns-clause-notes c = λ before rest holds.
    let self = c.args.self in
    let schema = c.schema-schema.result.now in
    let stored = c.in_ok-stored.ensures before holds.holds in
    let described = stored.sees.state.holds.is ∙ ap Some (sym c.schema-schema.ensures) in
    let writable = ap (write_refusal self.writer self.space.0 c.args.kind) (sym c.primary_name-named.ensures) ∙ sym c.write_refusal.ensures ∙ c.in_default.is in
    let def = c.in_ok-def.def.now in
    let primary = c.in_ok-primary.primary.now in
    let (asked, whole, fit, bytes) = c.in_ok-asked.ensures in
    let target = is_target before _ holds stored c.schema-schema.ensures c.in_ok-primary.ensures in
    let (there, unique) = c.in_ok-def.ensures.found in
    let found = c.in_ok-entry.ensures before asked target there unique fit bytes in
    let place = in_entry self.writer before self.space.0 c.args.kind c.args.index.0 c.args.key.now rest in
    noted_found place primary (rest schema primary) (entry_with before self.space.0 primary def asked) c.args.notes.now _ c.in_ok-entry.entry
    (noted_entry self.writer before self.space c.args.kind c.args.index.0 c.args.key.now rest schema described writable
    c.args.notes.now _ _ c.in_ok-note_space.ensures c.in_ok-note_indexes.ensures def (c.in_ok-def.ensures.outcome self.space.0)
    c.in_ok-primary.primary.now c.in_ok-primary.ensures asked _ whole (c.in_ok-note_key.ensures asked fit (c.as_slice.ensures ∙ bytes))) found
