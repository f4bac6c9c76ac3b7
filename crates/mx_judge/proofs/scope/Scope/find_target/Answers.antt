use Rattle.std.proofs.Common.{refl, ap, sym, ◌∙◌, Some}
use Rattle.std.proofs.lemmas.Result.{err_from_is_err_and}
use Rattle.mx_judge.proofs.NotedFreeLaws.{noted_absent, noted_target, noted_untaken}
use Rattle.mx_judge.proofs.EntryStageLaws.{is_target}
use Rattle.mx_judge.proofs.TargetLaws.{reaches}
use Rattle.mx_judge.proofs.scope.Scope.find_target.Goals as goal

pub returns-in_err-primary-clause-notes : goal.returns-in_err-primary-clause-notes
returns-in_err-primary-clause-notes c = λ before rest holds.
    let p = err_from_is_err_and c.from_residual-in_err-primary.result c.from_residual-in_err-primary.ensures.1 in
    let self = c.args.self in
    let stored = c.in_ok-stored.ensures before holds.holds in
    rw (p.1, p.2) (noted_absent self.writer before self.space c.args.kind c.args.tuple.now rest c.args.notes.now _ _
    c.in_ok-note_space.ensures c.in_ok-note_indexes.ensures c.schema-schema.result.now (stored.sees.state.holds.is ∙ ap Some (sym c.schema-schema.ensures)) (sym c.write_refusal.ensures ∙ c.in_default.is)
    _ c.in_err-primary.ensures)

pub returns-in_err-key-clause-notes : goal.returns-in_err-key-clause-notes
returns-in_err-key-clause-notes c = λ before rest holds.
    let p = err_from_is_err_and c.from_residual-in_err-key.result c.from_residual-in_err-key.ensures.1 in
    let self = c.args.self in
    let stored = c.in_ok-stored.ensures before holds.holds in
    rw (p.1, p.2) (noted_untaken self.writer before self.space c.args.kind c.args.tuple.now rest c.args.notes.now _ _
    c.in_ok-note_space.ensures c.in_ok-note_indexes.ensures c.schema-schema.result.now (stored.sees.state.holds.is ∙ ap Some (sym c.schema-schema.ensures)) (sym c.write_refusal.ensures ∙ c.in_default.is)
    c.in_ok-primary.primary.now c.in_ok-primary.ensures _ c.in_err-key.ensures)

pub returns-clause-judges : goal.returns-clause-judges
returns-clause-judges c = λ before rest holds.
    let self = c.args.self in
    let stored = c.in_ok-stored.ensures before holds.holds in (
      refl,
      is_target before _ holds stored c.schema-schema.ensures c.in_ok-primary.ensures,
      c.in_ok-key.ensures.1,
      reaches self.writer before self.space (record { 0 = 0 }) c.args.kind c.args.tuple.now rest c.schema-schema.result.now (stored.sees.state.holds.is ∙ ap Some (sym c.schema-schema.ensures))
          (sym c.write_refusal.ensures ∙ c.in_default.is) c.in_ok-primary.primary.now c.in_ok-primary.ensures c.in_ok-key.ensures.0,
    )

pub returns-clause-notes : goal.returns-clause-notes
returns-clause-notes c = λ before rest holds.
    let self = c.args.self in
    let stored = c.in_ok-stored.ensures before holds.holds in
    noted_target self.writer before self.space c.args.kind c.args.tuple.now rest c.args.notes.now _ _
    c.in_ok-note_space.ensures c.in_ok-note_indexes.ensures c.schema-schema.result.now (stored.sees.state.holds.is ∙ ap Some (sym c.schema-schema.ensures)) (sym c.write_refusal.ensures ∙ c.in_default.is)
    c.in_ok-primary.primary.now c.in_ok-primary.ensures c.in_ok-key.ensures.0
