use Rattle.std.proofs.Common.{◌≡◌, List, ◌∷◌, sym, ap, ◌∙◌, subst}
use Rattle.std.specs.Prelude.{None, IfOk}
use Rattle.std.specs.Option.{option_copied}
use Rattle.mx_write.specs.Lookup.{other_indexes, own_key}
use Rattle.mx_write.proofs.UniqueLaws.{key_is_free, key_is_taken}
use Rattle.std.proofs.lemmas.Result.{IfOk-weaker}
use Rattle.mx_schema.specs.declared.index_def.IndexDef.{IndexDef}
use Rattle.mx_write.specs.Notes.{AddsReads}
use Rattle.mx_write.specs.Unique.{are_free}
use Rattle.mx_judge.proofs.NotedFreeLaws.{noted_free, noted_taken}
use Rattle.mx_judge.proofs.insert.duplicate.Goals as goal

pub returns-in_ok-duplicate_refusal-in-Some-clause-finds : goal.returns-in_ok-duplicate_refusal-in-Some-clause-finds
returns-in_ok-duplicate_refusal-in-Some-clause-finds c = λ before target fits bytes.
    let t = c.args.target.now in
    let primary = t.primary.now in
    let tuple = c.args.tuple.now in
    key_is_taken before t.scope.space.0 t.schema.now primary tuple target.primary c.in_ok-duplicate_refusal-in-Some.field-0 _
    (sym (c.tuple.ensures.shown _ _ (own_key primary tuple) target.stored fits bytes) ∙ ap option_copied c.in-Some.is) c.in_ok-duplicate_refusal-in-Some.ensures (other_indexes t.schema.now.indexes)

pub returns-in-None-clause-finds : goal.returns-in-None-clause-finds
returns-in-None-clause-finds c = λ before target fits bytes.
    let t = c.args.target.now in
    let primary = t.primary.now in
    let tuple = c.args.tuple.now in
    subst (λ r. IfOk c.duplicate_in_others.result (λ found. found ≡ r))
    (sym (key_is_free before t.scope.space.0 t.schema.now primary tuple target.primary
    (sym (c.tuple.ensures.shown _ _ (own_key primary tuple) target.stored fits bytes) ∙ ap option_copied c.in-None.is) (other_indexes t.schema.now.indexes)))
    (c.duplicate_in_others.ensures.finds before None target tt)

pub returns-in_ok-duplicate_refusal-in-Some-clause-notes : goal.returns-in_ok-duplicate_refusal-in-Some-clause-notes
returns-in_ok-duplicate_refusal-in-Some-clause-notes c = λ before target fits bytes.
    let t = c.args.target.now in
    let primary = t.primary.now in
    let tuple = c.args.tuple.now in
    noted_taken before t.scope.space.0 t.schema.now primary tuple target.primary (other_indexes t.schema.now.indexes) c.args.notes.now _
    (c.in_ok-note_key.ensures (own_key primary tuple) fits (c.as_slice.ensures ∙ bytes)) _
    (sym (c.tuple.ensures.shown _ _ (own_key primary tuple) target.stored fits bytes) ∙ ap option_copied c.in-Some.is)

pub returns-in-None-clause-notes : goal.returns-in-None-clause-notes
returns-in-None-clause-notes c = λ before target fits bytes.
    let t = c.args.target.now in
    let primary = t.primary.now in
    let tuple = c.args.tuple.now in
    let others = other_indexes t.schema.now.indexes in
    let all = λ (defs : List IndexDef). are_free before t.scope.space.0 t.schema.now primary None tuple defs in
    IfOk-weaker c.duplicate_in_others.result (λ _. AddsReads c.note_key.new.self c.duplicate_in_others.new.notes (all others).reads)
    (λ _. AddsReads c.args.notes.now c.duplicate_in_others.new.notes (all (primary ∷ others)).reads)
    (λ _. noted_free before t.scope.space.0 t.schema.now primary tuple target.primary others c.args.notes.now _
    (c.in_ok-note_key.ensures (own_key primary tuple) fits (c.as_slice.ensures ∙ bytes))
    (sym (c.tuple.ensures.shown _ _ (own_key primary tuple) target.stored fits bytes) ∙ ap option_copied c.in-None.is) c.duplicate_in_others.new.notes)
    (c.duplicate_in_others.ensures.notes before None target tt)
