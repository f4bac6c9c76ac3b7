use Rattle.std.proofs.Common.{rules, ◌≡◌, ◌≢◌, ◌+◌, ◌∷◌, List, true, drop, ap, sym, ◌∙◌, subst}
use Rattle.std.proofs.lemmas.List.{at_drop_more}
use Rattle.mx_schema.specs.declared.index_def.IndexDef.{IndexDef}
use Rattle.mx_write.specs.Lookup.{other_indexes}
use Rattle.mx_write.specs.Notes.{AddsReads}
use Rattle.mx_write.specs.Stages.{refusal_of}
use Rattle.mx_write.specs.Unique.{are_free}
use Rattle.mx_judge.proofs.NotedFreeLaws.{free_next, free_stops, noted_next, noted_stop, there_at}
use Rattle.mx_judge.proofs.unique.duplicate_in_others.Goals as goal

pub loop-def-preserved : goal.loop-def-preserved
loop-def-preserved c = λ before key target replaced.
    let t = c.args.target.now in
    let def = c.def-item.result in
    let space = t.scope.space.0 in
    let schema = t.schema.now in
    let primary = t.primary.now in
    let tuple = c.args.tuple.now in
    let items = c.as_slice-def-items.result.now in
    let others = drop (c.loop-def.def-index + 1) items in
    let next =
    at_drop_more (λ (l : List IndexDef). l) items c.loop-def.def-index def c.loop-def-test.true
    ∙ ap (λ (d : IndexDef). d ∷ others) (sym c.def-item.is) in
    let there = there_at before t c.loop-def.def-index def others target (ap (drop c.loop-def.def-index) (sym c.as_slice-def-items.ensures) ∙ next) in
    let other : def.id.0 ≢ 0 = c.if-def-eq0.false in
    let unique : def.unique ≡ true = search rules in
    let free = sym c.in_default.is ∙ c.in_ok-refusal.ensures.finds before key target replaced there unique in
    let (same, up_to) = c.loop-def.invariant before key target replaced in (
      ap refusal_of (sym (free_next before space schema primary key tuple def others unique other free))
          ∙ ap (λ l. refusal_of (are_free before space schema primary key tuple (other_indexes l)).outcome) (sym next) ∙ same,
      λ last rest. up_to last (subst (λ l. AddsReads c.loop-def.notes last (are_free before space schema primary key tuple (other_indexes l)).reads) (sym next)
          (noted_next before space schema primary key tuple def others unique c.loop-def.notes _ other free (c.in_ok-refusal.ensures.notes before key) last rest)),
    )

pub returns-in-Some-clause-finds : goal.returns-in-Some-clause-finds
returns-in-Some-clause-finds c = λ before key target replaced.
    let t = c.args.target.now in
    let def = c.def-item.result in
    let space = t.scope.space.0 in
    let schema = t.schema.now in
    let primary = t.primary.now in
    let tuple = c.args.tuple.now in
    let items = c.as_slice-def-items.result.now in
    let others = drop (c.loop-def.def-index + 1) items in
    let next =
    at_drop_more (λ (l : List IndexDef). l) items c.loop-def.def-index def c.loop-def-test.true
    ∙ ap (λ (d : IndexDef). d ∷ others) (sym c.def-item.is) in
    let there = there_at before t c.loop-def.def-index def others target (ap (drop c.loop-def.def-index) (sym c.as_slice-def-items.ensures) ∙ next) in
    let other : def.id.0 ≢ 0 = c.if-def-eq0.false in
    let unique : def.unique ≡ true = search rules in
    let (same, up_to) = c.loop-def.invariant before key target replaced in
    let told = sym c.in-Some.is ∙ c.in_ok-refusal.ensures.finds before key target replaced there unique in
    free_stops before space schema primary key tuple def others unique other c.in-Some.refusal told
    ∙ ap (λ l. refusal_of (are_free before space schema primary key tuple (other_indexes l)).outcome) (sym next) ∙ same

pub returns-in-Some-clause-notes : goal.returns-in-Some-clause-notes
returns-in-Some-clause-notes c = λ before key target replaced.
    let t = c.args.target.now in
    let def = c.def-item.result in
    let space = t.scope.space.0 in
    let schema = t.schema.now in
    let primary = t.primary.now in
    let tuple = c.args.tuple.now in
    let items = c.as_slice-def-items.result.now in
    let others = drop (c.loop-def.def-index + 1) items in
    let next =
    at_drop_more (λ (l : List IndexDef). l) items c.loop-def.def-index def c.loop-def-test.true
    ∙ ap (λ (d : IndexDef). d ∷ others) (sym c.def-item.is) in
    let there = there_at before t c.loop-def.def-index def others target (ap (drop c.loop-def.def-index) (sym c.as_slice-def-items.ensures) ∙ next) in
    let other : def.id.0 ≢ 0 = c.if-def-eq0.false in
    let unique : def.unique ≡ true = search rules in
    let (same, up_to) = c.loop-def.invariant before key target replaced in
    let told = sym c.in-Some.is ∙ c.in_ok-refusal.ensures.finds before key target replaced there unique in
    up_to _ (subst (λ l. AddsReads c.loop-def.notes c.duplicate_in.new.notes (are_free before space schema primary key tuple (other_indexes l)).reads) (sym next)
    (noted_stop before space schema primary key tuple def others unique c.loop-def.notes c.duplicate_in.new.notes other c.in-Some.refusal told (c.in_ok-refusal.ensures.notes before key)))
