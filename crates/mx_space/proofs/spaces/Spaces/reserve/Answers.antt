use Rattle.std.proofs.Common.{◌≡◌, Option, Some, None, sym, ap, ◌∙◌, subst}
use Rattle.std.specs.FinMap.{get}
use Rattle.std.specs.Option.{option_map}
use Rattle.std.proofs.lemmas.Result.{IfOk-weaker, on_err_weaker}
use Rattle.mx_msgpack.proofs.Options.{same_some}
use Rattle.mx_schema.specs.Stored.{StoresTuples}
use Rattle.mx_space.specs.Reserved.{Content, EditsAll, content_of, content_readied, content_released}
use Rattle.mx_space.specs.Spaces.{IsGapOf, IsPlaceOf}
use Rattle.mx_space.proofs.PlaceLaws.{content_back, content_changed, content_same, none_changed, found, none_found, space_changed, stays_ascending}
use Rattle.mx_space.proofs.spaces.Spaces.reserve.Goals as goal

pub invariant_of-self : goal.invariant_of-self
invariant_of-self c =
    let id = c.args.change.space.0 in
    let place = c.in-Ok.place in
    let at = subst (λ entries. IsPlaceOf id entries place) c.as_slice.ensures.value c.in-Ok.ensures in
    record { ascending = stays_ascending id c.args.self.now.entries.items place c.index_mut.result.now c.args.self.now.ascending at c.index_mut.ensures.value c.reserve.new.self }

pub returns-in-Ok-clause-edits : goal.returns-in-Ok-clause-edits
returns-in-Ok-clause-edits c = λ space all key there keeps fit bytes.
    let id = c.args.change.space.0 in
    let place = c.in-Ok.place in
    let entries = c.args.self.now.entries.items in
    let entry = c.index_mut.result.now in
    let at = subst (λ entries. IsPlaceOf id entries place) c.as_slice.ensures.value c.in-Ok.ensures in
    let is = found id entries place entry c.args.self.now.ascending at c.index_mut.ensures.value in
    let same : content_of entry.space ≡ space = same_some (content_of entry.space) space (sym (ap (option_map content_of) is) ∙ there) in
    IfOk-weaker c.reserve.result _ _
    (λ step made. subst (λ (s : Content). EditsAll key c.args.change.tuple (get all key) s.0.indexes step.edits.items) same made)
    (c.reserve.ensures.edits all key (subst (λ (s : Content). StoresTuples s.1 all) (sym same) keeps) fit bytes)

pub returns-in-Ok-clause-ok : goal.returns-in-Ok-clause-ok
returns-in-Ok-clause-ok c =
    let id = c.args.change.space.0 in
    let place = c.in-Ok.place in
    let entries = c.args.self.now.entries.items in
    let entry = c.index_mut.result.now in
    let at = subst (λ entries. IsPlaceOf id entries place) c.as_slice.ensures.value c.in-Ok.ensures in
    let there = found id entries place entry c.args.self.now.ascending at c.index_mut.ensures.value in
    let after = c.reserve.new.self in
    let changed = space_changed id entries place entry c.args.self.now.ascending at c.index_mut.ensures.value after in
    IfOk-weaker c.reserve.result _ _ (λ step made. content_changed id entries _ (content_readied c.args.change.tuple step) entry.space after there changed made) c.reserve.ensures.ok

pub returns-in-Ok-clause-undo : goal.returns-in-Ok-clause-undo
returns-in-Ok-clause-undo c =
    let id = c.args.change.space.0 in
    let place = c.in-Ok.place in
    let entries = c.args.self.now.entries.items in
    let entry = c.index_mut.result.now in
    let at = subst (λ entries. IsPlaceOf id entries place) c.as_slice.ensures.value c.in-Ok.ensures in
    let there = found id entries place entry c.args.self.now.ascending at c.index_mut.ensures.value in
    let after = c.reserve.new.self in
    let changed = space_changed id entries place entry c.args.self.now.ascending at c.index_mut.ensures.value after in
    IfOk-weaker c.reserve.result _ _ (λ step made. content_back id entries _ (content_released step) entry.space after there changed made) c.reserve.ensures.undo

pub returns-in-Ok-clause-err : goal.returns-in-Ok-clause-err
returns-in-Ok-clause-err c =
    let id = c.args.change.space.0 in
    let place = c.in-Ok.place in
    let entries = c.args.self.now.entries.items in
    let entry = c.index_mut.result.now in
    let at = subst (λ entries. IsPlaceOf id entries place) c.as_slice.ensures.value c.in-Ok.ensures in
    let there = found id entries place entry c.args.self.now.ascending at c.index_mut.ensures.value in
    let after = c.reserve.new.self in
    let changed = space_changed id entries place entry c.args.self.now.ascending at c.index_mut.ensures.value after in
    on_err_weaker c.reserve.result (content_same id entries _ (λ content. content) entry.space after there changed) c.reserve.ensures.err

pub returns-in-Err-clause-edits : goal.returns-in-Err-clause-edits
returns-in-Err-clause-edits c = λ space all key there keeps fit bytes.
    let id = c.args.change.space.0 in
    let place = c.in-Err.field-0 in
    let entries = c.args.self.now.entries.items in
    let gap = subst (λ entries. IsGapOf id entries place) c.as_slice.ensures.value c.in-Err.ensures in
    let gone : ◌≡◌ {A = Option Content} None (Some space) = sym (ap (option_map content_of) (none_found id entries place gap)) ∙ there in
    absurd cc

pub returns-in-Err-clause-ok : goal.returns-in-Err-clause-ok
returns-in-Err-clause-ok c =
    let id = c.args.change.space.0 in
    let place = c.in-Err.field-0 in
    let entries = c.args.self.now.entries.items in
    let gap = subst (λ entries. IsGapOf id entries place) c.as_slice.ensures.value c.in-Err.ensures in
    none_changed id entries (content_readied c.args.change.tuple c.without_space.result) (none_found id entries place gap)

pub returns-in-Err-clause-undo : goal.returns-in-Err-clause-undo
returns-in-Err-clause-undo c =
    let id = c.args.change.space.0 in
    let place = c.in-Err.field-0 in
    let entries = c.args.self.now.entries.items in
    let gap = subst (λ entries. IsGapOf id entries place) c.as_slice.ensures.value c.in-Err.ensures in
    λ q. sym (none_changed id entries (content_released c.without_space.result) (none_found id entries place gap) q)
