use Rattle.std.proofs.Common.{◌≢◌, Some, None, sym, subst}
use Rattle.std.proofs.lemmas.Result.{MatchResult-weaker, on_err_weaker}
use Rattle.mx_schema.specs.declared.schema.Schema.{Schema}
use Rattle.mx_schema.specs.Catalogues.{index_with}
use Rattle.mx_schema.specs.SchemaChanges.{schema_with_index}
use Rattle.mx_schema.specs.State.{tuples_in}
use Rattle.mx_space.specs.Kept.{StoresIndexed}
use Rattle.mx_space.specs.Spaces.{IsGapOf, IsPlaceOf}
use Rattle.mx_space.proofs.HeldLaws.{described_so, description_changed, is_described, none_there, space_kept, space_there}
use Rattle.mx_space.proofs.PlaceLaws.{found, none_found, space_changed, stays_ascending}
use Rattle.mx_space.proofs.spaces.Spaces.add_index.Goals as goal

pub invariant_of-self : goal.invariant_of-self
invariant_of-self c =
    let id = c.args.id.0 in
    let place = c.in-Ok.place in
    let at = subst (λ entries. IsPlaceOf id entries place) c.as_slice.ensures.value c.in-Ok.ensures in
    record { ascending = stays_ascending id c.args.self.now.entries.items place c.index_mut.result.now c.args.self.now.ascending at c.index_mut.ensures.value c.add_index.new.self }

pub returns-in-Ok-clause-builds : goal.returns-in-Ok-clause-builds
returns-in-Ok-clause-builds c = λ schemas state schema holds is none first.
    let id = c.args.id.0 in
    let place = c.in-Ok.place in
    let entries = c.args.self.now.entries.items in
    let entry = c.index_mut.result.now in
    let at = subst (λ entries. IsPlaceOf id entries place) c.as_slice.ensures.value c.in-Ok.ensures in
    let there = found id entries place entry c.args.self.now.ascending at c.index_mut.ensures.value in
    let after = c.add_index.new.self in
    let changed = space_changed id entries place entry c.args.self.now.ascending at c.index_mut.ensures.value after in
    let was = space_there id entries schemas state holds entry.space there in
    let same = described_so (schemas id) schema entry.space (tuples_in state id) was is in
    MatchResult-weaker c.add_index.result
    (c.add_index.ensures.builds (schemas id) (tuples_in state id) was none (λ other. subst (λ (s : Schema). index_with 0 s.indexes ≢ None) same (first other)))
    (λ _ told. (
      told.0,
      description_changed id entries _ schemas state holds (Some (schema_with_index c.args.def schema)) (Some after) changed
          (subst (λ (s : Schema). StoresIndexed (Some (schema_with_index c.args.def s)) after (tuples_in state id)) (sym same) told.1),
    ))
    (λ _ why. why)

pub returns-in-Ok-clause-absent : goal.returns-in-Ok-clause-absent
returns-in-Ok-clause-absent c = λ schemas state holds none.
    let id = c.args.id.0 in
    let place = c.in-Ok.place in
    let entries = c.args.self.now.entries.items in
    let entry = c.index_mut.result.now in
    let at = subst (λ entries. IsPlaceOf id entries place) c.as_slice.ensures.value c.in-Ok.ensures in
    let there = found id entries place entry c.args.self.now.ascending at c.index_mut.ensures.value in
    absurd (is_described id entries schemas state holds entry.space there none)

pub returns-in-Ok-clause-err : goal.returns-in-Ok-clause-err
returns-in-Ok-clause-err c = λ schemas state holds.
    let id = c.args.id.0 in
    let place = c.in-Ok.place in
    let entries = c.args.self.now.entries.items in
    let entry = c.index_mut.result.now in
    let at = subst (λ entries. IsPlaceOf id entries place) c.as_slice.ensures.value c.in-Ok.ensures in
    let there = found id entries place entry c.args.self.now.ascending at c.index_mut.ensures.value in
    let after = c.add_index.new.self in
    let changed = space_changed id entries place entry c.args.self.now.ascending at c.index_mut.ensures.value after in
    let was = space_there id entries schemas state holds entry.space there in
    on_err_weaker c.add_index.result (space_kept id entries _ schemas state holds after changed) (c.add_index.ensures.err (schemas id) (tuples_in state id) was)

pub returns-in-Err-clause-builds : goal.returns-in-Err-clause-builds
returns-in-Err-clause-builds c = λ schemas state schema holds is none first.
    let id = c.args.id.0 in
    let place = c.in-Err.field-0 in
    let entries = c.args.self.now.entries.items in
    let gap = subst (λ entries. IsGapOf id entries place) c.as_slice.ensures.value c.in-Err.ensures in
    absurd (none_there id entries schemas state holds schema is (none_found id entries place gap))
