use Rattle.std.proofs.Common.{Some, sym, subst}
use Rattle.std.specs.FinMap.{empty}
use Rattle.std.specs.Prelude.{◌==◌, if◌then◌else◌}
use Rattle.mx_schema.specs.declared.schema.Schema.{Schema}
use Rattle.mx_schema.specs.SchemaChanges.{schema_without_index}
use Rattle.mx_schema.specs.State.{tuples_in}
use Rattle.mx_space.specs.Kept.{StoresIndexed}
use Rattle.mx_space.specs.Spaces.{IsGapOf, IsPlaceOf}
use Rattle.mx_space.proofs.HeldLaws.{described_so, index_dropped, is_described, none_there, space_there}
use Rattle.mx_space.proofs.PlaceLaws.{found, none_found, space_changed, stays_ascending}
use Rattle.mx_space.proofs.spaces.Spaces.drop_index.Goals as goal

pub invariant_of-self : goal.invariant_of-self
invariant_of-self c =
    let id = c.args.id.0 in
    let place = c.in-Ok.place in
    let at = subst (λ entries. IsPlaceOf id entries place) c.as_slice.ensures.value c.in-Ok.ensures in
    record { ascending = stays_ascending id c.args.self.now.entries.items place c.index_mut.result.now c.args.self.now.ascending at c.index_mut.ensures.value c.drop_index.new.self }

pub returns-in-Ok-clause-drops : goal.returns-in-Ok-clause-drops
returns-in-Ok-clause-drops c = λ schemas state schema holds is.
    let id = c.args.id.0 in
    let place = c.in-Ok.place in
    let entries = c.args.self.now.entries.items in
    let entry = c.index_mut.result.now in
    let after = c.drop_index.new.self in
    let at = subst (λ entries. IsPlaceOf id entries place) c.as_slice.ensures.value c.in-Ok.ensures in
    let there = found id entries place entry c.args.self.now.ascending at c.index_mut.ensures.value in
    let changed = space_changed id entries place entry c.args.self.now.ascending at c.index_mut.ensures.value after in
    let was = space_there id entries schemas state holds entry.space there in
    let same = described_so (schemas id) schema entry.space (tuples_in state id) was is in
    let index = c.args.index.0 in
    index_dropped id entries _ schemas state holds (Some (schema_without_index index schema)) after index changed
    (subst (λ (s : Schema). StoresIndexed (Some (schema_without_index index s)) after (if index == 0 then empty else tuples_in state id)) (sym same)
    (c.drop_index.ensures (schemas id) (tuples_in state id) was))

pub returns-in-Ok-clause-absent : goal.returns-in-Ok-clause-absent
returns-in-Ok-clause-absent c = λ schemas state holds none.
    let id = c.args.id.0 in
    let place = c.in-Ok.place in
    let entries = c.args.self.now.entries.items in
    let entry = c.index_mut.result.now in
    let at = subst (λ entries. IsPlaceOf id entries place) c.as_slice.ensures.value c.in-Ok.ensures in
    let there = found id entries place entry c.args.self.now.ascending at c.index_mut.ensures.value in
    absurd (is_described id entries schemas state holds entry.space there none)

pub returns-in_default-clause-drops : goal.returns-in_default-clause-drops
returns-in_default-clause-drops c = λ schemas state schema holds is.
    let id = c.args.id.0 in
    let place = c.in_default.field-0 in
    let entries = c.args.self.now.entries.items in
    let gap = subst (λ entries. IsGapOf id entries place) c.as_slice.ensures.value c.in_default.ensures in
    absurd (none_there id entries schemas state holds schema is (none_found id entries place gap))
