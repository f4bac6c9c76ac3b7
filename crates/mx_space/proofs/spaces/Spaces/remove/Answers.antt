use Rattle.std.proofs.Common.{◌≡◌, Some, subst}
use Rattle.std.proofs.lemmas.Result.{on_err_weaker, on_ok_weaker}
use Rattle.mx_schema.specs.declared.schema.Schema.{Schema}
use Rattle.mx_schema.specs.Catalogues.{index_with}
use Rattle.mx_schema.specs.State.{tuples_in}
use Rattle.mx_space.specs.Spaces.{IsGapOf, IsPlaceOf}
use Rattle.mx_space.proofs.HeldLaws.{described_so, is_described, none_there, space_kept, space_there, tuples_changed}
use Rattle.mx_space.proofs.PlaceLaws.{found, none_found, space_changed, stays_ascending}
use Rattle.mx_space.proofs.spaces.Spaces.remove.Goals as goal

pub invariant_of-self : goal.invariant_of-self
invariant_of-self c =
    let id = c.args.id.0 in
    let place = c.in-Ok.place in
    let at = subst (λ entries. IsPlaceOf id entries place) c.as_slice.ensures.value c.in-Ok.ensures in
    record { ascending = stays_ascending id c.args.self.now.entries.items place c.index_mut.result.now c.args.self.now.ascending at c.index_mut.ensures.value c.remove.new.self }

pub returns-in-Ok-clause-ok : goal.returns-in-Ok-clause-ok
returns-in-Ok-clause-ok c = λ schemas state schema primary wanted holds is first fit bytes.
    let id = c.args.id.0 in
    let place = c.in-Ok.place in
    let entries = c.args.self.now.entries.items in
    let entry = c.index_mut.result.now in
    let at = subst (λ entries. IsPlaceOf id entries place) c.as_slice.ensures.value c.in-Ok.ensures in
    let there = found id entries place entry c.args.self.now.ascending at c.index_mut.ensures.value in
    let after = c.remove.new.self in
    let changed = space_changed id entries place entry c.args.self.now.ascending at c.index_mut.ensures.value after in
    let was = space_there id entries schemas state holds entry.space there in
    let same = described_so (schemas id) schema entry.space (tuples_in state id) was is in
    on_ok_weaker c.remove.result (tuples_changed id entries _ schemas state holds _ after changed)
    (c.remove.ensures.ok (schemas id) (tuples_in state id) primary wanted was (subst (λ (s : Schema). index_with 0 s.indexes ≡ Some primary) same first) fit bytes)

pub returns-in-Ok-clause-absent : goal.returns-in-Ok-clause-absent
returns-in-Ok-clause-absent c = λ schemas state holds none.
    let id = c.args.id.0 in
    let place = c.in-Ok.place in
    let entries = c.args.self.now.entries.items in
    let entry = c.index_mut.result.now in
    let at = subst (λ entries. IsPlaceOf id entries place) c.as_slice.ensures.value c.in-Ok.ensures in
    let there = found id entries place entry c.args.self.now.ascending at c.index_mut.ensures.value in
    absurd (is_described id entries schemas state holds entry.space there none)

pub returns-in-Ok-clause-err : goal.returns-in-Ok-clause-err
returns-in-Ok-clause-err c = λ schemas state holds.
    let id = c.args.id.0 in
    let place = c.in-Ok.place in
    let entries = c.args.self.now.entries.items in
    let entry = c.index_mut.result.now in
    let at = subst (λ entries. IsPlaceOf id entries place) c.as_slice.ensures.value c.in-Ok.ensures in
    let there = found id entries place entry c.args.self.now.ascending at c.index_mut.ensures.value in
    let after = c.remove.new.self in
    let changed = space_changed id entries place entry c.args.self.now.ascending at c.index_mut.ensures.value after in
    let was = space_there id entries schemas state holds entry.space there in
    on_err_weaker c.remove.result (space_kept id entries _ schemas state holds after changed) (c.remove.ensures.err (schemas id) (tuples_in state id) was)

pub returns-in-Err-clause-ok : goal.returns-in-Err-clause-ok
returns-in-Err-clause-ok c = λ schemas state schema primary wanted holds is first fit bytes.
    let id = c.args.id.0 in
    let place = c.in-Err.field-0 in
    let entries = c.args.self.now.entries.items in
    let gap = subst (λ entries. IsGapOf id entries place) c.as_slice.ensures.value c.in-Err.ensures in
    absurd (none_there id entries schemas state holds schema is (none_found id entries place gap))
