use Rattle.std.proofs.Common.{subst, is_ok}
use Rattle.mx_space.specs.declared.spaces.SpaceEntry.{SpaceEntry}
use Rattle.mx_space.specs.Spaces.{IsGapOf, IsPlaceOf}
use Rattle.mx_space.proofs.PlaceLaws.{stays_ascending, still_ascending, space_inserted, space_changed}
use Rattle.mx_space.proofs.spaces.Spaces.insert.Goals as goal

pub invariant_of-self : goal.invariant_of-self
invariant_of-self c =
    let id = c.args.id.0 in
    let place = c.in-Ok.place in
    let at = subst (λ entries. IsPlaceOf id entries place) c.as_slice.ensures.value c.in-Ok.ensures in
    record { ascending = stays_ascending id c.args.self.now.entries.items place c.index_mut.result.now c.args.self.now.ascending at c.index_mut.ensures.value c.args.space }

pub invariant_of-self-in-Err : goal.invariant_of-self-in-Err
invariant_of-self-in-Err c =
    let place = c.in-Err.place in
    let new : SpaceEntry = record { id = c.args.id; space = c.args.space } in
    let gap = subst (λ entries. IsGapOf c.args.id.0 entries place) c.as_slice.ensures.value c.in-Err.ensures in
    record { ascending = rw c.insert.ensures.items (still_ascending c.args.self.now.entries.items place new gap (is_ok c.insert.result) c.args.self.now.ascending) }

pub returns-in-Ok-clause-ok : goal.returns-in-Ok-clause-ok
returns-in-Ok-clause-ok c =
    let id = c.args.id.0 in
    let place = c.in-Ok.place in
    let at = subst (λ entries. IsPlaceOf id entries place) c.as_slice.ensures.value c.in-Ok.ensures in
    space_changed id c.args.self.now.entries.items place c.index_mut.result.now c.args.self.now.ascending at c.index_mut.ensures.value c.args.space

pub returns-in_ok-insert-in-Err-clause-ok : goal.returns-in_ok-insert-in-Err-clause-ok
returns-in_ok-insert-in-Err-clause-ok c =
    let place = c.in-Err.place in
    let new : SpaceEntry = record { id = c.args.id; space = c.args.space } in
    let gap = subst (λ entries. IsGapOf c.args.id.0 entries place) c.as_slice.ensures.value c.in-Err.ensures in
    rw c.in_ok-insert-in-Err.ensures.items (space_inserted c.args.self.now.entries.items place new gap)
