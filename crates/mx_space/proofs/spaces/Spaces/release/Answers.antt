use Rattle.std.proofs.Common.{subst}
use Rattle.mx_space.specs.Reserved.{content_released}
use Rattle.mx_space.specs.Spaces.{IsGapOf, IsPlaceOf}
use Rattle.mx_space.proofs.PlaceLaws.{content_changed, none_changed, found, none_found, space_changed, stays_ascending}
use Rattle.mx_space.proofs.spaces.Spaces.release.Goals as goal

pub invariant_of-self : goal.invariant_of-self
invariant_of-self c =
    let id = c.args.step.space.0 in
    let place = c.in-Ok.place in
    let at = subst (λ entries. IsPlaceOf id entries place) c.as_slice.ensures.value c.in-Ok.ensures in
    record { ascending = stays_ascending id c.args.self.now.entries.items place c.index_mut.result.now c.args.self.now.ascending at c.index_mut.ensures.value c.release.new.self }

pub returns-in-Ok : goal.returns-in-Ok
returns-in-Ok c =
    let id = c.args.step.space.0 in
    let place = c.in-Ok.place in
    let entries = c.args.self.now.entries.items in
    let entry = c.index_mut.result.now in
    let at = subst (λ entries. IsPlaceOf id entries place) c.as_slice.ensures.value c.in-Ok.ensures in
    let there = found id entries place entry c.args.self.now.ascending at c.index_mut.ensures.value in
    let after = c.release.new.self in
    let changed = space_changed id entries place entry c.args.self.now.ascending at c.index_mut.ensures.value after in
    content_changed id entries _ (content_released c.args.step) entry.space after there changed c.release.ensures

pub returns-in_default : goal.returns-in_default
returns-in_default c =
    let id = c.args.step.space.0 in
    let place = c.in_default.field-0 in
    let entries = c.args.self.now.entries.items in
    let gap = subst (λ entries. IsGapOf id entries place) c.as_slice.ensures.value c.in_default.ensures in
    none_changed id entries (content_released c.args.step) (none_found id entries place gap)
