use Rattle.std.proofs.Common.{subst}
use Rattle.mx_space.specs.Spaces.{IsGapOf, IsPlaceOf}
use Rattle.mx_space.proofs.PlaceLaws.{left_ascending, none_dropped, none_found, space_removed}
use Rattle.mx_space.proofs.spaces.Spaces.drop_space.Goals as goal

pub invariant_of-self : goal.invariant_of-self
invariant_of-self c =
    let id = c.args.id.0 in
    let place = c.in-Ok.place in
    let entries = c.args.self.now.entries.items in
    let at = subst (λ entries. IsPlaceOf id entries place) c.as_slice.ensures.value c.in-Ok.ensures in
    record { ascending = rw c.remove.ensures.items (left_ascending id entries place c.remove.result c.args.self.now.ascending at) }

pub returns-in-Ok : goal.returns-in-Ok
returns-in-Ok c =
    let id = c.args.id.0 in
    let place = c.in-Ok.place in
    let entries = c.args.self.now.entries.items in
    let at = subst (λ entries. IsPlaceOf id entries place) c.as_slice.ensures.value c.in-Ok.ensures in
    rw c.remove.ensures.items (space_removed id entries place c.remove.result c.args.self.now.ascending at)

pub returns-in_default : goal.returns-in_default
returns-in_default c =
    let id = c.args.id.0 in
    let place = c.in_default.field-0 in
    let entries = c.args.self.now.entries.items in
    let gap = subst (λ entries. IsGapOf id entries place) c.as_slice.ensures.value c.in_default.ensures in
    none_dropped id entries (none_found id entries place gap)
