use Rattle.std.proofs.Common.{subst, sym}
use Rattle.mx_space.specs.Spaces.{IsGapOf, IsPlaceOf}
use Rattle.mx_space.proofs.PlaceLaws.{found, none_found}
use Rattle.mx_space.proofs.spaces.Spaces.get.Goals as goal

pub returns-in-Ok : goal.returns-in-Ok
returns-in-Ok c =
    let id = c.args.id.0 in
    let place = c.in-Ok.place in
    let at = subst (λ entries. IsPlaceOf id entries place) c.as_slice.ensures.value c.in-Ok.ensures in
    sym (found id c.args.self.now.entries.items place c.index.result.now c.args.self.now.ascending at c.index.ensures)

pub returns-in-Err : goal.returns-in-Err
returns-in-Err c =
    let id = c.args.id.0 in
    let place = c.in-Err.field-0 in
    sym (none_found id c.args.self.now.entries.items place (subst (λ entries. IsGapOf id entries place) c.as_slice.ensures.value c.in-Err.ensures))
