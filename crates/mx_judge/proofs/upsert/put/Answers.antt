use Rattle.std.proofs.Common.{[], Some, refl, sym, ap, ◌∙◌}
use Rattle.mx_schema.specs.State.{key_in}
use Rattle.mx_write.specs.Judged.{◌>>=◌}
use Rattle.mx_write.specs.Lookup.{other_indexes, own_key}
use Rattle.mx_write.specs.Made.{made}
use Rattle.mx_write.specs.Unique.{are_free}
use Rattle.mx_write.specs.Writes.{Upsert}
use Rattle.mx_judge.proofs.MadeLaws.{judged_made}
use Rattle.mx_write.proofs.StageLaws.{goes_on, went_on}
use Rattle.mx_judge.proofs.EntryStageLaws.{judged_by}
use Rattle.mx_judge.proofs.TargetLaws.{has_key, own_bytes, own_fits, own_has}
use Rattle.mx_judge.proofs.upsert.put.Goals as goal

pub returns-clause-judges : goal.returns-clause-judges
returns-clause-judges c = λ before target has.
    let t = c.args.target.now in
    let space = t.scope.space.0 in
    let schema = t.schema.now in
    let primary = t.primary.now in
    let tuple = c.args.tuple.now in
    let own = own_key primary tuple in
    let write = Upsert c.args.base tuple c.args.operations.now in
    let fits = own_fits primary tuple c.args.key has in
    let bytes = own_bytes primary tuple c.args.key has in
    let stage = are_free before space schema primary (Some own) tuple (other_indexes schema.indexes) in
    let free = went_on stage (sym c.in_default.is ∙ c.in_ok-refusal.ensures.finds before (Some own) target (fits, bytes)) in
    let copy = c.in_ok-from_slice.field-0 in
    judged_by before space write c.make.result (stage >>= λ _. made space write own (Some tuple) []) (made space write own (Some copy) [])
    (goes_on stage (λ _. made space write own (Some tuple) []) tt free ∙ ap (λ o. (made space write own (Some o) []).outcome) (sym c.in_ok-from_slice.ensures))
    (judged_made before space write schema own _ _ _ (target.stored.sees.state.holds.is ∙ ap Some (sym target.schema)) fits bytes
    (has_key schema primary own copy target.primary (ap (key_in primary.key) c.in_ok-from_slice.ensures ∙ own_has primary tuple c.args.key has)) refl c.make.result c.make.ensures)
