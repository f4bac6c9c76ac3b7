use Rattle.std.proofs.Common.{Some, ap, ◌∙◌, subst}
use Rattle.mx_schema.specs.State.{key_in}
use Rattle.mx_write.specs.Lookup.{own_key}
use Rattle.mx_write.specs.Made.{made, row_with}
use Rattle.mx_judge.specs.Makes.{JudgesMade}
use Rattle.mx_write.specs.Stages.{shown_if}
use Rattle.mx_write.specs.Views.{write_view}
use Rattle.mx_judge.proofs.MadeLaws.{judged_made}
use Rattle.mx_judge.proofs.TargetLaws.{has_key, own_bytes, own_fits, own_has}
use Rattle.mx_slow_state.proofs.slow_state.writes.put_copy.Goals as goal

pub returns : goal.returns
returns c = λ before is has same_row.
    let site = c.args.site.now in
    let space = site.space.0 in
    let primary = site.primary.now in
    let tuple = c.args.tuple.now in
    let write = write_view c.args.write.now in
    let own = own_key primary tuple in
    subst (λ t. JudgesMade before space write c.make.result (made space write own (Some t) (shown_if c.args.is_shown t))) c.in_ok-from_slice.ensures
    (judged_made before space write site.schema.now own _ _ _ is.stored.is (own_fits primary tuple _ has) (own_bytes primary tuple _ has)
    (has_key site.schema.now primary own _ is.primary (ap (key_in primary.key) c.in_ok-from_slice.ensures ∙ own_has primary tuple _ has))
    (ap (row_with space write) c.new.ensures ∙ same_row) c.make.result c.make.ensures)
