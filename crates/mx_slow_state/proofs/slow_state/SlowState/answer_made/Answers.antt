use Rattle.std.proofs.Common.{refl, ap, ◌∙◌}
use Rattle.mx_write.specs.Made.{row_with}
use Rattle.mx_write.specs.Views.{write_view}
use Rattle.mx_slow_state.proofs.SlowAnswerLaws.{slow_makes}
use Rattle.mx_slow_state.proofs.slow_state.SlowState.answer_made.Goals as goal

pub returns : goal.returns
returns c = λ before asked makes writes.
    slow_makes before asked c.args.space.0 (write_view c.args.write.now) writes c.args.space c.args.made c.in_ok-show.field-0 c.in_ok-row.row refl c.in_ok-show.ensures
    (c.in_ok-row.ensures ∙ c.row_of.ensures ∙ ap (row_with c.args.space.0 (write_view c.args.write.now)) c.as_slice.ensures) makes
