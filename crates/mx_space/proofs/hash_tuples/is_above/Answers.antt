use Rattle.std.proofs.Common.{sym, ap, ◌∙◌}
use Rattle.std.specs.Prelude.{◌-◌, length}
use Rattle.std.specs.Ordering.{is_lt}
use Rattle.mx_schema.proofs.OrderLaws.{lt_is}
use Rattle.mx_space.proofs.FirstTupleLaws.{above_one, all_above}
use Rattle.mx_space.proofs.hash_tuples.is_above.Goals as goal

pub returns-in-Some : goal.returns-in-Some
returns-in-Some c = (
  λ is. all_above c.args.key.now c.in-Some.last.now c.args.tuples.now.entries (sym c.cmp.ensures ∙ lt_is c.cmp.result (sym c.is_lt.ensures ∙ is)) c.in-Some.ensures.all_up_to,
  λ above. c.is_lt.ensures
      ∙ ap is_lt (c.cmp.ensures ∙ above_one c.args.key.now c.in-Some.last.now (length c.args.tuples.now.entries - 1) _ c.args.tuples.now.entries above c.in-Some.ensures.last),
)
