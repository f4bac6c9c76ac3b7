use Rattle.std.proofs.Common.{◌∙◌}
use Rattle.mx_key.proofs.PlaceLaws.{after_rest}
use Rattle.mx_key.proofs.keys.bytes_from.Goals as goal

pub returns : goal.returns
returns c = (
  c.if-field-items.false,
  c.pass_over-2.ensures ∙ after_rest c.args.place.field c.args.field c.args.place.bytes.now c.args.items.bytes.now c.if-field-place-2.false c.requires,
)
