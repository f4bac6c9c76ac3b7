-- Only private functions need these: what private types are seen as.
use Rattle.mx_update.specs.Updates as updates
use Rattle.mx_update.specs.declared.field.Field.{Field}
use Rattle.mx_update.specs.declared.field.Field.TheVariants.{Sent, Number, Text}

abbrev pub field_view : Field → updates.Field
field_view (Sent spelling) = updates.Sent spelling.now
field_view (Number number) = updates.Number number
field_view (Text text) = updates.Text text
