-- What a clause sees of a `PartRef`: its part without where it lies in memory.
use Rattle.mx_key.specs.declared.part_ref.PartRef.{PartRef}
use Rattle.mx_key.specs.declared.part_ref.PartRef.TheVariants as part
use Rattle.mx_key.specs.Keys.{KeyPart, Boolean, Integer, Text, Binary}

abbrev pub part_view : PartRef → KeyPart
part_view (part.Boolean truth) = Boolean truth
part_view (part.Integer number) = Integer number
part_view (part.Text text) = Text text.now
part_view (part.Binary content) = Binary content.now
