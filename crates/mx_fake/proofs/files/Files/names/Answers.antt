use Rattle.std.proofs.Common.{ap, sym, ◌∙◌, map, string_bytes}
use Rattle.std.specs.FinMap as map
use Rattle.mx_fake.proofs.FileLaws.{names_in_order}
use Rattle.mx_fake.proofs.files.Files.names.Goals as goal

pub loop-name-init : goal.loop-name-init
loop-name-init c =
    rw c.new-names.ensures (ap (map string_bytes) (c.into_iter-name-iterator.ensures.into_iter_gives ∙ c.keys-name-items.ensures.rest)
    ∙ sym (names_in_order c.self.inside.stored c.keys-name-items.ensures.ordered)
    ∙ ap map.keys c.self.view_is)
