use Rattle.std.proofs.Common.{◌≡◌, ◌+◌, length, take}
use Rattle.mx_msgpack.specs.Spelling.{array_head}
use Rattle.mx_update.specs.Updates.{field_spelling}
use Rattle.mx_update.specs.Views.{field_view}
use Rattle.mx_update.proofs.SpellingLaws.{spelled}
use Rattle.mx_update.proofs.size.tuple_size.Given as goal

-- the head and the fields so far are counted
abbrev pub invariant-loop-field : goal.invariant-loop-field
invariant-loop-field l = l.size ≡ length (array_head (length l.fields)) + length (spelled field_view field_spelling (take l.field-index l.field-items))
