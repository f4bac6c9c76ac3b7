use Rattle.std.proofs.Common.{◌≡◌, ◌++◌, take}
use Rattle.mx_update.specs.Updates.{field_spelling}
use Rattle.mx_update.specs.Views.{field_view}
use Rattle.mx_update.proofs.SpellingLaws.{spelled}
use Rattle.mx_update.proofs.writing.write_fields.Given as goal

-- the fields so far are written
abbrev pub invariant-loop-field : goal.invariant-loop-field
invariant-loop-field l = l.out ≡ l.initial.out ++ spelled field_view field_spelling (take l.field-index l.fields)
