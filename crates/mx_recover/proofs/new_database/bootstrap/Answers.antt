use Rattle.std.proofs.Common.{◌≡◌, [], ◌∷◌, sym, ◌∙◌}
use Rattle.std.specs.FinMap.{empty, get}
use Rattle.mx_schema.specs.Bootstrap.{first_state, part_of_numbers, part_of_texts}
use Rattle.mx_schema.specs.Catalogues.{schema_of}
use Rattle.mx_space.proofs.HeldLaws.{holds_described}
use Rattle.mx_schema.proofs.FirstSoundLaws.{first_state_described, first_state_indexed}
use Rattle.mx_recover.proofs.FirstRowLaws.{first_index_rows_keys, first_settings_keys, first_space_rows_keys, sound_by}
use Rattle.mx_recover.proofs.new_database.bootstrap.Goals as goal

pub returns : goal.returns
unfolding first_state
returns c =
    let schemas = schema_of first_state in
    let described = holds_described (get c.in_ok-catalogue.catalogue) schemas c.in_ok-state.state empty c.in_ok-catalogue.ensures c.in_ok-state.ensures in
    let texts : c.in_ok-text.text ≡ part_of_texts 0 ∷ [] = rw c.part.ensures at c.in_ok-text.ensures in
    let numbers : c.in_ok-number.number ≡ part_of_numbers 0 ∷ [] = rw c.part-2.ensures at c.in_ok-number.ensures in
    let pairs : c.in_ok-numbers.numbers ≡ part_of_numbers 0 ∷ part_of_numbers 1 ∷ [] = rw (c.part-3.ensures, c.part-4.ensures) at c.in_ok-numbers.ensures in
    let one = first_settings_keys in
    let two = first_space_rows_keys in
    let three = first_index_rows_keys in
    let first = c.in_ok-put_rows.ensures schemas empty one.schema one.primary described one.described one.there (one.own ∙ sym texts) in
    let second = c.in_ok-put_rows-2.ensures schemas _ two.schema two.primary first two.described two.there (two.own ∙ sym numbers) in
    let third = c.in_ok-put_rows-3.ensures schemas _ three.schema three.primary second three.described three.there (three.own ∙ sym pairs) in
    let has = rw (texts, numbers, pairs, c.first_setting_rows.ensures, c.first_space_rows.ensures, c.first_index_rows.ensures) at third in
    record { spaces = has; sound = sound_by first_state c.put_rows-3.new.state has first_state_indexed first_state_described }
