use Rattle.std.proofs.Common.{◌≡◌, ℕ, List, [], length, Option, Some, refl, ap, ◌∙◌, arith}
use Rattle.std.specs.Prelude.{Ok, Err, if◌then◌else◌}
use Rattle.std.proofs.lemmas.Bool.{le-ltb}
use Rattle.mx_key.specs.declared.fault.Misfit.TheVariants.{TooLong}
use Rattle.mx_key.specs.declared.part.Part.{Part}
use Rattle.std.specs.Option.{option_map, unwrap_or}
use Rattle.mx_msgpack.specs.Items.{array_of, values_from}
use Rattle.mx_key.specs.Parts.{key_of_items}
use Rattle.mx_msgpack.specs.Reading.{reading_of, head_at}
use Rattle.mx_msgpack.specs.Reading as reading
use Rattle.mx_schema.proofs.keyed.array_or_empty.Goals as goal

pub returns-in-None-clause-array : goal.returns-in-None-clause-array
unfolding array_of reading_of head_at reading.after_first
returns-in-None-clause-array c = ((0, []), refl)

pub returns-in-None-clause-items : goal.returns-in-None-clause-items
unfolding array_of reading_of head_at reading.after_first
returns-in-None-clause-items c = ap (λ (o : Option (ℕ × List ℕ)). unwrap_or (option_map (λ (array : ℕ × List ℕ). values_from array.0 array.1) o) []) c.in-None.ensures

no_parts : (parts : List Part) → key_of_items parts (Some []) ≡ Ok []
no_parts parts = ap (λ b. if b then Err (TooLong 0) else Ok []) (le-ltb (length parts) 0 (omega arith))

pub returns-in-None-clause-key : goal.returns-in-None-clause-key
unfolding array_of reading_of head_at reading.after_first
returns-in-None-clause-key c = λ parts.
    no_parts parts ∙ ap (λ (o : Option (ℕ × List ℕ)). key_of_items parts (option_map (λ (array : ℕ × List ℕ). values_from array.0 array.1) o)) c.in-None.ensures
