-- The rows of the space of settings.
use Rattle.std.specs.Prelude.{ℕ, Bool, List, ◌∷◌, Option, Some, None}
use Rattle.mx_msgpack.specs.Projections.{as_text, first_as}
use Rattle.mx_msgpack.specs.Items.{items_of}
use Rattle.mx_schema.specs.Bootstrap.{leader}
use Rattle.mx_schema.specs.SpaceRows.{is_text}

-- the text that stands first
abbrev pub first_text : Option (List (List ℕ)) → Option (List ℕ)
first_text (Some (field ∷ fields)) = first_as as_text field
first_text _ = None

-- the setting that says which node may be written
abbrev pub is_leader : (tuple : List ℕ) → Bool
is_leader tuple = is_text leader (first_text (items_of tuple))
