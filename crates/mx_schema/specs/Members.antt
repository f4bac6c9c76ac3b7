-- The rows of the space of the nodes of a replica set.
use Rattle.std.specs.Prelude.{ℕ, Bool, false, true, ◌&&◌, ◌||◌, List, [], ◌∷◌, Option, Some, None, codes, nat_le, ◌==◌, if◌then◌else◌}
use Rattle.mx_msgpack.specs.Items.{items_of}
use Rattle.mx_msgpack.specs.Projections.{as_text, first_as}
use Rattle.mx_msgpack.specs.Readers.{unsigned_in}

abbrev pub is_between : (least most number : ℕ) → Bool
is_between least most number = nat_le least number && nat_le number most

-- the code of a lower-case hexadecimal digit
abbrev pub is_hexadecimal_digit : ℕ → Bool
is_hexadecimal_digit code = is_between 48 57 code || is_between 97 102 code

-- the code of the letter x
abbrev pub any_digit : ℕ
any_digit = 120

-- a text of this form, where x stands for any hexadecimal digit and another letter for itself
abbrev pub has_form : (form text : List ℕ) → Bool
has_form [] [] = true
has_form (mark ∷ form) (code ∷ text) = (if mark == any_digit then is_hexadecimal_digit code else code == mark) && has_form form text
has_form _ _ = false

-- the text of a UUID in lower case
abbrev pub is_uuid_text : List ℕ → Bool
is_uuid_text text = has_form (codes "xxxxxxxx-xxxx-xxxx-xxxx-xxxxxxxxxxxx") text

abbrev pub is_member_id : Option ℕ → Bool
is_member_id None = false
is_member_id (Some id) = is_between 2 31 id

abbrev pub is_member_uuid : Option (List ℕ) → Bool
is_member_uuid None = false
is_member_uuid (Some text) = is_uuid_text text

abbrev pub are_member_fields : Option (List (List ℕ)) → Bool
are_member_fields (Some (id ∷ uuid ∷ [])) = is_member_id (unsigned_in id) && is_member_uuid (first_as as_text uuid)
are_member_fields _ = false

-- a row of a node that joined the replica set: its replica id, from 2 to 31, and its UUID
abbrev pub is_member : (row : List ℕ) → Bool
is_member row = are_member_fields (items_of row)
