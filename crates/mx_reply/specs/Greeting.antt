-- The greeting of a connection (IPROTO, "Greeting message").
use Rattle.std.specs.Prelude.{ℕ, ◌-◌, List, [], ◌∷◌, ◌++◌, length, replicate, codes}
use Rattle.base64.specs.Engines.{standard}
use Rattle.base64.specs.GeneralPurpose.{encode_of}
use Rattle.uuid.specs.Text.{hyphenated_text, lower}

-- a line of 63 bytes, padded with spaces, and its newline
abbrev pub padded_line : List ℕ → List ℕ
padded_line text = text ++ replicate (63 - length text) 32 ++ 10 ∷ []

-- product, version, protocol and instance on one line, this salt in base64 on the other
unfoldable pub greeting_of : (instance salt : List ℕ) → List ℕ
greeting_of instance salt =
    padded_line (codes "Tarantool 2.11.0 (Binary) " ++ hyphenated_text lower instance) ++ padded_line (encode_of standard salt)
