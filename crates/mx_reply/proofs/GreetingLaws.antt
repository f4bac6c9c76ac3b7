-- The greeting has 128 bytes.
use Rattle.std.proofs.Common.{◌≡◌, ℕ, ◌+◌, ◌-◌, ◌≤◌, List, [], ◌∷◌, ◌++◌, length, replicate, length-append, ap, ◌∙◌, arith}
use Rattle.std.specs.Prelude.{codes}
use Rattle.std.proofs.lemmas.List.{length-replicate}
use Rattle.base64.proofs.RoundTrip.{length-encode_symbols}
use Rattle.base64.specs.Engines.{standard}
use Rattle.base64.specs.GeneralPurpose.{encode_of, engine_symbols}
use Rattle.base64.specs.Rfc4648.{encode_symbols, padding_len, unpadded_len}
use Rattle.uuid.specs.Text.{hyphenated_text, lower}
use Rattle.uuid.proofs.TextLemmas.{by_index_length}
use Rattle.mx_reply.specs.Greeting.{greeting_of, padded_line}

padded-length : (text : List ℕ) → length text ≤ 63 → length (padded_line text) ≡ 64
padded-length text short =
    let spaces : List ℕ = replicate (63 - length text) 32 in
    omega (arith, length-append (text ++ spaces) (10 ∷ []), length-append text spaces, length-replicate {A = ℕ} (63 - length text) 32)

hyphenated-length : (instance : List ℕ) → length (hyphenated_text lower instance) ≡ 36
hyphenated-length instance = by_index_length 36 _

first-length : (instance : List ℕ) → length (codes "Tarantool 2.11.0 (Binary) " ++ hyphenated_text lower instance) ≡ 62
first-length instance =
    length-append (codes "Tarantool 2.11.0 (Binary) ") (hyphenated_text lower instance) ∙ ap (λ (n : ℕ). 26 + n) (hyphenated-length instance)

encoded-length : (salt : List ℕ) → length salt ≡ 32 → length (encode_of standard salt) ≡ 44
encoded-length salt long =
    let symbols = encode_symbols (engine_symbols standard) salt in
    let padding : List ℕ = replicate (padding_len (length salt)) 61 in
    length-append symbols padding
    ∙ ap (λ (n : ℕ). n + length padding) (length-encode_symbols (engine_symbols standard) salt)
    ∙ ap (λ (n : ℕ). unpadded_len (length salt) + n) (length-replicate {A = ℕ} (padding_len (length salt)) 61)
    ∙ ap (λ (n : ℕ). unpadded_len n + padding_len n) long

pub greeting-length : (instance salt : List ℕ) → length salt ≡ 32 → length (greeting_of instance salt) ≡ 128
unfolding greeting_of
greeting-length instance salt long =
    let first = codes "Tarantool 2.11.0 (Binary) " ++ hyphenated_text lower instance in
    let second = encode_of standard salt in
    let f : length first ≡ 62 = first-length instance in
    let s : length second ≡ 44 = encoded-length salt long in
    length-append (padded_line first) (padded_line second)
    ∙ ap (λ (n : ℕ). n + length (padded_line second)) (padded-length first (omega arith))
    ∙ ap (λ (n : ℕ). 64 + n) (padded-length second (omega arith))
