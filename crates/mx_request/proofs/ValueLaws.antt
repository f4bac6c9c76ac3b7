-- The values of keys, as they are read.
use Rattle.std.proofs.Common.{◌≡◌, ℕ, suc, ◌-◌, ◌<◌, true, List, ◌∷◌, length, Option, Some, None, Result, Ok, Err, set, refl, sym, ap, ◌∙◌, arith, ltb, lt-ltb}
use Rattle.std.proofs.lemmas.Bool.{false≢true}
use Rattle.std.specs.Prelude.{◌↔◌, IsOk, IfOk}
use Rattle.std.specs.Result.{result_ok}
use Rattle.uuid.specs.Text.{parsed, parsed_hyphenated}
use Rattle.mx_msgpack.specs.Reading.{ShownStr, reading_of}
use Rattle.mx_vclock.specs.Vclocks.{max_lsn}
use Rattle.mx_msgpack.specs.Maps.{pairs_from}
use Rattle.mx_request.specs.Values.{vclock_from, number_to, uuid_in}

parsed_as : {E : Type 0} (r : Result (List ℕ) E) (p : Option (List ℕ)) → (IsOk r ↔ ((id : List ℕ) × (p ≡ Some id))) → IfOk r (λ id. Some id ≡ p) → result_ok r ≡ p
parsed_as (Ok id) p found same = same
parsed_as (Err e) None found same = refl
parsed_as (Err e) (Some id) found same = absurd (false≢true (found.1 (id, refl)))

hyphenated : (text : List ℕ) → length text ≡ 36 → parsed text ≡ parsed_hyphenated text
hyphenated text long = rw long refl

-- a text of 36 bytes, as it was parsed
pub uuid_parsed : {E : Type 0} (value text : List ℕ) (size : ℕ) (r : Result (List ℕ) E) → reading_of value ≡ Ok (ShownStr text, size) → length text ≡ 36
    → (IsOk r ↔ ((id : List ℕ) × (parsed text ≡ Some id))) → IfOk r (λ id. Some id ≡ parsed text) → result_ok r ≡ uuid_in value
uuid_parsed value text size r reads long found same = rw reads (parsed_as r (parsed text) found same ∙ hyphenated text long)

-- one more pair of a vclock
pub clock_turn : (clock after : List ℕ) (whole : Option (List ℕ)) (left id lsn : ℕ) (bytes rest value : List ℕ) → 0 < left
    → ((others : ℕ) → pairs_from (suc others) bytes ≡ record { key = Some id; value = value } ∷ pairs_from others rest)
    → Some lsn ≡ number_to max_lsn value → id < 32 → after ≡ set clock id lsn
    → vclock_from clock (pairs_from left bytes) ≡ whole → vclock_from after (pairs_from (left - 1) rest) ≡ whole
clock_turn clock after whole left id lsn bytes rest value some first number below is all =
    let more : left ≡ suc (left - 1) = omega arith in
    let pairs : pairs_from left bytes ≡ record { key = Some id; value = value } ∷ pairs_from (left - 1) rest = ap (λ (n : ℕ). pairs_from n bytes) more ∙ first (left - 1) in
    let known : ltb id 32 ≡ true = lt-ltb id 32 below in
    let turn : vclock_from clock (record { key = Some id; value = value } ∷ pairs_from (left - 1) rest) ≡ vclock_from after (pairs_from (left - 1) rest) =
    rw (← number, known, is) refl in
    sym turn ∙ ap (vclock_from clock) (sym pairs) ∙ all
