-- A new database's own rows begin with the number of a space that it has.
use Rattle.std.proofs.Common.{◌≡◌, ◌↔◌, ℕ, zero, suc, ◌<◌, ◌-◌, ◌^◌, Bool, true, false, cond, ◌&&◌, List, [], ◌∷◌, length, get_or, Option, Some, None, IsTrue, refl, sym, ap, ◌∙◌, subst, arith}
use Rattle.std.specs.Prelude.{pos, nat_le}
use Rattle.std.specs.Option.{option_map}
use Rattle.std.proofs.lemmas.Bool.{leb-true, le-leb}
use Rattle.std.proofs.lemmas.List.{append-nil}
use Rattle.mx_msgpack.specs.Grammar as grammar
use Rattle.mx_msgpack.specs.Grammar.{Value, Values, NoValue, MoreValues, Spells, max_nesting}
use Rattle.mx_msgpack.specs.Items.{SpellEach, items_of}
use Rattle.mx_msgpack.specs.Readers.{◌>>=◌, unsigned_in}
use Rattle.mx_msgpack.specs.Spelling.{AreBytes, shortest}
use Rattle.mx_msgpack.proofs.ItemLaws.{array_items}
use Rattle.mx_msgpack.proofs.Options.{same_some}
use Rattle.mx_msgpack.proofs.PrefixLaws.{one_value}
use Rattle.mx_msgpack.proofs.ShortestLaws.{shortest_spells}
use Rattle.mx_msgpack.proofs.UnsignedLaws.{int_read}
use Rattle.mx_schema.specs.Bootstrap.{first_indexes, first_spaces, rows_of}
use Rattle.mx_schema.specs.RowSteps.{is_first_number, names_first_space}
use Rattle.mx_schema.specs.SchemaChecks.{IsOneOf}
use Rattle.mx_schema.proofs.FirstLaws.{both_of, is_simple, simple_spelled}

-- an array that begins with such a number
abbrev begins_low : Value → Bool
begins_low (grammar.Array (MoreValues (grammar.Int (pos number)) others)) = nat_le number 512
begins_low _ = false

abbrev all_low : List Value → Bool
all_low [] = true
all_low (value ∷ others) = (is_simple max_nesting value && begins_low value) && all_low others

-- values whose shortest spellings are the same are the same
same_value : (value other : Value) (row : List ℕ) → AreBytes row → Spells max_nesting value row → is_simple max_nesting other ≡ true → shortest other ≡ shortest value → value ≡ other
same_value value other row each s simple same =
    one_value 64 value other (shortest value) (shortest_spells 64 value row each s) (subst (Spells 64 other) same (simple_spelled 64 other simple))

low_value : (values : List Value) (value : Value) (row : List ℕ) → AreBytes row → Spells max_nesting value row → all_low values ≡ true
    → (k : ℕ) → k < length (rows_of values) → get_or (rows_of values) k (shortest value) ≡ shortest value → begins_low value ≡ true
low_value [] value row each s low k within at = absurd (omega arith)
low_value (first ∷ others) value row each s low zero within at =
    let parts = both_of (is_simple max_nesting first && begins_low first) (all_low others) low in
    let both = both_of (is_simple max_nesting first) (begins_low first) parts.0 in
    ap begins_low (same_value value first row each s both.0 at) ∙ both.1
low_value (first ∷ others) value row each s low (suc k) within at =
    low_value others value row each s (both_of (is_simple max_nesting first && begins_low first) (all_low others) low).1 k (omega arith) at

number_first : (number : ℕ) (first : List ℕ) → nat_le number 512 ≡ true → Spells 63 (grammar.Int (pos number)) first → (others : List (List ℕ)) → names_first_space (first ∷ others) ≡ true
number_first number first low s others =
    let read : unsigned_in first ≡ Some number =
    ap unsigned_in (sym (append-nil first)) ∙ ap (option_map (λ (found : ℕ × List ℕ). found.0)) (int_read number first [] s) in
    let small = leb-true number 512 low in
    let fits : nat_le number (2 ^ 32 - 1) ≡ true = le-leb number (2 ^ 32 - 1) (omega arith) in
    ap (λ (o : Option ℕ). is_first_number (o >>= λ n. cond (nat_le n (2 ^ 32 - 1)) (Some n) None)) read ∙ ap (λ b. is_first_number (cond b (Some number) None)) fits ∙ low

low_items : (value : Value) (row : List ℕ) → begins_low value ≡ true → Spells max_nesting value row → (fields : List (List ℕ)) × (items_of row ≡ Some fields) × (names_first_space fields ≡ true)
low_items (grammar.Array (MoreValues (grammar.Int (pos number)) others)) row low s =
    let items = array_items row (MoreValues (grammar.Int (pos number)) others) s in
    by_items items.1 items.2 items.4
  where
    by_items : (fields : List (List ℕ)) → items_of row ≡ Some fields → SpellEach 63 (MoreValues (grammar.Int (pos number)) others) fields
        → (fields : List (List ℕ)) × (items_of row ≡ Some fields) × (names_first_space fields ≡ true)
    by_items [] read each = absurd each
    by_items (first ∷ rest) read each = (first ∷ rest, read, number_first number first low each.0 rest)
low_items _ row low s = absurd cc

-- a row that is one of such values
own_items : (values : List Value) → all_low values ≡ true → (row : List ℕ) → AreBytes row → IsOneOf values row
    → (fields : List (List ℕ)) × (items_of row ≡ Some fields) × (names_first_space fields ≡ true)
own_items values low row each (value, s, (k, within, at)) = low_items value row (low_value values value row each s low k within at) s

no_items : (fields : List (List ℕ)) → ◌≡◌ {A = Option (List (List ℕ))} None (Some fields) → ⊥
no_items fields e = cc

not_own : (values : List Value) → all_low values ≡ true → (row : List ℕ) → AreBytes row → None ≡ items_of row → IsOneOf values row → ⊥
not_own values low row each none one = let own = own_items values low row each one in no_items own.0 (none ∙ own.1)

other_number : (values : List Value) → all_low values ≡ true → (row : List ℕ) → AreBytes row → (fields : List (List ℕ)) → items_of row ≡ Some fields → names_first_space fields ≡ false
    → IsOneOf values row → ⊥
other_number values low row each fields read other one =
    let own = own_items values low row each one in
    let same : own.0 ≡ fields = same_some own.0 fields (sym own.1 ∙ read) in
    cc (sym own.2 ∙ ap names_first_space same ∙ other)

spaces_low : all_low first_spaces ≡ true
spaces_low = refl

indexes_low : all_low first_indexes ≡ true
indexes_low = refl

pub no_space : (row : List ℕ) → AreBytes row → None ≡ items_of row → IsOneOf first_spaces row → ⊥
no_space = not_own first_spaces spaces_low

pub no_index : (row : List ℕ) → AreBytes row → None ≡ items_of row → IsOneOf first_indexes row → ⊥
no_index = not_own first_indexes indexes_low

tells_other : (P : Type 0) → (P → ⊥) → IsTrue false ↔ P
tells_other P none = ((λ t. absurd cc), (λ p. absurd (none p)))

pub other_space : (row : List ℕ) → AreBytes row → (fields : List (List ℕ)) → items_of row ≡ Some fields → names_first_space fields ≡ false → IsTrue false ↔ IsOneOf first_spaces row
other_space row each fields read other = tells_other (IsOneOf first_spaces row) (other_number first_spaces spaces_low row each fields read other)

pub other_index : (row : List ℕ) → AreBytes row → (fields : List (List ℕ)) → items_of row ≡ Some fields → names_first_space fields ≡ false → IsTrue false ↔ IsOneOf first_indexes row
other_index row each fields read other = tells_other (IsOneOf first_indexes row) (other_number first_indexes indexes_low row each fields read other)
