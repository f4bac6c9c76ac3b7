-- Only private functions and proofs need these: the completion of a value, by its leading byte.
use Rattle.std.specs.Prelude.{◌≡◌, ◌⊎◌, ⊤, ℕ, zero, suc, ◌+◌, ◌-◌, ◌≤◌, Bool, true, false, List, [], ◌∷◌, length, drop, Option, Some, None, nat_lt, ◌||◌, ◌&&◌, if◌then◌else◌}
use Rattle.byteorder.specs.Endian.{big_number}
use Rattle.mx_msgpack.specs.Grammar.{Value, Spells, max_length}
use Rattle.mx_msgpack.specs.Grammar as grammar
use Rattle.mx_completion.specs.declared.completion.Completion.{Completion}
use Rattle.mx_completion.specs.declared.completion.Completion.TheVariants.{Whole, Missing, Impossible}
use Rattle.mx_completion.specs.declared.leading.Kind.{Kind}
use Rattle.mx_completion.specs.declared.leading.Kind.TheVariants.{Int, Text, Array, Map, Other}
use Rattle.mx_completion.specs.declared.leading.Leading.{Leading}
use Rattle.mx_completion.specs.LeadingBytes.{leading_of, holds_values, follow_count}
use Rattle.mx_completion.specs.Sequences.{longer, in_row}

-- how the values inside are completed, where there is room for a container
abbrev pub Inner : Type 0
Inner = Option (List ℕ → Completion)

abbrev pub is_closed : Inner → Bool
is_closed None = true
is_closed (Some one) = false

-- the completion of so many bytes
abbrev pub bytes_completion : ℕ → List ℕ → Completion
bytes_completion size bytes = if nat_lt (length bytes) size then Missing (size - length bytes) else Whole size

abbrev pub values_completion : Inner → ℕ → List ℕ → Completion
values_completion None count bytes = Impossible
values_completion (Some one) count bytes = in_row one count bytes

-- the completion of so many values or bytes
abbrev pub content_completion : Inner → (holds_values : Bool) → (count : ℕ) → List ℕ → Completion
content_completion inner true count bytes = values_completion inner count bytes
content_completion inner false count bytes = bytes_completion count bytes

-- the same behind a width
abbrev pub padded_completion : Inner → Leading → (size : ℕ) → List ℕ → Completion
padded_completion inner leading size bytes =
    if nat_lt max_length size || (holds_values leading.kind && is_closed inner) then Impossible
    else if nat_lt (length bytes) leading.width then Missing (leading.width - length bytes + follow_count leading.kind size)
    else longer leading.width (content_completion inner (holds_values leading.kind) (follow_count leading.kind size) (drop leading.width bytes))

-- the completion of what follows a leading byte
abbrev pub led_completion : Inner → Leading → List ℕ → Completion
led_completion inner leading bytes = padded_completion inner leading (leading.length + big_number leading.width bytes) bytes

abbrev pub behind_leading : Inner → Option Leading → List ℕ → Completion
behind_leading inner None rest = Impossible
behind_leading inner (Some leading) rest = longer 1 (led_completion inner leading rest)

abbrev pub one_completion : Inner → List ℕ → Completion
one_completion inner [] = Missing 1
one_completion inner (byte ∷ rest) = behind_leading inner (leading_of byte) rest

-- the completion of a value with room for so many containers one inside the other
unfoldable pub completed : ℕ → List ℕ → Completion
completed zero bytes = one_completion None bytes
completed (suc room) bytes = one_completion (Some (completed room)) bytes

abbrev pub inner_of : ℕ → Inner
inner_of zero = None
inner_of (suc room) = Some (completed room)

-- a completion of so many bytes that isn't missing more
abbrev pub IsWithinSize : (size most : ℕ) → Completion → Type 0
IsWithinSize size most (Whole found) = found ≤ size
IsWithinSize size most (Missing least) = least ≤ most
IsWithinSize size most Impossible = ⊤

-- the type of a value
abbrev pub value_kind : Value → Kind
value_kind (grammar.Int number) = Int
value_kind (grammar.Str text) = Text
value_kind (grammar.Array values) = Array
value_kind (grammar.Map pairs) = Map
value_kind _ = Other

-- a value of this type
abbrev pub IsOfKind : Kind → (room : ℕ) → List ℕ → Type 0
IsOfKind kind room bytes = (value : Value) × Spells room value bytes × (value_kind value ≡ kind)

-- which types are asked for, where there is room for them
abbrev pub IsAsked : Kind → (room : ℕ) → Type 0
IsAsked kind room = (kind ≡ Int) ⊎ (kind ≡ Text) ⊎ ((kind ≡ Array) × (1 ≤ room))
