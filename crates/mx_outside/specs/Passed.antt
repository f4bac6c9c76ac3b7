-- Which of the bytes that a sink holds were passed on.
use Rattle.std.specs.Prelude.{◌≡◌, ⊤, ℕ, List, ◌++◌, Option, Some, None}

-- What was passed on stays so, and more may follow. It is known after a call just where it was before.
abbrev pub PassesOn : (before after : Option (List ℕ)) → Type 0
PassesOn None after = after ≡ None
PassesOn (Some bytes) after = (more : List ℕ) × (after ≡ Some (bytes ++ more))

-- what was passed on, where it is known, is all that the sink holds
abbrev pub IsAllOf : (passed contents : Option (List ℕ)) → Type 0
IsAllOf None contents = ⊤
IsAllOf (Some bytes) contents = contents ≡ Some bytes

-- what was passed on, where it is known, is a prefix of what the sink holds
abbrev pub IsPrefixOf : (passed contents : Option (List ℕ)) → Type 0
IsPrefixOf None contents = ⊤
IsPrefixOf (Some bytes) contents = (rest : List ℕ) × (contents ≡ Some (bytes ++ rest))
