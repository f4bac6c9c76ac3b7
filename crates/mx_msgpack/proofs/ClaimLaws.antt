-- The public laws: of spellings that begin each other, and of what is written.
use Rattle.std.proofs.Common.{◌≡◌, ℕ, List, [], ◌++◌, length, Ok, subst, ap, ◌∙◌}
use Rattle.std.proofs.lemmas.List.{append-nil}
use Rattle.mx_msgpack.specs.Grammar.{Value, Spells, max_nesting}
use Rattle.mx_msgpack.specs.Reading.{measured}
use Rattle.mx_msgpack.specs.Spelling.{IsSpellable, shortest}
use Rattle.mx_msgpack.proofs.FrontLaws.{measured_again}
use Rattle.mx_msgpack.proofs.PrefixLaws.{no_prefix_of_another, one_value}
use Rattle.mx_msgpack.proofs.ShortestLaws.{shortest_spells}

pub begins_no_other : (one other : Value) (bytes more : List ℕ) → Spells max_nesting one bytes → Spells max_nesting other (bytes ++ more) → (more ≡ []) × (one ≡ other)
begins_no_other one other bytes more s t =
    let none = no_prefix_of_another one other bytes more s t in
    let same : bytes ++ more ≡ bytes = ap (λ (l : List ℕ). bytes ++ l) none ∙ append-nil bytes in
    (none, one_value 64 one other bytes s (subst (Spells 64 other) same t))

pub read_again : (value : Value) (rest : List ℕ) → IsSpellable value
    → Spells max_nesting value (shortest value) × (measured (shortest value ++ rest) ≡ Ok (length (shortest value)))
read_again value rest (bytes, each, s) =
    let spelled = shortest_spells 64 value bytes each s in
    (spelled, measured_again value (shortest value) rest spelled)
