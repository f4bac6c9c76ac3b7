-- How many bytes the body of a row takes.
use Rattle.std.proofs.Common.{◌≡◌, ℕ, ◌+◌, ◌<◌, ◌≤◌, List, [], ◌∷◌, ◌++◌, length, refl, ap, length-append, arith}
use Rattle.std.specs.Prelude.{◌==◌}
use Rattle.std.proofs.lemmas.Bool.{cond_both, lt-ltb, ne_eqb}
use Rattle.mx_msgpack.specs.Spelling.{shortest_unsigned, map_head}
use Rattle.mx_base.specs.Keys.{base_key, space_key, parts_key, tuple_key, operations_key}
use Rattle.mx_request.specs.Spelling.{Written, map_text, unless_default}
use Rattle.mx_request.proofs.WriterLaws.{pairs_text, pairs_text-append}
use Rattle.mx_row.specs.declared.row.Row.{Row}
use Rattle.mx_row.specs.Rows.{update_type, delete_type, upsert_type, row_body_text}

-- ---- maps of a few pairs

short_head : (count : ℕ) → count < 0x10 → map_head count ≡ (0x80 + count) ∷ []
unfolding map_head
short_head count few = rw (lt-ltb count 0x10 few) refl

-- a map of fewer than 16 pairs has a head of one byte
pub short_text : (pairs : List Written) → length pairs < 0x10 → map_text pairs ≡ (0x80 + length pairs) ∷ pairs_text pairs
short_text pairs few = ap (λ (head : List ℕ). head ++ pairs_text pairs) (short_head (length pairs) few)

pub unless_few : (key default number : ℕ) → length (unless_default key default number) ≤ 1
unless_few key default number = cond_both (number == default) _ _ (λ (pairs : List Written). length pairs ≤ 1) (λ _. omega arith) (λ _. omega arith)

two_pairs : (one other : ℕ) (first second : List ℕ) → length (map_text ((one, first) ∷ (other, second) ∷ [])) ≡ 3 + length first + length second
two_pairs one other first second =
    let text = ap length (short_text ((one, first) ∷ (other, second) ∷ []) (omega arith)) in
    let all = length-append first (other ∷ (second ++ [])) in
    let last = length-append second [] in
    omega arith

-- a space, a base where it isn't 0, and two more
based_pairs : (one other space base : ℕ) (first second : List ℕ)
    → length (map_text ((space_key, shortest_unsigned space) ∷ unless_default base_key 0 base ++ (one, first) ∷ (other, second) ∷ []))
    ≡ 4 + length (shortest_unsigned space) + length (pairs_text (unless_default base_key 0 base)) + length first + length second
based_pairs one other space base first second =
    let few = unless_few base_key 0 base in
    let ends : List Written = (one, first) ∷ (other, second) ∷ [] in
    let base_pair = unless_default base_key 0 base in
    let count = length-append base_pair ends in
    let text = ap length (short_text ((space_key, shortest_unsigned space) ∷ base_pair ++ ends) (omega arith)) in
    let front = length-append (shortest_unsigned space) (pairs_text (base_pair ++ ends)) in
    let parts = ap length (pairs_text-append base_pair ends) in
    let both = length-append (pairs_text base_pair) (pairs_text ends) in
    let all = length-append first (other ∷ (second ++ [])) in
    let last = length-append second [] in
    omega arith

-- ---- the rows of each type

module _ (row : Row) (space : ℕ) (spelled : space ≡ length (shortest_unsigned row.space.0)) where
  pub delete_size : ¬ (row.kind ≡ update_type) → row.kind ≡ delete_type → length (row_body_text row) ≡ 2 + space + 1 + length row.key + 0
  delete_size a b =
      let size : length (row_body_text row) ≡ 3 + length (shortest_unsigned row.space.0) + length row.key =
      rw b (two_pairs space_key parts_key (shortest_unsigned row.space.0) row.key) in
      omega arith

  pub tuple_size : ¬ (row.kind ≡ update_type) → ¬ (row.kind ≡ delete_type) → ¬ (row.kind ≡ upsert_type)
      → length (row_body_text row) ≡ 2 + space + 1 + length row.tuple + 0
  tuple_size a b d =
      let size : length (row_body_text row) ≡ 3 + length (shortest_unsigned row.space.0) + length row.tuple =
      rw (ne_eqb row.kind update_type a, ne_eqb row.kind delete_type b, ne_eqb row.kind upsert_type d)
      (two_pairs space_key tuple_key (shortest_unsigned row.space.0) row.tuple) in
      omega arith

  module _ (base : ℕ) (optional : base ≡ length (pairs_text (unless_default base_key 0 row.index_base))) where
    pub update_size : row.kind ≡ update_type → length (row_body_text row) ≡ 2 + space + base + 2 + length row.key + length row.ops
    update_size a =
        let size : length (row_body_text row)
        ≡ 4 + length (shortest_unsigned row.space.0) + length (pairs_text (unless_default base_key 0 row.index_base)) + length row.key + length row.ops =
        rw a (based_pairs parts_key tuple_key row.space.0 row.index_base row.key row.ops) in
        omega arith

    pub upsert_size : ¬ (row.kind ≡ update_type) → ¬ (row.kind ≡ delete_type) → row.kind ≡ upsert_type
        → length (row_body_text row) ≡ 2 + space + base + 2 + length row.tuple + length row.ops
    upsert_size a b d =
        let size : length (row_body_text row)
        ≡ 4 + length (shortest_unsigned row.space.0) + length (pairs_text (unless_default base_key 0 row.index_base)) + length row.tuple + length row.ops =
        rw d (based_pairs tuple_key operations_key row.space.0 row.index_base row.tuple row.ops) in
        omega arith
