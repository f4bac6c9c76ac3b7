-- What the fields of a body cost is what its row takes without its keys.
use Rattle.std.proofs.Common.{◌≡◌, ◌⊎◌, ℕ, zero, suc, ◌+◌, ◌≤◌, List, [], ◌∷◌, length, Option, Some, None, refl, sym, ap, ◌∙◌, inl, inr, arith}
use Rattle.std.specs.Option.{option_map}
use Rattle.mx_msgpack.specs.Grammar as grammar
use Rattle.mx_msgpack.specs.Maps.{Pair, value_under}
use Rattle.mx_msgpack.specs.Readers.{◌>>=◌}
use Rattle.mx_msgpack.specs.Spelling.{shortest_unsigned}
use Rattle.mx_msgpack.proofs.FrontLaws.{spelled_some}
use Rattle.mx_msgpack.proofs.Options.{bind_some, mapped_some, same_some}
use Rattle.mx_msgpack.proofs.SpellingLaws.{shortest_length}
use Rattle.mx_base.specs.Keys.{space_key, base_key, parts_key, tuple_key, operations_key}
use Rattle.mx_request.specs.Spelling.{IsInnerArray, unless_default}
use Rattle.mx_request.specs.Values.{number_to, number_32, array_in}
use Rattle.mx_request.proofs.WriterLaws.{pairs_text}
use Rattle.mx_completion.specs.declared.field.Field.{Field}
use Rattle.mx_completion.specs.declared.field.Form.TheVariants.{Array, Base, Operations, Space}
use Rattle.mx_completion.specs.Costs.{base_cost, cost_of, operations_of, total_cost}
use Rattle.mx_row.specs.declared.row.Row.{Row}
use Rattle.mx_row.specs.Bodies.{insert_type, replace_type, update_type, delete_type, upsert_type, max_body_size, tuple_row, update_row, delete_row, upsert_row, row_body_text}
use Rattle.mx_row.specs.Rows.{IsRow}
use Rattle.mx_row.specs.Stops.{array_field, base_field, delete_fields, keys_size, least_body, operations_field, space_field, tuple_fields, update_fields, upsert_fields}
use Rattle.mx_row.specs.Values.{value_held, base_in, row_operations_in}
use Rattle.mx_row.proofs.ReadLaws.{TupleParts, UpdateParts, DeleteParts, UpsertParts, base_most}
use Rattle.mx_row.proofs.SizeLaws.{delete_size, tuple_size, update_size, upsert_size}

-- ---- the smallest body

array_some : (bytes : List ℕ) → IsInnerArray bytes → 1 ≤ length bytes
array_some bytes (values, s) = spelled_some 63 (grammar.Array values) bytes s

pub body_least : (row : Row) → IsRow row → least_body row.kind ≤ length (row_body_text row)
body_least row is =
    let space = shortest_length row.space.0 in
    elim is.parts [
      | inl (e, inner) ↦
          let kind : row.kind ≡ 2 = ap (λ (r : Row). r.kind) e in
          let size = tuple_size row (length (shortest_unsigned row.space.0)) refl (λ k. omega (arith, kind, k)) (λ k. omega (arith, kind, k)) (λ k. omega (arith, kind, k)) in
          let some = array_some row.tuple inner in
          let least : least_body row.kind ≡ 5 = ap least_body kind in
          omega (arith, size, space, some, least)
      | inr (inl (e, inner)) ↦
          let kind : row.kind ≡ 3 = ap (λ (r : Row). r.kind) e in
          let size = tuple_size row (length (shortest_unsigned row.space.0)) refl (λ k. omega (arith, kind, k)) (λ k. omega (arith, kind, k)) (λ k. omega (arith, kind, k)) in
          let some = array_some row.tuple inner in
          let least : least_body row.kind ≡ 5 = ap least_body kind in
          omega (arith, size, space, some, least)
      | inr (inr (inl (e, few, inner, each))) ↦
          let kind : row.kind ≡ 4 = ap (λ (r : Row). r.kind) e in
          let size = update_size row (length (shortest_unsigned row.space.0)) refl (length (pairs_text (unless_default base_key 0 row.index_base))) refl kind in
          let some = array_some row.key inner in
          let others = array_some row.ops each.0 in
          let least : least_body row.kind ≡ 7 = ap least_body kind in
          omega (arith, size, space, some, others, least)
      | inr (inr (inr (inl (e, inner)))) ↦
          let kind : row.kind ≡ 5 = ap (λ (r : Row). r.kind) e in
          let size = delete_size row (length (shortest_unsigned row.space.0)) refl (λ k. omega (arith, kind, k)) kind in
          let some = array_some row.key inner in
          let least : least_body row.kind ≡ 5 = ap least_body kind in
          omega (arith, size, space, some, least)
      | inr (inr (inr (inr (e, few, inner, each)))) ↦
          let kind : row.kind ≡ 9 = ap (λ (r : Row). r.kind) e in
          let size = upsert_size row (length (shortest_unsigned row.space.0)) refl (length (pairs_text (unless_default base_key 0 row.index_base))) refl
          (λ k. omega (arith, kind, k)) (λ k. omega (arith, kind, k)) kind in
          let some = array_some row.tuple inner in
          let others = array_some row.ops each.0 in
          let least : least_body row.kind ≡ 7 = ap least_body kind in
          omega (arith, size, space, some, others, least)
    ]

-- ---- what each field costs

space_cost : (value : Option (List ℕ)) (space : ℕ) → value_held number_32 value ≡ Some space → cost_of Space value ≡ Some (length (shortest_unsigned space))
space_cost None space e = absurd cc
space_cost (Some value) space e = ap (option_map (λ number. length (shortest_unsigned number))) e

space_of : (value : Option (List ℕ)) (cost : ℕ) → cost_of Space value ≡ Some cost
    → (space : ℕ) × (value_held number_32 value ≡ Some space) × (length (shortest_unsigned space) ≡ cost)
space_of None cost e = absurd cc
space_of (Some value) cost e = mapped_some (λ number. length (shortest_unsigned number)) (number_32 value) cost e

array_cost : (value : Option (List ℕ)) (array : List ℕ) → value_held array_in value ≡ Some array → cost_of Array value ≡ Some (length array)
array_cost None array e = absurd cc
array_cost (Some value) array e = ap (option_map length) e

array_of : (value : Option (List ℕ)) (cost : ℕ) → cost_of Array value ≡ Some cost → (array : List ℕ) × (value_held array_in value ≡ Some array) × (length array ≡ cost)
array_of None cost e = absurd cc
array_of (Some value) cost e = mapped_some length (array_in value) cost e

operations_cost : (value : Option (List ℕ)) (array : List ℕ) → value_held row_operations_in value ≡ Some array → cost_of Operations value ≡ Some (length array)
operations_cost None array e = absurd cc
operations_cost (Some value) array e = ap (option_map length) e

operations_costing : (value : Option (List ℕ)) (cost : ℕ) → cost_of Operations value ≡ Some cost
    → (array : List ℕ) × (value_held row_operations_in value ≡ Some array) × (length array ≡ cost)
operations_costing None cost e = absurd cc
operations_costing (Some value) cost e = mapped_some length (operations_of value) cost e

base_size : (base : ℕ) → base ≤ 1 → length (pairs_text (unless_default base_key 0 base)) ≡ base_cost base
unfolding shortest_unsigned
base_size zero few = refl
base_size (suc zero) few = refl
base_size (suc (suc base)) few = absurd (omega (arith, few))

base_costs : (value : Option (List ℕ)) (base : ℕ) → base_in value ≡ Some base → cost_of Base value ≡ Some (base_cost base)
base_costs None base e = ap (λ (b : ℕ). Some (base_cost b)) (same_some 0 base e)
base_costs (Some value) base e = ap (option_map base_cost) e

base_of : (value : Option (List ℕ)) (cost : ℕ) → cost_of Base value ≡ Some cost → (base : ℕ) × (base_in value ≡ Some base) × (base_cost base ≡ cost)
base_of None cost e = (0, refl, same_some 0 cost e)
base_of (Some value) cost e = mapped_some base_cost (number_to 1 value) cost e

-- ---- what all fields of a type cost

total_two : (body : List Pair) (a b : ℕ) (one other : Field) → cost_of one.form (value_under one.key body) ≡ Some a → cost_of other.form (value_under other.key body) ≡ Some b
    → total_cost (one ∷ other ∷ []) body ≡ Some (a + (b + 0))
total_two body a b one other first second = rw (first, second) refl

two_of_total : (body : List Pair) (cost : ℕ) (one other : Field) → total_cost (one ∷ other ∷ []) body ≡ Some cost
    → (a : ℕ) × (b : ℕ) × (cost_of one.form (value_under one.key body) ≡ Some a) × (cost_of other.form (value_under other.key body) ≡ Some b) × (a + (b + 0) ≡ cost)
two_of_total body cost one other e =
    let a = bind_some (cost_of one.form (value_under one.key body)) _ cost e in
    let rest = bind_some (total_cost (other ∷ []) body) _ cost a.2 in
    let b = bind_some (cost_of other.form (value_under other.key body)) _ rest.0 rest.1 in
    (a.0, b.0, a.1, b.1, ap (λ (n : ℕ). a.0 + n) (same_some (b.0 + 0) rest.0 b.2) ∙ same_some (a.0 + rest.0) cost rest.2)

total_four : (body : List Pair) (a b c d : ℕ) (one two three four : Field) → cost_of one.form (value_under one.key body) ≡ Some a
    → cost_of two.form (value_under two.key body) ≡ Some b → cost_of three.form (value_under three.key body) ≡ Some c
    → cost_of four.form (value_under four.key body) ≡ Some d → total_cost (one ∷ two ∷ three ∷ four ∷ []) body ≡ Some (a + (b + (c + (d + 0))))
total_four body a b c d one two three four first second third fourth = rw (first, second, third, fourth) refl

record FourCosts (body : List Pair) (cost : ℕ) (one two three four : Field) : Type 0 where
  a : ℕ
  b : ℕ
  c : ℕ
  d : ℕ
  first : cost_of one.form (value_under one.key body) ≡ Some a
  second : cost_of two.form (value_under two.key body) ≡ Some b
  third : cost_of three.form (value_under three.key body) ≡ Some c
  fourth : cost_of four.form (value_under four.key body) ≡ Some d
  sum : a + (b + (c + (d + 0))) ≡ cost

four_of_total : (body : List Pair) (cost : ℕ) (one two three four : Field) → total_cost (one ∷ two ∷ three ∷ four ∷ []) body ≡ Some cost → FourCosts body cost one two three four
four_of_total body cost one two three four e =
    let a = bind_some (cost_of one.form (value_under one.key body)) _ cost e in
    let r = bind_some (total_cost (two ∷ three ∷ four ∷ []) body) _ cost a.2 in
    let b = bind_some (cost_of two.form (value_under two.key body)) _ r.0 r.1 in
    let rest = two_of_total_from body b.0 r.0 three four b.2 in
    record {
      a = a.0;
      b = b.0;
      c = rest.0;
      d = rest.1;
      first = a.1;
      second = b.1;
      third = rest.2;
      fourth = rest.3;
      sum = ap (λ (n : ℕ). a.0 + n) rest.4 ∙ same_some (a.0 + r.0) cost r.2;
    }
  where
    two_of_total_from : (body : List Pair) (before cost : ℕ) (one other : Field) → (do
      others ← total_cost (one ∷ other ∷ []) body
      Some (before + others)) ≡ Some cost
        → (a : ℕ) × (b : ℕ) × (cost_of one.form (value_under one.key body) ≡ Some a) × (cost_of other.form (value_under other.key body) ≡ Some b) × (before + (a + (b + 0)) ≡ cost)
    two_of_total_from body before cost one other e =
        let both = bind_some (total_cost (one ∷ other ∷ []) body) _ cost e in
        let parts = two_of_total body both.0 one other both.1 in
        (parts.0, parts.1, parts.2, parts.3, ap (λ (n : ℕ). before + n) parts.4 ∙ same_some (before + both.0) cost both.2)

-- the fields of a body cost this much, and the row takes just that beside its keys
abbrev pub Costs : (kind : ℕ) → List Field → List Pair → Row → Type 0
Costs kind fields body row = (cost : ℕ) × (total_cost fields body ≡ Some cost) × (length (row_body_text row) ≡ keys_size kind + cost)

-- a row within the limit on a body, and its fields
abbrev RowOf : (kind cost : ℕ) → (Row → Type 0) → Type 0
RowOf kind cost Parts = (row : Row) × Parts row × (length (row_body_text row) ≡ keys_size kind + cost)

module _ (body : List Pair) where
  tuple_row_size : (kind space : ℕ) (tuple : List ℕ) → (kind ≡ insert_type) ⊎ (kind ≡ replace_type)
      → length (row_body_text (tuple_row kind space tuple)) ≡ 3 + (length (shortest_unsigned space) + (length tuple + 0))
  tuple_row_size kind space tuple is =
      let size = tuple_size (tuple_row kind space tuple) (length (shortest_unsigned space)) refl (λ k. not_four is k) (λ k. not_five is k) (λ k. not_nine is k) in
      omega (arith, size)
    where
      not_four : (kind ≡ insert_type) ⊎ (kind ≡ replace_type) → ¬ (kind ≡ update_type)
      not_four (inl e) k = omega (arith, e, k)
      not_four (inr e) k = omega (arith, e, k)

      not_five : (kind ≡ insert_type) ⊎ (kind ≡ replace_type) → ¬ (kind ≡ delete_type)
      not_five (inl e) k = omega (arith, e, k)
      not_five (inr e) k = omega (arith, e, k)

      not_nine : (kind ≡ insert_type) ⊎ (kind ≡ replace_type) → ¬ (kind ≡ upsert_type)
      not_nine (inl e) k = omega (arith, e, k)
      not_nine (inr e) k = omega (arith, e, k)

  pub tuple_costs : (kind : ℕ) (row : Row) → (kind ≡ insert_type) ⊎ (kind ≡ replace_type) → TupleParts kind (value_under space_key body) (value_under tuple_key body) row
      → Costs insert_type tuple_fields body row
  tuple_costs kind row is p = (
    length (shortest_unsigned row.space.0) + (length row.tuple + 0),
    total_two body _ _ space_field (array_field tuple_key) (space_cost (value_under space_key body) row.space.0 p.space_is) (array_cost (value_under tuple_key body) row.tuple p.tuple_is),
    ap (λ (r : Row). length (row_body_text r)) p.is ∙ tuple_row_size kind row.space.0 row.tuple is,
  )

  pub tuple_of_costs : (kind cost : ℕ) → (kind ≡ insert_type) ⊎ (kind ≡ replace_type) → total_cost tuple_fields body ≡ Some cost → keys_size insert_type + cost ≤ max_body_size
      → RowOf insert_type cost (TupleParts kind (value_under space_key body) (value_under tuple_key body))
  tuple_of_costs kind cost is e short =
      let parts = two_of_total body cost space_field (array_field tuple_key) e in
      let space = space_of (value_under space_key body) parts.0 parts.2 in
      let tuple = array_of (value_under tuple_key body) parts.1 parts.3 in
      let row = tuple_row kind space.0 tuple.0 in
      let size : length (row_body_text row) ≡ 3 + cost = let s = tuple_row_size kind space.0 tuple.0 is in let a = space.2 in let b = tuple.2 in let c = parts.4 in omega (arith, s, a, b, c) in
      (row, record { space_is = space.1; tuple_is = tuple.1; is = refl; short = omega (arith, size, short) }, size)

  delete_row_size : (space : ℕ) (key : List ℕ) → length (row_body_text (delete_row space key)) ≡ 3 + (length (shortest_unsigned space) + (length key + 0))
  delete_row_size space key = let size = delete_size (delete_row space key) (length (shortest_unsigned space)) refl (λ k. omega (arith, k)) refl in omega (arith, size)

  pub delete_costs : (row : Row) → DeleteParts (value_under space_key body) (value_under parts_key body) row → Costs delete_type delete_fields body row
  delete_costs row p = (
    length (shortest_unsigned row.space.0) + (length row.key + 0),
    total_two body _ _ space_field (array_field parts_key) (space_cost (value_under space_key body) row.space.0 p.space_is) (array_cost (value_under parts_key body) row.key p.key_is),
    ap (λ (r : Row). length (row_body_text r)) p.is ∙ delete_row_size row.space.0 row.key,
  )

  pub delete_of_costs : (cost : ℕ) → total_cost delete_fields body ≡ Some cost → keys_size delete_type + cost ≤ max_body_size
      → RowOf delete_type cost (DeleteParts (value_under space_key body) (value_under parts_key body))
  delete_of_costs cost e short =
      let parts = two_of_total body cost space_field (array_field parts_key) e in
      let space = space_of (value_under space_key body) parts.0 parts.2 in
      let key = array_of (value_under parts_key body) parts.1 parts.3 in
      let row = delete_row space.0 key.0 in
      let size : length (row_body_text row) ≡ 3 + cost = let s = delete_row_size space.0 key.0 in let a = space.2 in let b = key.2 in let c = parts.4 in omega (arith, s, a, b, c) in
      (row, record { space_is = space.1; key_is = key.1; is = refl; short = omega (arith, size, short) }, size)

  update_row_size : (space base : ℕ) (key operations : List ℕ) → base ≤ 1
      → length (row_body_text (update_row space base key operations)) ≡ 4 + (length (shortest_unsigned space) + (base_cost base + (length key + (length operations + 0))))
  update_row_size space base key operations few =
      let size = update_size (update_row space base key operations) (length (shortest_unsigned space)) refl (base_cost base) (sym (base_size base few)) refl in
      omega (arith, size)

  pub update_costs : (row : Row) → UpdateParts (value_under space_key body) (value_under base_key body) (value_under parts_key body) (value_under tuple_key body) row
      → Costs update_type update_fields body row
  update_costs row p = (
    length (shortest_unsigned row.space.0) + (base_cost row.index_base + (length row.key + (length row.ops + 0))),
    total_four body _ _ _ _ space_field base_field (array_field parts_key) (operations_field tuple_key) (space_cost (value_under space_key body) row.space.0 p.space_is) (base_costs (value_under base_key body) row.index_base p.base_is)
        (array_cost (value_under parts_key body) row.key p.key_is) (operations_cost (value_under tuple_key body) row.ops p.operations_are),
    ap (λ (r : Row). length (row_body_text r)) p.is
        ∙ update_row_size row.space.0 row.index_base row.key row.ops (base_most (value_under base_key body) row.index_base p.base_is),
  )

  pub update_of_costs : (cost : ℕ) → total_cost update_fields body ≡ Some cost → keys_size update_type + cost ≤ max_body_size
      → RowOf update_type cost (UpdateParts (value_under space_key body) (value_under base_key body) (value_under parts_key body) (value_under tuple_key body))
  update_of_costs cost e short =
      let parts = four_of_total body cost space_field base_field (array_field parts_key) (operations_field tuple_key) e in
      let space = space_of (value_under space_key body) parts.a parts.first in
      let base = base_of (value_under base_key body) parts.b parts.second in
      let key = array_of (value_under parts_key body) parts.c parts.third in
      let operations = operations_costing (value_under tuple_key body) parts.d parts.fourth in
      let row = update_row space.0 base.0 key.0 operations.0 in
      let size : length (row_body_text row) ≡ 4 + cost =
      let s = update_row_size space.0 base.0 key.0 operations.0 (base_most (value_under base_key body) base.0 base.1) in
      let a = space.2 in let b = base.2 in let c = key.2 in let d = operations.2 in let all = parts.sum in omega (arith, s, a, b, c, d, all) in
      (row, record { space_is = space.1; base_is = base.1; key_is = key.1; operations_are = operations.1; is = refl; short = omega (arith, size, short) }, size)

  upsert_row_size : (space base : ℕ) (tuple operations : List ℕ) → base ≤ 1
      → length (row_body_text (upsert_row space base tuple operations)) ≡ 4 + (length (shortest_unsigned space) + (base_cost base + (length tuple + (length operations + 0))))
  upsert_row_size space base tuple operations few =
      let size =
      upsert_size (upsert_row space base tuple operations) (length (shortest_unsigned space)) refl (base_cost base) (sym (base_size base few)) (λ k. omega (arith, k))
      (λ k. omega (arith, k)) refl in
      omega (arith, size)

  pub upsert_costs : (row : Row) → UpsertParts (value_under space_key body) (value_under base_key body) (value_under tuple_key body) (value_under operations_key body) row
      → Costs upsert_type upsert_fields body row
  upsert_costs row p = (
    length (shortest_unsigned row.space.0) + (base_cost row.index_base + (length row.tuple + (length row.ops + 0))),
    total_four body _ _ _ _ space_field base_field (array_field tuple_key) (operations_field operations_key) (space_cost (value_under space_key body) row.space.0 p.space_is) (base_costs (value_under base_key body) row.index_base p.base_is)
        (array_cost (value_under tuple_key body) row.tuple p.tuple_is) (operations_cost (value_under operations_key body) row.ops p.operations_are),
    ap (λ (r : Row). length (row_body_text r)) p.is
        ∙ upsert_row_size row.space.0 row.index_base row.tuple row.ops (base_most (value_under base_key body) row.index_base p.base_is),
  )

  pub upsert_of_costs : (cost : ℕ) → total_cost upsert_fields body ≡ Some cost → keys_size upsert_type + cost ≤ max_body_size
      → RowOf upsert_type cost (UpsertParts (value_under space_key body) (value_under base_key body) (value_under tuple_key body) (value_under operations_key body))
  upsert_of_costs cost e short =
      let parts = four_of_total body cost space_field base_field (array_field tuple_key) (operations_field operations_key) e in
      let space = space_of (value_under space_key body) parts.a parts.first in
      let base = base_of (value_under base_key body) parts.b parts.second in
      let tuple = array_of (value_under tuple_key body) parts.c parts.third in
      let operations = operations_costing (value_under operations_key body) parts.d parts.fourth in
      let row = upsert_row space.0 base.0 tuple.0 operations.0 in
      let size : length (row_body_text row) ≡ 4 + cost =
      let s = upsert_row_size space.0 base.0 tuple.0 operations.0 (base_most (value_under base_key body) base.0 base.1) in
      let a = space.2 in let b = base.2 in let c = tuple.2 in let d = operations.2 in let all = parts.sum in omega (arith, s, a, b, c, d, all) in
      (row, record { space_is = space.1; base_is = base.1; tuple_is = tuple.1; operations_are = operations.1; is = refl; short = omega (arith, size, short) }, size)
