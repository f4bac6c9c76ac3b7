-- The row of a user's space or index is named by a key that begins with that number.
use Rattle.std.proofs.Common.{◌≡◌, ℕ, List, sym, ◌∙◌, subst, ◌⊎◌, inl, inr, Bool, true, false, [], ◌∷◌, length, Option, Some, None, Result, Ok, Err, refl, ap, true≢false, eqb-true}
use Rattle.std.specs.Prelude.{pos, ◌==◌, ◌||◌, if◌then◌else◌}
use Rattle.std.specs.FinMap.{get}
use Rattle.std.specs.Option.{ok_or, unwrap_or}
use Rattle.mx_msgpack.specs.Items.{IsArray, items_of}
use Rattle.mx_request.specs.Spelling.{IsInnerArray}
use Rattle.mx_request.proofs.ValueTextLaws.{inner_is_array}
use Rattle.mx_row.specs.declared.row.Row.{Row}
use Rattle.mx_row.specs.Rows.{IsDelete, IsInsert, IsReplace, IsRow, IsUpdate, IsUpsert}
use Rattle.mx_write.specs.Made.{write_of}
use Rattle.mx_write.specs.Views.{AreArrays, write_view}
use Rattle.mx_write.specs.Writes.{IsWellFormed, Write, Insert, Replace, Update, Delete, Upsert}
use Rattle.mx_key.specs.declared.fault.Misfit.{Misfit}
use Rattle.mx_key.specs.declared.fault.Misfit.TheVariants.{TooLong, WrongPart}
use Rattle.mx_key.specs.declared.part.Part.{Part}
use Rattle.mx_key.specs.Arrays.{key_array}
use Rattle.mx_key.specs.Keys.{Key, KeyPart, Integer}
use Rattle.mx_key.specs.Parts.{◌>>=◌, part_in, parts_of_items, whole_key, whole_key_of_items}
use Rattle.mx_msgpack.specs.Readers.{unsigned_in}
use Rattle.mx_schema.specs.declared.index_def.IndexDef.{IndexDef}
use Rattle.mx_schema.specs.declared.schema.Schema.{Schema}
use Rattle.mx_schema.specs.Bootstrap.{part_of_numbers}
use Rattle.mx_schema.specs.Catalogues.{index_with, schema_of}
use Rattle.mx_schema.specs.Sound.{IsSound}
use Rattle.mx_schema.specs.State.{State, index_rows, space_rows, tuples_in}
use Rattle.mx_schema.proofs.DescribedLaws.{BeginsWith, index_begins, index_row_found, index_rows_key, space_begins, space_row_found, space_rows_key}
use Rattle.mx_schema.proofs.KeyedLaws.{part_number}
use Rattle.mx_write.specs.Writable.{begins_with_system_number, describes_schema, is_system_number}
use Rattle.mx_write.specs.declared.write.Write as in_place
use Rattle.mx_write.specs.declared.write.Write.TheVariants as place
use Rattle.mx_key.specs.declared.part.PartKind.TheVariants as kind

-- ---- an array of a request that can be asked is taken as it was sent

pub as_sent : (sent shown taken : List ℕ) → shown ≡ sent → (IsArray shown → taken ≡ shown) → IsInnerArray sent → taken ≡ sent
as_sent sent shown taken is same inner = same (subst IsArray (sym is) (inner_is_array sent inner)) ∙ is

-- ---- the arrays of writes in place

-- a write's tuple or key is an array
abbrev HasArray : Write → Type 0
HasArray (Insert tuple) = IsArray tuple
HasArray (Replace tuple) = IsArray tuple
HasArray (Update index base key operations) = IsArray key
HasArray (Delete index key) = IsArray key
HasArray (Upsert base tuple operations) = IsArray tuple

arrays_in_place : (write : in_place.Write) → HasArray (write_view write) → AreArrays write
arrays_in_place (place.Insert tuple) has = has
arrays_in_place (place.Replace tuple) has = has
arrays_in_place (place.Update index base key operations) has = has
arrays_in_place (place.Delete index key) has = has
arrays_in_place (place.Upsert base tuple operations) has = has

-- that of a row that can be written is
row_has : (row : Row) → (IsInsert row ⊎ IsReplace row ⊎ IsUpdate row ⊎ IsDelete row ⊎ IsUpsert row) → HasArray (write_of row)
row_has row (inl (is, inner)) = subst (λ r. HasArray (write_of r)) (sym is) (inner_is_array row.tuple inner)
row_has row (inr (inl (is, inner))) = subst (λ r. HasArray (write_of r)) (sym is) (inner_is_array row.tuple inner)
row_has row (inr (inr (inl (is, base, inner, operations)))) = subst (λ r. HasArray (write_of r)) (sym is) (inner_is_array row.key inner)
row_has row (inr (inr (inr (inl (is, inner))))) = subst (λ r. HasArray (write_of r)) (sym is) (inner_is_array row.key inner)
row_has row (inr (inr (inr (inr (is, base, inner, operations))))) = subst (λ r. HasArray (write_of r)) (sym is) (inner_is_array row.tuple inner)

pub row_arrays : (row : Row) (write : in_place.Write) → IsRow row → write_view write ≡ write_of row → AreArrays write
row_arrays row write sound is = arrays_in_place write (subst HasArray (sym is) (row_has row sound.parts))

-- and that of a well formed write
well_formed_has : (write : Write) → IsWellFormed write → HasArray write
well_formed_has (Insert tuple) well = inner_is_array tuple well
well_formed_has (Replace tuple) well = inner_is_array tuple well
well_formed_has (Update index base key operations) well = inner_is_array key well.1
well_formed_has (Delete index key) well = inner_is_array key well
well_formed_has (Upsert base tuple operations) well = inner_is_array tuple well.1

pub well_formed_arrays : (write : in_place.Write) → IsWellFormed (write_view write) → AreArrays write
well_formed_arrays write well = arrays_in_place write (well_formed_has (write_view write) well)

-- ---- the row of a user's space or index is named by a key that begins with that number

-- an array that is a whole key of numbers begins with the key's first one
module _ (parts : List Part) (array : List ℕ) (number : ℕ) (others : Key) where
  abbrev first_part : Part
  first_part = part_of_numbers 0

  same_first : (one other : KeyPart) (rest : Result Key Misfit) → (rest >>= λ more. Ok (one ∷ more)) ≡ Ok (other ∷ others) → one ≡ other
  same_first one other (Ok more) e = cc
  same_first one other (Err why) e = absurd cc

  same_number : (one other : ℕ) → Integer (pos one) ≡ Integer (pos other) → one ≡ other
  same_number one other e = cc

  by_items : (items : List (List ℕ)) → whole_key_of_items (first_part ∷ parts) items ≡ Ok (Integer (pos number) ∷ others)
      → (first : List ℕ) × (more : List (List ℕ)) × (items ≡ first ∷ more) × (unsigned_in first ≡ Some number)
  by_items items e = by_length (length items == length (first_part ∷ parts)) items e
    where
      by_part : (item : List ℕ) (items : List (List ℕ)) (read : Option KeyPart) → part_in kind.Unsigned item ≡ read
          → (ok_or read (WrongPart 0 kind.Unsigned) >>= λ first. parts_of_items 1 parts items >>= λ more. Ok (first ∷ more)) ≡ Ok (Integer (pos number) ∷ others)
          → (first : List ℕ) × (more : List (List ℕ)) × (item ∷ items ≡ first ∷ more) × (unsigned_in first ≡ Some number)
      by_part item items None is e = absurd cc
      by_part item items (Some part) is e =
          let read = part_number item part is in
          let same : read.0 ≡ number = same_number read.0 number (sym read.1 ∙ same_first part (Integer (pos number)) (parts_of_items 1 parts items) e) in
          (item, items, refl, read.2 ∙ ap (λ n. Some n) same)

      by_length : (whole : Bool) (items : List (List ℕ)) → (if whole then parts_of_items 0 (first_part ∷ parts) items else Err (TooLong (length items))) ≡ Ok (Integer (pos number) ∷ others)
          → (first : List ℕ) × (more : List (List ℕ)) × (items ≡ first ∷ more) × (unsigned_in first ≡ Some number)
      by_length false items e = absurd cc
      by_length true [] e = absurd cc
      by_length true (item ∷ items) e = by_part item items (part_in kind.Unsigned item) refl e

  key_begins : whole_key (first_part ∷ parts) array ≡ Ok (Integer (pos number) ∷ others) → BeginsWith array number
  key_begins e = by_found (items_of array) refl e
    where
      by_found : (items : Option (List (List ℕ))) → items_of array ≡ items → whole_key_of_items (first_part ∷ parts) (unwrap_or items []) ≡ Ok (Integer (pos number) ∷ others)
          → BeginsWith array number
      by_found None are e = let found = by_items [] e in absurd cc
      by_found (Some items) are e = let found = by_items items e in (found.0, found.1, are ∙ ap (λ l. Some l) found.2, found.3)

-- what begins with one number is of the system or not, all alike
same_system : (one other : List ℕ) (number : ℕ) → BeginsWith one number → BeginsWith other number
    → begins_with_system_number (items_of one) ≡ begins_with_system_number (items_of other)
same_system one other number (first, rest, items, is) (next, more, are, so) =
    ap begins_with_system_number items ∙ ap is_system_number is ∙ sym (ap begins_with_system_number are ∙ ap is_system_number so)

module _ (before : State) (sound : IsSound before) where
  -- the row of a user's space or index is a user's by its key too
  pub key_of_users : (space : ℕ) (schema : Schema) (primary : IndexDef) (own : Key) (old : List ℕ) → describes_schema space ≡ true → schema_of before space ≡ Some schema
      → index_with 0 schema.indexes ≡ Some primary → get (tuples_in before space) own ≡ Some old → whole_key primary.key (key_array own) ≡ Ok own
      → begins_with_system_number (items_of old) ≡ false → begins_with_system_number (items_of (key_array own)) ≡ false
  key_of_users space schema primary own old describes described there stands whole of_user =
      by_tests (space == space_rows) refl (space == index_rows) refl
    where
      of_spaces : schema_of before space_rows ≡ Some schema → get (tuples_in before space_rows) own ≡ Some old → begins_with_system_number (items_of (key_array own)) ≡ false
      of_spaces described stands =
          let (def, is, same) = space_row_found before sound own old stands in
          let key = space_rows_key before sound schema primary described there in
          same_system (key_array own) old def.id.0
          (key_begins [] (key_array own) def.id.0 [] (ap (λ parts. whole_key parts (key_array own)) (sym key) ∙ whole ∙ ap (λ k. Ok k) same)) (space_begins old def is)
          ∙ of_user

      of_indexes : schema_of before index_rows ≡ Some schema → get (tuples_in before index_rows) own ≡ Some old → begins_with_system_number (items_of (key_array own)) ≡ false
      of_indexes described stands =
          let (index, is, same) = index_row_found before sound own old stands in
          let key = index_rows_key before sound schema primary described there in
          same_system (key_array own) old index.space.0
          (key_begins (part_of_numbers 1 ∷ []) (key_array own) index.space.0 (Integer (pos index.def.id.0) ∷ [])
          (ap (λ parts. whole_key parts (key_array own)) (sym key) ∙ whole ∙ ap (λ k. Ok k) same)) (index_begins old index is)
          ∙ of_user

      neither : (spaces indexes : Bool) → (space == space_rows) ≡ spaces → (space == index_rows) ≡ indexes → spaces ≡ false → indexes ≡ false → ⊥
      neither spaces indexes is are one other =
          true≢false (sym describes ∙ ap (λ b. b || (space == index_rows)) (is ∙ one) ∙ are ∙ other)

      by_tests : (spaces : Bool) → (space == space_rows) ≡ spaces → (indexes : Bool) → (space == index_rows) ≡ indexes → begins_with_system_number (items_of (key_array own)) ≡ false
      by_tests true is indexes are =
          let same = eqb-true space space_rows is in
          of_spaces (ap (schema_of before) (sym same) ∙ described) (ap (λ n. get (tuples_in before n) own) (sym same) ∙ stands)
      by_tests false is true are =
          let same = eqb-true space index_rows are in
          of_indexes (ap (schema_of before) (sym same) ∙ described) (ap (λ n. get (tuples_in before n) own) (sym same) ∙ stands)
      by_tests false is false are = absurd (neither false false is are refl refl)
