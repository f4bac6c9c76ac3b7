-- What an array gives for an index, by how many items it has.
use Rattle.std.proofs.Common.{◌≡◌, ℕ, zero, suc, ◌<◌, ◌≤◌, List, [], ◌∷◌, length, Option, Some, Result, Ok, Err, refl, sym, ap, ◌∙◌, ◌⊎◌, inl, inr}
use Rattle.std.proofs.lemmas.Bool.{lt-ltb, le-ltb, eq-eqb, ne_eqb}
use Rattle.std.specs.Prelude.{if◌then◌else◌}
use Rattle.std.specs.Option.{option_map, unwrap_or}
use Rattle.mx_msgpack.specs.Items.{array_of, after_value, values_from}
use Rattle.mx_key.specs.declared.part.Part.{Part}
use Rattle.mx_key.specs.declared.fault.Misfit.{Misfit}
use Rattle.mx_key.specs.declared.fault.Misfit.TheVariants.{TooLong}
use Rattle.mx_key.specs.declared.fault.RangeFault.{RangeFault}
use Rattle.mx_key.specs.declared.fault.RangeFault.TheVariants as faults
use Rattle.mx_key.specs.declared.iterator.IterKind.{IterKind}
use Rattle.mx_key.specs.declared.edge.Edge.TheVariants.{Open}
use Rattle.mx_key.specs.Keys.{Key, KeyPart, Boolean, Integer, Text, Binary}
use Rattle.mx_key.specs.Ranges.{range_of, range_by}
use Rattle.mx_key.specs.Comparable.{comparable_of, edges_of}
use Rattle.mx_key.specs.Parts.{key_of_array, key_of_items, parts_of_items, whole_key, whole_key_of_items}

length-values_from : (count : ℕ) (bytes : List ℕ) → length (values_from count bytes) ≡ count
length-values_from zero bytes = refl
length-values_from (suc count) bytes = ap suc (length-values_from count (after_value bytes))

abbrev items_in : Option (ℕ × List ℕ) → Option (List (List ℕ))
items_in o = option_map (λ array. values_from array.0 array.1) o

module _ (def : List Part) (key : List ℕ) where
  module _ (count : ℕ) (bytes : List ℕ) (e : array_of key ≡ Some (count, bytes)) where
    pub few_items : count ≤ length def → key_of_array def key ≡ parts_of_items 0 def (values_from count bytes)
    few_items few =
        ap (λ (o : Option (ℕ × List ℕ)). key_of_items def (items_in o)) e
        ∙ rw (length-values_from count bytes, le-ltb (length def) count few) refl

    pub many_items : length def < count → key_of_array def key ≡ Err (TooLong count)
    many_items many =
        ap (λ (o : Option (ℕ × List ℕ)). key_of_items def (items_in o)) e
        ∙ rw (length-values_from count bytes, lt-ltb (length def) count many) refl

-- a key without bytes has no part, and sets no end
some_bytes : (part : KeyPart) (parts : Key) → comparable_of (part ∷ parts) ≡ [] → ⊥
some_bytes (Boolean truth) parts e = cc
some_bytes (Integer number) parts e = cc
some_bytes (Text text) parts e = cc
some_bytes (Binary content) parts e = cc

pub range_of_nothing : (iterator : IterKind) (key : Key) → comparable_of key ≡ [] → edges_of (range_of iterator key) ≡ record { low = Open; high = Open }
range_of_nothing iterator [] e = refl
range_of_nothing iterator (part ∷ parts) e = absurd (some_bytes part parts e)

pub range_of_some : (iterator : IterKind) (key : Key) → (comparable_of key ≡ [] → ⊥) → range_of iterator key ≡ range_by iterator key
range_of_some iterator [] some = absurd (some refl)
range_of_some iterator (part ∷ parts) some = refl

-- ---- the key that the items are, and why they are none

pub same_key : (one other : Key) (read : Result Key Misfit) → read ≡ Ok one → read ≡ Ok other → one ≡ other
same_key one other read is also = let same : ◌≡◌ {A = Result Key Misfit} (Ok one) (Ok other) = sym is ∙ also in cc

-- what doesn't fit isn't a key, nor out of memory
pub no_misfit : (fitting : Key) (read : Result Key Misfit) (fault : RangeFault) → read ≡ Ok fitting
    → ((misfit : Misfit) × (fault ≡ faults.Misfit misfit) × (read ≡ Err misfit)) ⊎ (fault ≡ faults.NoMemory) → fault ≡ faults.NoMemory
no_misfit fitting read fault is (inl (misfit, told, fails)) = let same : ◌≡◌ {A = Result Key Misfit} (Ok fitting) (Err misfit) = sym is ∙ fails in absurd cc
no_misfit fitting read fault is (inr none) = none

-- a fault of the items is one of the key
pub key_fault : (key items : Result Key Misfit) (fault : RangeFault) → key ≡ items
    → ((misfit : Misfit) × (fault ≡ faults.Misfit misfit) × (items ≡ Err misfit)) ⊎ (fault ≡ faults.NoMemory)
    → ((misfit : Misfit) × (fault ≡ faults.Misfit misfit) × (key ≡ Err misfit)) ⊎ (fault ≡ faults.NoMemory)
key_fault key items fault same (inl (misfit, told, fails)) = inl (misfit, told, same ∙ fails)
key_fault key items fault same (inr none) = inr none

-- ---- whole keys

-- a whole key is that of its array's items
pub whole_items : (def : List Part) (key : List ℕ) (count : ℕ) (bytes : List ℕ) → array_of key ≡ Some (count, bytes)
    → whole_key def key ≡ whole_key_of_items def (values_from count bytes)
whole_items def key count bytes is = ap (λ found. whole_key_of_items def (unwrap_or (option_map (λ items. values_from items.0 items.1) found) [])) is

-- as many items as there are parts
pub as_many_items : (def : List Part) (key : List ℕ) (count : ℕ) (bytes : List ℕ) → array_of key ≡ Some (count, bytes) → count ≡ length def
    → whole_key def key ≡ parts_of_items 0 def (values_from count bytes)
as_many_items def key count bytes is many =
    whole_items def key count bytes is
    ∙ ap (λ b. if b then parts_of_items 0 def (values_from count bytes) else Err (TooLong (length (values_from count bytes))))
    (eq-eqb (length (values_from count bytes)) (length def) (length-values_from count bytes ∙ many))

-- more of them, or fewer
pub other_items : (def : List Part) (key : List ℕ) (count : ℕ) (bytes : List ℕ) → array_of key ≡ Some (count, bytes) → (count ≡ length def → ⊥)
    → whole_key def key ≡ Err (TooLong count)
other_items def key count bytes is other =
    whole_items def key count bytes is
    ∙ ap (λ b. if b then parts_of_items 0 def (values_from count bytes) else Err (TooLong (length (values_from count bytes))))
    (ne_eqb (length (values_from count bytes)) (length def) (λ same. other (sym (length-values_from count bytes) ∙ same)))
    ∙ ap (λ n. Err (TooLong n)) (length-values_from count bytes)
