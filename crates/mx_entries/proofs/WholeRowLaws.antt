-- The entry of a whole key in a unique index is that of the tuple which has the key.
use Rattle.std.proofs.Common.{◌≡◌, ◌≢◌, ℕ, true, false, List, [], map, Option, Some, None, refl, sym, ap, ◌∙◌}
use Rattle.std.specs.Prelude.{MatchOption, ◌==◌}
use Rattle.std.specs.BTreeMap.{is_at}
use Rattle.std.specs.Cmp.Lexicographic.{slice_cmp}
use Rattle.std.specs.FinMap.{entries, get, slice_cmp-IsAntisymmetric, nat_cmp-IsAntisymmetric}
use Rattle.std.specs.Map.{lookup_entry}
use Rattle.std.specs.Option.{option_map, unwrap_or}
use Rattle.std.specs.Ordering.{nat_cmp}
use Rattle.std.proofs.lemmas.Bool.{ne_eqb}
use Rattle.mx_key.specs.Comparable.{comparable_of}
use Rattle.mx_key.specs.Keys.{Key, AreFit}
use Rattle.mx_schema.specs.declared.index_def.IndexDef.{IndexDef}
use Rattle.mx_schema.specs.Picks.{tuples_by_index}
use Rattle.mx_schema.specs.Sound.{AreUnique, HaveKeys}
use Rattle.mx_schema.specs.State.{Tuples}
use Rattle.mx_schema.specs.Stored.{StoredTuple, StoresTuples, stored_tuple}
use Rattle.mx_schema.proofs.OrderLaws.{eq_is}
use Rattle.mx_schema.proofs.TakenLaws.{stored_get}
use Rattle.mx_entries.specs.Built.{AreLong}
use Rattle.mx_entries.specs.Entries.{IndexEntry, LeadsTo}
use Rattle.mx_entries.specs.KeptEntries.{StoresEntries, kept_entries}
use Rattle.mx_entries.specs.Windows.{AreFitEntries, tuple_stored}
use Rattle.mx_entries.proofs.HolderKeyLaws.{none_has, one_has}
use Rattle.mx_entries.proofs.IndexScanLaws.{index_fits}
use Rattle.mx_entries.proofs.WholeKeyLaws.{value_of_entry}
use Rattle.mx_entries.proofs.FoundLaws.{entry_passes}

module _ (def : IndexDef) (unique : def.unique ≡ true) (all : Tuples) (one_each : AreUnique def all) (have : HaveKeys def all) (long : ℕ) (whole : AreLong long all)
    (apart : def.id.0 ≢ 0) (kept : List IndexEntry) (keeps : StoresEntries kept (kept_entries def all)) where
  abbrev by_index : Tuples
  by_index = tuples_by_index def all

  other : (def.id.0 == 0) ≡ false
  other = ne_eqb def.id.0 0 apart

  pub fits : AreFitEntries (entries by_index)
  fits = index_fits def all long whole other have (λ _. one_each) kept keeps

  module _ (wanted : Key) (fit : AreFit wanted) (bytes : List ℕ) (is : bytes ≡ comparable_of wanted) where
    abbrev looked_up : Option StoredTuple
    looked_up = lookup_entry (is_at (slice_cmp nat_cmp bytes)) (map stored_tuple (entries by_index))

    row_is : (tuple : Option (List ℕ)) → tuple ≡ get by_index wanted → option_map (λ t. (bytes, t)) tuple ≡ looked_up
    row_is tuple there =
        by_entry looked_up refl tuple (there ∙ sym (stored_get (map stored_tuple (entries by_index)) by_index wanted bytes (record { same = refl; fit = fits }) fit is)
        ∙ value_of_entry (is_at (slice_cmp nat_cmp bytes)) (map stored_tuple (entries by_index)))
      where
        by_entry : (found : Option StoredTuple) → looked_up ≡ found → (tuple : Option (List ℕ)) → tuple ≡ option_map (λ entry. entry.1) found
            → option_map (λ t. (bytes, t)) tuple ≡ found
        by_entry None found tuple there = ap (option_map (λ t. (bytes, t))) there
        by_entry (Some entry) found tuple there =
            let same : bytes ≡ entry.0 =
            slice_cmp-IsAntisymmetric nat_cmp-IsAntisymmetric bytes entry.0
            (eq_is (slice_cmp nat_cmp bytes entry.0) (entry_passes (is_at (slice_cmp nat_cmp bytes)) (map stored_tuple (entries by_index)) entry found)) in
            ap (option_map (λ t. (bytes, t))) there ∙ (λ i. Some (same i, entry.1))

    a_row : (own : List ℕ) → LeadsTo bytes kept (Some own) → (tuples : List StoredTuple) → StoresTuples tuples all → Some (tuple_stored tuples own) ≡ get by_index wanted
    a_row own leads tuples stores =
        let holder = one_has def unique all one_each have wanted long whole other fit kept keeps bytes is own leads in
        ap (λ o. Some (unwrap_or o [])) (stored_get tuples all holder.0 own stores holder.1 holder.2 ∙ holder.5) ∙ sym holder.5 ∙ holder.3

    -- what was found by the first entry from the key is what a lookup by the index finds
    pub row_found : {A : Type 0} (one two : A → List ℕ) (found : Option A) (tuples : List StoredTuple) → StoresTuples tuples all
        → MatchOption found (LeadsTo bytes kept None)
        (λ row. (own : List ℕ) × LeadsTo bytes kept (Some own) × (one row ≡ bytes) × (two row ≡ tuple_stored tuples own))
        → option_map (λ row. (one row, two row)) found ≡ looked_up
    row_found one two None tuples stores none = row_is None (none_has def unique all one_each have wanted long whole other fit kept keeps bytes is none)
    row_found one two (Some row) tuples stores (own, leads, key, tuple) =
        (λ i. Some (key i, tuple i)) ∙ row_is (Some (tuple_stored tuples own)) (a_row own leads tuples stores)
