-- The tuple that has a key in a unique index is that of the first entry from the key, where it begins with it.
use Rattle.std.proofs.Common.{◌≡◌, ◌≢◌, ℕ, true, false, List, Option, Some, None, inl, inr, sym, ◌∙◌, subst}
use Rattle.std.specs.Prelude.{◌==◌}
use Rattle.std.specs.FinMap.{entries, get}
use Rattle.std.proofs.lemmas.Bool.{ne_eqb}
use Rattle.mx_msgpack.proofs.Options.{same_some}
use Rattle.mx_key.specs.Keys.{Key, AreFit}
use Rattle.mx_key.specs.Comparable.{comparable_of}
use Rattle.mx_schema.specs.declared.index_def.IndexDef.{IndexDef}
use Rattle.mx_schema.specs.declared.schema.Schema.{Schema}
use Rattle.mx_schema.specs.Catalogues.{index_with}
use Rattle.mx_schema.specs.Picks.{tuples_by_index}
use Rattle.mx_schema.specs.Sound.{AreUnique, HaveKeys}
use Rattle.mx_schema.specs.State.{Tuples}
use Rattle.mx_space.specs.declared.space.Space.{Space}
use Rattle.mx_entries.specs.EntryChanges.{index_kept}
use Rattle.mx_entries.specs.Entries.{IndexEntry, LeadsTo, LeadsOnce}
use Rattle.mx_entries.specs.Built.{AreLong}
use Rattle.mx_entries.specs.KeptEntries.{HoldsOneEach, StoresByNumber, StoresEntries, kept_entries}
use Rattle.mx_space.specs.Kept.{StoresIndexed}
use Rattle.mx_entries.proofs.IndexedLaws.{not_none}
use Rattle.mx_entries.proofs.HolderKeyLaws.{none_has, one_has}
use Rattle.mx_entries.proofs.KeptLaws.{index_there}
use Rattle.mx_entries.proofs.FoundLaws.{leads_once_by}

-- ---- the tuple that has a key in a unique index is that of the first entry from the key, where it begins with it

module _ (schema : Option Schema) (space : Space) (all : Tuples) (def : IndexDef) (wanted : Key) (stores : StoresIndexed schema space all)
    (long : ℕ) (whole : AreLong long all) (there : index_with def.id.0 space.schema.indexes ≡ Some def)
    (one_each : HoldsOneEach def all) (fit : AreFit wanted) (apart : def.id.0 ≢ 0) where
  other : (def.id.0 == 0) ≡ false
  other = ne_eqb def.id.0 0 apart

  pub unique_in : (def.unique ≡ true) × AreUnique def all × HaveKeys def all
  unique_in = by_case one_each
    where
      by_case : HoldsOneEach def all → (def.unique ≡ true) × AreUnique def all × HaveKeys def all
      by_case (inl same) = absurd (apart same)
      by_case (inr each) = each

  -- its entries
  pub index_found : (found : Option (List IndexEntry)) → found ≡ index_kept def.id.0 space.schema.indexes space.indexes.items
      → (one : List IndexEntry) × (found ≡ Some one) × StoresEntries one (kept_entries def all)
  index_found found is =
      let index = index_there all def.id.0 space.schema.indexes space.indexes.items def stores.indexes there in
      (index.0, is ∙ index.1, subst (λ b. StoresByNumber b def all index.0) other index.2)

  pub no_index : (found : Option (List IndexEntry)) → found ≡ index_kept def.id.0 space.schema.indexes space.indexes.items → found ≡ None → ⊥
  no_index found is none = let index = index_found found is in not_none index.0 (sym index.1 ∙ none)

  module _ (found : Option (List IndexEntry)) (is : found ≡ index_kept def.id.0 space.schema.indexes space.indexes.items) (kept : List IndexEntry) (has : found ≡ Some kept) where
    pub keeps_in : StoresEntries kept (kept_entries def all)
    keeps_in =
        let index = index_found found is in
        subst (λ one. StoresEntries one (kept_entries def all)) (same_some index.0 kept (sym index.1 ∙ has)) index.2

    pub none_holds_key : (key : List ℕ) → key ≡ comparable_of wanted → LeadsTo key kept None → None ≡ get (tuples_by_index def all) wanted
    none_holds_key key key_is none = none_has def unique_in.0 all unique_in.1 unique_in.2 wanted long whole other fit kept keeps_in key key_is none

-- ---- in a unique index no other entry's key begins with a key that has an entry

-- in an index that a space has
pub leads_once_in : (schema : Option Schema) (space : Space) (all : Tuples) (def : IndexDef) (wanted : Key) → StoresIndexed schema space all → (long : ℕ) → AreLong long all
    → index_with def.id.0 space.schema.indexes ≡ Some def → HoldsOneEach def all → AreFit wanted → def.id.0 ≢ 0
    → (found : Option (List IndexEntry)) → found ≡ index_kept def.id.0 space.schema.indexes space.indexes.items → (kept : List IndexEntry) → found ≡ Some kept
    → (bytes : List ℕ) → bytes ≡ comparable_of wanted → LeadsOnce bytes kept
leads_once_in schema space all def wanted stores long whole there one_each fit apart found is kept has =
    let each = unique_in schema space all def wanted stores long whole there one_each fit apart in
    leads_once_by def each.0 all each.1 each.2 long whole wanted fit kept (keeps_in schema space all def wanted stores long whole there one_each fit apart found is kept has)
