-- The rows that a view shows of an index are those of the tuples that are seen.
use Rattle.std.proofs.Common.{◌≡◌, ◌≢◌, ◌≤◌, ℕ, Bool, true, false, cond, not, List, [], ◌∷◌, map, filter, length, Option, Some, refl, sym, ap, ◌∙◌, subst}
use Rattle.std.specs.Prelude.{is_some, ◌==◌, if◌then◌else◌}
use Rattle.std.specs.FinMap.{empty, entries, get}
use Rattle.std.specs.List.{AllByRecursion}
use Rattle.std.specs.Option.{unwrap_or}
use Rattle.std.proofs.lemmas.Bool.{eqb-true, ne_eqb}
use Rattle.mx_msgpack.proofs.Options.{same_some}
use Rattle.mx_key.specs.declared.edge.KeyRange.{KeyRange}
use Rattle.mx_key.specs.declared.iterator.IterKind.{IterKind}
use Rattle.mx_key.specs.Keys.{Key, AreFit}
use Rattle.mx_key.specs.Comparable.{comparable_of, edges_of, holds}
use Rattle.mx_key.specs.Ranges.{range_of}
use Rattle.mx_key.proofs.RangeLaws.{range_holds}
use Rattle.mx_schema.specs.declared.index_def.IndexDef.{IndexDef}
use Rattle.mx_schema.specs.declared.schema.Schema.{Schema}
use Rattle.mx_schema.specs.Catalogues.{index_with}
use Rattle.mx_schema.specs.Picks.{Indexed, directed, tuples_by_index}
use Rattle.mx_schema.specs.Sound.{AreUnique, HaveKeys}
use Rattle.mx_schema.specs.State.{Tuples, key_in, key_or_none}
use Rattle.mx_schema.specs.Stored.{StoredTuple, StoresTuples, stored_tuple}
use Rattle.mx_schema.proofs.StoredLaws.{primary_index}
use Rattle.mx_schema.proofs.TakenLaws.{stored_get}
use Rattle.mx_space.specs.declared.overlay.OverlaidSpace.{OverlaidSpace}
use Rattle.mx_space.specs.declared.pick.Source.TheVariants as source
use Rattle.mx_space.specs.declared.space.Space.{Space}
use Rattle.mx_entries.specs.Built.{AreLong}
use Rattle.mx_entries.specs.EntryChanges.{index_kept}
use Rattle.mx_entries.specs.Entries.{IndexEntry}
use Rattle.mx_entries.specs.KeptEntries.{StoresByNumber, StoresEntries, entry_bytes, kept_entries}
use Rattle.mx_space.specs.Kept.{StoresIndexed}
use Rattle.mx_entries.specs.OwnWrites.{OwnWrites, under}
use Rattle.mx_space.specs.Overlays.{StoresWritten, hides}
use Rattle.mx_entries.specs.Windows.{AreFitEntries, key_in_index, indexed_row, tuple_stored}
use Rattle.mx_space.specs.Selecting.{row_of}
use Rattle.mx_space.specs.ShownRows.{is_shown}
use Rattle.mx_entries.specs.MergedRows.{merged}
use Rattle.mx_entries.proofs.EntriesLaws.{entry_is_of}
use Rattle.mx_entries.proofs.HolderKeyLaws.{fit_behind}
use Rattle.mx_entries.proofs.IndexScanLaws.{in_range, index_fits, rows_in}
use Rattle.mx_entries.proofs.IndexedLaws.{each_is_found}
use Rattle.mx_entries.proofs.MergedLaws.{all-filter, merged_in_range, row_by_side}
use Rattle.mx_entries.proofs.ShownLaws.{all_parts, entries_own, entries_shown, filter_as, map_ordered, tuples_own, tuples_shown, unwritten}
use Rattle.mx_entries.proofs.PickLaws.{HoldsItsKeys, fit_ends, kept_in_range}
use Rattle.mx_entries.proofs.KeptLaws.{index_there}
use Rattle.mx_space.proofs.SpaceLaws.{space_long}
use Rattle.mx_space.proofs.OverlayLaws.{hides_written, index_of_own}
use Rattle.mx_entries.proofs.SeenLaws.{not_some, not_written, was_written}

all_so : {X : Type 0} (P Q : X → Type 0) → ((x : X) → P x → Q x) → (xs : List X) → AllByRecursion P xs → AllByRecursion Q xs
all_so P Q so [] all = tt
all_so P Q so (x ∷ xs) all = (so x all.0, all_so P Q so xs all.1)

module _ (schema : Option Schema) (over : OverlaidSpace) (written : OwnWrites) (writes : StoresWritten schema over written) (all : Tuples) (stored : List StoredTuple)
    (stores : StoresTuples stored all) where
  abbrev seen : Tuples
  seen = under written all

  abbrev own : Tuples
  own = under written empty

  abbrev fits : Indexed → Type 0
  fits entry = AreFit entry.0

  -- the keys of what is seen are fit
  fit_seen : AllByRecursion fits (entries seen)
  fit_seen = all_parts fits (λ entry. unwritten written all entry.0) (entries seen)
      (subst (AllByRecursion fits) (sym (tuples_shown written all)) (all-filter fits (λ entry. unwritten written all entry.0) (entries all) stores.fit))
      (subst (AllByRecursion fits) (sym (tuples_own written all)) writes.own.holds.keeps.fit)

  -- what is seen, as memory would keep it
  abbrev stored_seen : List StoredTuple
  stored_seen = map stored_tuple (entries seen)

  stores_seen : StoresTuples stored_seen seen
  stores_seen = record { same = refl; fit = fit_seen }

  shows : (key : Key) → AreFit key → not (hides over (comparable_of key)) ≡ unwritten written all key
  shows key fit = ap not (hides_written schema over written key (comparable_of key) writes fit refl)

  -- ---- the index of the number 0

  module _ (range : KeyRange) (down : Bool) where
    abbrev held : IndexEntry → Bool
    held entry = holds range entry.0

    rows_stay : (p : IndexEntry → Bool) (some : List IndexEntry) → map (row_by_side down (row_of source.Entries) (row_of source.Entries) p) some ≡ some
    rows_stay p [] = refl
    rows_stay p (entry ∷ some) = by_test (p entry) (rows_stay p some)
      where
        by_test : (b : Bool) → map (row_by_side down (row_of source.Entries) (row_of source.Entries) p) some ≡ some
            → (if b then entry else entry) ∷ map (row_by_side down (row_of source.Entries) (row_of source.Entries) p) some ≡ entry ∷ some
        by_test true later = ap (λ l. entry ∷ l) later
        by_test false later = ap (λ l. entry ∷ l) later

    pub first_rows_are : merged down (row_of source.Entries) (row_of source.Entries) (filter (is_shown over true) (directed down (filter held stored)))
        (directed down (filter held over.own.tuples.entries))
        ≡ directed down (filter held stored_seen)
    first_rows_are =
        let shown = is_shown over true in
        let agree : (entry : Indexed) → fits entry → shown (stored_tuple entry) ≡ unwritten written all entry.0 = λ entry fit. shows entry.0 fit in
        let q : Indexed → Bool = λ entry. unwritten written all entry.0 in
        let same : (some : List Indexed) → AllByRecursion fits some → AllByRecursion (λ (one : Indexed). shown (stored_tuple one) ≡ q one) some =
        all_so fits (λ one. shown (stored_tuple one) ≡ q one) agree in
        let stored_side : filter shown stored ≡ filter shown stored_seen =
        ap (filter shown) (sym stores.same) ∙ filter_as (λ t. t) shown q (entries all) (same (entries all) stores.fit)
        ∙ ap (map stored_tuple) (sym (tuples_shown written all)) ∙ sym (filter_as (λ t. t) shown q (entries seen) (same (entries seen) fit_seen)) in
        let own_side : over.own.tuples.entries ≡ filter (λ entry. not (shown entry)) stored_seen =
        sym writes.own.holds.keeps.same ∙ ap (map stored_tuple) (sym (tuples_own written all))
        ∙ sym (filter_as (λ t. t) (λ entry. not (shown entry)) (λ entry. not (q entry)) (entries seen)
        (all_so (λ (one : Indexed). shown (stored_tuple one) ≡ q one) (λ one. not (shown (stored_tuple one)) ≡ not (q one)) (λ one e. ap not e) (entries seen) (same (entries seen) fit_seen))) in
        merged_in_range down (row_of source.Entries) (row_of source.Entries) shown held stored_seen stored over.own.tuples.entries
        (map_ordered (λ (t : List ℕ). t) seen fit_seen) stored_side own_side
        ∙ ap (directed down) (rows_stay shown (filter held stored_seen))

  -- ---- another index

  module _ (def : IndexDef) (other : (def.id.0 == 0) ≡ false) (long : ℕ) (whole : AreLong long all) (whole_seen : AreLong long seen)
      (have : HaveKeys def seen) (one_each : def.unique ≡ true → AreUnique def seen)
      (kept own_kept : List IndexEntry) (keeps : StoresEntries kept (kept_entries def all)) (keeps_own : StoresEntries own_kept (kept_entries def own)) where
    abbrev kept_fits : Key × Key → Type 0
    kept_fits entry = AreFit entry.0

    abbrev q : Key × Key → Bool
    q entry = unwritten written all entry.1

    abbrev all_seen : List (Key × Key)
    all_seen = entries (kept_entries def seen)

    fit_kept : AllByRecursion kept_fits all_seen
    fit_kept = all_parts kept_fits q all_seen
        (subst (AllByRecursion kept_fits) (sym (entries_shown written all def long whole whole_seen)) (all-filter kept_fits q (entries (kept_entries def all)) keeps.fit))
        (subst (AllByRecursion kept_fits) (sym (entries_own written all def long whole whole_seen)) keeps_own.fit)

    keeps_seen : StoresEntries (map entry_bytes all_seen) (kept_entries def seen)
    keeps_seen = record { same = refl; fit = fit_kept }

    -- the primary keys of entries are fit
    primary_fits : (tuples : Tuples) → AreLong long tuples → (some : List (Key × Key)) → AllByRecursion (λ (one : Key × Key). get (kept_entries def tuples) one.0 ≡ Some one.1) some
        → AllByRecursion kept_fits some → AllByRecursion (λ (one : Key × Key). AreFit one.1) some
    primary_fits tuples long_each [] there fit = tt
    primary_fits tuples long_each (entry ∷ some) there fit =
        let of = entry_is_of def long tuples long_each entry.0 entry.1 there.0 in
        (fit_behind (key_or_none (key_in def.key of.0)) entry.1 (subst AreFit of.2 fit.0), primary_fits tuples long_each some there.1 fit.1)

    abbrev shown : IndexEntry → Bool
    shown = is_shown over false

    same_test : (some : List (Key × Key)) → AllByRecursion (λ (one : Key × Key). AreFit one.1) some → AllByRecursion (λ (one : Key × Key). shown (entry_bytes one) ≡ q one) some
    same_test = all_so (λ (one : Key × Key). AreFit one.1) (λ one. shown (entry_bytes one) ≡ q one) (λ one fit. shows one.1 fit)

    fits_all : AllByRecursion (λ (one : Key × Key). AreFit one.1) (entries (kept_entries def all))
    fits_all = primary_fits all whole (entries (kept_entries def all)) (each_is_found (kept_entries def all)) keeps.fit

    fits_seen : AllByRecursion (λ (one : Key × Key). AreFit one.1) all_seen
    fits_seen = primary_fits seen whole_seen all_seen (each_is_found (kept_entries def seen)) fit_kept

    stored_side : filter shown kept ≡ filter shown (map entry_bytes all_seen)
    stored_side =
        ap (filter shown) (sym keeps.same) ∙ filter_as comparable_of shown q (entries (kept_entries def all)) (same_test (entries (kept_entries def all)) fits_all)
        ∙ ap (map entry_bytes) (sym (entries_shown written all def long whole whole_seen)) ∙ sym (filter_as comparable_of shown q all_seen (same_test all_seen fits_seen))

    own_side : own_kept ≡ filter (λ entry. not (shown entry)) (map entry_bytes all_seen)
    own_side =
        sym keeps_own.same ∙ ap (map entry_bytes) (sym (entries_own written all def long whole whole_seen))
        ∙ sym (filter_as comparable_of (λ entry. not (shown entry)) (λ entry. not (q entry)) all_seen
        (all_so (λ (one : Key × Key). shown (entry_bytes one) ≡ q one) (λ one. not (shown (entry_bytes one)) ≡ not (q one)) (λ one e. ap not e) all_seen (same_test all_seen fits_seen)))

    abbrev stored_row : IndexEntry → StoredTuple
    stored_row = indexed_row def.unique stored

    abbrev own_row : IndexEntry → StoredTuple
    own_row = indexed_row def.unique over.own.tuples.entries

    -- a side's row is that of what is seen
    side_row : (down : Bool) (entry : Key × Key) → AreFit entry.1 → shown (entry_bytes entry) ≡ q entry
        → row_by_side down stored_row own_row shown (entry_bytes entry) ≡ indexed_row def.unique stored_seen (entry_bytes entry)
    side_row down entry fit is =
        ap (λ b. if b then stored_row (entry_bytes entry) else own_row (entry_bytes entry)) is ∙ by_write (is_some (get written entry.1)) refl
      where
        bytes : List ℕ
        bytes = comparable_of entry.1

        tuple_of : (kept : List StoredTuple) (tuples : Tuples) → StoresTuples kept tuples → tuple_stored kept (comparable_of entry.1) ≡ unwrap_or (get tuples entry.1) []
        tuple_of kept tuples keeps = ap (λ o. unwrap_or o []) (stored_get kept tuples entry.1 (comparable_of entry.1) keeps fit refl)

        by_write : (b : Bool) → is_some (get written entry.1) ≡ b
            → (if not b then stored_row (entry_bytes entry) else own_row (entry_bytes entry)) ≡ indexed_row def.unique stored_seen (entry_bytes entry)
        by_write false none =
            ap (λ t. (key_in_index def.unique (comparable_of entry.0) (comparable_of entry.1), t))
            (tuple_of stored all stores ∙ ap (λ o. unwrap_or o []) (sym (not_written written all entry.1 (not_some (get written entry.1) none))) ∙ sym (tuple_of stored_seen seen stores_seen))
        by_write true some =
            ap (λ t. (key_in_index def.unique (comparable_of entry.0) (comparable_of entry.1), t))
            (tuple_of over.own.tuples.entries own writes.own.holds.keeps ∙ ap (λ o. unwrap_or o []) (was_written written all entry.1 some) ∙ sym (tuple_of stored_seen seen stores_seen))

    side_rows : (down : Bool) (held : IndexEntry → Bool) (some : List (Key × Key)) → AllByRecursion (λ (one : Key × Key). AreFit one.1) some
        → map (row_by_side down stored_row own_row shown) (filter held (map entry_bytes some)) ≡ map (indexed_row def.unique stored_seen) (filter held (map entry_bytes some))
    side_rows down held [] fit = refl
    side_rows down held (entry ∷ some) fit = by_test (held (entry_bytes entry)) (side_rows down held some fit.1)
      where
        by_test : (b : Bool)
            → map (row_by_side down stored_row own_row shown) (filter held (map entry_bytes some)) ≡ map (indexed_row def.unique stored_seen) (filter held (map entry_bytes some))
            → map (row_by_side down stored_row own_row shown) (cond b (entry_bytes entry ∷ filter held (map entry_bytes some)) (filter held (map entry_bytes some)))
            ≡ map (indexed_row def.unique stored_seen) (cond b (entry_bytes entry ∷ filter held (map entry_bytes some)) (filter held (map entry_bytes some)))
        by_test true later = λ i. side_row down entry fit.0 (shows entry.1 fit.0) i ∷ later i
        by_test false later = later

    pub index_rows_are : (range : KeyRange) (down : Bool) (iterator : IterKind) (key : Key) → AreFit key → length key ≤ length def.key → range ≡ edges_of (range_of iterator key)
        → merged down stored_row own_row (filter shown (directed down (filter (λ entry. holds range entry.0) kept))) (directed down (filter (λ entry. holds range entry.0) own_kept))
        ≡ directed down (filter (λ entry. holds range entry.0) (map stored_tuple (entries (tuples_by_index def seen))))
    index_rows_are range down iterator key fit short edges =
        subst (λ (r : KeyRange). merged down stored_row own_row (filter shown (directed down (filter (λ entry. holds r entry.0) kept))) (directed down (filter (λ entry. holds r entry.0) own_kept))
        ≡ directed down (filter (λ entry. holds r entry.0) (map stored_tuple (entries (tuples_by_index def seen))))) (sym edges) by_keys
      where
        by_keys : merged down stored_row own_row (filter shown (directed down (filter (λ entry. holds (edges_of (range_of iterator key)) entry.0) kept)))
            (directed down (filter (λ entry. holds (edges_of (range_of iterator key)) entry.0) own_kept))
            ≡ directed down (filter (λ entry. holds (edges_of (range_of iterator key)) entry.0) (map stored_tuple (entries (tuples_by_index def seen))))
        by_keys =
            let law : HoldsItsKeys (range_of iterator key) = λ sought f. range_holds (range_of iterator key) sought (fit_ends iterator key fit) f in
            let held : IndexEntry → Bool = λ entry. holds (edges_of (range_of iterator key)) entry.0 in
            merged_in_range down stored_row own_row shown held (map entry_bytes all_seen) kept own_kept
            (map_ordered comparable_of (kept_entries def seen) fit_kept) stored_side own_side
            ∙ ap (directed down)
            (side_rows down held all_seen fits_seen
            ∙ rows_in def seen long whole_seen stored_seen stores_seen (range_of iterator key) law all_seen (each_is_found (kept_entries def seen)) fit_kept
            ∙ ap (map stored_tuple) (sym (in_range def seen long whole_seen other have one_each (map entry_bytes all_seen) keeps_seen stored_seen stores_seen iterator key fit short))
            ∙ sym (kept_in_range (range_of iterator key) law (entries (tuples_by_index def seen))
            (index_fits def seen long whole_seen other have one_each (map entry_bytes all_seen) keeps_seen)))

-- the entries of an index of another number that a space keeps
pub entries_kept : (schema : Option Schema) (space : Space) (all : Tuples) (def : IndexDef) → StoresIndexed schema space all → index_with def.id.0 space.schema.indexes ≡ Some def → def.id.0 ≢ 0
    → (kept : List IndexEntry) → Some kept ≡ index_kept def.id.0 space.schema.indexes space.indexes.items → StoresEntries kept (kept_entries def all)
entries_kept schema space all def stores there apart kept is =
    let index = index_there all def.id.0 space.schema.indexes space.indexes.items def stores.indexes there in
    subst (λ l. StoresEntries l (kept_entries def all)) (same_some index.0 kept (sym index.1 ∙ sym is))
    (subst (λ b. StoresByNumber b def all index.0) (ne_eqb def.id.0 0 apart) index.2)

-- the keys of what is seen by an index
pub seen_fits : (schema : Option Schema) (space : Space) (over : OverlaidSpace) (all : Tuples) (written : OwnWrites) (def : IndexDef) (long : ℕ) → StoresIndexed schema space all
    → StoresWritten schema over written → AreLong long all → AreLong long (under written all) → index_with def.id.0 space.schema.indexes ≡ Some def
    → HaveKeys def (under written all) → (def.unique ≡ true → AreUnique def (under written all)) → AreFitEntries (entries (tuples_by_index def (under written all)))
seen_fits schema space over all written def long stores writes whole whole_seen there have one_each = by_number (def.id.0 == 0) refl
  where
    by_number : (b : Bool) → (def.id.0 == 0) ≡ b → AreFitEntries (entries (tuples_by_index def (under written all)))
    by_number true first =
        subst (λ (t : Tuples). AreFitEntries (entries t)) (sym (primary_index def (under written all) (eqb-true def.id.0 0 first)))
        (fit_seen schema over written writes all space.tuples.entries stores.holds.keeps)
    by_number false other =
        let index = index_there all def.id.0 space.schema.indexes space.indexes.items def stores.indexes there in
        let own_there = index_of_own schema space over all written def.id.0 def over.own stores writes refl there in
        let own_index = index_there (under written empty) def.id.0 over.own.schema.indexes over.own.indexes.items def writes.own.indexes own_there in
        let keeps : StoresEntries index.0 (kept_entries def all) = subst (λ b. StoresByNumber b def all index.0) other index.2 in
        let keeps_own : StoresEntries own_index.0 (kept_entries def (under written empty)) = subst (λ b. StoresByNumber b def (under written empty) own_index.0) other own_index.2 in
        index_fits def (under written all) long whole_seen other have one_each (map entry_bytes (entries (kept_entries def (under written all))))
        (keeps_seen schema over written writes all space.tuples.entries stores.holds.keeps def other long whole whole_seen have one_each index.0 own_index.0 keeps keeps_own)

-- the primary keys of what is seen
pub first_fits : (schema : Option Schema) (space : Space) (over : OverlaidSpace) (all : Tuples) (written : OwnWrites) (def : IndexDef) (long : ℕ) → StoresIndexed schema space all
    → StoresWritten schema over written → AreLong long all → AreLong long (under written all) → index_with def.id.0 space.schema.indexes ≡ Some def
    → HaveKeys def (under written all) → (def.unique ≡ true → AreUnique def (under written all)) → def.id.0 ≡ 0 → AreFitEntries (entries (under written all))
first_fits schema space over all written def long stores writes whole whole_seen there have one_each first =
    subst (λ (t : Tuples). AreFitEntries (entries t)) (primary_index def (under written all) first)
    (seen_fits schema space over all written def long stores writes whole whole_seen there have one_each)

-- the primary keys of what is seen have as many parts as the primary index
pub seen_long : (schema : Option Schema) (space : Space) (over : OverlaidSpace) (all : Tuples) (written : OwnWrites) (primary : IndexDef) → StoresIndexed schema space all
    → StoresWritten schema over written → index_with 0 space.schema.indexes ≡ Some primary → AreLong (length primary.key) (under written all)
seen_long schema space over all written primary stores writes there =
    let is_long : Indexed → Type 0 = λ entry. length entry.0 ≡ length primary.key in
    let own_there = index_of_own schema space over all written 0 primary over.own stores writes refl there in
    all_parts is_long (λ entry. unwritten written all entry.0) (entries (under written all))
    (subst (AllByRecursion is_long) (sym (tuples_shown written all)) (all-filter is_long (λ entry. unwritten written all entry.0) (entries all) (space_long schema space all primary stores there)))
    (subst (AllByRecursion is_long) (sym (tuples_own written all)) (space_long schema over.own (under written empty) primary writes.own own_there))
