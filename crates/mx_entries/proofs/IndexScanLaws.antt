-- What the kept entries of an index lead to in a range of keys is what a SELECT finds of the tuples by the index.
use Rattle.std.proofs.Common.{◌≡◌, ℕ, suc, ◌-◌, ◌≤◌, Bool, true, false, cond, List, [], ◌∷◌, ◌++◌, map, take, drop, length, filter, Option, Some, None, Result, Ok, Err, refl, sym, ap, ◌∙◌, subst, arith, append-nil}
use Rattle.std.specs.Prelude.{◌==◌, nat_lt, if◌then◌else◌}
use Rattle.std.specs.FinMap.{entries, get}
use Rattle.std.specs.List.{AllByRecursion, drop-map}
use Rattle.std.specs.Option.{ok_or, unwrap_or}
use Rattle.std.proofs.lemmas.List.{length-append, take_at}
use Rattle.mx_msgpack.specs.Items.{items_of}
use Rattle.mx_key.specs.declared.edge.KeyRange.{KeyRange}
use Rattle.mx_key.specs.declared.fault.Misfit.{Misfit}
use Rattle.mx_key.specs.declared.fault.Misfit.TheVariants.{TooLong, WrongPart}
use Rattle.mx_key.specs.declared.iterator.IterKind.{IterKind}
use Rattle.mx_key.specs.declared.iterator.IterKind.TheVariants.{Eq, Req, All, Lt, Le, Ge, Gt}
use Rattle.mx_key.specs.declared.part.Part.{Part}
use Rattle.mx_key.specs.Comparable.{comparable_of, edges_of, holds}
use Rattle.mx_key.specs.Keys.{Key, AreFit}
use Rattle.mx_key.specs.Parts.{key_of_array, key_of_items, part_in, parts_of_items}
use Rattle.mx_key.specs.Ranges.{Range, descends, lies_in, range_of}
use Rattle.mx_key.proofs.RangeLaws.{range_holds}
use Rattle.mx_schema.specs.declared.index_def.IndexDef.{IndexDef}
use Rattle.mx_schema.specs.Picks.{Indexed, directed, entry_key, tuples_by_index, window}
use Rattle.mx_schema.specs.Sound.{AreUnique, HaveKeys}
use Rattle.mx_schema.specs.State.{Tuples, key_in, key_or_none}
use Rattle.mx_schema.specs.Stored.{StoredTuple, StoresTuples, stored_tuple}
use Rattle.mx_schema.proofs.PartLaws.{first_part}
use Rattle.mx_schema.proofs.StoredLaws.{keys_joined}
use Rattle.mx_schema.proofs.TakenLaws.{stored_get}
use Rattle.mx_entries.specs.Built.{AreLong}
use Rattle.mx_entries.specs.Entries.{IndexEntry}
use Rattle.mx_entries.specs.KeptEntries.{StoresEntries, entry_bytes, kept_entries}
use Rattle.mx_entries.specs.Windows.{AreFitEntries, found_in, key_in_index, indexed_row, rows_found, tuple_stored}
use Rattle.mx_entries.proofs.EntriesLaws.{entry_is_of}
use Rattle.mx_entries.proofs.HolderKeyLaws.{fit_behind}
use Rattle.mx_entries.proofs.IndexedLaws.{each_is_found}
use Rattle.mx_entries.proofs.PickLaws.{HoldsItsKeys, fit_ends, kept_in_range}
use Rattle.mx_entries.proofs.ScanLaws.{AreShort, indexed_entry, many_in_order, many_in_range, unique_in_order, unique_in_range}
use Rattle.mx_entries.proofs.WindowLaws.{map-directed}

-- ---- a key has no more parts than the index

parts_short : (place : ℕ) (def : List Part) (items : List (List ℕ)) (key : Key) → parts_of_items place def items ≡ Ok key → length key ≤ length def
parts_short place def [] [] e = omega arith
parts_short place def [] (part ∷ parts) e = absurd cc
parts_short place [] (item ∷ items) [] e = omega arith
parts_short place [] (item ∷ items) (part ∷ parts) e = absurd cc
parts_short place (part ∷ def) (item ∷ items) key e =
    let m = first_part (ok_or (part_in part.kind item) (WrongPart place part.kind)) (parts_of_items (suc place) def items) key e in
    let others : length m.1 ≤ length def = parts_short (suc place) def items m.1 m.2 in
    let all : length key ≡ suc (length m.1) = ap length (sym m.3) in
    omega (arith, others, all)

pub array_short : (def : List Part) (bytes : List ℕ) (key : Key) → key_of_array def bytes ≡ Ok key → length key ≤ length def
array_short def bytes key e = by_items (items_of bytes) e
  where
    no_parts : (key : Key) → ◌≡◌ {A = Result Key Misfit} (Ok []) (Ok key) → length key ≤ length def
    no_parts [] e = omega arith
    no_parts (part ∷ parts) e = absurd cc

    by_items : (items : Option (List (List ℕ))) → key_of_items def items ≡ Ok key → length key ≤ length def
    by_items None e = no_parts key e
    by_items (Some items) e = by_test (nat_lt (length def) (length items)) e
      where
        by_test : (b : Bool) → (if b then Err (TooLong (length items)) else parts_of_items 0 def items) ≡ Ok key → length key ≤ length def
        by_test true e = absurd cc
        by_test false e = parts_short 0 def items key e

short_ends : (iterator : IterKind) (key : Key) (long : ℕ) → length key ≤ long → AreShort (range_of iterator key) long
short_ends iterator [] long short = (tt, tt)
short_ends Eq (part ∷ parts) long short = (short, short)
short_ends Req (part ∷ parts) long short = (short, short)
short_ends All (part ∷ parts) long short = (short, tt)
short_ends Ge (part ∷ parts) long short = (short, tt)
short_ends Gt (part ∷ parts) long short = (short, tt)
short_ends Le (part ∷ parts) long short = (tt, short)
short_ends Lt (part ∷ parts) long short = (tt, short)

-- ---- the key of an entry in the index

fit_front : (one other : Key) → AreFit (one ++ other) → AreFit one
fit_front [] other fit = tt
fit_front (part ∷ one) other fit = (fit.0, fit_front one other fit.1)

key_by : (unique : Bool) (key primary : Key) → key_in_index unique (comparable_of (key ++ primary)) (comparable_of primary) ≡ comparable_of (key ++ (if unique then [] else primary))
key_by false key primary = refl
key_by true key primary =
    let front = comparable_of key in
    let behind = comparable_of primary in
    ap (λ l. take (length l - length behind) l) (keys_joined key primary)
    ∙ take_at front behind (length (front ++ behind) - length behind) (omega (arith, length-append front behind))
    ∙ ap comparable_of (sym (append-nil key))

fit_by : (unique : Bool) (key primary : Key) → AreFit (key ++ primary) → AreFit (key ++ (if unique then [] else primary))
fit_by true key primary fit = subst AreFit (sym (append-nil key)) (fit_front key primary fit)
fit_by false key primary fit = fit

-- ---- the tuples that entries lead to

module _ (def : IndexDef) (tuples : Tuples) (long : ℕ) (whole : AreLong long tuples) where
  abbrev kept_there : Key × Key → Type 0
  kept_there entry = get (kept_entries def tuples) entry.0 ≡ Some entry.1

  abbrev fits : Key × Key → Type 0
  fits entry = AreFit entry.0

  -- the tuple of an entry that is kept
  tuple_of : (entry : Key × Key) → kept_there entry → (tuple : List ℕ) × (unwrap_or (get tuples entry.1) [] ≡ tuple) × (entry.0 ≡ key_or_none (key_in def.key tuple) ++ entry.1)
  tuple_of entry there = let of = entry_is_of def long tuples whole entry.0 entry.1 there in (of.0, ap (λ o. unwrap_or o []) of.1, of.2)

  fits_are : (some : List (Key × Key)) → AllByRecursion kept_there some → AllByRecursion fits some → AreFitEntries (map (indexed_entry def tuples) some)
  fits_are [] there fit = tt
  fits_are (entry ∷ some) there fit =
      let of = tuple_of entry there.0 in (
        subst (λ tuple. AreFit (entry_key def entry.1 tuple)) (sym of.1) (fit_by def.unique (key_or_none (key_in def.key of.0)) entry.1 (subst AreFit of.2 fit.0)),
        fits_are some there.1 fit.1,
      )

  module _ (stored : List StoredTuple) (stores : StoresTuples stored tuples) where
    row_is : (entry : Key × Key) → kept_there entry → AreFit entry.0 → indexed_row def.unique stored (entry_bytes entry) ≡ stored_tuple (indexed_entry def tuples entry)
    row_is entry there fit =
        let of = tuple_of entry there in
        let key = key_or_none (key_in def.key of.0) in
        let primary_fit : AreFit entry.1 = fit_behind key entry.1 (subst AreFit of.2 fit) in
        let tuple_is : tuple_stored stored (comparable_of entry.1) ≡ unwrap_or (get tuples entry.1) [] =
        ap (λ o. unwrap_or o []) (stored_get stored tuples entry.1 (comparable_of entry.1) stores primary_fit refl) in
        let key_is : key_in_index def.unique (comparable_of entry.0) (comparable_of entry.1) ≡ comparable_of (entry_key def entry.1 (unwrap_or (get tuples entry.1) [])) =
        ap (λ k. key_in_index def.unique (comparable_of k) (comparable_of entry.1)) of.2 ∙ key_by def.unique key entry.1
        ∙ ap (λ tuple. comparable_of (entry_key def entry.1 tuple)) (sym of.1) in
        (λ i. (key_is i, tuple_is i))

    -- of the entries in a range
    pub rows_in : (range : Range) → HoldsItsKeys range → (some : List (Key × Key)) → AllByRecursion kept_there some → AllByRecursion fits some
        → map (indexed_row def.unique stored) (filter (λ (entry : IndexEntry). holds (edges_of range) entry.0) (map entry_bytes some))
        ≡ map stored_tuple (map (indexed_entry def tuples) (filter (λ (entry : Key × Key). lies_in range entry.0) some))
    rows_in range law [] there fit = refl
    rows_in range law (entry ∷ some) there fit =
        ap (λ b. map (indexed_row def.unique stored) (cond b (entry_bytes entry ∷ others) others)) (law entry.0 fit.0)
        ∙ by_test (lies_in range entry.0) (rows_in range law some there.1 fit.1)
      where
        others : List IndexEntry
        others = filter (λ (one : IndexEntry). holds (edges_of range) one.0) (map entry_bytes some)

        lying : List (Key × Key)
        lying = filter (λ (one : Key × Key). lies_in range one.0) some

        by_test : (b : Bool) → map (indexed_row def.unique stored) others ≡ map stored_tuple (map (indexed_entry def tuples) lying)
            → map (indexed_row def.unique stored) (cond b (entry_bytes entry ∷ others) others) ≡ map stored_tuple (map (indexed_entry def tuples) (cond b (entry ∷ lying) lying))
        by_test true later = λ i. row_is entry there.0 fit.0 i ∷ later i
        by_test false later = later

  module _ (other : (def.id.0 == 0) ≡ false) (have : HaveKeys def tuples) (one_each : def.unique ≡ true → AreUnique def tuples)
      (kept : List IndexEntry) (keeps : StoresEntries kept (kept_entries def tuples)) where
    abbrev all : List Indexed
    all = entries (tuples_by_index def tuples)

    abbrev kept_all : List (Key × Key)
    kept_all = entries (kept_entries def tuples)

    in_order : all ≡ map (indexed_entry def tuples) kept_all
    in_order = by_unique def.unique refl
      where
        by_unique : (b : Bool) → def.unique ≡ b → all ≡ map (indexed_entry def tuples) kept_all
        by_unique true unique = unique_in_order def other tuples long whole unique (one_each unique) have
        by_unique false many = many_in_order def other tuples long whole many

    -- the keys of the tuples by the index
    pub index_fits : AreFitEntries all
    index_fits = subst AreFitEntries (sym in_order) (fits_are kept_all (each_is_found (kept_entries def tuples)) keeps.fit)

    module _ (stored : List StoredTuple) (stores : StoresTuples stored tuples) (iterator : IterKind) (key : Key) (fit : AreFit key) (short : length key ≤ length def.key) where
      abbrev range : Range
      range = range_of iterator key

      pub in_range : filter (λ (entry : Indexed). lies_in range entry.0) all ≡ map (indexed_entry def tuples) (filter (λ (entry : Key × Key). lies_in range entry.0) kept_all)
      in_range = by_unique def.unique refl
        where
          by_unique : (b : Bool) → def.unique ≡ b
              → filter (λ (entry : Indexed). lies_in range entry.0) all ≡ map (indexed_entry def tuples) (filter (λ (entry : Key × Key). lies_in range entry.0) kept_all)
          by_unique true unique = unique_in_range def other tuples long whole unique (one_each unique) have range (short_ends iterator key (length def.key) short)
          by_unique false many = many_in_range def other tuples long whole many range

      -- what is found of the entries is what is found of the tuples
      pub rows_are_found : (bytes : KeyRange) → bytes ≡ edges_of range → (offset limit : ℕ) → rows_found (indexed_row def.unique stored) kept bytes iterator offset limit ≡ found_in (map stored_tuple all) bytes iterator offset limit
      rows_are_found bytes edges offset limit = subst (λ r. rows_found (indexed_row def.unique stored) kept r iterator offset limit ≡ found_in (map stored_tuple all) r iterator offset limit) (sym edges) by_keys
        where
          by_keys : rows_found (indexed_row def.unique stored) kept (edges_of range) iterator offset limit ≡ found_in (map stored_tuple all) (edges_of range) iterator offset limit
          by_keys =
              let down = descends iterator in
              let held : StoredTuple → Bool = λ entry. holds (edges_of range) entry.0 in
              let law : HoldsItsKeys range = λ sought f. range_holds range sought (fit_ends iterator key fit) f in
              ap (take limit) (sym (drop-map (indexed_row def.unique stored) offset (directed down (filter held kept))) ∙ ap (drop offset) (sym (map-directed (indexed_row def.unique stored) down (filter held kept))))
              ∙ ap (λ l. window offset limit (directed down l))
              (ap (λ l. map (indexed_row def.unique stored) (filter held l)) (sym keeps.same)
              ∙ rows_in stored stores range law kept_all (each_is_found (kept_entries def tuples)) keeps.fit
              ∙ ap (map stored_tuple) (sym in_range)
              ∙ sym (kept_in_range range law all index_fits))
