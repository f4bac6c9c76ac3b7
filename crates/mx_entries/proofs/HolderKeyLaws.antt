-- In a unique index the tuple that has a key is that of the first entry from the key.
use Rattle.std.proofs.Common.{◌≡◌, ◌≢◌, ℕ, Bool, true, false, cond, not, List, [], ◌∷◌, ◌++◌, map, length, take, Option, Some, None, Ok, refl, sym, ap, ◌∙◌, subst, append-nil}
use Rattle.std.specs.Prelude.{is_some, ◌==◌, if◌then◌else◌}
use Rattle.std.specs.FinMap.{empty, entries, entries_sorted, get, get-entries}
use Rattle.std.specs.FinMap.Entries as pairs
use Rattle.std.specs.List as list
use Rattle.std.specs.List.{AllByRecursion}
use Rattle.std.specs.Option.{option_map}
use Rattle.std.specs.Ordering.{is_gt, is_lt}
use Rattle.std.proofs.lemmas.List.{append_cancel_right, take_at}
use Rattle.mx_msgpack.proofs.Options.{same_some}
use Rattle.mx_tuple.specs.Fields.{tuple_of}
use Rattle.mx_key.specs.Keys.{Key, AreFit, key_cmp}
use Rattle.mx_key.specs.Comparable.{comparable_of}
use Rattle.mx_key.proofs.EncodingLaws.{bytes_order}
use Rattle.mx_schema.specs.declared.index_def.IndexDef.{IndexDef}
use Rattle.mx_schema.specs.Picks.{Indexed, entry_key, indexed_with, tuples_by_index}
use Rattle.mx_schema.specs.Sound.{AreUnique, HaveKeys}
use Rattle.mx_schema.specs.State.{Tuples, key_in, key_or_none}
use Rattle.mx_schema.proofs.StoredLaws.{fit_joined, keys_joined}
use Rattle.mx_schema.proofs.TakenLaws.{each_found}
use Rattle.mx_schema.proofs.PartLaws.{key_length}
use Rattle.mx_entries.specs.Entries.{IndexEntry, LeadsTo, first_from}
use Rattle.mx_entries.specs.Built.{AreLong}
use Rattle.mx_entries.specs.KeptEntries.{StoresEntries, entry_bytes, kept_entries}
use Rattle.mx_entries.specs.KeptKeys.{kept_key}
use Rattle.mx_entries.proofs.BytesLaws.{one_by_bytes}
use Rattle.mx_entries.proofs.EntriesLaws.{entry_is_of, entry_there}
use Rattle.mx_entries.proofs.IndexedLaws.{AreApart, Held, held_is, held_there, not_none, begins, each_is_found, first_passing, not_below, passing_has}

pub fit_behind : (one other : Key) → AreFit (one ++ other) → AreFit other
fit_behind [] other fit = fit
fit_behind (part ∷ one) other fit = fit_behind one other fit.1

-- the first entry from a key, by keys and by bytes
abbrev first_at : Key → List (Key × Key) → Option (Key × Key)
first_at wanted all = list.find (λ (entry : Key × Key). not (is_lt (key_cmp entry.0 wanted))) all

first_bytes : (wanted : Key) → AreFit wanted → (all : List (Key × Key)) → AllByRecursion (λ (entry : Key × Key). AreFit entry.0) all
    → first_from (comparable_of wanted) (map entry_bytes all) ≡ option_map entry_bytes (first_at wanted all)
first_bytes wanted fit [] fits = refl
first_bytes wanted fit (entry ∷ all) fits =
    ap (λ o. cond (not (is_lt o)) (Some (entry_bytes entry)) (first_from (comparable_of wanted) (map entry_bytes all))) (bytes_order entry.0 wanted fits.0 fit)
    ∙ by_test (not (is_lt (key_cmp entry.0 wanted))) (first_bytes wanted fit all fits.1)
  where
    by_test : (b : Bool) → first_from (comparable_of wanted) (map entry_bytes all) ≡ option_map entry_bytes (first_at wanted all)
        → cond b (Some (entry_bytes entry)) (first_from (comparable_of wanted) (map entry_bytes all)) ≡ option_map entry_bytes (cond b (Some entry) (first_at wanted all))
    by_test true later = refl
    by_test false later = later

pub same_parts : (one other rest more : Key) → length one ≡ length other → one ++ rest ≡ other ++ more → one ≡ other
same_parts one other rest more long same =
    sym (take_at one rest (length one) refl) ∙ ap (take (length one)) same ∙ take_at other more (length one) (sym long)

module _ (def : IndexDef) (unique : def.unique ≡ true) (tuples : Tuples) (one_each : AreUnique def tuples) (have : HaveKeys def tuples) where
  abbrev HasKey : Indexed → Type 0
  HasKey entry = (key : Key) × (key_in def.key entry.1 ≡ Ok key)

  key_of_tuple : (primary : Key) (tuple : List ℕ) → get tuples primary ≡ Some tuple → (key : Key) × (key_in def.key tuple ≡ Ok key)
  key_of_tuple primary tuple there = each_found primary HasKey tuples tuple there have

  -- in a unique index a tuple stands under its key alone
  pub entry_key_is : (primary : Key) (tuple : List ℕ) → entry_key def primary tuple ≡ key_or_none (key_in def.key tuple)
  entry_key_is primary tuple = ap (λ b. key_or_none (key_in def.key tuple) ++ (if b then [] else primary)) unique ∙ append-nil (key_or_none (key_in def.key tuple))

  pub one_holder : (one other : Key) (first second : List ℕ) → get tuples one ≡ Some first → get tuples other ≡ Some second
      → key_or_none (key_in def.key first) ≡ key_or_none (key_in def.key second) → one ≡ other
  one_holder one other first second here there same =
      let k = key_of_tuple one first here in
      let l = key_of_tuple other second there in
      let keys : k.0 ≡ l.0 = sym (ap key_or_none k.1) ∙ same ∙ ap key_or_none l.1 in
      one_each one other first second k.0 here there k.1 (l.1 ∙ ap (λ key. Ok key) (sym keys))

  pub unique_apart : AreApart def tuples
  unique_apart one other first second here there same = one_holder one other first second here there (sym (entry_key_is one first) ∙ same ∙ entry_key_is other second)

  pub key_long : (primary : Key) (tuple : List ℕ) → get tuples primary ≡ Some tuple → length (key_or_none (key_in def.key tuple)) ≡ length def.key
  key_long primary tuple there =
      let k = key_of_tuple primary tuple there in
      ap (λ r. length (key_or_none r)) k.1 ∙ key_length def.key (tuple_of tuple).fields k.0 k.1

  module _ (wanted : Key) where
    module _ (long : ℕ) (whole : AreLong long tuples) where
      -- an entry that isn't behind that of a tuple with this key has the key too
      begins_with : (primary : Key) (tuple : List ℕ) → get tuples primary ≡ Some tuple → key_or_none (key_in def.key tuple) ≡ wanted
          → (entry : Key × Key) → first_at wanted (entries (kept_entries def tuples)) ≡ Some entry → is_gt (key_cmp entry.0 (wanted ++ primary)) ≡ false
          → entry.0 ≡ wanted ++ entry.1
      begins_with primary tuple there is entry first to =
          let known = passing_has (λ (one : Key × Key). get (kept_entries def tuples) one.0 ≡ Some one.1) (λ (one : Key × Key). not (is_lt (key_cmp one.0 wanted)))
          (entries (kept_entries def tuples)) entry (each_is_found (kept_entries def tuples)) first in
          its_key (entry_is_of def long tuples whole entry.0 entry.1 known.0) (begins wanted entry.0 primary (passed (is_lt (key_cmp entry.0 wanted)) known.1) to)
        where
          passed : (b : Bool) → not b ≡ true → b ≡ false
          passed true e = sym e
          passed false e = refl

          its_key : (one : List ℕ) × (get tuples entry.1 ≡ Some one) × (entry.0 ≡ kept_key def entry.1 one) → (rest : Key) × (entry.0 ≡ wanted ++ rest) → entry.0 ≡ wanted ++ entry.1
          its_key (one, at, of) (rest, joined) =
              let long_as : length (key_or_none (key_in def.key one)) ≡ length wanted = key_long entry.1 one at ∙ sym (key_long primary tuple there) ∙ ap length is in
              of ∙ ap (λ k. k ++ entry.1) (same_parts (key_or_none (key_in def.key one)) wanted entry.1 rest long_as (sym of ∙ joined))

      -- the entry of a tuple with this key is the first one
      has_first : (primary : Key) (tuple : List ℕ) → get tuples primary ≡ Some tuple → key_or_none (key_in def.key tuple) ≡ wanted
          → (entry : Key × Key) × (first_at wanted (entries (kept_entries def tuples)) ≡ Some entry) × (entry.0 ≡ wanted ++ entry.1)
      has_first primary tuple there is =
          let primary_long : length primary ≡ long = each_found primary (λ entry. length entry.0 ≡ long) tuples tuple there whole in
          let key : kept_key def primary tuple ≡ wanted ++ primary = ap (λ k. k ++ primary) is in
          let among : pairs.find key_cmp (wanted ++ primary) (entries (kept_entries def tuples)) ≡ Some primary =
          ap (λ k. pairs.find key_cmp k (entries (kept_entries def tuples))) (sym key)
          ∙ sym (get-entries (kept_entries def tuples) (kept_key def primary tuple)) ∙ entry_there def long tuples whole primary tuple primary_long there in
          by_first (first_passing (λ (k : Key). not (is_lt (key_cmp k wanted))) (wanted ++ primary) primary (entries (kept_entries def tuples))
          (entries_sorted (kept_entries def tuples)) among (ap not (not_below wanted primary)))
        where
          by_first : (entry : Key × Key) × (first_at wanted (entries (kept_entries def tuples)) ≡ Some entry) × (is_gt (key_cmp entry.0 (wanted ++ primary)) ≡ false)
              → (entry : Key × Key) × (first_at wanted (entries (kept_entries def tuples)) ≡ Some entry) × (entry.0 ≡ wanted ++ entry.1)
          by_first (entry, first, to) = (entry, first, begins_with primary tuple there is entry first to)

      first_holds : (entry : Key × Key) → first_at wanted (entries (kept_entries def tuples)) ≡ Some entry → entry.0 ≡ wanted ++ entry.1
          → get tuples entry.1 ≡ get (indexed_with def empty (entries tuples)) wanted
      first_holds entry first joined =
          let known = passing_has (λ (one : Key × Key). get (kept_entries def tuples) one.0 ≡ Some one.1) (λ (one : Key × Key). not (is_lt (key_cmp one.0 wanted)))
          (entries (kept_entries def tuples)) entry (each_is_found (kept_entries def tuples)) first in
          let of = entry_is_of def long tuples whole entry.0 entry.1 known.0 in
          let its_key : key_or_none (key_in def.key of.0) ≡ wanted = append_cancel_right (key_or_none (key_in def.key of.0)) wanted entry.1 (sym of.2 ∙ joined) in
          of.1 ∙ sym (held_is def tuples unique_apart wanted entry.1 of.0 of.1 (entry_key_is entry.1 of.0 ∙ its_key))

      none_holds : ((entry : Key × Key) → first_at wanted (entries (kept_entries def tuples)) ≡ Some entry → entry.0 ≢ wanted ++ entry.1)
          → get (indexed_with def empty (entries tuples)) wanted ≡ None
      none_holds never = by_found (get (indexed_with def empty (entries tuples)) wanted) refl
        where
          by_held : (tuple : List ℕ) → Held def tuples unique_apart wanted tuple → ⊥
          by_held tuple (primary, there, is) = let first = has_first primary tuple there (sym (entry_key_is primary tuple) ∙ is) in never first.0 first.1 first.2

          by_found : (held : Option (List ℕ)) → get (indexed_with def empty (entries tuples)) wanted ≡ held → held ≡ None
          by_found None is = refl
          by_found (Some tuple) is = absurd (by_held tuple (held_there def tuples unique_apart wanted tuple is))

      -- ---- by the bytes that are kept

      module _ (other : (def.id.0 == 0) ≡ false) (fit : AreFit wanted) (kept : List IndexEntry) (keeps : StoresEntries kept (kept_entries def tuples)) where
        index_is : tuples_by_index def tuples ≡ indexed_with def empty (entries tuples)
        index_is = ap (λ b. if b then tuples else indexed_with def empty (entries tuples)) other

        first_kept : first_from (comparable_of wanted) kept ≡ option_map entry_bytes (first_at wanted (entries (kept_entries def tuples)))
        first_kept = ap (first_from (comparable_of wanted)) (sym keeps.same) ∙ first_bytes wanted fit (entries (kept_entries def tuples)) keeps.fit

        -- there is no such entry
        pub no_first : first_from (comparable_of wanted) kept ≡ None → None ≡ get (tuples_by_index def tuples) wanted
        no_first none =
            sym (ap (λ t. get t wanted) index_is ∙ none_holds (λ entry first joined.
            not_none (entry_bytes entry) (sym (sym none ∙ first_kept ∙ ap (option_map entry_bytes) first))))

        -- the first one isn't of the key
        pub other_first : (key primary : List ℕ) → first_from (comparable_of wanted) kept ≡ Some (key, primary) → key ≢ comparable_of wanted ++ primary
            → None ≡ get (tuples_by_index def tuples) wanted
        other_first key primary found apart =
            sym (ap (λ t. get t wanted) index_is ∙ none_holds (λ entry first joined.
            let same : (key, primary) ≡ entry_bytes entry = same_some (key, primary) (entry_bytes entry) (sym found ∙ first_kept ∙ ap (option_map entry_bytes) first) in
            apart (ap (λ (e : IndexEntry). e.0) same ∙ ap comparable_of joined ∙ keys_joined wanted entry.1 ∙ ap (λ p. comparable_of wanted ++ p) (sym (ap (λ (e : IndexEntry). e.1) same)))))

        -- the first one is, and so it is that of the tuple
        pub first_is_of : (key primary : List ℕ) → first_from (comparable_of wanted) kept ≡ Some (key, primary) → key ≡ comparable_of wanted ++ primary
            → (own : Key) × AreFit own × (primary ≡ comparable_of own) × (get tuples own ≡ get (tuples_by_index def tuples) wanted)
            × (tuple : List ℕ) × (get tuples own ≡ Some tuple)
        first_is_of key primary found joined = by_first (first_at wanted (entries (kept_entries def tuples))) refl
          where
            by_first : (first : Option (Key × Key)) → first_at wanted (entries (kept_entries def tuples)) ≡ first
                → (own : Key) × AreFit own × (primary ≡ comparable_of own) × (get tuples own ≡ get (tuples_by_index def tuples) wanted)
                × (tuple : List ℕ) × (get tuples own ≡ Some tuple)
            by_first None is = absurd (not_none (key, primary) (sym found ∙ first_kept ∙ ap (option_map entry_bytes) is))
            by_first (Some entry) is =
                let same : (key, primary) ≡ entry_bytes entry = same_some (key, primary) (entry_bytes entry) (sym found ∙ first_kept ∙ ap (option_map entry_bytes) is) in
                let key_is : key ≡ comparable_of entry.0 = ap (λ (e : IndexEntry). e.0) same in
                let primary_is : primary ≡ comparable_of entry.1 = ap (λ (e : IndexEntry). e.1) same in
                let known = passing_has (λ (one : Key × Key). AreFit one.0) (λ (one : Key × Key). not (is_lt (key_cmp one.0 wanted)))
                (entries (kept_entries def tuples)) entry keeps.fit is in
                let among = passing_has (λ (one : Key × Key). get (kept_entries def tuples) one.0 ≡ Some one.1) (λ (one : Key × Key). not (is_lt (key_cmp one.0 wanted)))
                (entries (kept_entries def tuples)) entry (each_is_found (kept_entries def tuples)) is in
                let of = entry_is_of def long tuples whole entry.0 entry.1 among.0 in
                let own_fit : AreFit entry.1 = fit_behind (key_or_none (key_in def.key of.0)) entry.1 (subst AreFit of.2 known.0) in
                let whole_key : entry.0 ≡ wanted ++ entry.1 =
                one_by_bytes entry.0 (wanted ++ entry.1) known.0 (fit_joined wanted entry.1 fit own_fit)
                (sym key_is ∙ joined ∙ ap (λ p. comparable_of wanted ++ p) primary_is ∙ sym (keys_joined wanted entry.1)) in
                (entry.1, own_fit, primary_is, first_holds entry is whole_key ∙ ap (λ t. get t wanted) (sym index_is), of.0, of.1)

        module _ (bytes : List ℕ) (is : bytes ≡ comparable_of wanted) where
          -- where the index leads nowhere from the key, no tuple has it
          pub none_has : LeadsTo bytes kept None → None ≡ get (tuples_by_index def tuples) wanted
          none_has none = by_first (first_from bytes kept) refl
            where
              by_first : (first : Option IndexEntry) → first_from bytes kept ≡ first → None ≡ get (tuples_by_index def tuples) wanted
              by_first None first = no_first (ap (λ k. first_from k kept) (sym is) ∙ first)
              by_first (Some entry) first =
                  other_first entry.0 entry.1 (ap (λ k. first_from k kept) (sym is) ∙ first) (λ joined. none entry.0 entry.1 first (joined ∙ ap (λ k. k ++ entry.1) (sym is)))

          -- the tuple that it leads to has it
          pub one_has : (primary : List ℕ) → LeadsTo bytes kept (Some primary)
              → (own : Key) × AreFit own × (primary ≡ comparable_of own) × (get tuples own ≡ get (tuples_by_index def tuples) wanted)
              × (tuple : List ℕ) × (get tuples own ≡ Some tuple)
          one_has primary leads = first_is_of (bytes ++ primary) primary (ap (λ k. first_from k kept) (sym is) ∙ leads) (ap (λ k. k ++ primary) is)

          -- whether there is one
          pub some_has : {A : Type 0} (view : A → List ℕ) (found : Option A) → LeadsTo bytes kept (option_map view found)
              → is_some found ≡ is_some (get (tuples_by_index def tuples) wanted)
          some_has view None none = ap is_some (none_has none)
          some_has view (Some entry) leads = let one = one_has (view entry) leads in ap is_some (sym one.5 ∙ one.3)
