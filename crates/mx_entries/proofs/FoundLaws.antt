-- The first entry from a whole key, as bytes.
use Rattle.std.proofs.Common.{◌≡◌, ◌≢◌, ℕ, Bool, true, false, cond, List, [], ◌∷◌, length, Some, inr, refl, sym, ap, ◌∙◌, ◌++◌, map, Option, None, subst, true≢false}
use Rattle.std.specs.FinMap.{entries, get, nat_cmp-IsAntisymmetric, slice_cmp-IsAntisymmetric}
use Rattle.std.specs.List.{AllByRecursion}
use Rattle.std.specs.Map.{lookup_entry, lookup}
use Rattle.std.specs.declared.cmp.Ordering.{Ordering}
use Rattle.std.specs.declared.cmp.Ordering.TheVariants.{Less, Equal, Greater}
use Rattle.std.specs.Prelude.{is_some, ◌&&◌, if◌then◌else◌}
use Rattle.std.specs.BTreeMap.{is_at}
use Rattle.std.specs.Cmp.{tied_itself}
use Rattle.std.specs.Cmp.Lexicographic.{slice_cmp}
use Rattle.std.specs.Ordering.{is_eq, nat_cmp}
use Rattle.std.proofs.lemmas.Cmp.{nat_cmp_total}
use Rattle.std.proofs.lemmas.List.{append_cancel_left, append_cancel_right}
use Rattle.mx_msgpack.proofs.Options.{same_some}
use Rattle.mx_schema.specs.declared.index_def.IndexDef.{IndexDef}
use Rattle.mx_schema.specs.Picks.{Indexed, tuples_by_index}
use Rattle.mx_schema.specs.Sound.{AreUnique, HaveKeys}
use Rattle.mx_schema.specs.State.{Tuples, key_in, key_or_none}
use Rattle.mx_schema.specs.Stored.{StoredTuple}
use Rattle.mx_entries.proofs.HolderKeyLaws.{entry_key_is, key_long, fit_behind, one_holder, same_parts}
use Rattle.mx_entries.proofs.IndexedLaws.{each_is_found}
use Rattle.mx_entries.proofs.SeenLaws.{holder_of}
use Rattle.mx_key.specs.Comparable.{comparable_of}
use Rattle.mx_key.specs.Keys.{AreFit, Key, is_key_prefix, is_prefix, part_cmp}
use Rattle.mx_key.proofs.EncodingLaws.{bytes_prefix}
use Rattle.mx_key.proofs.KeyLaws.{part_cmp-IsAntisymmetric}
use Rattle.mx_schema.proofs.StoredLaws.{fit_joined, keys_joined}
use Rattle.mx_entries.specs.Built.{AreLong}
use Rattle.mx_entries.specs.Entries.{IndexEntry, LeadsOnce}
use Rattle.mx_entries.specs.KeptEntries.{StoresEntries, entry_bytes, kept_entries}
use Rattle.mx_entries.proofs.BytesLaws.{Kept, one_by_bytes}
use Rattle.mx_entries.proofs.EntriesLaws.{entry_is_of}

-- ---- the entry of a whole key in an index of several tuples

-- an entry that was looked up passes
pub entry_passes : (test : List ℕ → Bool) (kept : List StoredTuple) (entry : StoredTuple) → lookup_entry test kept ≡ Some entry → test entry.0 ≡ true
entry_passes test [] entry is = absurd cc
entry_passes test (one ∷ kept) entry is = by_test (test one.0) refl is (entry_passes test kept entry)
  where
    by_test : (b : Bool) → test one.0 ≡ b → cond b (Some one) (lookup_entry test kept) ≡ Some entry → (lookup_entry test kept ≡ Some entry → test entry.0 ≡ true) → test entry.0 ≡ true
    by_test true passes is others = ap (λ (e : StoredTuple). test e.0) (sym (same_some one entry is)) ∙ passes
    by_test false fails is others = others is

module _ (def : IndexDef) (unique : def.unique ≡ true) (all : Tuples) (one_each : AreUnique def all) (have : HaveKeys def all) (apart : def.id.0 ≢ 0) where
  abbrev indexed : Tuples
  indexed = tuples_by_index def all

  -- each key in a unique index has all parts
  pub keys_long : AllByRecursion (λ (entry : Indexed). length entry.0 ≡ length def.key) (entries indexed)
  keys_long = through (entries indexed) (each_is_found indexed)
    where
      one_long : (entry : Indexed) → get indexed entry.0 ≡ Some entry.1 → length entry.0 ≡ length def.key
      one_long entry there =
          let holder = holder_of def apart all (inr (unique, one_each, have)) entry.0 entry.1 there in
          ap length (sym holder.2) ∙ ap length (entry_key_is def unique all one_each have holder.0 entry.1) ∙ key_long def unique all one_each have holder.0 entry.1 holder.1

      through : (some : List Indexed) → AllByRecursion (λ (entry : Indexed). get indexed entry.0 ≡ Some entry.1) some → AllByRecursion (λ (entry : Indexed). length entry.0 ≡ length def.key) some
      through [] found = tt
      through (entry ∷ some) found = (one_long entry found.0, through some found.1)

-- ---- the first entry from a whole key, as bytes

-- bytes begin with their front
front_begins : (front rest : List ℕ) → is_prefix nat_cmp front (front ++ rest) ≡ true
front_begins [] rest = refl
front_begins (byte ∷ front) rest = ap (λ o. is_eq o && is_prefix nat_cmp front (front ++ rest)) (tied_itself nat_cmp_total byte) ∙ front_begins front rest

-- a key that begins with another
key_splits : (front key : Key) → is_key_prefix front key ≡ true → (rest : Key) × (key ≡ front ++ rest)
key_splits [] key is = (key, refl)
key_splits (part ∷ front) [] is = absurd (true≢false (sym is))
key_splits (part ∷ front) (other ∷ key) is = by_order_of (part_cmp part other) refl is (key_splits front key)
  where
    by_order_of : (o : Ordering) → part_cmp part other ≡ o → (is_eq o && is_key_prefix front key) ≡ true
        → (is_key_prefix front key ≡ true → (rest : Key) × (key ≡ front ++ rest)) → (rest : Key) × (other ∷ key ≡ part ∷ front ++ rest)
    by_order_of Less tied is later = absurd (true≢false (sym is))
    by_order_of Equal tied is later = let (rest, behind) = later is in (rest, λ i. sym (part_cmp-IsAntisymmetric part other tied) i ∷ behind i)
    by_order_of Greater tied is later = absurd (true≢false (sym is))

-- the entry that is found by bytes
abbrev IsEntry : Kept → (bytes own : List ℕ) → Key × Key → Type 0
IsEntry of bytes own entry = AreFit entry.0 × (get of entry.0 ≡ Some entry.1) × (bytes ≡ comparable_of entry.0) × (own ≡ comparable_of entry.1)

found_by_bytes : (of : Kept) (bytes own : List ℕ) (all : List (Key × Key)) → AllByRecursion (λ (entry : Key × Key). AreFit entry.0) all
    → AllByRecursion (λ (entry : Key × Key). get of entry.0 ≡ Some entry.1) all → lookup (is_at (slice_cmp nat_cmp bytes)) (map entry_bytes all) ≡ Some own
    → (entry : Key × Key) × IsEntry of bytes own entry
found_by_bytes of bytes own [] fits there found = absurd cc
found_by_bytes of bytes own (entry ∷ all) fits there found =
    by_order_of (slice_cmp nat_cmp bytes (comparable_of entry.0)) refl found (found_by_bytes of bytes own all fits.1 there.1)
  where
    by_order_of : (o : Ordering) → slice_cmp nat_cmp bytes (comparable_of entry.0) ≡ o
        → (if is_eq o then Some (comparable_of entry.1) else lookup (is_at (slice_cmp nat_cmp bytes)) (map entry_bytes all)) ≡ Some own
        → (lookup (is_at (slice_cmp nat_cmp bytes)) (map entry_bytes all) ≡ Some own → (one : Key × Key) × IsEntry of bytes own one)
        → (one : Key × Key) × IsEntry of bytes own one
    by_order_of Less tied found later = later found
    by_order_of Equal tied found later =
        (entry, (fits.0, there.0, slice_cmp-IsAntisymmetric nat_cmp-IsAntisymmetric bytes (comparable_of entry.0) tied, sym (same_some (comparable_of entry.1) own found)))
    by_order_of Greater tied found later = later found

module _ (def : IndexDef) (unique : def.unique ≡ true) (tuples : Tuples) (one_each : AreUnique def tuples) (have : HaveKeys def tuples) (long : ℕ) (whole : AreLong long tuples)
    (wanted : Key) (fit : AreFit wanted) (kept : List IndexEntry) (keeps : StoresEntries kept (kept_entries def tuples)) where
  abbrev begun : List ℕ
  begun = comparable_of wanted

  found_kept : (bytes own : List ℕ) → lookup (is_at (slice_cmp nat_cmp bytes)) kept ≡ Some own → (entry : Key × Key) × IsEntry (kept_entries def tuples) bytes own entry
  found_kept bytes own found =
      found_by_bytes (kept_entries def tuples) bytes own (entries (kept_entries def tuples)) keeps.fit (each_is_found (kept_entries def tuples))
      (ap (lookup (is_at (slice_cmp nat_cmp bytes))) keeps.same ∙ found)

  -- the entry of a tuple with this key
  its_key : (own : List ℕ) (entry : Key × Key) → IsEntry (kept_entries def tuples) (begun ++ own) own entry
      → (tuple : List ℕ) × (get tuples entry.1 ≡ Some tuple) × (key_or_none (key_in def.key tuple) ≡ wanted) × (entry.0 ≡ wanted ++ entry.1)
  its_key own entry (entry_fit, there, bytes, behind) =
      let (tuple, at, is) = entry_is_of def long tuples whole entry.0 entry.1 there in
      let own_fit : AreFit entry.1 = fit_behind (key_or_none (key_in def.key tuple)) entry.1 (subst AreFit is entry_fit) in
      let joined : entry.0 ≡ wanted ++ entry.1 =
      one_by_bytes entry.0 (wanted ++ entry.1) entry_fit (fit_joined wanted entry.1 fit own_fit) (sym bytes ∙ ap (λ p. begun ++ p) behind ∙ sym (keys_joined wanted entry.1)) in
      (tuple, at, append_cancel_right (key_or_none (key_in def.key tuple)) wanted entry.1 (sym is ∙ joined), joined)

  pub leads_once : LeadsOnce (comparable_of wanted) kept
  leads_once own rest here there =
      let (first, is_first) = found_kept (begun ++ own) own here in
      let (tuple, at, key, joined) = its_key own first is_first in
      by_other first is_first tuple at key joined (lookup (is_at (slice_cmp nat_cmp (begun ++ rest))) kept) refl there
    where
      by_other : (first : Key × Key) → IsEntry (kept_entries def tuples) (begun ++ own) own first → (tuple : List ℕ) → get tuples first.1 ≡ Some tuple
          → key_or_none (key_in def.key tuple) ≡ wanted → first.0 ≡ wanted ++ first.1
          → (o : Option (List ℕ)) → lookup (is_at (slice_cmp nat_cmp (begun ++ rest))) kept ≡ o → is_some o ≡ true → rest ≡ own
      by_other first is_first tuple at key joined None none never = absurd (true≢false (sym never))
      by_other first is_first tuple at key joined (Some other) found is =
          let (second, (second_fit, second_there, second_bytes, _)) = found_kept (begun ++ rest) other found in
          let (second_tuple, second_at, second_is) = entry_is_of def long tuples whole second.0 second.1 second_there in
          let prefixed : is_key_prefix wanted second.0 ≡ true =
          sym (bytes_prefix wanted second.0 fit second_fit) ∙ ap (is_prefix nat_cmp begun) (sym second_bytes) ∙ front_begins begun rest in
          let (more, split) = key_splits wanted second.0 prefixed in
          let as_long : length (key_or_none (key_in def.key second_tuple)) ≡ length wanted =
          key_long def unique tuples one_each have second.1 second_tuple second_at ∙ sym (key_long def unique tuples one_each have first.1 tuple at) ∙ ap length key in
          let second_key : key_or_none (key_in def.key second_tuple) ≡ wanted = same_parts (key_or_none (key_in def.key second_tuple)) wanted second.1 more as_long (sym second_is ∙ split) in
          let same : second.1 ≡ first.1 = one_holder def unique tuples one_each have second.1 first.1 second_tuple tuple second_at at (second_key ∙ sym key) in
          let one_entry : second.0 ≡ first.0 = second_is ∙ (λ i. second_key i ++ same i) ∙ sym joined in
          append_cancel_left begun rest own (second_bytes ∙ ap comparable_of one_entry ∙ sym is_first.2)

  pub leads_once_by : (bytes : List ℕ) → bytes ≡ comparable_of wanted → LeadsOnce bytes kept
  leads_once_by bytes is = subst (λ k. LeadsOnce k kept) (sym is) leads_once
