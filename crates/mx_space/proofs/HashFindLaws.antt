-- Which primary key a key leads to in a hash index.
use Rattle.std.proofs.Common.{◌≡◌, ℕ, Bool, true, false, cond, List, [], ◌∷◌, drop, Some, Result, Ok, Err, refl, sym, ap, ◌∙◌, subst, ◌≢◌, not, T, ◌++◌, None, take, take-append-drop, Option, true≢false}
use Rattle.std.specs.declared.cmp.Ordering.{Ordering}
use Rattle.std.specs.declared.cmp.Ordering.TheVariants.{Less, Equal, Greater}
use Rattle.std.specs.Prelude.{OnErr, OnOk, if◌then◌else◌, is_some, nat_eq}
use Rattle.std.specs.BTreeMap.{insert_entry, is_at}
use Rattle.std.specs.Cmp.Lexicographic.{slice_cmp, bytes_decides}
use Rattle.std.specs.FinMap.{nat_cmp-IsAntisymmetric, slice_cmp-IsAntisymmetric, entries_sorted, get-entries}
use Rattle.std.specs.Map.{lookup, remove_entry, keys_of}
use Rattle.std.specs.Ordering.{is_eq, match_ordering, nat_cmp, is_gt, is_lt}
use Rattle.std.specs.FinMap.Entries.{find, is_sorted}
use Rattle.std.proofs.lemmas.Cmp.{nat_cmp_total, nat_list_cmp_total}
use Rattle.std.specs.List.{IsDistinct}
use Rattle.std.specs.Option.{option_map, option_or}
use Rattle.std.specs.Str.{bytes_eq}
use Rattle.std.proofs.lemmas.List.{append_cancel_right}
use Rattle.mx_key.specs.Prefixes.{prefix_size, prefix}
use Rattle.mx_msgpack.proofs.Options.{same_some}
use Rattle.mx_entries.specs.Entries.{IndexEntry, has_entry, with_entry, LeadsOnce, LeadsTo, first_from}
use Rattle.mx_space.specs.HashIndexes.{AreFronted, ArePlaced, hash_index_entries, hash_number, key_hash, under_own}
use Rattle.mx_entries.proofs.OrderedLaws.{begins, each_found_in, first_passing, not_below, passing_has}
use Rattle.mx_entries.proofs.SortedLaws.{find_is}
use Rattle.mx_hash.proofs.TableLaws.{same_bytes}
use Rattle.mx_space.specs.declared.held_entry.HeldEntry.{HeldEntry}
use Rattle.mx_space.proofs.HashIndexLaws.{Held, all, get_is, looks}
use Rattle.std.specs.List as list

-- ---- entries whose primary keys begin where their index keys end: one more, one less, and the one under a key

module _ (parts : ℕ) where
  tied : (one other : List ℕ) → slice_cmp nat_cmp one other ≡ Equal → one ≡ other
  tied = slice_cmp-IsAntisymmetric nat_cmp-IsAntisymmetric

  pub fronted_there : (key own : List ℕ) (all : List IndexEntry) → AreFronted parts all → lookup (is_at (slice_cmp nat_cmp key)) all ≡ Some own
      → own ≡ drop (prefix_size parts key) key
  fronted_there key own [] fronted there = absurd cc
  fronted_there key own (entry ∷ all) fronted there = by_order_of (slice_cmp nat_cmp key entry.0) refl there (fronted_there key own all fronted.1)
    where
      by_order_of : (o : Ordering) → slice_cmp nat_cmp key entry.0 ≡ o → cond (is_eq o) (Some entry.1) (lookup (is_at (slice_cmp nat_cmp key)) all) ≡ Some own
          → (lookup (is_at (slice_cmp nat_cmp key)) all ≡ Some own → own ≡ drop (prefix_size parts key) key) → own ≡ drop (prefix_size parts key) key
      by_order_of Less is there later = later there
      by_order_of Equal is there later = sym (same_some entry.1 own there) ∙ fronted.0 ∙ ap (λ k. drop (prefix_size parts k) k) (sym (tied key entry.0 is))
      by_order_of Greater is there later = later there

  pub fronted_without : (test : List ℕ → Bool) (all : List IndexEntry) → AreFronted parts all → AreFronted parts (remove_entry test all)
  fronted_without test [] fronted = tt
  fronted_without test (entry ∷ all) fronted = by_test (test entry.0) (fronted_without test all fronted.1)
    where
      by_test : (b : Bool) → AreFronted parts (remove_entry test all) → AreFronted parts (cond b all (entry ∷ remove_entry test all))
      by_test true left = fronted.1
      by_test false left = (fronted.0, left)

  module _ (key value : List ℕ) (behind : value ≡ drop (prefix_size parts key) key) where
    fronted_inserted : (all : List IndexEntry) → AreFronted parts all → AreFronted parts (insert_entry (slice_cmp nat_cmp) all key value)
    fronted_inserted [] fronted = (behind, tt)
    fronted_inserted (entry ∷ all) fronted = by_order_of (slice_cmp nat_cmp key entry.0) refl (fronted_inserted all fronted.1)
      where
        by_order_of : (o : Ordering) → slice_cmp nat_cmp key entry.0 ≡ o → AreFronted parts (insert_entry (slice_cmp nat_cmp) all key value)
            → AreFronted parts (match_ordering o ((key, value) ∷ entry ∷ all) ((entry.0, value) ∷ all) (entry ∷ insert_entry (slice_cmp nat_cmp) all key value))
        by_order_of Less is later = (behind, fronted)
        by_order_of Equal is later = (behind ∙ ap (λ k. drop (prefix_size parts k) k) (tied key entry.0 is), fronted.1)
        by_order_of Greater is later = (fronted.0, later)

    pub fronted_with : (all : List IndexEntry) → AreFronted parts all → AreFronted parts (with_entry key value all)
    fronted_with all fronted = by_test (has_entry key all)
      where
        by_test : (b : Bool) → AreFronted parts (if b then all else insert_entry (slice_cmp nat_cmp) all key value)
        by_test true = fronted
        by_test false = fronted_inserted all fronted

    -- after an entry was asked for, which is there now unless there was no memory
    pub fronted_tried : {A E : Type 0} (before after : List IndexEntry) → AreFronted parts before → (result : Result A E) → OnOk result (after ≡ with_entry key value before)
        → OnErr result (after ≡ before) → AreFronted parts after
    fronted_tried before after fronted (Ok made) ok err = subst (AreFronted parts) (sym ok) (fronted_with before fronted)
    fronted_tried before after fronted (Err why) ok err = subst (AreFronted parts) (sym err) fronted

-- ---- which primary key a key leads to, where it leads to one at most: the one behind it in the entry that is found

module _ (key : List ℕ) (kept : List IndexEntry) (sorted : T (is_sorted (slice_cmp nat_cmp) kept)) where
  abbrev from_key : List ℕ → Bool
  from_key bytes = not (is_lt (slice_cmp nat_cmp bytes key))

  passed : (b : Bool) → not b ≡ true → b ≡ false
  passed true e = sym e
  passed false e = refl

  -- the first entry is found under its own key
  pub first_found : (entry : IndexEntry) → first_from key kept ≡ Some entry → (lookup (is_at (slice_cmp nat_cmp entry.0)) kept ≡ Some entry.1) × (is_lt (slice_cmp nat_cmp entry.0 key) ≡ false)
  first_found entry first =
      let known = passing_has (slice_cmp nat_cmp) nat_list_cmp_total (slice_cmp-IsAntisymmetric nat_cmp-IsAntisymmetric) (λ (one : IndexEntry). find (slice_cmp nat_cmp) one.0 kept ≡ Some one.1)
      (λ (one : IndexEntry). from_key one.0) kept entry
      (each_found_in (slice_cmp nat_cmp) nat_list_cmp_total (slice_cmp-IsAntisymmetric nat_cmp-IsAntisymmetric) kept sorted) first in
      (sym (find_is entry.0 kept) ∙ known.0, passed (is_lt (slice_cmp nat_cmp entry.0 key)) known.1)

  -- where no entry is the key with its primary key behind it, it leads nowhere
  pub leads_nowhere : ((own : List ℕ) → lookup (is_at (slice_cmp nat_cmp (key ++ own))) kept ≢ Some own) → LeadsTo key kept None
  leads_nowhere none entry own first joined =
      none own (ap (λ k. lookup (is_at (slice_cmp nat_cmp k)) kept) (sym joined) ∙ (first_found (entry, own) first).0)

  -- one that is leads on
  pub leads_there : LeadsOnce key kept → (own : List ℕ) → lookup (is_at (slice_cmp nat_cmp (key ++ own))) kept ≡ Some own → LeadsTo key kept (Some own)
  leads_there once own there =
      by_first (first_passing (slice_cmp nat_cmp) nat_list_cmp_total (slice_cmp-IsAntisymmetric nat_cmp-IsAntisymmetric) from_key (key ++ own) own kept sorted
      (find_is (key ++ own) kept ∙ there) (ap not (not_below nat_cmp nat_cmp_total nat_cmp-IsAntisymmetric key own)))
    where
      by_first : (entry : IndexEntry) × (list.find (λ (one : IndexEntry). from_key one.0) kept ≡ Some entry) × (is_gt (slice_cmp nat_cmp entry.0 (key ++ own)) ≡ false) → LeadsTo key kept (Some own)
      by_first (entry, first, to) =
          let found = first_found entry first in
          let begun = begins nat_cmp nat_cmp_total nat_cmp-IsAntisymmetric key entry.0 own found.1 to in
          let there_too : has_entry (key ++ begun.0) kept ≡ true = ap (λ k. has_entry k kept) (sym begun.1) ∙ ap is_some found.0 in
          let joined : entry.0 ≡ key ++ own = begun.1 ∙ ap (λ r. key ++ r) (once own begun.0 there there_too) in
          let leads : entry.1 ≡ own = same_some entry.1 own (sym found.0 ∙ ap (λ k. lookup (is_at (slice_cmp nat_cmp k)) kept) joined ∙ there) in
          first ∙ (λ i. Some (joined i, leads i))

-- ---- which primary key a key leads to in a hash index

module _ (parts : ℕ) (held : Held) (others : List IndexEntry) (distinct : IsDistinct nat_eq (keys_of held)) (placed : ArePlaced parts held)
    (fronted : AreFronted parts others) (key : List ℕ) where
  abbrev kept : List IndexEntry
  kept = hash_index_entries held others

  sorted : T (is_sorted (slice_cmp nat_cmp) kept)
  sorted = entries_sorted (all parts held others distinct placed)

  look_all : (q : List ℕ) → lookup (is_at (slice_cmp nat_cmp q)) kept ≡ option_or (lookup (bytes_eq q) others) (under_own q (lookup (nat_eq (key_hash parts q)) held))
  look_all q = sym (find_is q kept) ∙ sym (get-entries (all parts held others distinct placed) q) ∙ get_is parts held others distinct placed q

  -- the others are found
  in_all : (q own : List ℕ) → lookup (is_at (slice_cmp nat_cmp q)) others ≡ Some own → lookup (is_at (slice_cmp nat_cmp q)) kept ≡ Some own
  in_all q own there = look_all q ∙ ap (λ o. option_or o (under_own q (lookup (nat_eq (key_hash parts q)) held))) (looks q others ∙ there)

  in_all_too : (q : List ℕ) → has_entry q others ≡ true → has_entry q kept ≡ true
  in_all_too q there = by_look (lookup (is_at (slice_cmp nat_cmp q)) others) refl there
    where
      by_look : (o : Option (List ℕ)) → lookup (is_at (slice_cmp nat_cmp q)) others ≡ o → is_some o ≡ true → has_entry q kept ≡ true
      by_look None at never = absurd (true≢false (sym never))
      by_look (Some own) at there = ap is_some (in_all q own at)

  once_others : LeadsOnce key kept → LeadsOnce key others
  once_others once own rest here there = once own rest (in_all (key ++ own) own here) (in_all_too (key ++ rest) there)

  -- an entry that is held by the key's hash leads on
  pub held_leads : LeadsOnce key kept → (entry : HeldEntry) → lookup (nat_eq (hash_number key)) held ≡ Some entry → take entry.begin entry.key ≡ key
      → LeadsTo key kept (Some (drop entry.begin entry.key))
  held_leads once entry found is =
      leads_there key kept sorted once primary (ap (λ k. lookup (is_at (slice_cmp nat_cmp k)) kept) (sym whole) ∙ look_all entry.key ∙ by_other (lookup (bytes_eq entry.key) others) refl)
    where
      primary : List ℕ
      primary = drop entry.begin entry.key

      whole : entry.key ≡ key ++ primary
      whole = sym (take-append-drop entry.begin entry.key) ∙ ap (λ f. f ++ primary) is

      here : under_own entry.key (lookup (nat_eq (key_hash parts entry.key)) held) ≡ Some primary
      here =
          ap (under_own entry.key) (ap (λ n. lookup (nat_eq n) held) (sym (placed (hash_number key) entry found).0) ∙ found)
          ∙ ap (λ b. cond b (Some primary) None) ((bytes_decides entry.key entry.key).1 refl)

      by_other : (o : Option (List ℕ)) → lookup (bytes_eq entry.key) others ≡ o
          → option_or o (under_own entry.key (lookup (nat_eq (key_hash parts entry.key)) held)) ≡ Some primary
      by_other None at = here
      by_other (Some own) at =
          let behind = fronted_there parts entry.key own others fronted (sym (looks entry.key others) ∙ at) in
          ap Some (behind ∙ ap (λ n. drop n entry.key) (sym (placed (hash_number key) entry found).1))

  -- one of the others leads on
  pub other_leads : T (is_sorted (slice_cmp nat_cmp) others) → LeadsOnce key kept → (own : List ℕ) → LeadsTo key others (Some own) → LeadsTo key kept (Some own)
  other_leads rise once own leads = leads_there key kept sorted once own (in_all (key ++ own) own (first_found key others rise (key ++ own, own) leads).0)

  -- where the others lead nowhere, none of them has the key
  pub no_other : T (is_sorted (slice_cmp nat_cmp) others) → LeadsOnce key kept → LeadsTo key others None → (own : List ℕ) → lookup (bytes_eq (key ++ own)) others ≢ Some own
  no_other rise once none own there = none (key ++ own) own (leads_there key others rise (once_others once) own (sym (looks (key ++ own) others) ∙ there)) refl

  -- where no entry is held by the key's hash, and none of the others has it, it leads nowhere
  pub none_leads : ((entry : HeldEntry) → lookup (nat_eq (hash_number key)) held ≡ Some entry → take entry.begin entry.key ≢ key)
      → ((own : List ℕ) → lookup (bytes_eq (key ++ own)) others ≢ Some own) → LeadsTo key kept None
  none_leads none_held none_other =
      leads_nowhere key kept sorted (λ own there. by_other own (lookup (bytes_eq (key ++ own)) others) refl (sym (look_all (key ++ own)) ∙ there))
    where
      by_held : (own : List ℕ) (entry : Option HeldEntry) → lookup (nat_eq (key_hash parts (key ++ own))) held ≡ entry → under_own (key ++ own) entry ≡ Some own → ⊥
      by_held own None at there = absurd cc
      by_held own (Some entry) at there = by_test (bytes_eq (key ++ own) entry.key) refl there
        where
          by_test : (same : Bool) → bytes_eq (key ++ own) entry.key ≡ same → cond same (Some (drop entry.begin entry.key)) None ≡ Some own → ⊥
          by_test true same is =
              let whole : key ++ own ≡ entry.key = same_bytes (key ++ own) entry.key same in
              let behind : drop entry.begin entry.key ≡ own = same_some (drop entry.begin entry.key) own is in
              let begun : take entry.begin entry.key ≡ key =
              append_cancel_right (take entry.begin entry.key) key own (ap (λ r. take entry.begin entry.key ++ r) (sym behind) ∙ take-append-drop entry.begin entry.key ∙ sym whole) in
              let own_front : prefix parts (key ++ own) ≡ key =
              ap (prefix parts) whole ∙ ap (λ n. take n entry.key) (sym (placed (key_hash parts (key ++ own)) entry at).1) ∙ begun in
              none_held entry (ap (λ n. lookup (nat_eq n) held) (ap hash_number (sym own_front)) ∙ at) begun
          by_test false same is = absurd cc

      by_other : (own : List ℕ) (o : Option (List ℕ)) → lookup (bytes_eq (key ++ own)) others ≡ o
          → option_or o (under_own (key ++ own) (lookup (nat_eq (key_hash parts (key ++ own))) held)) ≡ Some own → ⊥
      by_other own None at there = by_held own (lookup (nat_eq (key_hash parts (key ++ own))) held) refl there
      by_other own (Some other) at there = none_other own (at ∙ there)

  -- where no entry is held by the key's hash, what the others lead to is what all lead to
  pub others_lead : {X : Type 0} → T (is_sorted (slice_cmp nat_cmp) others) → LeadsOnce key kept
      → ((entry : HeldEntry) → lookup (nat_eq (hash_number key)) held ≡ Some entry → take entry.begin entry.key ≢ key)
      → (own_of : X → List ℕ) (found : Option X) → LeadsTo key others (option_map own_of found) → LeadsTo key kept (option_map own_of found)
  others_lead rise once none_held own_of None leads = none_leads none_held (no_other rise once leads)
  others_lead rise once none_held own_of (Some found) leads = other_leads rise once (own_of found) leads
