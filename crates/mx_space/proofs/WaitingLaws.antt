-- An entry that waits among the others and is held by its hash when its place gets free.
use Rattle.std.proofs.Common.{◌≡◌, ℕ, Bool, true, false, cond, List, drop, length, take, Option, Some, None, refl, sym, ap, ◌∙◌, eq-eqb, arith}
use Rattle.std.specs.Prelude.{nat_eq}
use Rattle.std.specs.BTreeMap.{is_at}
use Rattle.std.specs.Cmp.Lexicographic.{bytes_decides, slice_cmp}
use Rattle.std.specs.List.{IsDistinct}
use Rattle.std.specs.Map.{keys_of, lookup, remove_entry}
use Rattle.std.specs.Option.{option_or}
use Rattle.std.specs.Ordering.{eq_by_cmp, nat_cmp}
use Rattle.std.specs.Str.{bytes_eq}
use Rattle.std.proofs.lemmas.Bool.{eqb-true}
use Rattle.std.proofs.lemmas.List.{length-drop, length-take}
use Rattle.mx_key.specs.Prefixes.{prefix_size}
use Rattle.mx_hash.proofs.TableLaws.{same_bytes, same_test}
use Rattle.mx_key.proofs.PrefixLaws.{prefix_within}
use Rattle.mx_msgpack.proofs.Options.{same_some}
use Rattle.mx_space.specs.declared.held_entry.HeldEntry.{HeldEntry}
use Rattle.mx_entries.specs.Entries.{IndexEntry}
use Rattle.mx_space.specs.HashIndexes.{AreFronted, ArePlaced, hash_index_entries, hash_number, key_hash, under_own}
use Rattle.mx_space.proofs.HashFindLaws.{fronted_there}
use Rattle.mx_space.proofs.HashIndexLaws.{Held, all, get_is, one_less, tie_is}

-- an entry with the index key that begins a key has its place
pub place_waited_for : (parts begin : ℕ) (key : List ℕ) (moved : HeldEntry) (rest : List IndexEntry) → begin ≡ prefix_size parts key
    → moved.begin ≡ length (take begin key) → take moved.begin moved.key ≡ take begin key
    → lookup (is_at (slice_cmp nat_cmp moved.key)) rest ≡ Some (drop moved.begin moved.key) → AreFronted parts rest
    → (moved.begin ≡ prefix_size parts moved.key) × (key_hash parts moved.key ≡ key_hash parts key)
place_waited_for parts begin key moved rest begin_is size own there fronted =
    let primary = ap length (fronted_there parts moved.key (drop moved.begin moved.key) rest fronted there) in
    let one = length-drop moved.begin moved.key in
    let other = length-drop (prefix_size parts moved.key) moved.key in
    let within = prefix_within parts moved.key in
    let taken = length-take moved.begin moved.key in
    let same = ap length own in
    let is : moved.begin ≡ prefix_size parts moved.key = omega (arith, primary, one, other, within, taken, same, size) in
    (is, ap hash_number (ap (λ n. take n moved.key) (sym is) ∙ own ∙ ap (λ n. take n key) begin_is))

module _ (parts : ℕ) (held : Held) (others : List IndexEntry) (distinct : IsDistinct nat_eq (keys_of held)) (placed : ArePlaced parts held) (key : List ℕ)
    (entry : HeldEntry) (found : lookup (nat_eq (key_hash parts key)) held ≡ Some entry) (same : bytes_eq key entry.key ≡ true)
    (rest : List IndexEntry) (rest_is : (q : List ℕ) → lookup (bytes_eq q) rest ≡ cond (eq_by_cmp (slice_cmp nat_cmp) q key) None (lookup (bytes_eq q) others))
    (moved : HeldEntry) (there : lookup (bytes_eq moved.key) rest ≡ Some (drop moved.begin moved.key)) (same_place : key_hash parts moved.key ≡ key_hash parts key)
    (left : List IndexEntry) (left_is : (q : List ℕ) → lookup (bytes_eq q) left ≡ cond (eq_by_cmp (slice_cmp nat_cmp) q moved.key) None (lookup (bytes_eq q) rest))
    (now : Held) (now_is : (n : ℕ) → lookup (nat_eq n) now ≡ cond (nat_eq (key_hash parts key) n) (Some moved) (lookup (nat_eq n) held)) where
  pub placed_moved : moved.begin ≡ prefix_size parts moved.key → ArePlaced parts now
  placed_moved begin n one is = by_place (nat_eq (key_hash parts key) n) refl (sym (now_is n) ∙ is)
    where
      by_place : (here : Bool) → nat_eq (key_hash parts key) n ≡ here → cond here (Some moved) (lookup (nat_eq n) held) ≡ Some one
          → (n ≡ key_hash parts one.key) × (one.begin ≡ prefix_size parts one.key)
      by_place true at is =
          let one_is : moved ≡ one = same_some moved one is in (
            sym (eqb-true (key_hash parts key) n at) ∙ sym same_place ∙ ap (λ (e : HeldEntry). key_hash parts e.key) one_is,
            sym (ap (λ (e : HeldEntry). e.begin) one_is) ∙ begin ∙ ap (λ (e : HeldEntry). prefix_size parts e.key) one_is,
          )
      by_place false at is = placed n one is

  module _ (q : List ℕ) where
    abbrev at : ℕ
    at = key_hash parts q

    abbrev other : Option (List ℕ)
    other = lookup (bytes_eq q) others

    abbrev value : List ℕ
    value = drop moved.begin moved.key

    -- it leads where it led among the others
    moved_is : (is_key : Bool) → q ≡ moved.key → Some value ≡ cond is_key None other
        → option_or None (under_own q (cond (nat_eq (key_hash parts key) at) (Some moved) (lookup (nat_eq at) held))) ≡ cond is_key None (option_or other (under_own q (lookup (nat_eq at) held)))
    moved_is true is before = absurd cc
    moved_is false is before =
        ap (λ b. under_own q (cond b (Some moved) (lookup (nat_eq at) held))) (eq-eqb (key_hash parts key) at (sym same_place ∙ ap (key_hash parts) (sym is)))
        ∙ ap (λ b. cond b (Some value) None) (ap (bytes_eq q) (sym is) ∙ (bytes_decides q q).1 refl)
        ∙ ap (λ o. option_or o (under_own q (lookup (nat_eq at) held))) before

    -- in its place was the entry of the key
    held_is : (here : Bool) → nat_eq (key_hash parts key) at ≡ here → bytes_eq q moved.key ≡ false → bytes_eq q key ≡ false
        → under_own q (cond here (Some moved) (lookup (nat_eq at) held)) ≡ under_own q (lookup (nat_eq at) held)
    held_is true is not_moved not_key =
        let before : lookup (nat_eq at) held ≡ Some entry = ap (λ n. lookup (nat_eq n) held) (sym (eqb-true (key_hash parts key) at is)) ∙ found in
        let differs : bytes_eq q entry.key ≡ false = ap (bytes_eq q) (sym (same_bytes key entry.key same)) ∙ not_key in
        ap (λ b. cond b (Some value) None) not_moved ∙ sym (ap (under_own q) before ∙ ap (λ b. cond b (Some (drop entry.begin entry.key)) None) differs)
    held_is false is not_moved not_key = refl

    key_is : q ≡ key → bytes_eq q moved.key ≡ false → under_own q (cond (nat_eq (key_hash parts key) at) (Some moved) (lookup (nat_eq at) held)) ≡ None
    key_is is not_moved =
        ap (λ b. under_own q (cond b (Some moved) (lookup (nat_eq at) held))) (eq-eqb (key_hash parts key) at (ap (key_hash parts) (sym is)))
        ∙ ap (λ b. cond b (Some value) None) not_moved

    by_keys : (is_moved : Bool) → eq_by_cmp (slice_cmp nat_cmp) q moved.key ≡ is_moved → (is_key : Bool) → eq_by_cmp (slice_cmp nat_cmp) q key ≡ is_key
        → option_or (cond is_moved None (cond is_key None other)) (under_own q (cond (nat_eq (key_hash parts key) at) (Some moved) (lookup (nat_eq at) held)))
        ≡ cond is_key None (option_or other (under_own q (lookup (nat_eq at) held)))
    by_keys true is_moved is_key tied =
        let is = tie_is q moved.key is_moved in
        moved_is is_key is (sym (ap (λ k. lookup (bytes_eq k) rest) is ∙ there) ∙ rest_is q ∙ ap (λ b. cond b None other) tied)
    by_keys false not_moved true tied = key_is (tie_is q key tied) (same_test q moved.key ∙ not_moved)
    by_keys false not_moved false apart =
        ap (option_or other) (held_is (nat_eq (key_hash parts key) at) refl (same_test q moved.key ∙ not_moved) (same_test q key ∙ apart))

    leads_on : option_or (lookup (bytes_eq q) left) (under_own q (lookup (nat_eq at) now))
        ≡ cond (eq_by_cmp (slice_cmp nat_cmp) q key) None (option_or other (under_own q (lookup (nat_eq at) held)))
    leads_on =
        (λ i. option_or ((left_is q ∙ ap (cond (eq_by_cmp (slice_cmp nat_cmp) q moved.key) None) (rest_is q)) i) (under_own q (now_is at i)))
        ∙ by_keys (eq_by_cmp (slice_cmp nat_cmp) q moved.key) refl (eq_by_cmp (slice_cmp nat_cmp) q key) refl

  -- the entry under the key is gone, and each other one is there
  pub with_moved : (distinct_now : IsDistinct nat_eq (keys_of now)) (placed_now : ArePlaced parts now)
      → hash_index_entries now left ≡ remove_entry (is_at (slice_cmp nat_cmp key)) (hash_index_entries held others)
  with_moved distinct_now placed_now =
      one_less (all parts held others distinct placed) (all parts now left distinct_now placed_now) key (λ q.
      get_is parts now left distinct_now placed_now q ∙ leads_on q ∙ sym (ap (cond (eq_by_cmp (slice_cmp nat_cmp) q key) None) (get_is parts held others distinct placed q)))
