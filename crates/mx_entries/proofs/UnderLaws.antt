-- The tuples of a space under one more own write, and what a list of own writes finds.
use Rattle.std.proofs.Common.{◌≡◌, ℕ, Bool, true, false, cond, not, List, [], ◌∷◌, Option, Some, None, refl, sym, ap, ◌∙◌, true≢false}
use Rattle.std.specs.declared.cmp.Ordering.{Ordering}
use Rattle.std.specs.declared.cmp.Ordering.TheVariants.{Less, Equal, Greater}
use Rattle.std.specs.BTreeMap.{is_at}
use Rattle.std.specs.BTreeSet.{BTreeSet, contains}
use Rattle.std.specs.Cmp.Lexicographic.{slice_cmp}
use Rattle.std.specs.FinMap.{empty, entries, get, get-empty, get-entries, get-insert, get-remove, insert, nat_cmp-IsAntisymmetric, same_map, slice_cmp-IsAntisymmetric}
use Rattle.std.specs.FinMap.Entries.{find}
use Rattle.std.specs.Option.{unwrap_or}
use Rattle.std.specs.Ordering.{eq_by_cmp, is_eq, nat_cmp, ordering_reverse}
use Rattle.mx_key.specs.Keys.{Key, AreFit, key_cmp}
use Rattle.mx_key.specs.Comparable.{comparable_of}
use Rattle.mx_key.proofs.EncodingLaws.{bytes_order}
use Rattle.mx_key.proofs.KeyLaws.{key_cmp-IsAntisymmetric, key_cmp_total}
use Rattle.mx_schema.specs.State.{Tuples}
use Rattle.mx_entries.specs.OwnWrites.{OwnWrites, under, with_write, with_writes}

pub get-with_write : (all : Tuples) (key : Key) (write : Option (List ℕ)) (q : Key) → get (with_write all key write) q ≡ cond (eq_by_cmp key_cmp q key) write (get all q)
get-with_write all key None q = get-remove key_cmp_total all key q
get-with_write all key (Some tuple) q = get-insert key_cmp_total all key tuple q

get-with_writes : (writes : List (Key × Option (List ℕ))) (all : Tuples) (q : Key) → get (with_writes writes all) q ≡ unwrap_or (find key_cmp q writes) (get all q)
get-with_writes [] all q = refl
get-with_writes (write ∷ others) all q =
    get-with_write (with_writes others all) write.0 write.1 q ∙ by_test (eq_by_cmp key_cmp q write.0) (get-with_writes others all q)
  where
    by_test : (b : Bool) → get (with_writes others all) q ≡ unwrap_or (find key_cmp q others) (get all q)
        → cond b write.1 (get (with_writes others all) q) ≡ unwrap_or (cond b (Some write.1) (find key_cmp q others)) (get all q)
    by_test true later = refl
    by_test false later = later

-- what was written, else what is there
pub get-under : (written : OwnWrites) (all : Tuples) (q : Key) → get (under written all) q ≡ unwrap_or (get written q) (get all q)
get-under written all q = get-with_writes (entries written) all q ∙ ap (λ o. unwrap_or o (get all q)) (sym (get-entries written q))

-- under a write more
pub under_more : (written : OwnWrites) (all : Tuples) (key : Key) (write : Option (List ℕ)) → under (insert written key write) all ≡ with_write (under written all) key write
under_more written all key write =
    same_map key_cmp_total key_cmp-IsAntisymmetric (under (insert written key write) all) (with_write (under written all) key write)
    (λ q. get-under (insert written key write) all q ∙ ap (λ o. unwrap_or o (get all q)) (get-insert key_cmp_total written key write q)
    ∙ by_test q (eq_by_cmp key_cmp q key) ∙ sym (get-with_write (under written all) key write q))
  where
    by_test : (q : Key) (b : Bool) → unwrap_or (cond b (Some write) (get written q)) (get all q) ≡ cond b write (get (under written all) q)
    by_test q true = refl
    by_test q false = sym (get-under written all q)

-- under no writes
pub under_none : (all : Tuples) → under empty all ≡ all
under_none all =
    same_map key_cmp_total key_cmp-IsAntisymmetric (under empty all) all
    (λ q. get-under empty all q ∙ ap (λ o. unwrap_or o (get all q)) (get-empty key_cmp q))

-- ---- the keys that were taken out

abbrev pub Removed : Type 0
Removed = BTreeSet (List ℕ)

abbrev pub holds_key : Removed → List ℕ → Bool
holds_key removed bytes = contains (slice_cmp nat_cmp) removed bytes

-- one key has another answer
abbrev pub IsSetTo : (before after : Removed) → List ℕ → Bool → Type 0
IsSetTo before after bytes answer = (q : List ℕ) → holds_key after q ≡ cond (is_at (slice_cmp nat_cmp bytes) q) answer (holds_key before q)

tie_turns : (o : Ordering) → is_eq (ordering_reverse o) ≡ is_eq o
tie_turns Less = refl
tie_turns Equal = refl
tie_turns Greater = refl

same_tie : (key q : Key) → AreFit key → AreFit q → is_at (slice_cmp nat_cmp (comparable_of key)) (comparable_of q) ≡ eq_by_cmp key_cmp q key
same_tie key q fit fits = ap is_eq (bytes_order key q fit fits) ∙ sym (tie_turns (key_cmp key q)) ∙ ap is_eq (sym (key_cmp_total.antisymm q key))

-- a key that was taken out
pub key_removed : (before after : Removed) (key : Key) (bytes : List ℕ) → AreFit key → bytes ≡ comparable_of key → IsSetTo before after bytes true
    → (q : Key) → AreFit q → holds_key after (comparable_of q) ≡ cond (eq_by_cmp key_cmp q key) true (holds_key before (comparable_of q))
key_removed before after key bytes fit is sets q fits =
    sets (comparable_of q)
    ∙ ap (λ b. cond (is_at (slice_cmp nat_cmp b) (comparable_of q)) true (holds_key before (comparable_of q))) is
    ∙ ap (λ b. cond b true (holds_key before (comparable_of q))) (same_tie key q fit fits)

pub eq_is : (o : Ordering) → is_eq o ≡ true → o ≡ Equal
eq_is Less e = absurd cc
eq_is Equal e = refl
eq_is Greater e = absurd cc

pub not_held : (held : Bool) → true ≡ not held → held ≡ false
not_held true new = absurd (true≢false new)
not_held false new = refl

-- a new key that is taken back
pub back_again : (before middle after : Removed) (bytes : List ℕ) → holds_key before bytes ≡ false → IsSetTo before middle bytes true → IsSetTo middle after bytes false
    → (q : List ℕ) → holds_key after q ≡ holds_key before q
back_again before middle after bytes new put taken q =
    taken q ∙ ap (cond (is_at (slice_cmp nat_cmp bytes) q) false) (put q) ∙ by_test (is_at (slice_cmp nat_cmp bytes) q) refl
  where
    by_test : (b : Bool) → is_at (slice_cmp nat_cmp bytes) q ≡ b → cond b false (cond b true (holds_key before q)) ≡ holds_key before q
    by_test true tied = sym (ap (holds_key before) (sym (slice_cmp-IsAntisymmetric nat_cmp-IsAntisymmetric bytes q (eq_is (slice_cmp nat_cmp bytes q) tied))) ∙ new)
    by_test false apart = refl
