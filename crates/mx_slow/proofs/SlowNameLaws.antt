-- The open transactions of the plain slow program, by their names.
use Rattle.std.proofs.Common.{arith, ◌≡◌, ℕ, zero, suc, ◌+◌, ◌<◌, ◌≤◌, Bool, true, false, not, List, [], ◌∷◌, length, drop, Some, None, refl, sym, ap, ◌∙◌, subst, get_or}
use Rattle.std.specs.Prelude.{◌==◌, slice_get, slice_set, if◌then◌else◌}
use Rattle.std.specs.List.{AllZip, filter}
use Rattle.mx_base.specs.declared.ids.TxnName.{TxnName}
use Rattle.mx_slow.specs.declared.slow.transactions.SlowTransaction.{SlowTransaction}
use Rattle.mx_model.specs.Overlaps.{Transaction}
use Rattle.mx_slow.specs.Slow.{IsNamedAt, KeepsTransaction}
use Rattle.mx_model.specs.Streams.{is_name, of_connection, of_others, transaction_named, transaction_with, with_step, without_named}

abbrev KeepAll : List SlowTransaction → List Transaction → Type 0
KeepAll coded all = AllZip KeepsTransaction coded all

-- ---- a search

-- the first ones have other names
pub record PartFound (name : TxnName) (all : List Transaction) (place : ℕ) : Type 0 where
  pub named : transaction_named name all ≡ transaction_named name (drop place all)
  pub at : (further : ℕ) (one : Transaction) → IsNamedAt name (drop place all) further one → IsNamedAt name all (place + further) one

pub none_passed : (name : TxnName) (all : List Transaction) → PartFound name all 0
none_passed name all = record { named = refl; at = λ further one is. subst (λ n. IsNamedAt name all n one) (zero_first further) is }
  where
    zero_first : (n : ℕ) → n ≡ 0 + n
    zero_first n = omega arith

-- what stands at a place
pub record StandsThere (coded : List SlowTransaction) (all : List Transaction) (place : ℕ) : Type 0 where
  pub code : SlowTransaction
  pub one : Transaction
  pub keeps : KeepsTransaction code one
  pub coded_there : slice_get coded place ≡ Some code
  pub there : slice_get all place ≡ Some one
  pub left : drop place all ≡ one ∷ drop (suc place) all

pub stands_there : (coded : List SlowTransaction) (all : List Transaction) (place : ℕ) → KeepAll coded all → place < length coded → StandsThere coded all place
stands_there [] all place keep within = absurd (omega (arith, within))
stands_there (code ∷ coded) [] place keep within = absurd keep
stands_there (code ∷ coded) (one ∷ all) zero (first, keep) within = record { code = code; one = one; keeps = first; coded_there = refl; there = refl; left = refl }
stands_there (code ∷ coded) (one ∷ all) (suc place) (first, keep) within =
    let rest = stands_there coded all place keep (omega (arith, within)) in
    record { code = rest.code; one = rest.one; keeps = rest.keeps; coded_there = rest.coded_there; there = rest.there; left = rest.left }

-- and what the program has there
pub item_there : (coded : List SlowTransaction) (place : ℕ) (item code : SlowTransaction) → item ≡ get_or coded place item → slice_get coded place ≡ Some code → item ≡ code
item_there [] place item code is there = absurd cc
item_there (first ∷ coded) zero item code is there = is ∙ same_some first code there
  where
    same_some : (a b : SlowTransaction) → Some a ≡ Some b → a ≡ b
    same_some a b e = cc
item_there (first ∷ coded) (suc place) item code is there = item_there coded place item code is there

first_named : (name : TxnName) (one : Transaction) (rest : List Transaction) → is_name one.name name ≡ true → IsNamedAt name (one ∷ rest) 0 one
first_named name one rest is = record {
  there = refl;
  named = ap (λ b. if b then Some one else transaction_named name rest) is;
  changed = λ step. ap (λ b. if b then transaction_with step one ∷ rest else one ∷ with_step name step rest) is;
}

later_named : (name : TxnName) (first : Transaction) (rest : List Transaction) (further : ℕ) (one : Transaction) → is_name first.name name ≡ false → IsNamedAt name rest further one
    → IsNamedAt name (first ∷ rest) (suc further) one
later_named name first rest further one other is = record {
  there = is.there;
  named = ap (λ b. if b then Some first else transaction_named name rest) other ∙ is.named;
  changed = λ step. ap (λ b. if b then transaction_with step first ∷ rest else first ∷ with_step name step rest) other ∙ ap (λ l. first ∷ l) (is.changed step);
}

-- it is found
pub here_found : (name : TxnName) (all : List Transaction) (place : ℕ) (one : Transaction) → PartFound name all place → drop place all ≡ one ∷ drop (suc place) all
    → is_name one.name name ≡ true → IsNamedAt name all place one
here_found name all place one part left is =
    subst (λ p. IsNamedAt name all p one) zero_more (part.at 0 one (subst (λ l. IsNamedAt name l 0 one) (sym left) (first_named name one (drop (suc place) all) is)))
  where
    zero_more : place + 0 ≡ place
    zero_more = omega arith

-- or the search goes on
pub one_passed : (name : TxnName) (all : List Transaction) (place : ℕ) (one : Transaction) → PartFound name all place → drop place all ≡ one ∷ drop (suc place) all
    → is_name one.name name ≡ false → PartFound name all (suc place)
one_passed name all place one part left other = record {
  named = part.named ∙ ap (transaction_named name) left ∙ ap (λ b. if b then Some one else transaction_named name (drop (suc place) all)) other;
  at = λ further found is.
      subst (λ p. IsNamedAt name all p found) (move further)
      (part.at (suc further) found (subst (λ l. IsNamedAt name l (suc further) found) (sym left) (later_named name one (drop (suc place) all) further found other is)));
}
  where
    move : (further : ℕ) → place + suc further ≡ suc place + further
    move further = omega arith

all_passed : (coded : List SlowTransaction) (all : List Transaction) (place : ℕ) → KeepAll coded all → length coded ≤ place → drop place all ≡ []
all_passed [] [] zero keep past = refl
all_passed [] [] (suc place) keep past = refl
all_passed [] (one ∷ all) place keep past = absurd keep
all_passed (code ∷ coded) [] place keep past = absurd keep
all_passed (code ∷ coded) (one ∷ all) zero keep past = absurd (omega (arith, past))
all_passed (code ∷ coded) (one ∷ all) (suc place) (first, keep) past = all_passed coded all place keep (omega (arith, past))

pub none_found : (name : TxnName) (coded : List SlowTransaction) (all : List Transaction) (place : ℕ) → KeepAll coded all → length coded ≤ place → PartFound name all place
    → transaction_named name all ≡ None
none_found name coded all place keep past part = part.named ∙ ap (transaction_named name) (all_passed coded all place keep past)

-- ---- some of them

pub kept_some : (codes : SlowTransaction → Bool) (passes : Transaction → Bool) (coded : List SlowTransaction) (all : List Transaction)
    → ((code : SlowTransaction) (one : Transaction) → KeepsTransaction code one → codes code ≡ passes one) → KeepAll coded all → KeepAll (filter codes coded) (filter passes all)
kept_some codes passes [] [] same keep = tt
kept_some codes passes [] (one ∷ all) same keep = absurd keep
kept_some codes passes (code ∷ coded) [] same keep = absurd keep
kept_some codes passes (code ∷ coded) (one ∷ all) same (first, keep) = by_test (codes code) (same code one first) (kept_some codes passes coded all same keep)
  where
    by_test : (c : Bool) → c ≡ passes one → KeepAll (filter codes coded) (filter passes all)
        → KeepAll (if c then code ∷ filter codes coded else filter codes coded) (if passes one then one ∷ filter passes all else filter passes all)
    by_test true alike rest = subst (λ t. KeepAll (code ∷ filter codes coded) (if t then one ∷ filter passes all else filter passes all)) alike (first, rest)
    by_test false alike rest = subst (λ t. KeepAll (filter codes coded) (if t then one ∷ filter passes all else filter passes all)) alike rest

pub same_count : (codes : SlowTransaction → Bool) (passes : Transaction → Bool) (coded : List SlowTransaction) (all : List Transaction)
    → ((code : SlowTransaction) (one : Transaction) → KeepsTransaction code one → codes code ≡ passes one) → KeepAll coded all → length (filter codes coded) ≡ length (filter passes all)
same_count codes passes coded all same keep = as_many (filter codes coded) (filter passes all) (kept_some codes passes coded all same keep)
  where
    as_many : (a : List SlowTransaction) (b : List Transaction) → KeepAll a b → length a ≡ length b
    as_many [] [] keep = refl
    as_many [] (one ∷ b) keep = absurd keep
    as_many (code ∷ a) [] keep = absurd keep
    as_many (code ∷ a) (one ∷ b) (first, keep) = ap suc (as_many a b keep)

pub same_number : (coded : List SlowTransaction) (all : List Transaction) → KeepAll coded all → length coded ≡ length all
same_number [] [] keep = refl
same_number [] (one ∷ all) keep = absurd keep
same_number (code ∷ coded) [] keep = absurd keep
same_number (code ∷ coded) (one ∷ all) (first, keep) = ap suc (same_number coded all keep)

-- those of other names
pub others_kept : (name : TxnName) (coded : List SlowTransaction) (all : List Transaction) → KeepAll coded all
    → KeepAll (filter (λ code. not (is_name code.name name)) coded) (without_named name all)
others_kept name coded all keep = kept_some (λ code. not (is_name code.name name)) (λ one. not (is_name one.name name)) coded all (λ code one is. ap (λ n. not (is_name n name)) is.name) keep

-- those of other connections
pub connections_kept : (connection : ℕ) (coded : List SlowTransaction) (all : List Transaction) → KeepAll coded all
    → KeepAll (filter (λ code. not (code.name.conn.0 == connection)) coded) (of_others connection all)
connections_kept connection coded all keep =
    kept_some (λ code. not (code.name.conn.0 == connection)) (λ one. not (one.name.conn.0 == connection)) coded all (λ code one is. ap (λ (n : TxnName). not (n.conn.0 == connection)) is.name) keep

pub connection_counted : (connection : ℕ) (coded : List SlowTransaction) (all : List Transaction) → KeepAll coded all
    → length (filter (λ code. code.name.conn.0 == connection) coded) ≡ length (of_connection connection all)
connection_counted connection coded all keep =
    same_count (λ code. code.name.conn.0 == connection) (λ one. one.name.conn.0 == connection) coded all (λ code one is. ap (λ (n : TxnName). n.conn.0 == connection) is.name) keep

-- ---- a step more

pub step_kept : (coded : List SlowTransaction) (all : List Transaction) (place : ℕ) (code : SlowTransaction) (one : Transaction) → KeepAll coded all → KeepsTransaction code one
    → KeepAll (slice_set coded place code) (slice_set all place one)
step_kept [] [] place code one keep is = tt
step_kept [] (other ∷ all) place code one keep is = absurd keep
step_kept (old ∷ coded) [] place code one keep is = absurd keep
step_kept (old ∷ coded) (other ∷ all) zero code one (first, keep) is = (is, keep)
step_kept (old ∷ coded) (other ∷ all) (suc place) code one (first, keep) is = (first, step_kept coded all place code one keep is)

-- one of the open transactions
pub kept_there : (coded : List SlowTransaction) (all : List Transaction) (place : ℕ) (item : SlowTransaction) (one : Transaction) → KeepAll coded all → place < length coded
    → item ≡ get_or coded place item → slice_get all place ≡ Some one → KeepsTransaction item one
kept_there coded all place item one keep within is there =
    let found = stands_there coded all place keep within in
    subst (λ t. KeepsTransaction t one) (sym (item_there coded place item found.code is found.coded_there))
    (subst (KeepsTransaction found.code) (same_some found.one one (sym found.there ∙ there)) found.keeps)
  where
    same_some : (a b : Transaction) → Some a ≡ Some b → a ≡ b
    same_some a b e = cc

-- nothing changes where it stays
pub stays_there : (all : List Transaction) (place : ℕ) (one : Transaction) → slice_get all place ≡ Some one → slice_set all place one ≡ all
stays_there [] place one there = refl
stays_there (first ∷ all) zero one there = ap (λ t. t ∷ all) (same_some first one there)
  where
    same_some : (a b : Transaction) → Some a ≡ Some b → b ≡ a
    same_some a b e = cc
stays_there (first ∷ all) (suc place) one there = ap (λ l. first ∷ l) (stays_there all place one there)
