-- That a copy of the plain slow program's spaces has what is copied.
use Rattle.std.proofs.Common.{◌≡◌, ℕ, Bool, true, false, cond, List, [], ◌∷◌, ◌++◌, Option, Some, refl, sym, ap, ◌∙◌, subst, append-nil, append_assoc, nat_cmp}
use Rattle.std.specs.BTreeMap.{insert_entry, is_at}
use Rattle.std.specs.List.{AllByRecursion, AllZip}
use Rattle.std.specs.List.Sorted.{IsStrictlySortedBy}
use Rattle.std.specs.Map.{keys_of, lookup}
use Rattle.std.specs.Ordering.{match_ordering, ordering_reverse}
use Rattle.std.specs.declared.cmp.Ordering.TheVariants.{Less, Greater}
use Rattle.std.proofs.lemmas.Cmp.{nat_cmp_total}
use Rattle.mx_schema.specs.declared.keyed.Keyed.{Keyed}
use Rattle.mx_schema.specs.declared.schema.Schema.{Schema}
use Rattle.mx_schema.specs.State.{State, Tuples}
use Rattle.mx_schema.specs.Stored.{StandByPrimary, StoresTuples, stored_list}
use Rattle.mx_slow_state.specs.declared.slow_state.SlowState.{SlowState}
use Rattle.mx_slow_state.specs.declared.slow_state.SlowSpace.{SlowSpace}
use Rattle.mx_slow_state.specs.SlowState.{IsSlowState, KeepsSpace}
use Rattle.mx_slow_state.specs.SlowSteps.{SameEntry, SameSpace, SameSpaces}

abbrev Entries : Type 0
Entries = List (ℕ × SlowSpace)

-- what is copied and what is to come are all of them, in order
pub record IsCopied (copied left all : Entries) : Type 0 where
  pub done : Entries
  pub same : AllZip SameEntry copied done
  pub together : done ++ left ≡ all
  pub rises : IsStrictlySortedBy nat_cmp (keys_of all)

pub none_copied : (copied left all : Entries) → copied ≡ [] → left ≡ all → IsStrictlySortedBy nat_cmp (keys_of all) → IsCopied copied left all
none_copied copied left all none is rises = record { done = []; same = subst (λ c. AllZip SameEntry c []) (sym none) tt; together = is; rises = rises }

first_below : (key : ℕ) (before rest : Entries) (entry : ℕ × SlowSpace) → AllByRecursion (λ other. nat_cmp key other ≡ Less) (keys_of (before ++ entry ∷ rest)) → nat_cmp key entry.0 ≡ Less
first_below key [] rest entry all = all.0
first_below key (other ∷ before) rest entry all = first_below key before rest entry all.1

-- an entry goes behind those whose keys are below its own
goes_last : (copied done rest : Entries) (key : ℕ) (value own : SlowSpace) → AllZip SameEntry copied done → IsStrictlySortedBy nat_cmp (keys_of (done ++ (key, own) ∷ rest))
    → insert_entry nat_cmp copied key value ≡ copied ++ (key, value) ∷ []
unfolding IsStrictlySortedBy
goes_last [] done rest key value own same rises = refl
goes_last (entry ∷ copied) [] rest key value own same rises = absurd same
goes_last (entry ∷ copied) (other ∷ done) rest key value own (one, same) rises =
    let below : nat_cmp other.0 key ≡ Less = first_below other.0 done rest (key, own) rises.0 in
    let above : nat_cmp key entry.0 ≡ Greater = ap (nat_cmp key) one.0 ∙ nat_cmp_total.antisymm key other.0 ∙ ap ordering_reverse below in
    ap (λ o. match_ordering o ((key, value) ∷ entry ∷ copied) ((entry.0, value) ∷ copied) (entry ∷ insert_entry nat_cmp copied key value)) above
    ∙ ap (λ l. entry ∷ l) (goes_last copied done rest key value own same rises.1)

same_behind : (copied done : Entries) (one other : ℕ × SlowSpace) → AllZip SameEntry copied done → SameEntry one other → AllZip SameEntry (copied ++ one ∷ []) (done ++ other ∷ [])
same_behind [] [] one other all same = (same, tt)
same_behind [] (x ∷ done) one other all same = absurd all
same_behind (x ∷ copied) [] one other all same = absurd all
same_behind (x ∷ copied) (y ∷ done) one other (first, all) same = (first, same_behind copied done one other all same)

pub one_copied : (copied left rest after all : Entries) (key : ℕ) (value own : SlowSpace) → left ≡ (key, own) ∷ rest → SameSpace value own
    → after ≡ insert_entry nat_cmp copied key value → IsCopied copied left all → IsCopied after rest all
one_copied copied left rest after all key value own next same more part =
    let whole : part.done ++ (key, own) ∷ rest ≡ all = ap (λ l. part.done ++ l) (sym next) ∙ part.together in
    let rises = subst (λ l. IsStrictlySortedBy nat_cmp (keys_of l)) (sym whole) part.rises in
    record {
      done = part.done ++ (key, own) ∷ [];
      same = subst (λ l. AllZip SameEntry l (part.done ++ (key, own) ∷ [])) (sym (more ∙ goes_last copied part.done rest key value own part.same rises))
          (same_behind copied part.done (key, value) (key, own) part.same (refl, same));
      together = append_assoc part.done ((key, own) ∷ []) rest ∙ whole;
      rises = part.rises;
    }

pub all_copied : (copied left all : Entries) → left ≡ [] → IsCopied copied left all → AllZip SameEntry copied all
all_copied copied left all over part =
    subst (AllZip SameEntry copied) (sym (append-nil part.done) ∙ ap (λ l. part.done ++ l) (sym over) ∙ part.together) part.same

-- ---- what is kept

same_kept : (schema : Option Schema) (one other : SlowSpace) (tuples : Tuples) → SameSpace one other → KeepsSpace schema (Some other) tuples → KeepsSpace schema (Some one) tuples
same_kept schema one other tuples (described, items) had = record {
  is = had.is ∙ ap (λ s. Some s) (sym described);
  keeps = subst (λ (l : List Keyed). StoresTuples (stored_list l) tuples) (sym items) had.keeps;
  stands = subst (λ (s : Schema). StandByPrimary s tuples) (sym described) had.stands;
}

kept_under : (schema : Option Schema) (tuples : Tuples) (q : ℕ) (one other : Entries) → AllZip SameEntry one other
    → KeepsSpace schema (lookup (is_at (nat_cmp q)) other) tuples → KeepsSpace schema (lookup (is_at (nat_cmp q)) one) tuples
kept_under schema tuples q [] [] all keeps = keeps
kept_under schema tuples q [] (y ∷ other) all keeps = absurd all
kept_under schema tuples q (x ∷ one) [] all keeps = absurd all
kept_under schema tuples q (x ∷ one) (y ∷ other) ((number, same), all) keeps =
    by_test (is_at (nat_cmp q) y.0) (ap (is_at (nat_cmp q)) number) refl (kept_under schema tuples q one other all)
  where
    by_test : (b : Bool) → is_at (nat_cmp q) x.0 ≡ is_at (nat_cmp q) y.0 → is_at (nat_cmp q) y.0 ≡ b
        → (KeepsSpace schema (lookup (is_at (nat_cmp q)) other) tuples → KeepsSpace schema (lookup (is_at (nat_cmp q)) one) tuples)
        → KeepsSpace schema (lookup (is_at (nat_cmp q)) (x ∷ one)) tuples
    by_test true alike is rest =
        let here = subst (λ t. KeepsSpace schema (cond t (Some y.1) (lookup (is_at (nat_cmp q)) other)) tuples) is keeps in
        subst (λ t. KeepsSpace schema (cond t (Some x.1) (lookup (is_at (nat_cmp q)) one)) tuples) (sym (alike ∙ is)) (same_kept schema x.1 y.1 tuples same here)
    by_test false alike is rest =
        let there = subst (λ t. KeepsSpace schema (cond t (Some y.1) (lookup (is_at (nat_cmp q)) other)) tuples) is keeps in
        subst (λ t. KeepsSpace schema (cond t (Some x.1) (lookup (is_at (nat_cmp q)) one)) tuples) (sym (alike ∙ is)) (rest there)

pub keeps_copied : (one other : SlowState) (before : State) → SameSpaces one.spaces other.spaces → IsSlowState other before → IsSlowState one before
keeps_copied one other before same is = record {
  keeps = λ q. kept_under _ _ q one.spaces.entries other.spaces.entries same (is.keeps q);
  sound = is.sound;
}
