-- Two changes of a map by keys, one after the other.
use Rattle.std.proofs.Common.{◌≡◌, ◌≢◌, Bool, true, false, cond, Option, Some, None, refl, sym, ap, ◌∙◌, true≢false}
use Rattle.std.specs.FinMap.{FinMap, get, get-insert, get-remove, insert, remove, same_map}
use Rattle.std.specs.Ordering.{eq_by_cmp}
use Rattle.mx_key.specs.Keys.{Key, key_cmp}
use Rattle.mx_key.proofs.KeyLaws.{key_cmp-IsAntisymmetric, key_cmp_total}
use Rattle.mx_entries.proofs.EntriesLaws.{tied_is}

-- keys that differ don't tie
pub untied : (one other : Key) → one ≢ other → eq_by_cmp key_cmp one other ≡ false
untied one other apart = by_test (eq_by_cmp key_cmp one other) refl
  where
    by_test : (b : Bool) → eq_by_cmp key_cmp one other ≡ b → b ≡ false
    by_test true tied = absurd (apart (tied_is one other tied))
    by_test false not_one = refl

module _ {X : Type 0} (all : FinMap key_cmp X) where
  -- two that are put under keys that differ
  pub put_apart : (key other : Key) (one second : X) → eq_by_cmp key_cmp key other ≡ false → insert (insert all key one) other second ≡ insert (insert all other second) key one
  put_apart key other one second not_one =
      same_map key_cmp_total key_cmp-IsAntisymmetric (insert (insert all key one) other second) (insert (insert all other second) key one)
      (λ q. get-insert key_cmp_total (insert all key one) other second q ∙ ap (cond (eq_by_cmp key_cmp q other) (Some second)) (get-insert key_cmp_total all key one q)
      ∙ by_tests q (eq_by_cmp key_cmp q other) (eq_by_cmp key_cmp q key) refl refl
      ∙ sym (get-insert key_cmp_total (insert all other second) key one q ∙ ap (cond (eq_by_cmp key_cmp q key) (Some one)) (get-insert key_cmp_total all other second q)))
    where
      by_tests : (q : Key) (a b : Bool) → eq_by_cmp key_cmp q other ≡ a → eq_by_cmp key_cmp q key ≡ b
          → cond a (Some second) (cond b (Some one) (get all q)) ≡ cond b (Some one) (cond a (Some second) (get all q))
      by_tests q true true at_other at_key =
          let same : q ≡ key = tied_is q key at_key in
          absurd (true≢false (sym (ap (λ k. eq_by_cmp key_cmp k other) (sym same) ∙ at_other) ∙ not_one))
      by_tests q true false at_other at_key = refl
      by_tests q false b at_other at_key = refl

  -- one is taken out behind another that is put, or before it
  pub left_apart : (key other : Key) (one : X) → eq_by_cmp key_cmp key other ≡ false → remove (insert all key one) other ≡ insert (remove all other) key one
  left_apart key other one not_one =
      same_map key_cmp_total key_cmp-IsAntisymmetric (remove (insert all key one) other) (insert (remove all other) key one)
      (λ q. get-remove key_cmp_total (insert all key one) other q ∙ ap (cond (eq_by_cmp key_cmp q other) None) (get-insert key_cmp_total all key one q)
      ∙ by_tests q (eq_by_cmp key_cmp q other) (eq_by_cmp key_cmp q key) refl refl
      ∙ sym (get-insert key_cmp_total (remove all other) key one q ∙ ap (cond (eq_by_cmp key_cmp q key) (Some one)) (get-remove key_cmp_total all other q)))
    where
      by_tests : (q : Key) (a b : Bool) → eq_by_cmp key_cmp q other ≡ a → eq_by_cmp key_cmp q key ≡ b
          → cond a None (cond b (Some one) (get all q)) ≡ cond b (Some one) (cond a None (get all q))
      by_tests q true true at_other at_key =
          let same : q ≡ key = tied_is q key at_key in
          absurd (true≢false (sym (ap (λ k. eq_by_cmp key_cmp k other) (sym same) ∙ at_other) ∙ not_one))
      by_tests q true false at_other at_key = refl
      by_tests q false b at_other at_key = refl

  module _ (key : Key) (one : X) where
    -- what is there is put again
    pub put_again : get all key ≡ Some one → insert all key one ≡ all
    put_again there =
        same_map key_cmp_total key_cmp-IsAntisymmetric (insert all key one) all (λ q. get-insert key_cmp_total all key one q ∙ by_test q (eq_by_cmp key_cmp q key) refl)
      where
        by_test : (q : Key) (b : Bool) → eq_by_cmp key_cmp q key ≡ b → cond b (Some one) (get all q) ≡ get all q
        by_test q true tied = sym (ap (get all) (tied_is q key tied) ∙ there)
        by_test q false apart = refl

    -- another one is put in its place
    pub put_over : (was : X) → insert (insert all key was) key one ≡ insert all key one
    put_over was =
        same_map key_cmp_total key_cmp-IsAntisymmetric (insert (insert all key was) key one) (insert all key one)
        (λ q. get-insert key_cmp_total (insert all key was) key one q ∙ ap (cond (eq_by_cmp key_cmp q key) (Some one)) (get-insert key_cmp_total all key was q)
        ∙ by_test (get all q) (eq_by_cmp key_cmp q key) ∙ sym (get-insert key_cmp_total all key one q))
      where
        by_test : (o : Option X) (b : Bool) → cond b (Some one) (cond b (Some was) o) ≡ cond b (Some one) o
        by_test o true = refl
        by_test o false = refl

    -- or behind it
    pub put_behind : insert (remove all key) key one ≡ insert all key one
    put_behind =
        same_map key_cmp_total key_cmp-IsAntisymmetric (insert (remove all key) key one) (insert all key one)
        (λ q. get-insert key_cmp_total (remove all key) key one q ∙ ap (cond (eq_by_cmp key_cmp q key) (Some one)) (get-remove key_cmp_total all key q)
        ∙ by_test (get all q) (eq_by_cmp key_cmp q key) ∙ sym (get-insert key_cmp_total all key one q))
      where
        by_test : (o : Option X) (b : Bool) → cond b (Some one) (cond b None o) ≡ cond b (Some one) o
        by_test o true = refl
        by_test o false = refl
