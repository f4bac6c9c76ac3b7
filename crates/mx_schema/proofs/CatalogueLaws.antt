-- An ordered map of numbers as a finite map.
use Rattle.std.proofs.Common.{◌≡◌, ℕ, Bool, true, false, cond, List, [], ◌∷◌, map, Some, None, BTreeMap, T, ◌&&◌, IsSome, is_some, refl, sym, ap, ◌∙◌}
use Rattle.std.specs.BTreeMap as tree
use Rattle.std.specs.Cmp.{eq_by_cmp_equiv, nat_cmp_total}
use Rattle.std.specs.FinMap as finite
use Rattle.std.specs.FinMap.{FinMap, find, from_entries, get, get-from_entries, get-from_sorted, get-insert, entries-from_sorted, same_map, nat_cmp-IsAntisymmetric}
use Rattle.std.specs.FinMap.Entries.{is_sorted, below_all}
use Rattle.std.specs.List.{AllByRecursion}
use Rattle.std.specs.List.Sorted.{IsStrictlySortedBy}
use Rattle.std.specs.Map.{keys_of, lookup, values_of}
use Rattle.std.specs.Ordering.{nat_cmp, eq_by_cmp}
use Rattle.std.specs.declared.cmp.Ordering.TheVariants.{Less}
use Rattle.mx_schema.specs.declared.index_def.IndexRow.{IndexRow}
use Rattle.mx_schema.specs.declared.schema.Schema.{Schema}
use Rattle.mx_schema.specs.SchemaChecks.{indexes_with, with_index_on, with_index_row}

-- two maps of numbers with the same value at each number are the same
pub same_by_number : {X : Type 0} (m n : FinMap nat_cmp X) → ((q : ℕ) → get m q ≡ get n q) → m ≡ n
same_by_number = same_map nat_cmp_total nat_cmp-IsAntisymmetric

both : (a b : Bool) → T a → T b → T (a && b)
both true b p q = q
both false b p q = absurd p

module _ {X : Type 0} where
  find_at : (es : List (ℕ × X)) (q : ℕ) → find nat_cmp q es ≡ lookup (tree.is_at (nat_cmp q)) es
  find_at [] q = refl
  find_at (e ∷ es) q = ap (cond (eq_by_cmp nat_cmp q e.0) (Some e.1)) (find_at es q)

  -- the value at a number
  pub found : (m : BTreeMap ℕ X) (q : ℕ) → get (from_entries {R = nat_cmp} m.entries) q ≡ tree.get_by (nat_cmp q) m
  found m q = get-from_entries nat_cmp_total m.entries q ∙ find_at m.entries q

  -- a value put at a number
  pub put : (m n : BTreeMap ℕ X) (k : ℕ) (x : X) → tree.UpdatesBy nat_cmp (nat_cmp k) m n (Some x)
      → from_entries {R = nat_cmp} n.entries ≡ finite.insert (from_entries m.entries) k x
  put m n k x updates = same_by_number _ _ (λ q.
      found n q ∙ updates.0 q
      ∙ ap (λ b. cond b (Some x) (tree.get nat_cmp m q)) ((eq_by_cmp_equiv nat_cmp_total).symm k q)
      ∙ ap (cond (eq_by_cmp nat_cmp q k) (Some x)) (sym (found m q))
      ∙ sym (get-insert nat_cmp_total (from_entries m.entries) k x q))

  below_each : (e : ℕ × X) (es : List (ℕ × X)) → AllByRecursion (λ k. nat_cmp e.0 k ≡ Less) (keys_of es) → T (below_all nat_cmp e.0 es)
  below_each e [] all = tt
  below_each e (x ∷ es) all = rw all.0 (below_each e es all.1)

  rising : (es : List (ℕ × X)) → IsStrictlySortedBy nat_cmp (keys_of es) → T (is_sorted nat_cmp es)
  unfolding IsStrictlySortedBy
  rising [] sorted = tt
  rising (e ∷ es) sorted = both _ _ (below_each e es sorted.0) (rising es sorted.1)

  -- its entries, in order
  pub in_order : (m : BTreeMap ℕ X) → tree.IsOrdered nat_cmp m → finite.entries (from_entries {R = nat_cmp} m.entries) ≡ m.entries
  in_order m ordered =
      let sorted = rising m.entries ordered in
      let same : from_entries {R = nat_cmp} m.entries ≡ finite.from_sorted m.entries = same_by_number _ _ (λ q.
      get-from_entries nat_cmp_total m.entries q ∙ sym (get-from_sorted nat_cmp m.entries q sorted)) in
      ap finite.entries same ∙ entries-from_sorted nat_cmp m.entries sorted

-- an index put on its space, and one whose space isn't there
pub index_put : (m n : BTreeMap ℕ Schema) (row : IndexRow) (catalogue : FinMap nat_cmp Schema) (old new : Schema) → from_entries {R = nat_cmp} m.entries ≡ catalogue
    → tree.get_by (nat_cmp row.space.0) m ≡ Some old → new ≡ record { def = old.def; indexes = indexes_with row.def old.indexes }
    → (IsSome (tree.get_by (nat_cmp row.space.0) m) → tree.UpdatesBy nat_cmp (nat_cmp row.space.0) m n (Some new))
    → from_entries n.entries ≡ with_index_row catalogue row
index_put m n row catalogue old new same there is updates =
    put m n row.space.0 new (updates (ap is_some there)) ∙ ap (λ c. finite.insert c row.space.0 new) same ∙ ap (finite.insert catalogue row.space.0) is
    ∙ ap (with_index_on catalogue row) (sym (ap (λ c. get c row.space.0) (sym same) ∙ found m row.space.0 ∙ there))

pub index_left_out : (m n : BTreeMap ℕ Schema) (row : IndexRow) (catalogue : FinMap nat_cmp Schema) → from_entries {R = nat_cmp} m.entries ≡ catalogue
    → tree.get_by (nat_cmp row.space.0) m ≡ None → n ≡ m → from_entries n.entries ≡ with_index_row catalogue row
index_left_out m n row catalogue same none unchanged =
    ap (λ t. from_entries t.entries) unchanged ∙ same
    ∙ ap (with_index_on catalogue row) (sym (ap (λ c. get c row.space.0) (sym same) ∙ found m row.space.0 ∙ none))

-- the values of a map in order
pub values_in_order : {X : Type 0} (m : BTreeMap ℕ X) (catalogue : FinMap nat_cmp X) → from_entries m.entries ≡ catalogue → tree.IsOrdered nat_cmp m → tree.values m ≡ finite.values catalogue
values_in_order m catalogue same ordered = same_values m.entries ∙ ap (map (λ e. e.1)) (sym (in_order m ordered)) ∙ ap finite.values same
  where
    same_values : {X : Type 0} (es : List (ℕ × X)) → values_of es ≡ map (λ e. e.1) es
    same_values [] = refl
    same_values (e ∷ es) = ap (λ l. e.1 ∷ l) (same_values es)
