-- What rows of indexes describe, in the order of their keys, after one is put or taken out.
use Rattle.std.proofs.lemmas.Bool.Decides.{nat_tests}
use Rattle.std.proofs.Common.{arith, ◌≡◌, ℕ, Bool, true, false, cond, not, ◌&&◌, T, List, [], ◌∷◌, Option, Some, None, refl, sym, ap, ◌∙◌, subst, eqb-true}
use Rattle.std.specs.Prelude.{nat_lt, ◌==◌, if◌then◌else◌}
use Rattle.std.specs.FinMap.{find}
use Rattle.std.specs.FinMap.Entries.{below_all, by_order, is_sorted, put, where_key}
use Rattle.std.specs.List.{AllByRecursion, filter}
use Rattle.std.specs.Ordering.{eq_by_cmp, is_eq, is_lt}
use Rattle.std.specs.declared.cmp.Ordering.{Ordering}
use Rattle.std.specs.declared.cmp.Ordering.TheVariants.{Less, Equal, Greater}
use Rattle.mx_key.specs.Keys.{Key, is_key_prefix, key_cmp}
use Rattle.mx_key.proofs.KeyLaws.{key_cmp_total}
use Rattle.mx_schema.specs.declared.index_def.IndexDef.{IndexDef}
use Rattle.mx_schema.specs.declared.index_def.IndexRow.{IndexRow}
use Rattle.mx_schema.specs.Catalogues.{index_defs, with_index}
use Rattle.mx_schema.specs.IndexRows.{index_in}
use Rattle.mx_schema.specs.SchemaChanges.{IndexRowStands, indexes_without}
use Rattle.mx_schema.specs.SchemaChecks.{indexes_with}
use Rattle.mx_schema.proofs.KeyedLaws.{one_key, prefix_ties, second_above, second_falls, two_key, two_key_ties}
use Rattle.mx_schema.proofs.RowsOfStateLaws.{Row, first_of, of_space, second_of}
use Rattle.mx_schema.proofs.StateLaws.{spaces_tie}
use Rattle.mx_schema.proofs.OrderLaws.{lt_is}

both_hold : (a b : Bool) → a ≡ true → T b → T (a && b)
both_hold true b e h = h
both_hold false b e h = absurd cc

pub either_way : (a b : ℕ) → (a == b) ≡ (b == a)
either_way a b = grind (arith, nat_tests)

-- the row of an index is one of its space
pub of_its_space : (q : ℕ) (e : Row) (index : IndexRow) → e.0 ≡ two_key index.space.0 index.def.id.0 → of_space q e ≡ (q == index.space.0)
of_its_space q e index is = ap (is_key_prefix (one_key q)) is ∙ prefix_ties q index.space.0 index.def.id.0 ∙ spaces_tie q index.space.0

-- so it stands under the number of the space
its_key : (q : ℕ) (e : Row) (index : IndexRow) → e.0 ≡ two_key index.space.0 index.def.id.0 → of_space q e ≡ true → e.0 ≡ two_key q index.def.id.0
its_key q e index is of = is ∙ ap (λ n. two_key n index.def.id.0) (sym (eqb-true q index.space.0 (sym (of_its_space q e index is) ∙ of)))

-- a key below the first entry is below all
all_above : (key : Key) (e : Row) (es : List Row) → key_cmp key e.0 ≡ Less → T (below_all key_cmp e.0 es) → T (below_all key_cmp key es)
all_above key e [] less below = tt
all_above key e (next ∷ es) less below =
    let above : key_cmp e.0 next.0 ≡ Less = lt_is (key_cmp e.0 next.0) (holds (is_lt (key_cmp e.0 next.0)) (first_of (is_lt (key_cmp e.0 next.0)) (below_all key_cmp e.0 es) below)) in
    both_hold (is_lt (key_cmp key next.0)) (below_all key_cmp key es) (ap is_lt (key_cmp_total.trans key e.0 next.0 less above))
    (all_above key e es less (second_of (is_lt (key_cmp e.0 next.0)) (below_all key_cmp e.0 es) below))
  where
    holds : (b : Bool) → T b → b ≡ true
    holds true h = refl
    holds false h = absurd h

-- ---- a row more

-- an index below all others of its space comes first
goes_first : (q : ℕ) (def : IndexDef) (es : List Row) → T (below_all key_cmp (two_key q def.id.0) es) → AllByRecursion IndexRowStands es
    → indexes_with def (index_defs (filter (of_space q) es)) ≡ def ∷ index_defs (filter (of_space q) es)
goes_first q def [] below stand = refl
goes_first q def (e ∷ es) below stand =
    by_test (of_space q e) refl (goes_first q def es (second_of (is_lt (key_cmp (two_key q def.id.0) e.0)) (below_all key_cmp (two_key q def.id.0) es) below) stand.1)
  where
    by_test : (b : Bool) → of_space q e ≡ b → indexes_with def (index_defs (filter (of_space q) es)) ≡ def ∷ index_defs (filter (of_space q) es)
        → indexes_with def (index_defs (cond b (e ∷ filter (of_space q) es) (filter (of_space q) es))) ≡ def ∷ index_defs (cond b (e ∷ filter (of_space q) es) (filter (of_space q) es))
    by_test false of others = others
    by_test true of others =
        let index = stand.0.0 in
        let less = subst (λ (k : Key). T (is_lt (key_cmp (two_key q def.id.0) k))) (its_key q e index stand.0.2 of)
        (first_of (is_lt (key_cmp (two_key q def.id.0) e.0)) (below_all key_cmp (two_key q def.id.0) es) below) in
        subst (λ (o : Option IndexRow). indexes_with def (with_index o (index_defs (filter (of_space q) es))) ≡ def ∷ with_index o (index_defs (filter (of_space q) es))) (sym stand.0.1)
        (ap (λ b. cond b (def ∷ index.def ∷ index_defs (filter (of_space q) es)) (index.def ∷ indexes_with def (index_defs (filter (of_space q) es))))
        (second_above q def.id.0 index.def.id.0 less))

module _ (space : ℕ) (row : List ℕ) (index : IndexRow) (described : index_in row ≡ Some index) where
  abbrev key : Key
  key = two_key space index.def.id.0

  -- the indexes of a space with this one, where it is the one that has the row
  abbrev with_its : (q : ℕ) → List IndexDef → List IndexDef
  with_its q defs = if q == space then indexes_with index.def defs else defs

  new_first : (q : ℕ) (es : List Row)
      → index_defs (filter (of_space q) ((key, row) ∷ es)) ≡ cond (q == space) (index.def ∷ index_defs (filter (of_space q) es)) (index_defs (filter (of_space q) es))
  new_first q es =
      ap (λ b. index_defs (cond b ((key, row) ∷ filter (of_space q) es) (filter (of_space q) es))) (prefix_ties q space index.def.id.0 ∙ spaces_tie q space)
      ∙ by_test (q == space)
    where
      by_test : (b : Bool) → index_defs (cond b ((key, row) ∷ filter (of_space q) es) (filter (of_space q) es))
          ≡ cond b (index.def ∷ index_defs (filter (of_space q) es)) (index_defs (filter (of_space q) es))
      by_test true = ap (λ o. with_index o (index_defs (filter (of_space q) es))) described
      by_test false = refl

  -- a row that isn't there yet describes an index more of its space
  pub row_among : (q : ℕ) (es : List Row) → T (is_sorted key_cmp es) → AllByRecursion IndexRowStands es → find key_cmp key es ≡ None
      → index_defs (filter (of_space q) (put key_cmp key row es)) ≡ with_its q (index_defs (filter (of_space q) es))
  row_among q [] sorted stand none = new_first q []
  row_among q (e ∷ es) sorted stand none =
      by_case (key_cmp key e.0) refl none
      (row_among q es (second_of (below_all key_cmp e.0 es) (is_sorted key_cmp es) sorted) stand.1)
    where
      first_below : key_cmp key e.0 ≡ Less → T (below_all key_cmp key (e ∷ es))
      first_below less =
          both_hold (is_lt (key_cmp key e.0)) (below_all key_cmp key es) (ap is_lt less)
          (all_above key e es less (first_of (below_all key_cmp e.0 es) (is_sorted key_cmp es) sorted))

      in_front : (b : Bool) → (q == space) ≡ b → T (below_all key_cmp key (e ∷ es))
          → cond b (index.def ∷ index_defs (filter (of_space q) (e ∷ es))) (index_defs (filter (of_space q) (e ∷ es)))
          ≡ (if b then indexes_with index.def (index_defs (filter (of_space q) (e ∷ es))) else index_defs (filter (of_space q) (e ∷ es)))
      in_front true here below =
          sym (goes_first q index.def (e ∷ es)
          (subst (λ n. T (below_all key_cmp (two_key n index.def.id.0) (e ∷ es))) (sym (eqb-true q space here)) below) stand)
      in_front false here below = refl

      behind : (later : List IndexDef) (defs : List IndexDef) (other : IndexDef) (b : Bool) → (b ≡ true → nat_lt index.def.id.0 other.id.0 ≡ false)
          → later ≡ (if b then indexes_with index.def defs else defs)
          → other ∷ later ≡ (if b then indexes_with index.def (other ∷ defs) else other ∷ defs)
      behind later defs other true above is =
          ap (λ l. other ∷ l) is ∙ sym (ap (λ b. cond b (index.def ∷ other ∷ defs) (other ∷ indexes_with index.def defs)) (above refl))
      behind later defs other false above is = ap (λ l. other ∷ l) is

      past : (b : Bool) → of_space q e ≡ b → key_cmp key e.0 ≡ Greater → (later : List Row) → index_defs later ≡ with_its q (index_defs (filter (of_space q) es))
          → index_defs (cond b (e ∷ later) later) ≡ with_its q (index_defs (cond b (e ∷ filter (of_space q) es) (filter (of_space q) es)))
      past false of greater later others = others
      past true of greater later others =
          let other = stand.0.0 in
          let falls : (q == space) ≡ true → nat_lt index.def.id.0 other.def.id.0 ≡ false = λ here.
          second_falls space index.def.id.0 other.def.id.0
          (ap (key_cmp key) (ap (λ n. two_key n other.def.id.0) (sym (eqb-true q space here)) ∙ sym (its_key q e other stand.0.2 of)) ∙ greater) in
          ap (λ o. with_index o (index_defs later)) stand.0.1
          ∙ behind (index_defs later) (index_defs (filter (of_space q) es)) other.def (q == space) falls others
          ∙ ap (λ o. with_its q (with_index o (index_defs (filter (of_space q) es)))) (sym stand.0.1)

      by_case : (o : Ordering) → key_cmp key e.0 ≡ o → cond (is_eq o) (Some e.1) (find key_cmp key es) ≡ None
          → (find key_cmp key es ≡ None → index_defs (filter (of_space q) (put key_cmp key row es)) ≡ with_its q (index_defs (filter (of_space q) es)))
          → index_defs (filter (of_space q) (by_order o ((key, row) ∷ e ∷ es) ((e.0, row) ∷ es) (e ∷ put key_cmp key row es)))
          ≡ with_its q (index_defs (filter (of_space q) (e ∷ es)))
      by_case Less is none others = new_first q (e ∷ es) ∙ in_front (q == space) refl (first_below is)
      by_case Equal is none others = absurd cc
      by_case Greater is none others = past (of_space q e) refl is (filter (of_space q) (put key_cmp key row es)) (others none)

-- ---- a row less

module _ (space id : ℕ) where
  abbrev differs : Key → Bool
  differs other = not (eq_by_cmp key_cmp (two_key space id) other)

  abbrev without_its : (q : ℕ) → List IndexDef → List IndexDef
  without_its q defs = if q == space then indexes_without id defs else defs

  -- its space has an index less
  pub row_left : (q : ℕ) (es : List Row) → AllByRecursion IndexRowStands es
      → index_defs (filter (of_space q) (where_key key_cmp differs es)) ≡ without_its q (index_defs (filter (of_space q) es))
  row_left q [] stand = by_test (q == space)
    where
      by_test : (b : Bool) → index_defs [] ≡ (if b then indexes_without id [] else [])
      by_test true = refl
      by_test false = refl
  row_left q (e ∷ es) stand = by_space (of_space q e) refl (row_left q es stand.1)
    where
      kept : List Row
      kept = where_key key_cmp differs es

      defs : List IndexDef
      defs = index_defs (filter (of_space q) es)

      other : IndexRow
      other = stand.0.0

      ties : of_space q e ≡ true → eq_by_cmp key_cmp (two_key space id) e.0 ≡ ((q == space) && (other.def.id.0 == id))
      ties of =
          ap (eq_by_cmp key_cmp (two_key space id)) (its_key q e other stand.0.2 of) ∙ two_key_ties space id q other.def.id.0
          ∙ ap (λ b. b && (id == other.def.id.0)) (either_way space q) ∙ ap (λ b. (q == space) && b) (either_way id other.def.id.0)

      passed : (b : Bool) → of_space q e ≡ false → index_defs (filter (of_space q) (cond (not b) (e ∷ kept) kept)) ≡ index_defs (filter (of_space q) kept)
      passed true of = refl
      passed false of = ap (λ b. index_defs (cond b (e ∷ filter (of_space q) kept) (filter (of_space q) kept))) of

      one_more : of_space q e ≡ true → index_defs (filter (of_space q) (e ∷ kept)) ≡ other.def ∷ index_defs (filter (of_space q) kept)
      one_more of =
          ap (λ b. index_defs (cond b (e ∷ filter (of_space q) kept) (filter (of_space q) kept))) of
          ∙ ap (λ o. with_index o (index_defs (filter (of_space q) kept))) stand.0.1

      by_tests : (s i : Bool) → of_space q e ≡ true → index_defs (filter (of_space q) kept) ≡ (if s then indexes_without id defs else defs)
          → index_defs (filter (of_space q) (cond (not (s && i)) (e ∷ kept) kept))
          ≡ (if s then cond (not i) (other.def ∷ indexes_without id defs) (indexes_without id defs) else other.def ∷ defs)
      by_tests true true of others = others
      by_tests true false of others = one_more of ∙ ap (λ l. other.def ∷ l) others
      by_tests false i of others = one_more of ∙ ap (λ l. other.def ∷ l) others

      by_space : (b : Bool) → of_space q e ≡ b → index_defs (filter (of_space q) kept) ≡ without_its q defs
          → index_defs (filter (of_space q) (cond (differs e.0) (e ∷ kept) kept)) ≡ without_its q (index_defs (cond b (e ∷ filter (of_space q) es) (filter (of_space q) es)))
      by_space false of others = passed (eq_by_cmp key_cmp (two_key space id) e.0) of ∙ others
      by_space true of others =
          ap (λ b. index_defs (filter (of_space q) (cond (not b) (e ∷ kept) kept))) (ties of)
          ∙ by_tests (q == space) (other.def.id.0 == id) of others
          ∙ ap (λ o. without_its q (with_index o defs)) (sym stand.0.1)
