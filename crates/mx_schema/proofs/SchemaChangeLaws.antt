-- What the rows of a state describe after a row of a space or an index is put or taken out.
use Rattle.std.proofs.Common.{◌≡◌, ℕ, Bool, true, false, cond, List, [], Option, Some, None, refl, sym, ap, ◌∙◌, subst, eqb-true}
use Rattle.std.specs.Prelude.{◌==◌, if◌then◌else◌}
use Rattle.std.specs.FinMap.{entries, entries-insert, entries_sorted, find, get, get-entries, get-insert, get-remove, insert, remove}
use Rattle.std.specs.List.{AllByRecursion, filter}
use Rattle.std.specs.Option.{option_map}
use Rattle.std.specs.Ordering.{eq_by_cmp}
use Rattle.mx_key.specs.Keys.{Key, is_key_prefix, key_cmp}
use Rattle.mx_key.proofs.KeyLaws.{key_cmp_total}
use Rattle.mx_msgpack.specs.Readers.{◌>>=◌}
use Rattle.mx_schema.specs.declared.index_def.IndexDef.{IndexDef}
use Rattle.mx_schema.specs.declared.index_def.IndexRow.{IndexRow}
use Rattle.mx_schema.specs.declared.schema.Schema.{Schema}
use Rattle.mx_schema.specs.declared.space_def.SpaceDef.{SpaceDef}
use Rattle.mx_schema.specs.Catalogues.{index_defs, indexes_of, schema_by, schema_of}
use Rattle.mx_schema.specs.IndexRows.{index_in}
use Rattle.mx_schema.specs.SchemaChanges.{IndexRowStands, IndexesHaveSpaces, RowsStand, indexes_without, schema_with_index, schema_without_index, with_schema}
use Rattle.mx_schema.specs.SchemaChecks.{indexes_with}
use Rattle.mx_schema.specs.SpaceRows.{space_in}
use Rattle.mx_schema.specs.State.{State, Tuples, index_rows, space_rows, tuples_in, with_tuple, without_tuple}
use Rattle.mx_schema.proofs.IndexRowLaws.{either_way, row_among, row_left}
use Rattle.mx_schema.proofs.KeyedLaws.{one_key, one_key_ties, two_key}
use Rattle.mx_schema.proofs.RowsOfStateLaws.{of_space}
use Rattle.mx_schema.proofs.StateLaws.{schema_set, spaces_tie, tuples_set}
use Rattle.mx_schema.proofs.StoredLaws.{each_put}
use Rattle.mx_schema.proofs.TakenLaws.{each_left, entries_removed}

-- states with the same rows of indexes describe the same ones
same_indexes : (one other : State) → tuples_in one index_rows ≡ tuples_in other index_rows → (q : ℕ) (def : Option SpaceDef) → schema_by one q def ≡ schema_by other q def
same_indexes one other same q None = refl
same_indexes one other same q (Some def) =
    ap (λ (t : Tuples). Some (record { def = def; indexes = index_defs (filter (λ entry. is_key_prefix (one_key q) entry.0) (entries t)) })) same

-- ---- rows of spaces

module _ (state : State) (id : ℕ) where
  key_ties : (q : ℕ) → eq_by_cmp key_cmp (one_key q) (one_key id) ≡ (q == id)
  key_ties q = one_key_ties q id ∙ spaces_tie q id

  -- the rows of spaces are others, and what is found is as before but for one number
  spaces_changed : (all : Tuples) (row : Option (List ℕ)) → ((q : ℕ) → get all (one_key q) ≡ (if q == id then row else get (tuples_in state space_rows) (one_key q)))
      → (q : ℕ) → schema_of (insert state space_rows all) q ≡ with_schema (schema_of state) id (schema_by state id (row >>= space_in)) q
  unfolding schema_of
  spaces_changed all row found q =
      same_indexes (insert state space_rows all) state (tuples_set state space_rows all index_rows) q (get (tuples_in (insert state space_rows all) space_rows) (one_key q) >>= space_in)
      ∙ ap (λ (t : Tuples). schema_by state q (get t (one_key q) >>= space_in)) (tuples_set state space_rows all space_rows)
      ∙ ap (λ (o : Option (List ℕ)). schema_by state q (o >>= space_in)) (found q)
      ∙ by_test (q == id) refl
    where
      by_test : (b : Bool) → (q == id) ≡ b → schema_by state q ((if b then row else get (tuples_in state space_rows) (one_key q)) >>= space_in)
          ≡ (if b then schema_by state id (row >>= space_in) else schema_of state q)
      by_test true e = ap (λ n. schema_by state n (row >>= space_in)) (eqb-true q id e)
      by_test false e = refl

  -- a row of a space describes it, beside the rows of its indexes
  pub space_row_put : (row : List ℕ) (def : SpaceDef) → space_in row ≡ Some def
      → (q : ℕ) → schema_of (with_tuple state space_rows (one_key id) row) q ≡ with_schema (schema_of state) id (schema_by state id (Some def)) q
  space_row_put row def is q =
      let spaces = tuples_in state space_rows in
      spaces_changed (insert spaces (one_key id) row) (Some row)
      (λ q. get-insert key_cmp_total spaces (one_key id) row (one_key q) ∙ ap (λ b. cond b (Some row) (get spaces (one_key q))) (key_ties q)) q
      ∙ ap (λ (o : Option SpaceDef). with_schema (schema_of state) id (schema_by state id o) q) is

  -- without one there is no such space
  pub space_row_removed : (q : ℕ) → schema_of (without_tuple state space_rows (one_key id)) q ≡ with_schema (schema_of state) id None q
  space_row_removed =
      let spaces = tuples_in state space_rows in
      spaces_changed (remove spaces (one_key id)) None
      (λ q. get-remove key_cmp_total spaces (one_key id) (one_key q) ∙ ap (λ b. cond b None (get spaces (one_key q))) (key_ties q))

-- ---- rows of indexes

module _ (state : State) (space : ℕ) where
  -- the rows of indexes are others, and describe the same ones but for one space
  indexes_changed : (all : Tuples) (change : List IndexDef → List IndexDef)
      → ((q : ℕ) → index_defs (filter (of_space q) (entries all)) ≡ (if q == space then change (indexes_of state q) else indexes_of state q))
      → (q : ℕ) → schema_of (insert state index_rows all) q
      ≡ with_schema (schema_of state) space (option_map (λ schema. record { def = schema.def; indexes = change schema.indexes }) (schema_of state space)) q
  unfolding schema_of
  indexes_changed all change described q =
      ap (λ (t : Tuples). schema_by after q (get t (one_key q) >>= space_in)) (tuples_set state index_rows all space_rows) ∙ by_test (q == space) refl
    where
      after : State
      after = insert state index_rows all

      changed : Schema → Schema
      changed schema = record { def = schema.def; indexes = change schema.indexes }

      now : indexes_of after q ≡ (if q == space then change (indexes_of state q) else indexes_of state q)
      now = ap (λ (t : Tuples). index_defs (filter (of_space q) (entries t))) (tuples_set state index_rows all index_rows) ∙ described q

      here : (q == space) ≡ true → (def : Option SpaceDef) → schema_by after q def ≡ option_map changed (schema_by state q def)
      here e None = refl
      here e (Some def) =
          ap (λ (l : List IndexDef). Some (record { def = def; indexes = l })) (now ∙ ap (λ b. if b then change (indexes_of state q) else indexes_of state q) e)

      elsewhere : (q == space) ≡ false → (def : Option SpaceDef) → schema_by after q def ≡ schema_by state q def
      elsewhere e None = refl
      elsewhere e (Some def) =
          ap (λ (l : List IndexDef). Some (record { def = def; indexes = l })) (now ∙ ap (λ b. if b then change (indexes_of state q) else indexes_of state q) e)

      by_test : (b : Bool) → (q == space) ≡ b → schema_by after q (get (tuples_in state space_rows) (one_key q) >>= space_in)
          ≡ (if b then option_map changed (schema_of state space) else schema_of state q)
      by_test true e = here e (get (tuples_in state space_rows) (one_key q) >>= space_in) ∙ ap (λ n. option_map changed (schema_of state n)) (eqb-true q space e)
      by_test false e = elsewhere e (get (tuples_in state space_rows) (one_key q) >>= space_in)

  -- the indexes that rows describe with one more
  indexes_put : (id : ℕ) (row : List ℕ) (index : IndexRow) → RowsStand state → get (tuples_in state index_rows) (two_key space id) ≡ None
      → index_in row ≡ Some index → index.def.id.0 ≡ id
      → (q : ℕ) → index_defs (filter (of_space q) (entries (insert (tuples_in state index_rows) (two_key space id) row)))
      ≡ (if q == space then indexes_with index.def (indexes_of state q) else indexes_of state q)
  indexes_put id row index stand none described is q =
      let rows = tuples_in state index_rows in
      let key = two_key space index.def.id.0 in
      let same : two_key space id ≡ key = ap (two_key space) (sym is) in
      let absent : find key_cmp key (entries rows) ≡ None = sym (get-entries rows key) ∙ ap (get rows) (sym same) ∙ none in
      ap (λ (k : Key). index_defs (filter (of_space q) (entries (insert rows k row)))) same
      ∙ ap (λ es. index_defs (filter (of_space q) es)) (entries-insert key_cmp_total rows key row)
      ∙ row_among space row index described q (entries rows) (entries_sorted rows) stand absent

  -- and with one less
  indexes_removed : (id : ℕ) → RowsStand state → (q : ℕ) → index_defs (filter (of_space q) (entries (remove (tuples_in state index_rows) (two_key space id))))
      ≡ (if q == space then indexes_without id (indexes_of state q) else indexes_of state q)
  indexes_removed id stand q =
      ap (λ es. index_defs (filter (of_space q) es)) (entries_removed (two_key space id) (tuples_in state index_rows))
      ∙ row_left space id q (entries (tuples_in state index_rows)) stand

  -- a row of an index describes an index more of its space
  pub index_row_put : (id : ℕ) (row : List ℕ) (index : IndexRow) → RowsStand state → get (tuples_in state index_rows) (two_key space id) ≡ None
      → index_in row ≡ Some index → index.def.id.0 ≡ id
      → (q : ℕ) → schema_of (with_tuple state index_rows (two_key space id) row) q
      ≡ with_schema (schema_of state) space (option_map (schema_with_index index.def) (schema_of state space)) q
  index_row_put id row index stand none described is =
      indexes_changed (insert (tuples_in state index_rows) (two_key space id) row) (indexes_with index.def) (indexes_put id row index stand none described is)

  -- without one its space has an index less
  pub index_row_removed : (id : ℕ) → RowsStand state
      → (q : ℕ) → schema_of (without_tuple state index_rows (two_key space id)) q
      ≡ with_schema (schema_of state) space (option_map (schema_without_index id) (schema_of state space)) q
  index_row_removed id stand = indexes_changed (remove (tuples_in state index_rows) (two_key space id)) (indexes_without id) (indexes_removed id stand)

-- ---- rows of indexes stay under their numbers

-- where the rows are others
rows_stand_set : (state : State) (all : Tuples) → AllByRecursion IndexRowStands (entries all) → RowsStand (insert state index_rows all)
rows_stand_set state all stand = subst (λ (t : Tuples). AllByRecursion IndexRowStands (entries t)) (sym (tuples_set state index_rows all index_rows)) stand

-- after one is put
pub rows_stand_put : (state : State) (row : List ℕ) (index : IndexRow) → RowsStand state → index_in row ≡ Some index
    → RowsStand (with_tuple state index_rows (two_key index.space.0 index.def.id.0) row)
rows_stand_put state row index stand described =
    let key = two_key index.space.0 index.def.id.0 in
    rows_stand_set state (insert (tuples_in state index_rows) key row) (each_put IndexRowStands (tuples_in state index_rows) key row (index, described, refl) stand)

-- after one is taken out
pub rows_stand_removed : (state : State) (key : Key) → RowsStand state → RowsStand (without_tuple state index_rows key)
rows_stand_removed state key stand = rows_stand_set state (remove (tuples_in state index_rows) key) (each_left key IndexRowStands (tuples_in state index_rows) stand)

-- after another space is given other tuples
pub rows_stand_elsewhere : (state : State) (space : ℕ) (all : Tuples) → (index_rows == space) ≡ false → RowsStand state → RowsStand (insert state space all)
rows_stand_elsewhere state space all other stand =
    subst (λ (t : Tuples). AllByRecursion IndexRowStands (entries t))
    (sym (tuples_set state space all index_rows ∙ ap (λ b. if b then all else tuples_in state index_rows) other)) stand

-- ---- spaces that aren't there have no rows of indexes

-- the indexes that the rows of a state describe, by its tuples
indexes_by : (state : State) (space : ℕ) (all : Tuples) (q : ℕ)
    → indexes_of (insert state space all) q ≡ index_defs (filter (of_space q) (entries (if index_rows == space then all else tuples_in state index_rows)))
indexes_by state space all q = ap (λ (t : Tuples). index_defs (filter (of_space q) (entries t))) (tuples_set state space all index_rows)

-- so a new space has no indexes
pub new_space_put : (state : State) (id : ℕ) (row : List ℕ) (def : SpaceDef) → IndexesHaveSpaces state → schema_of state id ≡ None → space_in row ≡ Some def
    → (q : ℕ) → schema_of (with_tuple state space_rows (one_key id) row) q ≡ with_schema (schema_of state) id (Some (record { def = def; indexes = [] })) q
new_space_put state id row def have none is q =
    space_row_put state id row def is q
    ∙ ap (λ (l : List IndexDef). with_schema (schema_of state) id (Some (record { def = def; indexes = l })) q) (have id none)

-- what is described otherwise at one space only is there elsewhere
not_there : (b : Bool) (changed was : Option Schema) → b ≡ false → (if b then changed else was) ≡ None → was ≡ None
not_there true changed was e none = absurd cc
not_there false changed was e none = none

its_own : (b : Bool) (changed was : Option Schema) → b ≡ true → (if b then changed else was) ≡ None → changed ≡ None
its_own true changed was e none = none
its_own false changed was e none = absurd cc

mapped_none : (f : Schema → Schema) (o : Option Schema) → option_map f o ≡ None → o ≡ None
mapped_none f None e = refl
mapped_none f (Some schema) e = absurd cc

module _ (state : State) (have : IndexesHaveSpaces state) where
  pub have_space_put : (id : ℕ) (row : List ℕ) (def : SpaceDef) → space_in row ≡ Some def → IndexesHaveSpaces (with_tuple state space_rows (one_key id) row)
  have_space_put id row def is q none =
      indexes_by state space_rows (insert (tuples_in state space_rows) (one_key id) row) q ∙ by_test (q == id) refl (sym (space_row_put state id row def is q) ∙ none)
    where
      by_test : (b : Bool) → (q == id) ≡ b → with_schema (schema_of state) id (schema_by state id (Some def)) q ≡ None → indexes_of state q ≡ []
      by_test true e gone = let no = its_own (q == id) (schema_by state id (Some def)) (schema_of state q) e gone in absurd cc
      by_test false e gone = have q (not_there (q == id) (schema_by state id (Some def)) (schema_of state q) e gone)

  pub have_space_removed : (id : ℕ) → indexes_of state id ≡ [] → IndexesHaveSpaces (without_tuple state space_rows (one_key id))
  have_space_removed id without q none =
      indexes_by state space_rows (remove (tuples_in state space_rows) (one_key id)) q ∙ by_test (q == id) refl (sym (space_row_removed state id q) ∙ none)
    where
      by_test : (b : Bool) → (q == id) ≡ b → with_schema (schema_of state) id None q ≡ None → indexes_of state q ≡ []
      by_test true e gone = ap (indexes_of state) (eqb-true q id e) ∙ without
      by_test false e gone = have q (not_there (q == id) None (schema_of state q) e gone)

  pub have_index_put : (space id : ℕ) (row : List ℕ) (index : IndexRow) (schema : Schema) → RowsStand state → get (tuples_in state index_rows) (two_key space id) ≡ None
      → index_in row ≡ Some index → index.def.id.0 ≡ id → schema_of state space ≡ Some schema → IndexesHaveSpaces (with_tuple state index_rows (two_key space id) row)
  have_index_put space id row index schema stand absent described is there q none =
      indexes_by state index_rows (insert (tuples_in state index_rows) (two_key space id) row) q ∙ indexes_put state space id row index stand absent described is q
      ∙ by_test (q == space) refl (sym (index_row_put state space id row index stand absent described is q) ∙ none)
    where
      changed : Option Schema
      changed = option_map (schema_with_index index.def) (schema_of state space)

      by_test : (b : Bool) → (q == space) ≡ b → with_schema (schema_of state) space changed q ≡ None
          → (if b then indexes_with index.def (indexes_of state q) else indexes_of state q) ≡ []
      by_test true e gone =
          let no : schema_of state space ≡ None = mapped_none (schema_with_index index.def) (schema_of state space) (its_own (q == space) changed (schema_of state q) e gone) in
          let both : Some schema ≡ None = sym there ∙ no in
          absurd cc
      by_test false e gone = have q (not_there (q == space) changed (schema_of state q) e gone)

  pub have_index_removed : (space id : ℕ) → RowsStand state → IndexesHaveSpaces (without_tuple state index_rows (two_key space id))
  have_index_removed space id stand q none =
      indexes_by state index_rows (remove (tuples_in state index_rows) (two_key space id)) q ∙ indexes_removed state space id stand q
      ∙ by_test (q == space) refl (sym (index_row_removed state space id stand q) ∙ none)
    where
      changed : Option Schema
      changed = option_map (schema_without_index id) (schema_of state space)

      by_test : (b : Bool) → (q == space) ≡ b → with_schema (schema_of state) space changed q ≡ None
          → (if b then indexes_without id (indexes_of state q) else indexes_of state q) ≡ []
      by_test true e gone =
          let no : schema_of state space ≡ None = mapped_none (schema_without_index id) (schema_of state space) (its_own (q == space) changed (schema_of state q) e gone) in
          ap (indexes_without id) (ap (indexes_of state) (eqb-true q space e) ∙ have space no)
      by_test false e gone = have q (not_there (q == space) changed (schema_of state q) e gone)

  pub have_elsewhere : (space : ℕ) (all : Tuples) → (space == space_rows) ≡ false → (space == index_rows) ≡ false → IndexesHaveSpaces (insert state space all)
  have_elsewhere space all no_space no_index q none =
      indexes_by state space all q
      ∙ ap (λ b. index_defs (filter (of_space q) (entries (if b then all else tuples_in state index_rows)))) (either_way index_rows space ∙ no_index)
      ∙ have q (sym (schema_set state space all no_space no_index q) ∙ none)
