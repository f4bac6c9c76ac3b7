-- The indexes of a space by their numbers, where one more comes or one goes.
use Rattle.std.proofs.lemmas.Bool.Decides.{nat_tests}
use Rattle.std.proofs.Common.{arith, ◌≡◌, ℕ, Bool, true, false, cond, not, ◌&&◌, List, [], ◌∷◌, Option, Some, None, refl, sym, ap, ◌∙◌, eqb-true, true≢false}
use Rattle.std.specs.Prelude.{nat_lt, ◌==◌, if◌then◌else◌}
use Rattle.std.specs.FinMap.{entries, get, get-entries}
use Rattle.std.specs.FinMap.Entries.{find}
use Rattle.std.specs.List.{AllByRecursion, filter}
use Rattle.std.specs.Ordering.{eq_by_cmp}
use Rattle.mx_key.specs.Keys.{key_cmp}
use Rattle.mx_schema.specs.declared.index_def.IndexDef.{IndexDef}
use Rattle.mx_schema.specs.Catalogues.{index_defs, index_with, indexes_of, with_index}
use Rattle.mx_schema.specs.SchemaChanges.{IndexRowStands, RowsStand, indexes_without}
use Rattle.mx_schema.specs.SchemaChecks.{indexes_with}
use Rattle.mx_schema.specs.State.{State, index_rows, tuples_in}
use Rattle.mx_schema.proofs.IndexRowLaws.{of_its_space}
use Rattle.mx_schema.proofs.KeyedLaws.{two_key, two_key_ties}
use Rattle.mx_schema.proofs.RowsOfStateLaws.{Row, of_space}

some_not_none : {X : Type 0} (x : X) (o : Option X) → o ≡ Some x → o ≡ None → ⊥
some_not_none x o is none = let no : Some x ≡ None = sym is ∙ none in absurd cc

-- it is found under its number, and the others under theirs
pub found_more : (def : IndexDef) (defs : List IndexDef) (q : ℕ) → index_with def.id.0 defs ≡ None
    → index_with q (indexes_with def defs) ≡ (if def.id.0 == q then Some def else index_with q defs)
found_more def [] q absent = refl
found_more def (other ∷ others) q absent =
    by_order (nat_lt def.id.0 other.id.0) (other.id.0 == def.id.0) refl absent (λ rest. found_more def others q rest)
  where
    by_tests : (its theirs : Bool) → (def.id.0 == q) ≡ its → (other.id.0 == q) ≡ theirs → (other.id.0 == def.id.0) ≡ false
        → index_with q (indexes_with def others) ≡ (if its then Some def else index_with q others)
        → (if theirs then Some other else index_with q (indexes_with def others)) ≡ (if its then Some def else if theirs then Some other else index_with q others)
    by_tests true true one two apart later =
        let same : other.id.0 ≡ def.id.0 = eqb-true other.id.0 q two ∙ sym (eqb-true def.id.0 q one) in
        let no : true ≡ false = sym (grind (arith, nat_tests)) ∙ apart in
        absurd (true≢false no)
    by_tests true false one two apart later = later
    by_tests false true one two apart later = refl
    by_tests false false one two apart later = later

    by_order : (below same : Bool) → (other.id.0 == def.id.0) ≡ same → (if same then Some other else index_with def.id.0 others) ≡ None
        → (index_with def.id.0 others ≡ None → index_with q (indexes_with def others) ≡ (if def.id.0 == q then Some def else index_with q others))
        → index_with q (if below then def ∷ other ∷ others else other ∷ indexes_with def others) ≡ (if def.id.0 == q then Some def else index_with q (other ∷ others))
    by_order below true is absent later = absurd cc
    by_order true false is absent later = refl
    by_order false false is absent later = by_tests (def.id.0 == q) (other.id.0 == q) refl refl is (later absent)

pub each_more : (P : IndexDef → Type 0) (def : IndexDef) (defs : List IndexDef) → P def → AllByRecursion P defs → AllByRecursion P (indexes_with def defs)
each_more P def [] has have = (has, tt)
each_more P def (other ∷ others) has (first, rest) = by_order (nat_lt def.id.0 other.id.0) (each_more P def others has rest)
  where
    by_order : (below : Bool) → AllByRecursion P (indexes_with def others) → AllByRecursion P (if below then def ∷ other ∷ others else other ∷ indexes_with def others)
    by_order true later = (has, (first, rest))
    by_order false later = (first, later)

-- each is found under its own number, still
abbrev pub Apart : List IndexDef → List IndexDef → Type 0
Apart all defs = AllByRecursion (λ def. index_with def.id.0 all ≡ Some def) defs

pub apart_more : (def : IndexDef) (all : List IndexDef) → index_with def.id.0 all ≡ None → Apart all all → Apart (indexes_with def all) (indexes_with def all)
apart_more def all absent apart =
    each_more (λ d. index_with d.id.0 (indexes_with def all) ≡ Some d) def all
    (found_more def all def.id.0 absent ∙ ap (λ b. if b then Some def else index_with def.id.0 all) (itself def.id.0)) (others all apart)
  where
    itself : (n : ℕ) → (n == n) ≡ true
    itself n = grind (arith, nat_tests)

    other : (d : IndexDef) (same : Bool) → (def.id.0 == d.id.0) ≡ same → index_with d.id.0 all ≡ Some d → (if same then Some def else index_with d.id.0 all) ≡ Some d
    other d true is at = absurd (some_not_none d (index_with d.id.0 all) at (ap (λ n. index_with n all) (sym (eqb-true def.id.0 d.id.0 is)) ∙ absent))
    other d false is at = at

    others : (defs : List IndexDef) → Apart all defs → AllByRecursion (λ d. index_with d.id.0 (indexes_with def all) ≡ Some d) defs
    others [] have = tt
    others (d ∷ defs) (at, rest) = (found_more def all d.id.0 absent ∙ other d (def.id.0 == d.id.0) refl at, others defs rest)

-- ---- one less

pub found_less : (id : ℕ) (defs : List IndexDef) (q : ℕ) → index_with q (indexes_without id defs) ≡ (if q == id then None else index_with q defs)
found_less id [] q = by_test (q == id)
  where
    by_test : (b : Bool) → index_with q [] ≡ (if b then None else None)
    by_test true = refl
    by_test false = refl
found_less id (def ∷ defs) q = by_tests (def.id.0 == id) (def.id.0 == q) (q == id) refl refl refl (found_less id defs q)
  where
    by_tests : (goes found is : Bool) → (def.id.0 == id) ≡ goes → (def.id.0 == q) ≡ found → (q == id) ≡ is
        → index_with q (indexes_without id defs) ≡ (if is then None else index_with q defs)
        → index_with q (cond (not goes) (def ∷ indexes_without id defs) (indexes_without id defs)) ≡ (if is then None else if found then Some def else index_with q defs)
    by_tests true true true g f i later = later
    by_tests true true false g f i later = absurd (true≢false (sym (grind (arith, nat_tests)) ∙ i))
    by_tests true false true g f i later = later
    by_tests true false false g f i later = later
    by_tests false true true g f i later = absurd (true≢false (sym (grind (arith, nat_tests)) ∙ g))
    by_tests false true false g f i later = ap (λ b. if b then Some def else index_with q (indexes_without id defs)) f
    by_tests false false true g f i later = ap (λ b. if b then Some def else index_with q (indexes_without id defs)) f ∙ later
    by_tests false false false g f i later = ap (λ b. if b then Some def else index_with q (indexes_without id defs)) f ∙ later

pub each_less : (P : IndexDef → Type 0) (id : ℕ) (defs : List IndexDef) → AllByRecursion P defs → AllByRecursion P (indexes_without id defs)
each_less P id [] have = tt
each_less P id (def ∷ defs) (first, rest) = by_test (not (def.id.0 == id)) (each_less P id defs rest)
  where
    by_test : (b : Bool) → AllByRecursion P (indexes_without id defs) → AllByRecursion P (cond b (def ∷ indexes_without id defs) (indexes_without id defs))
    by_test true later = (first, later)
    by_test false later = later

-- none of those that are left has the number
without_it : (id : ℕ) (defs : List IndexDef) → AllByRecursion (λ def. (def.id.0 == id) ≡ false) (indexes_without id defs)
without_it id [] = tt
without_it id (def ∷ defs) = by_test (def.id.0 == id) refl (without_it id defs)
  where
    by_test : (b : Bool) → (def.id.0 == id) ≡ b → AllByRecursion (λ d. (d.id.0 == id) ≡ false) (indexes_without id defs)
        → AllByRecursion (λ d. (d.id.0 == id) ≡ false) (cond (not b) (def ∷ indexes_without id defs) (indexes_without id defs))
    by_test true is later = later
    by_test false is later = (is, later)

pub apart_less : (id : ℕ) (all : List IndexDef) → Apart all all → Apart (indexes_without id all) (indexes_without id all)
apart_less id all apart = both (indexes_without id all) (each_less (λ d. index_with d.id.0 all ≡ Some d) id all apart) (without_it id all)
  where
    both : (defs : List IndexDef) → Apart all defs → AllByRecursion (λ def. (def.id.0 == id) ≡ false) defs → Apart (indexes_without id all) defs
    both [] have others = tt
    both (def ∷ defs) (at, ats) (other, others) =
        (found_less id all def.id.0 ∙ ap (λ b. if b then None else index_with def.id.0 all) other ∙ at, both defs ats others)

-- what was put in and taken out again
pub more_and_less : (def : IndexDef) (defs : List IndexDef) → index_with def.id.0 defs ≡ None → indexes_without def.id.0 (indexes_with def defs) ≡ defs
more_and_less def defs absent = through defs absent
  where
    itself : (n : ℕ) → (n == n) ≡ true
    itself n = grind (arith, nat_tests)

    none_goes : (others : List IndexDef) → index_with def.id.0 others ≡ None → indexes_without def.id.0 others ≡ others
    none_goes [] absent = refl
    none_goes (other ∷ others) absent = by_test (other.id.0 == def.id.0) absent (none_goes others)
      where
        by_test : (b : Bool) → (if b then Some other else index_with def.id.0 others) ≡ None → (index_with def.id.0 others ≡ None → indexes_without def.id.0 others ≡ others)
            → cond (not b) (other ∷ indexes_without def.id.0 others) (indexes_without def.id.0 others) ≡ other ∷ others
        by_test true absent later = absurd cc
        by_test false absent later = ap (λ l. other ∷ l) (later absent)

    through : (others : List IndexDef) → index_with def.id.0 others ≡ None → indexes_without def.id.0 (indexes_with def others) ≡ others
    through [] absent = ap (λ b. cond (not b) (def ∷ []) []) (itself def.id.0)
    through (other ∷ others) absent = by_tests (other.id.0 == def.id.0) (nat_lt def.id.0 other.id.0) refl absent (through others) (none_goes (other ∷ others) absent)
      where
        by_tests : (same below : Bool) → (other.id.0 == def.id.0) ≡ same → (if same then Some other else index_with def.id.0 others) ≡ None
            → (index_with def.id.0 others ≡ None → indexes_without def.id.0 (indexes_with def others) ≡ others) → indexes_without def.id.0 (other ∷ others) ≡ other ∷ others
            → indexes_without def.id.0 (if below then def ∷ other ∷ others else other ∷ indexes_with def others) ≡ other ∷ others
        by_tests true below is absent later stay = absurd cc
        by_tests false true is absent later stay =
            ap (λ b. cond (not b) (def ∷ indexes_without def.id.0 (other ∷ others)) (indexes_without def.id.0 (other ∷ others))) (itself def.id.0) ∙ stay
        by_tests false false is absent later stay =
            ap (λ b. cond (not b) (other ∷ indexes_without def.id.0 (indexes_with def others)) (indexes_without def.id.0 (indexes_with def others))) is
            ∙ ap (λ l. other ∷ l) (later absent)

-- ---- rows

-- a space has no index whose row isn't there
pub no_index_there : (state : State) (space id : ℕ) → RowsStand state → get (tuples_in state index_rows) (two_key space id) ≡ None → index_with id (indexes_of state space) ≡ None
no_index_there state space id stand absent =
    through (entries (tuples_in state index_rows)) stand (sym (get-entries (tuples_in state index_rows) (two_key space id)) ∙ absent)
  where
    through : (rows : List Row) → AllByRecursion IndexRowStands rows → find key_cmp (two_key space id) rows ≡ None → index_with id (index_defs (filter (of_space space) rows)) ≡ None
    through [] stand none = refl
    through (row ∷ rows) ((index, described, under), stand) none =
        by_tie (eq_by_cmp key_cmp (two_key space id) row.0) refl none (through rows stand)
      where
        ties : eq_by_cmp key_cmp (two_key space id) row.0 ≡ eq_by_cmp key_cmp (two_key space id) (two_key index.space.0 index.def.id.0)
        ties = ap (eq_by_cmp key_cmp (two_key space id)) under

        by_space : (of : Bool) → of_space space row ≡ of → (space == index.space.0) ≡ of → eq_by_cmp key_cmp (two_key space id) row.0 ≡ false
            → index_with id (index_defs (filter (of_space space) rows)) ≡ None
            → index_with id (index_defs (cond of (row ∷ filter (of_space space) rows) (filter (of_space space) rows))) ≡ None
        by_space false of is apart later = later
        by_space true of is apart later =
            ap (λ o. index_with id (with_index o (index_defs (filter (of_space space) rows)))) described
            ∙ by_number (index.def.id.0 == id) refl later
          where
            by_number : (b : Bool) → (index.def.id.0 == id) ≡ b → index_with id (index_defs (filter (of_space space) rows)) ≡ None
                → (if b then Some index.def else index_with id (index_defs (filter (of_space space) rows))) ≡ None
            by_number true same later =
                let tied = sym (two_key_ties space id index.space.0 index.def.id.0) ∙ sym ties ∙ apart in
                absurd (true≢false (sym (grind (arith, nat_tests)) ∙ tied))
            by_number false other later = later

        by_tie : (b : Bool) → eq_by_cmp key_cmp (two_key space id) row.0 ≡ b → cond b (Some row.1) (find key_cmp (two_key space id) rows) ≡ None
            → (find key_cmp (two_key space id) rows ≡ None → index_with id (index_defs (filter (of_space space) rows)) ≡ None)
            → index_with id (index_defs (filter (of_space space) (row ∷ rows))) ≡ None
        by_tie true tied none later = absurd cc
        by_tie false apart none later = by_space (of_space space row) refl (sym (of_its_space space row index under)) apart (later none)

-- a space has indexes where the row of one is there
pub has_indexes : (state : State) (space id : ℕ) (row : List ℕ) → RowsStand state → get (tuples_in state index_rows) (two_key space id) ≡ Some row → indexes_of state space ≡ [] → ⊥
has_indexes state space id row stand there =
    through (entries (tuples_in state index_rows)) stand (sym (get-entries (tuples_in state index_rows) (two_key space id)) ∙ there)
  where
    through : (rows : List Row) → AllByRecursion IndexRowStands rows → find key_cmp (two_key space id) rows ≡ Some row → index_defs (filter (of_space space) rows) ≡ [] → ⊥
    through [] stand found none = absurd cc
    through (entry ∷ rows) ((index, described, under), stand) found none =
        by_space (of_space space entry) refl none (through rows stand)
      where
        by_space : (of : Bool) → of_space space entry ≡ of → index_defs (cond of (entry ∷ filter (of_space space) rows) (filter (of_space space) rows)) ≡ []
            → (find key_cmp (two_key space id) rows ≡ Some row → index_defs (filter (of_space space) rows) ≡ [] → ⊥) → ⊥
        by_space true of none later =
            let no : index.def ∷ index_defs (filter (of_space space) rows) ≡ [] = ap (λ o. with_index o (index_defs (filter (of_space space) rows))) (sym described) ∙ none in
            absurd cc
        by_space false of none later = by_tie (eq_by_cmp key_cmp (two_key space id) entry.0) refl found
          where
            by_tie : (b : Bool) → eq_by_cmp key_cmp (two_key space id) entry.0 ≡ b → cond b (Some entry.1) (find key_cmp (two_key space id) rows) ≡ Some row → ⊥
            by_tie true tied found =
                let both = sym (two_key_ties space id index.space.0 index.def.id.0) ∙ sym (ap (eq_by_cmp key_cmp (two_key space id)) under) ∙ tied in
                let apart : (space == index.space.0) ≡ false = sym (of_its_space space entry index under) ∙ of in
                absurd (true≢false (sym both ∙ ap (λ b. b && (id == index.def.id.0)) apart))
            by_tie false apart found = later found none
