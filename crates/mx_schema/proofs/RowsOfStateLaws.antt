-- The catalogue that the rows of a state make is that of the state.
use Rattle.std.proofs.Common.{◌≡◌, ℕ, suc, Bool, true, false, cond, ◌&&◌, T, List, [], ◌∷◌, ◌++◌, map, Option, Some, None, Result, Ok, Err, inl, inr, refl, sym, ap, ◌∙◌, subst, append_assoc}
use Rattle.std.specs.Prelude.{⊤, nat_lt}
use Rattle.std.specs.Cmp.{nat_cmp_total}
use Rattle.std.specs.FinMap as finite
use Rattle.std.specs.FinMap.{empty, entries_sorted, find, get, get-empty, get-entries, get-insert}
use Rattle.std.specs.FinMap.Entries.{below_all, is_sorted}
use Rattle.std.specs.List.{AllByRecursion, filter}
use Rattle.std.specs.Option.{option_map, unwrap_or}
use Rattle.std.specs.Ordering.{eq_by_cmp, is_eq, is_lt, nat_cmp}
use Rattle.std.specs.declared.cmp.Ordering.{Ordering}
use Rattle.std.specs.declared.cmp.Ordering.TheVariants.{Less, Equal, Greater}
use Rattle.std.proofs.lemmas.List.{append-nil}
use Rattle.mx_key.specs.Keys.{Key, is_key_prefix, key_cmp}
use Rattle.mx_key.specs.Parts.{key_of}
use Rattle.mx_msgpack.specs.Items.{items_of}
use Rattle.mx_msgpack.specs.Readers.{◌>>=◌}
use Rattle.mx_schema.specs.declared.index_def.IndexDef.{IndexDef}
use Rattle.mx_schema.specs.declared.index_def.IndexRow.{IndexRow}
use Rattle.mx_schema.specs.declared.schema.Schema.{Schema}
use Rattle.mx_schema.specs.declared.space_def.SpaceDef.{SpaceDef}
use Rattle.mx_schema.specs.Bootstrap.{part_of_numbers}
use Rattle.mx_schema.specs.Catalogues.{Catalogue, IsCatalogueOf, StandByKey, index_defs, indexes_of, schema_by, schema_of, with_index}
use Rattle.mx_schema.specs.IndexRows.{index_in, index_of_fields}
use Rattle.mx_schema.specs.SchemaChanges.{IndexRowStands, RowsStand}
use Rattle.mx_schema.specs.SpaceRows.{space_in, space_of_fields}
use Rattle.mx_schema.specs.SchemaChecks.{IsMade, JudgesIndex, JudgesSpace, RowFault, RowsMake, indexes_with, with_index_on, with_index_row, with_space}
use Rattle.mx_schema.specs.State.{State, index_rows, key_in, space_rows, tuples_in}
use Rattle.mx_schema.proofs.KeyedLaws.{key_of_one, key_of_two, number_ties, one_key, one_key_ties, prefix_ties, second_rises, two_key}
use Rattle.mx_schema.proofs.KeptLaws.{index_described, index_numbers_first, space_described, space_number_first}

abbrev pub Row : Type 0
Row = Key × List ℕ

pub first_of : (a b : Bool) → T (a && b) → T a
first_of true b h = tt
first_of false b h = absurd h

pub second_of : (a b : Bool) → T (a && b) → T b
second_of true b h = h
second_of false b h = absurd h

same_made : (x y : Catalogue) → ◌≡◌ {A = Result Catalogue RowFault} (Ok x) (Ok y) → x ≡ y
same_made x y e = cc

never_made : (x : Catalogue) (fault : RowFault) → ◌≡◌ {A = Result Catalogue RowFault} (Ok x) (Err fault) → ⊥
never_made x fault e = cc

-- ---- keys of rows that describe something

pub space_key : (row : List ℕ) (key : Key) (def : SpaceDef) → space_in row ≡ Some def → key_in (part_of_numbers 0 ∷ []) row ≡ Ok key → key ≡ one_key def.id.0
unfolding space_in
space_key row key def e k = by_items (items_of row) e k
  where
    by_items : (items : Option (List (List ℕ))) → (items >>= space_of_fields) ≡ Some def → key_of (part_of_numbers 0 ∷ []) (unwrap_or items []) ≡ Ok key → key ≡ one_key def.id.0
    by_items None e k = absurd cc
    by_items (Some fields) e k =
        let f = space_number_first fields def e in
        key_of_one f.0 f.1 def.id.0 key f.3 (ap (key_of (part_of_numbers 0 ∷ [])) (sym f.2) ∙ k)

pub index_key : (row : List ℕ) (key : Key) (index : IndexRow) → index_in row ≡ Some index → key_in (part_of_numbers 0 ∷ part_of_numbers 1 ∷ []) row ≡ Ok key
    → key ≡ two_key index.space.0 index.def.id.0
unfolding index_in
index_key row key index e k = by_items (items_of row) e k
  where
    by_items : (items : Option (List (List ℕ))) → (items >>= index_of_fields) ≡ Some index → key_of (part_of_numbers 0 ∷ part_of_numbers 1 ∷ []) (unwrap_or items []) ≡ Ok key
        → key ≡ two_key index.space.0 index.def.id.0
    by_items None e k = absurd cc
    by_items (Some fields) e k =
        let f = index_numbers_first fields index e in
        key_of_two f.0 f.1 f.2 index.space.0 index.def.id.0 key f.4 f.5 (ap (key_of (part_of_numbers 0 ∷ part_of_numbers 1 ∷ [])) (sym f.3) ∙ k)

-- ---- spaces

less_apart : (o : Ordering) (b : Bool) → T (is_lt o && b) → is_eq o ≡ false
less_apart Less b h = refl
less_apart Equal b h = absurd h
less_apart Greater b h = refl

find_below : {K X : Type 0} (R : K → K → Ordering) (k : K) (es : List (K × X)) → T (below_all R k es) → find R k es ≡ None
find_below R k [] h = refl
find_below R k (e ∷ es) h =
    ap (λ b. cond b (Some e.1) (find R k es)) (less_apart (R k e.0) (below_all R k es) h) ∙ find_below R k es (second_of (is_lt (R k e.0)) (below_all R k es) h)

-- a space in the place of what was there
abbrev over : Option SpaceDef → Option Schema → Option Schema
over None old = old
over (Some def) old = Some (record { def = def; indexes = [] })

spaces_kept : (es : List Row) (place : ℕ) (before catalogue : Catalogue) → T (is_sorted key_cmp es) → AllByRecursion (λ e. key_in (part_of_numbers 0 ∷ []) e.1 ≡ Ok e.0) es
    → RowsMake JudgesSpace with_space place (map (λ e. e.1) es) before (Ok catalogue)
    → (q : ℕ) → get catalogue q ≡ over (find key_cmp (one_key q) es >>= space_in) (get before q)
spaces_kept [] place before catalogue sorted keyed made q = ap (λ (c : Catalogue). get c q) (same_made catalogue before made)
spaces_kept (e ∷ es) place before catalogue sorted keyed (inl (refusal, judged, is)) q = absurd (never_made catalogue (record { place = place; refusal = refusal }) is)
spaces_kept (e ∷ es) place before catalogue sorted keyed (inr (def, judged, made)) q =
    let described = space_described before e.1 def judged in
    let key = space_key e.1 e.0 def described keyed.0 in
    let tie : eq_by_cmp key_cmp (one_key q) e.0 ≡ eq_by_cmp nat_cmp q def.id.0 = ap (eq_by_cmp key_cmp (one_key q)) key ∙ one_key_ties q def.id.0 in
    let below = first_of (below_all key_cmp e.0 es) (is_sorted key_cmp es) sorted in
    spaces_kept es (suc place) (with_space before def) catalogue (second_of (below_all key_cmp e.0 es) (is_sorted key_cmp es) sorted) keyed.1 made q
    ∙ ap (over (find key_cmp (one_key q) es >>= space_in)) (get-insert nat_cmp_total before def.id.0 (record { def = def; indexes = [] }) q)
    ∙ joined (eq_by_cmp nat_cmp q def.id.0) described
    (λ tied. ap (λ (k : Key). find key_cmp k es) (ap one_key (number_ties q def.id.0 tied) ∙ sym key) ∙ find_below key_cmp e.0 es below)
    ∙ ap (λ b. over (cond b (Some e.1) (find key_cmp (one_key q) es) >>= space_in) (get before q)) (sym tie)
  where
    joined : (b : Bool) → space_in e.1 ≡ Some def → (b ≡ true → find key_cmp (one_key q) es ≡ None)
        → over (find key_cmp (one_key q) es >>= space_in) (cond b (Some (record { def = def; indexes = [] })) (get before q))
        ≡ over (cond b (Some e.1) (find key_cmp (one_key q) es) >>= space_in) (get before q)
    joined true described none =
        ap (λ (o : Option (List ℕ)). over (o >>= space_in) (Some (record { def = def; indexes = [] }))) (none refl) ∙ ap (λ (o : Option SpaceDef). over o (get before q)) (sym described)
    joined false described none = refl

-- ---- indexes

abbrev with_def : IndexDef → Schema → Schema
with_def def schema = record { def = schema.def; indexes = indexes_with def schema.indexes }

abbrev all_defs : List IndexDef → Schema → Schema
all_defs [] schema = schema
all_defs (def ∷ defs) schema = all_defs defs (with_def def schema)

abbrev pub of_space : (q : ℕ) → Row → Bool
of_space q e = is_key_prefix (one_key q) e.0

index_put_at : (c : Catalogue) (row : IndexRow) (q : ℕ)
    → get (with_index_row c row) q ≡ cond (eq_by_cmp nat_cmp q row.space.0) (option_map (with_def row.def) (get c q)) (get c q)
index_put_at c row q = by_found (get c row.space.0) refl
  where
    missing : (b : Bool) → (b ≡ true → get c q ≡ None) → get c q ≡ cond b (option_map (with_def row.def) (get c q)) (get c q)
    missing true none = none refl ∙ ap (option_map (with_def row.def)) (sym (none refl))
    missing false none = refl

    there : (b : Bool) (schema : Schema) → (b ≡ true → get c q ≡ Some schema) → cond b (Some (with_def row.def schema)) (get c q) ≡ cond b (option_map (with_def row.def) (get c q)) (get c q)
    there true schema found = ap (option_map (with_def row.def)) (sym (found refl))
    there false schema found = refl

    by_found : (found : Option Schema) → get c row.space.0 ≡ found
        → get (with_index_on c row found) q ≡ cond (eq_by_cmp nat_cmp q row.space.0) (option_map (with_def row.def) (get c q)) (get c q)
    by_found None none = missing (eq_by_cmp nat_cmp q row.space.0) (λ tied. ap (get c) (number_ties q row.space.0 tied) ∙ none)
    by_found (Some schema) found =
        get-insert nat_cmp_total c row.space.0 (with_def row.def schema) q
        ∙ there (eq_by_cmp nat_cmp q row.space.0) schema (λ tied. ap (get c) (number_ties q row.space.0 tied) ∙ found)

indexes_kept : (es : List Row) (place : ℕ) (before catalogue : Catalogue) → AllByRecursion (λ e. key_in (part_of_numbers 0 ∷ part_of_numbers 1 ∷ []) e.1 ≡ Ok e.0) es
    → RowsMake JudgesIndex with_index_row place (map (λ e. e.1) es) before (Ok catalogue)
    → (q : ℕ) → get catalogue q ≡ option_map (all_defs (index_defs (filter (of_space q) es))) (get before q)
indexes_kept [] place before catalogue keyed made q = ap (λ (c : Catalogue). get c q) (same_made catalogue before made) ∙ unchanged (get before q)
  where
    unchanged : (o : Option Schema) → o ≡ option_map (all_defs []) o
    unchanged None = refl
    unchanged (Some schema) = refl
indexes_kept (e ∷ es) place before catalogue keyed (inl (refusal, judged, is)) q = absurd (never_made catalogue (record { place = place; refusal = refusal }) is)
indexes_kept (e ∷ es) place before catalogue keyed (inr (index, judged, made)) q =
    let described = index_described before e.1 index judged in
    let key = index_key e.1 e.0 index described keyed.0 in
    let tie : of_space q e ≡ eq_by_cmp nat_cmp q index.space.0 = ap (is_key_prefix (one_key q)) key ∙ prefix_ties q index.space.0 index.def.id.0 in
    indexes_kept es (suc place) (with_index_row before index) catalogue keyed.1 made q
    ∙ ap (option_map (all_defs (index_defs (filter (of_space q) es)))) (index_put_at before index q)
    ∙ joined (eq_by_cmp nat_cmp q index.space.0) described
    ∙ ap (λ b. option_map (all_defs (index_defs (cond b (e ∷ filter (of_space q) es) (filter (of_space q) es)))) (get before q)) (sym tie)
  where
    twice : (defs : List IndexDef) (o : Option Schema) → option_map (all_defs defs) (option_map (with_def index.def) o) ≡ option_map (all_defs (index.def ∷ defs)) o
    twice defs None = refl
    twice defs (Some schema) = refl

    joined : (b : Bool) → index_in e.1 ≡ Some index
        → option_map (all_defs (index_defs (filter (of_space q) es))) (cond b (option_map (with_def index.def) (get before q)) (get before q))
        ≡ option_map (all_defs (index_defs (cond b (e ∷ filter (of_space q) es) (filter (of_space q) es)))) (get before q)
    joined true described =
        twice (index_defs (filter (of_space q) es)) (get before q)
        ∙ ap (λ (o : Option IndexRow). option_map (all_defs (with_index o (index_defs (filter (of_space q) es)))) (get before q)) (sym described)
    joined false described = refl

-- ---- the indexes of a space stand in order

index_entries : (es : List Row) (place : ℕ) (before catalogue : Catalogue) → AllByRecursion (λ e. key_in (part_of_numbers 0 ∷ part_of_numbers 1 ∷ []) e.1 ≡ Ok e.0) es
    → RowsMake JudgesIndex with_index_row place (map (λ e. e.1) es) before (Ok catalogue) → AllByRecursion IndexRowStands es
index_entries [] place before catalogue keyed made = tt
index_entries (e ∷ es) place before catalogue keyed (inl (refusal, judged, is)) = absurd (never_made catalogue (record { place = place; refusal = refusal }) is)
index_entries (e ∷ es) place before catalogue keyed (inr (index, judged, made)) =
    let described = index_described before e.1 index judged in
    ((index, described, index_key e.1 e.0 index described keyed.0), index_entries es (suc place) (with_index_row before index) catalogue keyed.1 made)

-- no later one has a smaller number
abbrev NoneBelow : IndexDef → List IndexDef → Type 0
NoneBelow def defs = AllByRecursion (λ other. nat_lt other.id.0 def.id.0 ≡ false) defs

abbrev Rise : List IndexDef → Type 0
Rise [] = ⊤
Rise (def ∷ defs) = NoneBelow def defs × Rise defs

none_below : (q : ℕ) (key : Key) (def : IndexDef) (es : List Row) → key ≡ two_key q def.id.0 → T (below_all key_cmp key es) → AllByRecursion IndexRowStands es
    → NoneBelow def (index_defs (filter (of_space q) es))
none_below q key def [] is below all = tt
none_below q key def (e ∷ es) is below all =
    by_test (of_space q e) refl (none_below q key def es is (second_of (is_lt (key_cmp key e.0)) (below_all key_cmp key es) below) all.1)
  where
    by_test : (b : Bool) → of_space q e ≡ b → NoneBelow def (index_defs (filter (of_space q) es)) → NoneBelow def (index_defs (cond b (e ∷ filter (of_space q) es) (filter (of_space q) es)))
    by_test true of others =
        let index = all.0.0 in
        let tied : eq_by_cmp nat_cmp q index.space.0 ≡ true = sym (prefix_ties q index.space.0 index.def.id.0) ∙ ap (is_key_prefix (one_key q)) (sym all.0.2) ∙ of in
        let here : e.0 ≡ two_key q index.def.id.0 = all.0.2 ∙ ap (λ n. two_key n index.def.id.0) (sym (number_ties q index.space.0 tied)) in
        let less = subst (λ (k : Key). T (is_lt (key_cmp (two_key q def.id.0) k))) here
        (subst (λ (k : Key). T (is_lt (key_cmp k e.0))) is (first_of (is_lt (key_cmp key e.0)) (below_all key_cmp key es) below)) in
        subst (λ (o : Option IndexRow). NoneBelow def (with_index o (index_defs (filter (of_space q) es)))) (sym all.0.1) (second_rises q def.id.0 index.def.id.0 less, others)
    by_test false of others = others

rise : (q : ℕ) (es : List Row) → T (is_sorted key_cmp es) → AllByRecursion IndexRowStands es → Rise (index_defs (filter (of_space q) es))
rise q [] sorted all = tt
rise q (e ∷ es) sorted all = by_test (of_space q e) refl (rise q es (second_of (below_all key_cmp e.0 es) (is_sorted key_cmp es) sorted) all.1)
  where
    by_test : (b : Bool) → of_space q e ≡ b → Rise (index_defs (filter (of_space q) es)) → Rise (index_defs (cond b (e ∷ filter (of_space q) es) (filter (of_space q) es)))
    by_test true of others =
        let index = all.0.0 in
        let tied : eq_by_cmp nat_cmp q index.space.0 ≡ true = sym (prefix_ties q index.space.0 index.def.id.0) ∙ ap (is_key_prefix (one_key q)) (sym all.0.2) ∙ of in
        let here : e.0 ≡ two_key q index.def.id.0 = all.0.2 ∙ ap (λ n. two_key n index.def.id.0) (sym (number_ties q index.space.0 tied)) in
        subst (λ (o : Option IndexRow). Rise (with_index o (index_defs (filter (of_space q) es)))) (sym all.0.1)
        (none_below q e.0 index.def es here (first_of (below_all key_cmp e.0 es) (is_sorted key_cmp es) sorted) all.1, others)
    by_test false of others = others

-- ---- so each is put behind those before it

abbrev NoneAbove : IndexDef → List IndexDef → Type 0
NoneAbove def defs = AllByRecursion (λ other. nat_lt def.id.0 other.id.0 ≡ false) defs

put_last : (def : IndexDef) (defs : List IndexDef) → NoneAbove def defs → indexes_with def defs ≡ defs ++ def ∷ []
put_last def [] none = refl
put_last def (other ∷ others) none = ap (λ b. cond b (def ∷ other ∷ others) (other ∷ indexes_with def others)) none.0 ∙ ap (λ l. other ∷ l) (put_last def others none.1)

push_none : (def last : IndexDef) (defs : List IndexDef) → NoneAbove def defs → nat_lt def.id.0 last.id.0 ≡ false → NoneAbove def (defs ++ last ∷ [])
push_none def last [] none e = (e, tt)
push_none def last (other ∷ others) none e = (none.0, push_none def last others none.1 e)

abbrev Follow : (so_far : List IndexDef) → List IndexDef → Type 0
Follow so_far defs = AllByRecursion (λ def. NoneAbove def so_far) defs

follow_more : (so_far defs : List IndexDef) (last : IndexDef) → Follow so_far defs → NoneBelow last defs → Follow (so_far ++ last ∷ []) defs
follow_more so_far [] last follow below = tt
follow_more so_far (def ∷ defs) last follow below = (push_none def last so_far follow.0 below.0, follow_more so_far defs last follow.1 below.1)

abbrev schema_with : SpaceDef → List IndexDef → Schema
schema_with def indexes = record { def = def; indexes = indexes }

put_all_last : (space : SpaceDef) (so_far defs : List IndexDef) → Follow so_far defs → Rise defs → all_defs defs (schema_with space so_far) ≡ schema_with space (so_far ++ defs)
put_all_last space so_far [] follow rises = ap (schema_with space) (sym (append-nil so_far))
put_all_last space so_far (def ∷ defs) follow rises =
    ap (λ (l : List IndexDef). all_defs defs (schema_with space l)) (put_last def so_far follow.0)
    ∙ put_all_last space (so_far ++ def ∷ []) defs (follow_more so_far defs def follow.1 rises.0) rises.1
    ∙ ap (schema_with space) (append_assoc so_far (def ∷ []) defs)

follow_none : (defs : List IndexDef) → Follow [] defs
follow_none [] = tt
follow_none (def ∷ defs) = (tt, follow_none defs)

-- ---- both

pub state_catalogue : (state : State) (catalogue : Catalogue) → StandByKey (part_of_numbers 0 ∷ []) (tuples_in state space_rows)
    → StandByKey (part_of_numbers 0 ∷ part_of_numbers 1 ∷ []) (tuples_in state index_rows)
    → IsMade (finite.values (tuples_in state space_rows)) (finite.values (tuples_in state index_rows)) (Ok catalogue) → IsCatalogueOf catalogue state
unfolding schema_of
state_catalogue state catalogue spaces_stand indexes_stand (Err fault, spaces, indexes) q = absurd (never_made catalogue fault indexes)
state_catalogue state catalogue spaces_stand indexes_stand (Ok middle, spaces, indexes) q =
    let tuples = tuples_in state space_rows in
    let rows = tuples_in state index_rows in
    indexes_kept (finite.entries rows) _ middle catalogue indexes_stand indexes q
    ∙ ap (option_map (all_defs (indexes_of state q)))
    (spaces_kept (finite.entries tuples) 0 empty middle (entries_sorted tuples) spaces_stand spaces q
    ∙ ap (over (find key_cmp (one_key q) (finite.entries tuples) >>= space_in)) (get-empty nat_cmp q)
    ∙ ap (λ (o : Option (List ℕ)). over (o >>= space_in) None) (sym (get-entries tuples (one_key q))))
    ∙ by_def (get tuples (one_key q) >>= space_in) (rise q (finite.entries rows) (entries_sorted rows) (index_entries (finite.entries rows) _ middle catalogue indexes_stand indexes))
  where
    by_def : (def : Option SpaceDef) → Rise (indexes_of state q) → option_map (all_defs (indexes_of state q)) (over def None) ≡ schema_by state q def
    by_def None rises = refl
    by_def (Some def) rises = ap Some (put_all_last def [] (indexes_of state q) (follow_none (indexes_of state q)) rises)

-- and the rows of indexes stand under their numbers
pub made_rows_stand : (state : State) (catalogue : Catalogue) → StandByKey (part_of_numbers 0 ∷ part_of_numbers 1 ∷ []) (tuples_in state index_rows)
    → IsMade (finite.values (tuples_in state space_rows)) (finite.values (tuples_in state index_rows)) (Ok catalogue) → RowsStand state
made_rows_stand state catalogue stand (Err fault, spaces, indexes) = absurd (never_made catalogue fault indexes)
made_rows_stand state catalogue stand (Ok middle, spaces, indexes) = index_entries (finite.entries (tuples_in state index_rows)) _ middle catalogue stand indexes
