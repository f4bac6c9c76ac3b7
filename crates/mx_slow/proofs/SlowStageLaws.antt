-- What the stages of a write read, as the plain slow program adds it up.
use Rattle.std.proofs.Common.{◌≡◌, ◌⊎◌, inl, inr, ℕ, Bool, true, false, List, [], ◌∷◌, ◌++◌, length, Option, Some, None, Result, Ok, Err, refl, sym, ap, ◌∙◌, subst, append-nil, append_assoc}
use Rattle.std.specs.Prelude.{IfOk, MatchResult, nat_lt, ◌||◌, if◌then◌else◌}
use Rattle.std.specs.FinMap.{get}
use Rattle.std.proofs.lemmas.List.{map-append}
use Rattle.mx_base.specs.declared.ids.SpaceId.{SpaceId}
use Rattle.mx_base.specs.declared.refusal.Refusal.{Refusal}
use Rattle.mx_base.specs.declared.refusal.Refusal.TheVariants.{IndexMissing, IndexNotUnique, OutOfMemory, SpaceMissing, TransactionTooLong}
use Rattle.mx_key.specs.Arrays.{key_array}
use Rattle.mx_key.specs.Keys.{Key}
use Rattle.mx_msgpack.proofs.Options.{same_some}
use Rattle.mx_schema.specs.declared.index_def.IndexDef.{IndexDef}
use Rattle.mx_schema.specs.declared.schema.Schema.{Schema}
use Rattle.mx_schema.specs.Catalogues.{index_with, schema_of}
use Rattle.mx_schema.specs.Picks.{Indexed}
use Rattle.mx_schema.specs.State.{State, tuples_in}
use Rattle.mx_row.specs.declared.row.Row.{Row}
use Rattle.mx_row.specs.Rows.{delete_type, max_body_size, row_body_text}
use Rattle.mx_write.specs.declared.writable.Writer.TheVariants.{Client}
use Rattle.mx_write.specs.Checks.{tuple_fault}
use Rattle.mx_write.specs.Delete.{delete_found}
use Rattle.mx_write.specs.Descriptions.{description_fault, drop_fault, new_index_fault}
use Rattle.mx_write.specs.Insert.{inserts_taken}
use Rattle.mx_write.specs.Judged.{Judged, found, found_or, judged_as, next_stage, reads_of, stopped, unless, ◌>>=◌}
use Rattle.mx_write.specs.Lookup.{all_indexes, entry_with, holder_of, is_unique, other_indexes, own_key, the_index, the_key, the_primary, the_unique_index, unless_unique}
use Rattle.mx_write.specs.Made.{Made, made, nothing, row_with}
use Rattle.mx_write.specs.Stages.{IsRefusedBy}
use Rattle.mx_write.specs.Reads.{Read, index_read, key_read, space_read}
use Rattle.mx_write.specs.Unique.{are_free, duplicate, is_another, is_free}
use Rattle.mx_write.specs.Update.{key_change, put_in_place}
use Rattle.mx_write.specs.Writable.{write_refusal}
use Rattle.mx_write.specs.Writes.{Write, Delete, Insert}
use Rattle.mx_write.proofs.UniqueLaws.{holder_is, number_is}
use Rattle.mx_slow.specs.declared.read_ranges.ReadRange.{ReadRange}
use Rattle.mx_slow.specs.SlowReads.{read_view, reads_view}
use Rattle.mx_slow.specs.SlowReadSteps.{AddsUpTo, HasAdded, StopsAfter}
use Rattle.mx_slow.specs.SlowTouches.{AreFitReads}
use Rattle.mx_slow_state.specs.SlowWrites.{in_writable}
use Rattle.mx_slow.proofs.ReadFitLaws.{fit_both}

-- ---- what is added

module _ (old mid new : List ReadRange) (rest whole : List Read) (upto : AddsUpTo old mid rest whole) where
  -- the last ones
  pub added_all : (so_far : List Read) → rest ≡ so_far → HasAdded mid new so_far → HasAdded old new whole
  added_all so_far is (adds, fit) = (adds ∙ ap (λ r. mid ++ reads_view r) (sym is) ∙ upto.0, upto.1 (subst AreFitReads (sym is) fit))

  -- none was left
  pub added_none : new ≡ mid → rest ≡ [] → HasAdded old new whole
  added_none same is = (same ∙ sym (append-nil mid) ∙ ap (λ r. mid ++ reads_view r) (sym is) ∙ upto.0, upto.1 (subst AreFitReads (sym is) tt))

  -- some, and others are left
  pub adds_on : (so_far later : List Read) → rest ≡ so_far ++ later → HasAdded mid new so_far → AddsUpTo old new later whole
  adds_on so_far later is (adds, fit) = (
    ap (λ l. l ++ reads_view later) adds ∙ append_assoc mid (reads_view so_far) (reads_view later) ∙ ap (λ l. mid ++ l) (sym (map-append read_view so_far later))
        ∙ ap (λ r. mid ++ reads_view r) (sym is) ∙ upto.0,
    λ fits. upto.1 (subst AreFitReads (sym is) (fit_both so_far later fit fits)),
  )

-- as a call tells it that adds them
abbrev pub Told : {X : Type 0} → Result X Refusal → (old new : List ReadRange) → (whole : List Read) → Type 0
Told result old new whole = MatchResult result (λ _. HasAdded old new whole) (λ why. StopsAfter why old new whole)

pub told_all : {X : Type 0} (result : Result X Refusal) (old mid new : List ReadRange) (rest whole : List Read) → AddsUpTo old mid rest whole → Told result mid new rest → Told result old new whole
told_all (Ok x) old mid new rest whole upto told = added_all old mid new rest whole upto rest refl told
told_all (Err why) old mid new rest whole upto (inl told) = inl (added_all old mid new rest whole upto rest refl told)
told_all (Err why) old mid new rest whole upto (inr none) = inr none

-- nothing was to be added
pub none_added : (old : List ReadRange) (whole : List Read) → whole ≡ [] → HasAdded old old whole
none_added old whole is = (sym (append-nil old) ∙ ap (λ r. old ++ reads_view r) (sym is), subst AreFitReads (sym is) tt)

-- a stage stops, or memory ran out
pub by_refusal : (why : Refusal) (A B : Type 0) → (A → B) → A ⊎ (why ≡ OutOfMemory) → B ⊎ (why ≡ OutOfMemory)
by_refusal why A B follows (inl a) = inl (follows a)
by_refusal why A B follows (inr none) = inr none

-- it stops, and memory didn't run out
pub stopped_known : (why : Refusal) (old new : List ReadRange) (whole : List Read) → StopsAfter why old new whole → (why ≡ OutOfMemory → ⊥) → HasAdded old new whole
stopped_known why old new whole (inl added) known = added
stopped_known why old new whole (inr none) known = absurd (known none)

-- ---- one stage after another

module _ {X Y : Type 0} (judged : Judged X) (stage : X → Judged Y) where
  pub reads_on : (x : X) → judged.outcome ≡ Ok x → (judged >>= stage).reads ≡ judged.reads ++ (stage x).reads
  reads_on x is = ap (λ outcome. (next_stage judged.reads outcome stage).reads) is

  pub reads_end : (why : Refusal) → judged.outcome ≡ Err why → (judged >>= stage).reads ≡ judged.reads
  reads_end why is = ap (λ outcome. (next_stage judged.reads outcome stage).reads) is

  -- later stages read nothing
  pub reads_no_more : ((x : X) → (stage x).reads ≡ []) → (judged >>= stage).reads ≡ judged.reads
  reads_no_more none = by_outcome judged.outcome
    where
      by_outcome : (outcome : Result X Refusal) → (next_stage judged.reads outcome stage).reads ≡ judged.reads
      by_outcome (Ok x) = ap (λ l. judged.reads ++ l) (none x) ∙ append-nil judged.reads
      by_outcome (Err why) = refl

-- a test that passes
pub passed_reads : {X : Type 0} (fault : Option Refusal) (rest : Judged X) → fault ≡ None → (unless fault >>= λ _. rest).reads ≡ rest.reads
passed_reads fault rest none = ap (λ f. (unless f >>= λ _. rest).reads) none

-- two results, without a read
module _ {X Y Z : Type 0} (first : Result X Refusal) (second : X → Result Y Refusal) (last : Y → Judged Z) where
  pub results_stop : (why : Refusal) → (judged_as first >>= λ x. judged_as (second x)).outcome ≡ Err why → (judged_as first >>= λ x. judged_as (second x) >>= last).reads ≡ []
  results_stop why = by_first first
    where
      by_first : (first : Result X Refusal) → (judged_as first >>= λ x. judged_as (second x)).outcome ≡ Err why → (judged_as first >>= λ x. judged_as (second x) >>= last).reads ≡ []
      by_first (Err other) e = refl
      by_first (Ok x) e = ap (λ o. (next_stage [] o last).reads) e

  pub results_go_on : (y : Y) → (judged_as first >>= λ x. judged_as (second x)).outcome ≡ Ok y → (judged_as first >>= λ x. judged_as (second x) >>= last).reads ≡ (last y).reads
  results_go_on y = by_first first
    where
      by_first : (first : Result X Refusal) → (judged_as first >>= λ x. judged_as (second x)).outcome ≡ Ok y → (judged_as first >>= λ x. judged_as (second x) >>= last).reads ≡ (last y).reads
      by_first (Err other) e = absurd cc
      by_first (Ok x) e = ap (λ o. (next_stage [] o last).reads) e

-- what a write makes reads nothing
pub made_reads : (space : ℕ) (write : Write) (key : Key) (tuple : Option (List ℕ)) (shown : List (List ℕ)) → (made space write key tuple shown).reads ≡ []
made_reads space write key tuple shown = by_test (nat_lt max_body_size (length (row_body_text row)))
  where
    row : Row
    row = row_with space write (key_array key)

    by_test : (long : Bool)
        → (if long then stopped {X = Made} TransactionTooLong else found (record { row = Some row; change = Some (record { space = space; key = key; tuple = tuple }); shown = shown })).reads ≡ []
    by_test true = refl
    by_test false = refl

-- a test reads nothing
pub unless_reads : (fault : Option Refusal) → (unless fault).reads ≡ []
unless_reads None = refl
unless_reads (Some why) = refl

-- ---- the space

module _ (before : State) (space type : ℕ) (named : Option (List ℕ)) where
  abbrev writable : (Schema → Judged Made) → Judged Made
  writable rest = in_writable before space type named rest

  abbrev writable_by : Option Schema → Option Refusal → (Schema → Judged Made) → Judged Made
  writable_by schema refusal rest = do
    schema ← reads_of (space_read space ∷ []) >>= λ _. found_or (SpaceMissing (record { 0 = space })) schema
    _ ← unless refusal
    rest schema

  reads_where_refused : (schema : Option Schema) (refusal : Option Refusal) (why : Refusal) → (writable_by schema refusal (λ _. found nothing)).outcome ≡ Err why
      → (rest : Schema → Judged Made) → (writable_by schema refusal rest).reads ≡ space_read space ∷ []
  reads_where_refused None refusal why e rest = refl
  reads_where_refused (Some schema) (Some refusal) why e rest = refl
  reads_where_refused (Some schema) None why e rest = absurd cc

  reads_where_taken : (there : Option Schema) (refusal : Option Refusal) (schema : Schema) → there ≡ Some schema → (writable_by there refusal (λ _. found nothing)).outcome ≡ Ok nothing
      → (rest : Schema → Judged Made) → (writable_by there refusal rest).reads ≡ space_read space ∷ (rest schema).reads
  reads_where_taken None refusal schema is e rest = absurd cc
  reads_where_taken (Some other) (Some refusal) schema is e rest = absurd cc
  reads_where_taken (Some other) None schema is e rest = ap (λ s. space_read space ∷ (rest s).reads) (same_some other schema is)

  module _ (old new : List ReadRange) (adds : HasAdded old new (space_read space ∷ [])) where
    -- it isn't there, or can't be written so
    writable_stops : (why : Refusal) → ((rest : Schema → Judged Made) → IsRefusedBy why (writable rest)) → (rest : Schema → Judged Made) → StopsAfter why old new (writable rest).reads
    writable_stops why refuses rest = by_refusal (refuses (λ _. found nothing))
      where
        by_refusal : IsRefusedBy why (writable (λ _. found nothing)) → StopsAfter why old new (writable rest).reads
        by_refusal (inl e) =
            let is = sym (reads_where_refused (schema_of before space) (write_refusal Client space type named) why e rest) in
            inl (adds.0 ∙ ap (λ r. old ++ reads_view r) is, subst AreFitReads is adds.1)
        by_refusal (inr none) = inr none

    -- it is there, and can
    writable_goes_on : (schema : Schema) → schema_of before space ≡ Some schema → ((rest : Schema → Judged Made) → (writable rest).outcome ≡ (rest schema).outcome)
        → (rest : Schema → Judged Made) → AddsUpTo old new (rest schema).reads (writable rest).reads
    writable_goes_on schema is reaches rest =
        let same = sym (reads_where_taken (schema_of before space) (write_refusal Client space type named) schema is (reaches (λ _. found nothing)) rest) in (
          ap (λ l. l ++ reads_view (rest schema).reads) adds.0 ∙ append_assoc old (read_view (space_read space) ∷ []) (reads_view (rest schema).reads)
              ∙ ap (λ r. old ++ reads_view r) same,
          λ fits. subst AreFitReads same (adds.1.0, fits),
        )

    -- as a call tells it that gives the space
    pub writable_told : {A : Type 0} (schema_in : A → Schema) (P : A → Type 0) → ((one : A) → P one → schema_of before space ≡ Some (schema_in one)) → (result : Result A Refusal)
        → ((rest : Schema → Judged Made) → MatchResult result (λ one. P one × ((writable rest).outcome ≡ (rest (schema_in one)).outcome)) (λ why. IsRefusedBy why (writable rest)))
        → (rest : Schema → Judged Made)
        → MatchResult result (λ one. P one × AddsUpTo old new (rest (schema_in one)).reads (writable rest).reads) (λ why. StopsAfter why old new (writable rest).reads)
    writable_told schema_in P described (Ok one) told rest =
        let here = told (λ _. found nothing) in
        (here.0, writable_goes_on (schema_in one) (described one here.0) (λ other. (told other).1) rest)
    writable_told schema_in P described (Err why) told rest = writable_stops why told rest

-- ---- its primary index, and whether it takes the tuple

module _ (space : ℕ) (schema : Schema) (tuple : List ℕ) (rest : IndexDef → Judged Made) where
  abbrev pub of_index : Judged Made
  of_index = the_index space schema 0 >>= λ primary. unless (tuple_fault schema primary tuple) >>= λ _. rest primary

  abbrev by_index : Option IndexDef → Judged Made
  by_index there = do
    primary ← reads_of (index_read space ∷ []) >>= λ _. found_or (IndexMissing (record { 0 = 0 }) schema.def.name) there
    _ ← unless (tuple_fault schema primary tuple)
    rest primary

  pub index_missing_reads : index_with 0 schema.indexes ≡ None → of_index.reads ≡ index_read space ∷ []
  index_missing_reads none = ap (λ o. (by_index o).reads) none

  module _ (primary : IndexDef) (is : index_with 0 schema.indexes ≡ Some primary) where
    by_fault : (fault : Option Refusal) → tuple_fault schema primary tuple ≡ fault → of_index.reads ≡ index_read space ∷ (unless fault >>= λ _. rest primary).reads
    by_fault fault e = ap (λ o. (by_index o).reads) is ∙ ap (λ f. index_read space ∷ (unless f >>= λ _. rest primary).reads) e

    pub not_taken_reads : (why : Refusal) → tuple_fault schema primary tuple ≡ Some why → of_index.reads ≡ index_read space ∷ []
    not_taken_reads why = by_fault (Some why)

    pub taken_reads : tuple_fault schema primary tuple ≡ None → of_index.reads ≡ index_read space ∷ (rest primary).reads
    taken_reads = by_fault None

-- ---- a key of a unique index

module _ (before : State) (space index : ℕ) (key : List ℕ) (schema : Schema) (rest : IndexDef → Option Indexed → Judged Made) where
  abbrev after_key : IndexDef → IndexDef → Key → Judged Made
  after_key def primary asked = reads_of (key_read space index asked ∷ []) >>= λ _. rest primary (entry_with before space primary def asked)

  abbrev after_primary : IndexDef → IndexDef → Judged Made
  after_primary def primary = the_key def key >>= after_key def primary

  abbrev after_unique : IndexDef → Judged Made
  after_unique def = the_primary schema >>= after_primary def

  abbrev pub of_unique : Judged Made
  of_unique = the_unique_index space schema index >>= after_unique

  unique_index_reads : (the_unique_index space schema index).reads ≡ index_read space ∷ []
  unique_index_reads = by_def (index_with index schema.indexes)
    where
      by_test : (def : IndexDef) (unique : Bool)
          → (reads_of (index_read space ∷ []) >>= λ _. unless (if unique then None else Some (IndexNotUnique def.name schema.def.name)) >>= λ _. found def).reads ≡ index_read space ∷ []
      by_test def true = refl
      by_test def false = refl

      by_def : (there : Option IndexDef)
          → ((reads_of (index_read space ∷ []) >>= λ _. found_or (IndexMissing (record { 0 = index }) schema.def.name) there) >>= λ def. unless (unless_unique schema def) >>= λ _. found def).reads
          ≡ index_read space ∷ []
      by_def None = refl
      by_def (Some def) = by_test def (is_unique def)

  pub unique_refused_reads : (why : Refusal) → (the_unique_index space schema index).outcome ≡ Err why → of_unique.reads ≡ index_read space ∷ []
  unique_refused_reads why is = reads_end (the_unique_index space schema index) after_unique why is ∙ unique_index_reads

  module _ (def : IndexDef) (is : (the_unique_index space schema index).outcome ≡ Ok def) where
    at_unique : of_unique.reads ≡ index_read space ∷ (after_unique def).reads
    at_unique = reads_on (the_unique_index space schema index) after_unique def is ∙ ap (λ l. l ++ (after_unique def).reads) unique_index_reads

    by_primary : (there : Option IndexDef) → index_with 0 schema.indexes ≡ there
        → of_unique.reads ≡ index_read space ∷ (found_or (IndexMissing (record { 0 = 0 }) schema.def.name) there >>= after_primary def).reads
    by_primary there e = at_unique ∙ ap (λ o. index_read space ∷ (found_or (IndexMissing (record { 0 = 0 }) schema.def.name) o >>= after_primary def).reads) e

    module _ (primary : IndexDef) (there : index_with 0 schema.indexes ≡ Some primary) where
      pub key_asked_reads : (asked : Key) → (the_key def key).outcome ≡ Ok asked
          → of_unique.reads ≡ index_read space ∷ key_read space index asked ∷ (rest primary (entry_with before space primary def asked)).reads
      key_asked_reads asked e = by_primary (Some primary) there ∙ ap (λ l. index_read space ∷ l) (reads_on (the_key def key) (after_key def primary) asked e)

      -- a key that doesn't fit isn't read
      pub key_refused_reads : (why : Refusal) → (the_key def key).outcome ≡ Err why → of_unique.reads ≡ index_read space ∷ []
      key_refused_reads why e = by_primary (Some primary) there ∙ ap (λ l. index_read space ∷ l) (reads_end (the_key def key) (after_key def primary) why e)

-- ---- unique indexes

module _ (before : State) (space : ℕ) (schema : Schema) (primary : IndexDef) (replaced : Option Key) (tuple : List ℕ) where
  abbrev free : List IndexDef → Judged (Unit {0})
  free = are_free before space schema primary replaced tuple

  abbrev held : IndexDef → Bool
  held def = is_another primary replaced (holder_of before space def (own_key def tuple))

  abbrev read_of : IndexDef → Read
  read_of def = key_read space def.id.0 (own_key def tuple)

  abbrev free_by : IndexDef → (is_held : Bool) → Judged (Unit {0})
  free_by def is_held = reads_of (read_of def ∷ []) >>= λ _. unless (duplicate space schema def (holder_of before space def (own_key def tuple)) is_held)

  module _ (def : IndexDef) (others : List IndexDef) where
    by_unique : (unique : Bool) → is_unique def ≡ unique → (free (def ∷ others)).reads ≡ ((if unique then is_free before space schema primary replaced tuple def else found tt) >>= λ _. free others).reads
    by_unique unique e = ap (λ b. ((if b then is_free before space schema primary replaced tuple def else found tt) >>= λ _. free others).reads) e

    free_reads : is_unique def ≡ true → held def ≡ false → (free (def ∷ others)).reads ≡ read_of def ∷ (free others).reads
    free_reads unique e = by_unique true unique ∙ ap (λ b. (free_by def b >>= λ _. free others).reads) e

    held_reads : is_unique def ≡ true → held def ≡ true → (free (def ∷ others)).reads ≡ read_of def ∷ []
    held_reads unique e = by_unique true unique ∙ ap (λ b. (free_by def b >>= λ _. free others).reads) e

-- the primary one, of which an INSERT asks first
module _ (before : State) (space : ℕ) (schema : Schema) (primary : IndexDef) (tuple : List ℕ) (is : index_with 0 schema.indexes ≡ Some primary) (others : List IndexDef) where
  abbrev all : Judged (Unit {0})
  all = are_free before space schema primary None tuple (primary ∷ others)

  first_is_unique : is_unique primary ≡ true
  first_is_unique = ap (λ b. b || primary.unique) (number_is 0 schema.indexes primary is)

  pub primary_free : get (tuples_in before space) (own_key primary tuple) ≡ None
      → all.reads ≡ key_read space primary.id.0 (own_key primary tuple) ∷ (are_free before space schema primary None tuple others).reads
  primary_free none =
      free_reads before space schema primary None tuple primary others first_is_unique
      (ap (is_another primary None) (holder_is before space schema primary tuple is (own_key primary tuple) ∙ none))

  pub primary_held : (old : List ℕ) → get (tuples_in before space) (own_key primary tuple) ≡ Some old → all.reads ≡ key_read space primary.id.0 (own_key primary tuple) ∷ []
  primary_held old there =
      held_reads before space schema primary None tuple primary others first_is_unique
      (ap (is_another primary None) (holder_is before space schema primary tuple is (own_key primary tuple) ∙ there))

  -- as a call tells it that then asks of the other indexes
  pub primary_adds : {E : Type 0} (result : Result (Unit {0}) E) (old mid new : List ReadRange) → get (tuples_in before space) (own_key primary tuple) ≡ None
      → HasAdded old mid (key_read space primary.id.0 (own_key primary tuple) ∷ [])
      → IfOk result (λ _. HasAdded mid new (are_free before space schema primary None tuple others).reads) → IfOk result (λ _. HasAdded old new all.reads)
  primary_adds (Err why) old mid new none adds told = tt
  primary_adds (Ok x) old mid new none adds told =
      let rest = (are_free before space schema primary None tuple others).reads in (
        told.0 ∙ ap (λ l. l ++ reads_view rest) adds.0 ∙ append_assoc old (read_view (key_read space primary.id.0 (own_key primary tuple)) ∷ []) (reads_view rest)
            ∙ ap (λ r. old ++ reads_view r) (sym (primary_free none)),
        subst AreFitReads (sym (primary_free none)) (adds.1.0, told.1),
      )

-- ---- a write that ends with unique indexes

-- in the space that was asked for
module _ (at space : SpaceId) (same : at ≡ space) (old mid new : List ReadRange) (whole : List Read) where
  pub free_added : (free : ℕ → Judged (Unit {0})) (last : ℕ → Judged Made) → (last space.0).reads ≡ []
      → AddsUpTo old mid (free space.0 >>= λ _. last space.0).reads whole → HasAdded mid new (free at.0).reads → HasAdded old new whole
  free_added free last none upto =
      added_all old mid new (free space.0 >>= λ _. last space.0).reads whole upto (free at.0).reads
      (reads_no_more (free space.0) (λ _. last space.0) (λ _. none) ∙ ap (λ (s : SpaceId). (free s.0).reads) (sym same))

-- ---- an INSERT of a tuple that the space takes

module _ (before : State) (space : ℕ) (schema : Schema) (primary : IndexDef) (tuple : List ℕ) where
  abbrev pub insert_last : Judged Made
  insert_last = unless (new_index_fault before space tuple) >>= λ _. made space (Insert tuple) (own_key primary tuple) (Some tuple) (tuple ∷ [])

  -- the last stages read nothing
  insert_last_reads : insert_last.reads ≡ []
  insert_last_reads =
      reads_no_more (unless (new_index_fault before space tuple)) (λ _. made space (Insert tuple) (own_key primary tuple) (Some tuple) (tuple ∷ []))
      (λ _. made_reads space (Insert tuple) (own_key primary tuple) (Some tuple) (tuple ∷ []))
      ∙ unless_reads (new_index_fault before space tuple)

  abbrev insert_free : Judged (Unit {0})
  insert_free = are_free before space schema primary None tuple (all_indexes primary schema)

  -- a row that describes nothing is refused before another one is looked for
  pub insert_undescribed_reads : (why : Refusal) → description_fault before space tuple ≡ Some why → (inserts_taken before space schema primary tuple).reads ≡ []
  insert_undescribed_reads why is = ap (λ f. (unless f >>= λ _. insert_free >>= λ _. insert_last).reads) is

  pub insert_described_reads : description_fault before space tuple ≡ None → (inserts_taken before space schema primary tuple).reads ≡ insert_free.reads
  insert_described_reads none = passed_reads (description_fault before space tuple) (insert_free >>= λ _. insert_last) none ∙ reads_no_more insert_free (λ _. insert_last) (λ _. insert_last_reads)

-- ---- a tuple in the place of another one

module _ (before : State) (space : ℕ) (schema : Schema) (primary : IndexDef) (write : Write) (own : Key) (tuple : List ℕ) (shown : List (List ℕ)) where
  abbrev pub in_place : Judged Made
  in_place = put_in_place before space schema primary write own tuple shown

  abbrev place_free : Judged (Unit {0})
  place_free = are_free before space schema primary (Some own) tuple (other_indexes schema.indexes)

  abbrev place_by : (fault change : Option Refusal) → Judged Made
  place_by fault change = unless fault >>= λ _. unless change >>= λ _. place_free >>= λ _. made space write own (Some tuple) shown

  module _ (takes : tuple_fault schema primary tuple ≡ None) where
    pub key_changed_reads : (why : Refusal) → key_change schema (own_key primary tuple) own ≡ Some why → in_place.reads ≡ []
    key_changed_reads why e = (λ i. (place_by (takes i) (e i)).reads)

    pub key_kept_reads : key_change schema (own_key primary tuple) own ≡ None → in_place.reads ≡ place_free.reads
    key_kept_reads e =
        (λ i. (place_by (takes i) (e i)).reads)
        ∙ reads_no_more place_free (λ _. made space write own (Some tuple) shown) (λ _. made_reads space write own (Some tuple) shown)

-- ---- a tuple that is removed

pub delete_reads_no_more : (before : State) (space index : ℕ) (key : List ℕ) (entry : Option Indexed) → (delete_found Client before space index key entry).reads ≡ []
delete_reads_no_more before space index key None = refl
delete_reads_no_more before space index key (Some (own, old)) =
    let may = write_refusal Client space delete_type (Some old) in
    let goes = drop_fault before space old in
    let write = Delete index key in
    reads_no_more (unless may) (λ _. unless goes >>= λ _. made space write own None (old ∷ []))
    (λ _. reads_no_more (unless goes) (λ _. made space write own None (old ∷ [])) (λ _. made_reads space write own None (old ∷ [])) ∙ unless_reads goes) ∙ unless_reads may
