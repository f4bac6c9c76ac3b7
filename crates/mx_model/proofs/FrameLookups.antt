-- What a write looks up by keys is the same where what was touched has none of these keys.
use Rattle.std.proofs.Common.{◌≡◌, inl, inr, ℕ, List, [], ◌∷◌, ◌++◌, Option, Some, None, Result, Ok, Err, refl, sym, ap, ◌∙◌, subst, Bool, true, false, not, cond, eqb-true}
use Rattle.std.specs.Prelude.{◌==◌, if◌then◌else◌}
use Rattle.std.specs.FinMap.{empty, entries, get}
use Rattle.std.specs.List.{AllByRecursion}
use Rattle.std.specs.Option.{option_map}
use Rattle.std.specs.Result.{result_ok}
use Rattle.mx_msgpack.proofs.Options.{same_some}
use Rattle.mx_base.specs.declared.refusal.Refusal.{Refusal}
use Rattle.mx_base.specs.declared.refusal.Refusal.TheVariants.{SpaceMissing}
use Rattle.mx_schema.specs.declared.schema.Schema.{Schema}
use Rattle.mx_schema.specs.Catalogues.{schema_of, index_with}
use Rattle.mx_schema.specs.Sound.{IsSound}
use Rattle.mx_schema.specs.State.{State, key_in, tuples_in}
use Rattle.mx_write.specs.Judged.{Judged, found_or, next_stage, unless, ◌>>=◌, found, reads_of}
use Rattle.mx_write.specs.Lookup.{the_index, the_space, the_unique_index, entry_under, entry_with, holder_of, is_unique, other_indexes, own_key, primary_key_of, tuple_under}
use Rattle.mx_write.specs.Reads.{index_read, space_read, key_read}
use Rattle.mx_write.specs.Touches.{Touched, are_met}
use Rattle.mx_model.specs.Frame.{AgreeBut, AgreeAt}
use Rattle.mx_model.proofs.FrameTuples.{AreMissed, missed_both, missed_parts, found_alike}
use Rattle.mx_model.proofs.FrameCatalogue.{BothThere, schema_same, there_alike, alike_in, prefix_itself}
use Rattle.mx_key.specs.Keys.{Key}
use Rattle.mx_key.specs.Ranges.{prefix_range}
use Rattle.mx_schema.specs.declared.index_def.IndexDef.{IndexDef}
use Rattle.mx_schema.specs.Picks.{Indexed, indexed_with}
use Rattle.mx_schema.proofs.AloneLaws.{same_key}
use Rattle.mx_schema.proofs.DescribedLaws.{its_keyed}
use Rattle.mx_schema.proofs.SoundLaws.{sound_key}
use Rattle.mx_schema.proofs.StoredLaws.{primary_index}
use Rattle.mx_entries.proofs.IndexedLaws.{held_there}
use Rattle.mx_write.specs.Unique.{are_free, held_refusal, is_free, is_free_if_unique}
use Rattle.mx_write.proofs.UniqueLaws.{number_is}
use Rattle.mx_model.proofs.FrameSound.{are_apart, index_known}

-- ---- stages of a write come to the same where each does whose reads met nothing that was touched

module _ (touched : List Touched) (one : State) where
  -- what a stage reads is missed where what it and a later one read is
  pub first_missed : {X Y : Type 0} (judged : Judged X) (stage : X → Judged Y) → AreMissed one touched (judged >>= stage).reads → AreMissed one touched judged.reads
  first_missed judged stage = by_outcome judged.outcome
    where
      by_outcome : (outcome : Result _ Refusal) → AreMissed one touched (next_stage judged.reads outcome stage).reads → AreMissed one touched judged.reads
      by_outcome (Ok x) missed = (missed_parts one touched judged.reads (stage x).reads missed).0
      by_outcome (Err why) missed = missed

  -- two stages come to the same where the first does, and the second after what the first found
  pub both_same : {X Y : Type 0} (before after : Judged X) (stage next : X → Judged Y)
      → (AreMissed one touched before.reads → after ≡ before)
      → ((x : X) → before.outcome ≡ Ok x → AreMissed one touched (stage x).reads → next x ≡ stage x)
      → AreMissed one touched (before >>= stage).reads → (after >>= next) ≡ (before >>= stage)
  both_same {X} {Y} before after stage next first later missed =
      ap (λ (judged : Judged X). judged >>= next) (first (first_missed before stage missed)) ∙ by_outcome before.outcome refl missed
    where
      by_outcome : (outcome : Result X Refusal) → before.outcome ≡ outcome → AreMissed one touched (next_stage before.reads outcome stage).reads
          → next_stage before.reads outcome next ≡ next_stage before.reads outcome stage
      by_outcome (Err why) is missed = refl
      by_outcome (Ok x) is missed =
          ap (λ (judged : Judged Y). record { reads = before.reads ++ judged.reads; outcome = judged.outcome })
          (later x is (missed_parts one touched before.reads (stage x).reads missed).1)

  -- a stage that looks at no state, before others
  pub later_same : {X Y : Type 0} (judged : Judged X) (stage next : X → Judged Y)
      → ((x : X) → judged.outcome ≡ Ok x → AreMissed one touched (stage x).reads → next x ≡ stage x)
      → AreMissed one touched (judged >>= stage).reads → (judged >>= next) ≡ (judged >>= stage)
  later_same judged stage next later missed = both_same judged judged stage next (λ _. refl) later missed

  -- ---- looking up an index reads the rows of the space's indexes

  pub index_reads : (space : ℕ) (schema : Schema) (index : ℕ) → AreMissed one touched (the_index space schema index).reads → AreMissed one touched (index_read space ∷ [])
  index_reads space schema index missed = (missed_parts one touched (index_read space ∷ []) _ missed).0

  pub unique_index_reads : (space : ℕ) (schema : Schema) (index : ℕ) → AreMissed one touched (the_unique_index space schema index).reads → AreMissed one touched (index_read space ∷ [])
  unique_index_reads space schema index missed = index_reads space schema index (first_missed (the_index space schema index) _ missed)

  -- ---- a write in a space

  module _ (other : State) (agree : AgreeBut touched one other) (sound : IsSound one) (space : ℕ) {X Y : Type 0} (fault : Option Refusal) where
    -- Both look up the space, refuse what can't be written so, and then look up an index. Until then they may have other indexes of the space.
    pub in_space_same : (look : Schema → Judged X) (stage next : Schema → X → Judged Y)
        → ((schema : Schema) → AreMissed one touched (look schema).reads → AreMissed one touched (index_read space ∷ []))
        → ((schema : Schema) → schema_of one space ≡ Some schema → schema_of other space ≡ Some schema → AreMissed one touched (index_read space ∷ [])
        → AreMissed one touched (look schema >>= stage schema).reads → (look schema >>= next schema) ≡ (look schema >>= stage schema))
        → AreMissed one touched (the_space one space >>= λ schema. (unless fault >>= λ _. (look schema >>= stage schema))).reads
        → (the_space other space >>= λ schema. (unless fault >>= λ _. (look schema >>= next schema)))
        ≡ (the_space one space >>= λ schema. (unless fault >>= λ _. (look schema >>= stage schema)))
    in_space_same look stage next looks same missed =
        let row_missed = (missed_parts one touched (space_read space ∷ []) _ (first_missed (the_space one space) (stages stage fault) missed)).0 in
        by_row row_missed (there_alike touched one other agree sound space row_missed)
      where
        read : Judged (Unit {0})
        read = record { reads = space_read space ∷ []; outcome = Ok tt }

        stages : (Schema → X → Judged Y) → Option Refusal → Schema → Judged Y
        stages last refused schema = unless refused >>= λ _. (look schema >>= last schema)

        by : (Schema → X → Judged Y) → Option Refusal → Option Schema → Judged Y
        by last refused found = (read >>= λ _. found_or (SpaceMissing (record { 0 = space })) found) >>= stages last refused

        by_fault : (refused : Option Refusal) (schema new : Schema) → schema_of one space ≡ Some schema → schema_of other space ≡ Some new → AreMissed one touched (space_read space ∷ [])
            → AreMissed one touched (by stage refused (Some schema)).reads → by next refused (Some new) ≡ by stage refused (Some schema)
        by_fault (Some why) schema new is are row missed = refl
        by_fault None schema new is are row missed =
            let looked = (missed_parts one touched (space_read space ∷ []) (look schema >>= stage schema).reads missed).1 in
            let rows = looks schema (first_missed (look schema) (stage schema) looked) in
            let described : schema_of one space ≡ schema_of other space =
            schema_same touched one other agree sound space (missed_both one touched (space_read space ∷ []) (index_read space ∷ []) row rows) in
            let one_schema : schema ≡ new = same_some schema new (sym is ∙ described ∙ are) in
            ap (λ (judged : Judged Y). record { reads = space_read space ∷ judged.reads; outcome = judged.outcome })
            (ap (λ s. look s >>= next s) (sym one_schema) ∙ same schema is (sym described ∙ is) rows looked)

        by_row : AreMissed one touched (space_read space ∷ []) → BothThere one other space
            → (the_space other space >>= stages next fault) ≡ (the_space one space >>= stages stage fault)
        by_row row (inl (is, are)) = ap (by next fault) are ∙ sym (ap (by stage fault) is)
        by_row row (inr (schema, new, is, are)) =
            ap (by next fault) are ∙ by_fault fault schema new is are row (subst (λ found. AreMissed one touched (by stage fault found).reads) is missed) ∙ sym (ap (by stage fault) is)

-- ---- what a write looks up by keys is the same where what was touched has none of these keys

-- the other indexes are among all
pub others_have : (P : IndexDef → Type 0) (defs : List IndexDef) → AllByRecursion P defs → AllByRecursion P (other_indexes defs)
others_have P [] have = tt
others_have P (def ∷ defs) have = by_test (not (def.id.0 == 0)) (others_have P defs have.1)
  where
    by_test : (b : Bool) → AllByRecursion P (other_indexes defs) → AllByRecursion P (cond b (def ∷ other_indexes defs) (other_indexes defs))
    by_test true others = (have.0, others)
    by_test false others = others

-- two states that describe a space alike, and agree in it but for what was touched
pub record IsAlike (touched : List Touched) (one other : State) (space : ℕ) (schema : Schema) : Type 0 where
  pub sound : IsSound one
  pub still : IsSound other
  pub is : schema_of one space ≡ Some schema
  pub are : schema_of other space ≡ Some schema
  pub agree : (key : Key) → AgreeAt touched one other space key

module _ (touched : List Touched) (one other : State) (space : ℕ) (schema : Schema) (alike : IsAlike touched one other space schema) where
  -- the tuple with a key that was read
  pub holder_same : (def : IndexDef) (key : Key) → index_with def.id.0 schema.indexes ≡ Some def → AreMissed one touched (key_read space def.id.0 key ∷ [])
      → holder_of other space def key ≡ holder_of one space def key
  holder_same def key there missed =
      sym (found_alike def (prefix_range key) key (prefix_itself key) (tuples_in one space) (tuples_in other space)
      (are_apart schema (tuples_in one space) (its_keyed one alike.sound space schema alike.is) def there)
      (are_apart schema (tuples_in other space) (its_keyed other alike.still space schema alike.are) def there)
      (alike_in touched one other space def.id.0 (prefix_range key) def alike.agree (index_known one space def.id.0 schema def alike.is there) missed))

  -- the index of a number has that number, so it is found by its own
  pub its_number : (index : ℕ) (def : IndexDef) → index_with index schema.indexes ≡ Some def → def.id.0 ≡ index
  its_number index def there = eqb-true def.id.0 index (number_is index schema.indexes def there)

  pub by_number : (index : ℕ) (def : IndexDef) → index_with index schema.indexes ≡ Some def → index_with def.id.0 schema.indexes ≡ Some def
  by_number index def there = ap (λ n. index_with n schema.indexes) (its_number index def there) ∙ there

  pub key_missed : (index : ℕ) (def : IndexDef) (key : Key) → index_with index schema.indexes ≡ Some def → AreMissed one touched (key_read space index key ∷ [])
      → AreMissed one touched (key_read space def.id.0 key ∷ [])
  key_missed index def key there missed = ap (λ n. are_met one touched (key_read space n key ∷ [])) (its_number index def there) ∙ missed

  -- the tuple under a primary key that was read
  pub under_same : (primary : IndexDef) (key : Key) → index_with 0 schema.indexes ≡ Some primary → AreMissed one touched (key_read space 0 key ∷ [])
      → tuple_under other space key ≡ tuple_under one space key
  under_same primary key there missed =
      let first = its_number 0 primary there in
      ap (λ t. get t key) (sym (primary_index primary (tuples_in other space) first)) ∙ holder_same primary key (by_number 0 primary there) (key_missed 0 primary key there missed)
      ∙ ap (λ t. get t key) (primary_index primary (tuples_in one space) first)

  module _ (primary : IndexDef) (first : index_with 0 schema.indexes ≡ Some primary) where
    -- the tuple that has a key stands under its own primary key
    holder_stands : (state : State) → IsSound state → schema_of state space ≡ Some schema → (def : IndexDef) → index_with def.id.0 schema.indexes ≡ Some def → (key : Key) (tuple : List ℕ)
        → (def.id.0 == 0) ≡ false → holder_of state space def key ≡ Some tuple → (own : Key) × (key_in primary.key tuple ≡ Ok own) × (tuple_under state space own ≡ Some tuple)
    holder_stands state sound described def there key tuple is_other holds =
        let tuples = tuples_in state space in
        let entries_hold = ap (λ b. get (if b then tuples else indexed_with def empty (entries tuples)) key) (sym is_other) ∙ holds in
        let held = held_there def tuples (are_apart schema tuples (its_keyed state sound space schema described) def there) key tuple entries_hold in
        (held.0, (sound_key state space schema primary held.0 tuple sound described first held.1).0, held.1)

    -- the tuple that has a key in an index, under its primary key
    pub entry_same : (index : ℕ) (def : IndexDef) (key : Key) → index_with index schema.indexes ≡ Some def → AreMissed one touched (key_read space index key ∷ [])
        → entry_with other space primary def key ≡ entry_with one space primary def key
    entry_same index def key there missed =
        by_test (def.id.0 == 0) refl
      where
        same : holder_of other space def key ≡ holder_of one space def key
        same = holder_same def key (by_number index def there) (key_missed index def key there missed)

        entries_by : State → Bool → Option Indexed
        entries_by state b = entry_under state space (if b then Some key else primary_key_of primary (holder_of state space def key))

        by_holder : (holder : Option (List ℕ)) → holder_of one space def key ≡ holder → (def.id.0 == 0) ≡ false
            → entry_under other space (primary_key_of primary holder) ≡ entry_under one space (primary_key_of primary holder)
        by_holder None is is_other = refl
        by_holder (Some tuple) is is_other =
            let (own, keyed, stands) = holder_stands one alike.sound alike.is def (by_number index def there) key tuple is_other is in
            let (still_own, still_keyed, still_stands) = holder_stands other alike.still alike.are def (by_number index def there) key tuple is_other (same ∙ is) in
            let one_key : own ≡ still_own = same_key own still_own (sym keyed ∙ still_keyed) in
            ap (λ r. entry_under other space (result_ok r)) keyed
            ∙ ap (option_map (λ tuple. (own, tuple))) (ap (tuple_under other space) one_key ∙ still_stands ∙ sym stands)
            ∙ sym (ap (λ r. entry_under one space (result_ok r)) keyed)

        by_test : (b : Bool) → (def.id.0 == 0) ≡ b → entries_by other b ≡ entries_by one b
        by_test true is =
            let zero = eqb-true def.id.0 0 is in
            ap (option_map (λ tuple. (key, tuple)))
            (ap (λ t. get t key) (sym (primary_index def (tuples_in other space) zero)) ∙ same ∙ ap (λ t. get t key) (primary_index def (tuples_in one space) zero))
        by_test false is =
            ap (λ holder. entry_under other space (primary_key_of primary holder)) same ∙ by_holder (holder_of one space def key) refl is

  -- ---- whether a tuple's keys are free

  module _ (primary : IndexDef) (replaced : Option Key) (tuple : List ℕ) where
    is_free_same : (def : IndexDef) → index_with def.id.0 schema.indexes ≡ Some def → AreMissed one touched (is_free_if_unique one space schema primary replaced tuple def).reads
        → is_free_if_unique other space schema primary replaced tuple def ≡ is_free_if_unique one space schema primary replaced tuple def
    is_free_same def there missed = by_test (is_unique def) missed
      where
        by_test : (b : Bool) → AreMissed one touched (if b then is_free one space schema primary replaced tuple def else found tt).reads
            → (if b then is_free other space schema primary replaced tuple def else found tt) ≡ (if b then is_free one space schema primary replaced tuple def else found tt)
        by_test true missed =
            ap (λ holder. reads_of (key_read space def.id.0 (own_key def tuple) ∷ []) >>= λ _. unless (held_refusal one space schema primary replaced tuple def holder))
            (holder_same def (own_key def tuple) there (missed_parts one touched (key_read space def.id.0 (own_key def tuple) ∷ []) _ missed).0)
        by_test false missed = refl

    -- of each of these indexes
    pub free_same : (defs : List IndexDef) → AllByRecursion (λ def. index_with def.id.0 schema.indexes ≡ Some def) defs
        → AreMissed one touched (are_free one space schema primary replaced tuple defs).reads
        → are_free other space schema primary replaced tuple defs ≡ are_free one space schema primary replaced tuple defs
    free_same [] there missed = refl
    free_same (def ∷ defs) there missed =
        both_same touched one (is_free_if_unique one space schema primary replaced tuple def) (is_free_if_unique other space schema primary replaced tuple def)
        (λ _. are_free one space schema primary replaced tuple defs) (λ _. are_free other space schema primary replaced tuple defs)
        (is_free_same def there.0) (λ _ _ missed_later. free_same defs there.1 missed_later) missed

  -- each index of the space is found by its number
  pub each_known : AllByRecursion (λ def. index_with def.id.0 schema.indexes ≡ Some def) schema.indexes
  each_known = (its_keyed one alike.sound space schema alike.is).2.apart

  pub others_known : AllByRecursion (λ def. index_with def.id.0 schema.indexes ≡ Some def) (other_indexes schema.indexes)
  others_known = others_have (λ def. index_with def.id.0 schema.indexes ≡ Some def) schema.indexes each_known
