-- The stages that writes have in common which name a tuple by a key of a unique index: where they go on, and what they note.
use Rattle.std.proofs.Common.{◌≡◌, ℕ, Option, Some, Result, sym, subst, ◌⊎◌, inl, inr, Bool, true, false, cond, List, [], ◌∷◌, None, Ok, refl, ap, ◌∙◌, eqb-true, Err}
use Rattle.std.specs.Prelude.{IfSome, ◌==◌, ◌||◌, length, MatchOption}
use Rattle.std.specs.declared.cmp.Ordering.{Ordering}
use Rattle.std.specs.declared.cmp.Ordering.TheVariants.{Less, Equal, Greater}
use Rattle.std.specs.FinMap.{entries, get, get-entries}
use Rattle.std.specs.FinMap.Entries.{find}
use Rattle.std.specs.List.{AllByRecursion}
use Rattle.std.specs.Option.{option_map}
use Rattle.std.specs.Ordering.{is_eq}
use Rattle.mx_base.specs.declared.refusal.Refusal.{Refusal}
use Rattle.mx_schema.specs.Catalogues.{index_with, schema_of, StandByKey}
use Rattle.mx_schema.specs.State.{State, tuples_in, Tuples, key_in}
use Rattle.mx_space.specs.OwnChanges.{ShowsTuples}
use Rattle.mx_judge.specs.declared.scope.Target.{Target}
use Rattle.mx_write.specs.Made.{Made}
use Rattle.mx_write.specs.Writes.{Write}
use Rattle.mx_write.specs.Judged.{Judged, judged_as, ◌>>=◌, reads_of, unless}
use Rattle.mx_judge.specs.Makes.{JudgesFound, JudgesMade}
use Rattle.mx_judge.specs.Scopes.{IsTarget, SeesState}
use Rattle.mx_key.specs.declared.part.Part.{Part}
use Rattle.mx_key.specs.Comparable.{comparable_of}
use Rattle.mx_key.specs.Keys.{Key, AreFit, key_cmp}
use Rattle.mx_key.proofs.KeyLaws.{key_cmp-IsAntisymmetric}
use Rattle.mx_msgpack.proofs.Options.{same_some}
use Rattle.mx_schema.specs.declared.index_def.IndexDef.{IndexDef}
use Rattle.mx_schema.specs.declared.schema.Schema.{Schema}
use Rattle.mx_schema.specs.Picks.{Indexed, tuples_by_index}
use Rattle.mx_schema.specs.Stored.{StandByPrimary}
use Rattle.mx_schema.proofs.DescribedLaws.{its_keyed}
use Rattle.mx_write.specs.Lookup.{entry_under, holder_of, is_unique, entry_with, key_or_refusal, the_key, the_primary, the_space, the_unique_index}
use Rattle.mx_write.specs.Stages.{IsKeyOf, IsRefusedBy, in_entry}
use Rattle.mx_base.specs.declared.ids.SpaceId.{SpaceId}
use Rattle.mx_base.specs.declared.refusal.Refusal.TheVariants.{IndexMissing, OutOfMemory}
use Rattle.mx_key.specs.Parts.{whole_key}
use Rattle.mx_judge.specs.declared.entry.Entry.{Entry}
use Rattle.mx_write.specs.declared.writable.Writer.{Writer}
use Rattle.mx_write.specs.Notes.{AddsReads, IsNotedUpTo, Noted}
use Rattle.mx_write.specs.Reads.{index_read, key_read, space_read}
use Rattle.mx_write.specs.Writable.{primary_name, write_refusal}
use Rattle.mx_write.proofs.NoteLaws.{noted_later, noted_on, noted_refusal, primary_quiet, quiet_later, quiet_refusal, space_reads, unique_index_reads, unless_quiet}
use Rattle.mx_write.proofs.StageLaws.{goes_on, is_found, is_missing, none_refuses, space_there}
use Rattle.mx_judge.specs.declared.made.Made as code

-- ---- how a write goes on from stage to stage, and where it ends

-- a space that was found, with its primary index
pub is_target : (before : State) (target : Target) → SeesState before target.scope
    → ShowsTuples (schema_of before target.scope.space.0) target.stored (tuples_in before target.scope.space.0)
    → target.schema.now ≡ target.stored.space.now.schema → index_with 0 target.schema.now.indexes ≡ Some target.primary.now → IsTarget before target
is_target before target sees stored same there = record {
  holds = sees.holds;
  alone = sees.alone;
  stored = stored;
  schema = same;
  primary = there;
}

-- ---- refusals of a stage that gives one or none

-- the same outcome
pub judged_by : (before : State) (space : ℕ) (write : Write) (result : Result code.Made Refusal) (one other : Judged Made) → one.outcome ≡ other.outcome
    → JudgesMade before space write result other → JudgesMade before space write result one
judged_by before space write result one other same = subst (λ outcome. JudgesMade before space write result (judged_as outcome)) (sym same)

pub judged_by_found : (before : State) (space : ℕ) (write : Write) (result : Result (Option code.Made) Refusal) (one other : Judged Made) → one.outcome ≡ other.outcome
    → JudgesFound before space write result other → JudgesFound before space write result one
judged_by_found before space write result one other same = subst (λ outcome. JudgesFound before space write result (judged_as outcome)) (sym same)

-- ---- a tuple of a space stands under its own key

found_stands : (parts : List Part) (key : Key) (tuple : List ℕ) (all : List Indexed) → find key_cmp key all ≡ Some tuple
    → AllByRecursion (λ (entry : Indexed). key_in parts entry.1 ≡ Ok entry.0) all → key_in parts tuple ≡ Ok key
found_stands parts key tuple [] e stands = absurd cc
found_stands parts key tuple (entry ∷ all) e (first, others) = by_order (key_cmp key entry.0) refl e (λ later. found_stands parts key tuple all later others)
  where
    by_order : (o : Ordering) → key_cmp key entry.0 ≡ o → cond (is_eq o) (Some entry.1) (find key_cmp key all) ≡ Some tuple
        → (find key_cmp key all ≡ Some tuple → key_in parts tuple ≡ Ok key) → key_in parts tuple ≡ Ok key
    by_order Less is e later = later e
    by_order Equal is e later =
        ap (key_in parts) (sym (same_some entry.1 tuple e)) ∙ first ∙ ap (λ k. Ok k) (sym (key_cmp-IsAntisymmetric key entry.0 is))
    by_order Greater is e later = later e

pub own_key_is : (schema : Schema) (primary : IndexDef) (tuples : Tuples) (key : Key) (tuple : List ℕ) → index_with 0 schema.indexes ≡ Some primary
    → StandByPrimary schema tuples → get tuples key ≡ Some tuple → key_in primary.key tuple ≡ Ok key
own_key_is schema primary tuples key tuple there stands found =
    found_stands primary.key key tuple (entries tuples) (sym (get-entries tuples key) ∙ found)
    (subst (λ (o : Option IndexDef). IfSome o (λ def. StandByKey def.key tuples)) there stands)

-- ---- the tuple that has a key

pub unique_is : (def : IndexDef) → def.unique ≡ true → is_unique def ≡ true
unique_is def unique = by_number (def.id.0 == 0)
  where
    by_number : (b : Bool) → (b || def.unique) ≡ true
    by_number true = refl
    by_number false = unique

module _ (before : State) (target : Target) (is : IsTarget before target) where
  abbrev space : ℕ
  space = target.scope.space.0

  abbrev under : Option Key → Option Indexed
  under = entry_under before space

  abbrev pair : Key → List ℕ → Indexed
  pair key tuple = (key, tuple)

  -- a lookup finds what the definition says
  pub held_so : (def : IndexDef) (wanted : Key) (key : List ℕ) (found : Option (List ℕ)) → index_with def.id.0 target.schema.now.indexes ≡ Some def → is_unique def ≡ true
      → ((schema : Option Schema) (tuples : Tuples) → ShowsTuples schema target.stored tuples → index_with def.id.0 target.stored.space.now.schema.indexes ≡ Some def
      → (def.id.0 ≡ 0) ⊎ (def.unique ≡ true) → found ≡ get (tuples_by_index def tuples) wanted)
      → found ≡ holder_of before space def wanted
  held_so def wanted key found there unique told =
      told (schema_of before space) (tuples_in before space) is.stored (ap (λ (s : Schema). index_with def.id.0 s.indexes) (sym is.schema) ∙ there) (by_unique (def.id.0 == 0) refl unique)
    where
      by_unique : (b : Bool) → (def.id.0 == 0) ≡ b → (b || def.unique) ≡ true → (def.id.0 ≡ 0) ⊎ (def.unique ≡ true)
      by_unique true zero unique = inl (eqb-true def.id.0 0 zero)
      by_unique false other unique = inr unique

  pub entry_is : (bytes tuple : List ℕ) (own : Option Key) → IsKeyOf (Some bytes) own
      → ((key : Key) → AreFit key → bytes ≡ comparable_of key → Some tuple ≡ get (tuples_in before space) key)
      → (key : Key) × (under own ≡ Some (key, tuple)) × AreFit key × (bytes ≡ comparable_of key) × (key_in target.primary.now.key tuple ≡ Ok key)
  entry_is bytes tuple None are found = absurd are
  entry_is bytes tuple (Some key) (fit, same) found =
      let e = found key fit same in (
        key,
        ap (option_map (pair key)) (sym e),
        fit,
        same,
        own_key_is target.schema.now target.primary.now (tuples_in before space) key tuple is.primary (subst (λ s. StandByPrimary s (tuples_in before space)) (sym is.schema) (its_keyed before is.holds.sound space target.stored.space.now.schema is.stored.sees.state.holds.is).0) (sym e),
      )

-- ---- the stages that writes have in common which name a tuple by a key of a unique index: where they go on, and what they note

-- the primary index is missing
primary_missing : (schema : Schema) (why : Refusal) → ((index_with 0 schema.indexes ≡ None) × (why ≡ IndexMissing (record { 0 = 0 }) schema.def.name)) ⊎ (why ≡ OutOfMemory)
    → IsRefusedBy why (the_primary schema)
primary_missing schema why (inl (none, is)) =
    inl (is_missing (IndexMissing (record { 0 = 0 }) schema.def.name) (index_with 0 schema.indexes) none ∙ ap (λ w. Err w) (sym is))
primary_missing schema why (inr none) = inr none

module _ {X : Type 0} (writer : Writer) (before : State) (space : SpaceId) (type index : ℕ) (key : List ℕ) (rest : Schema → IndexDef → Option Indexed → Judged X)
    (schema : Schema) (described : schema_of before space.0 ≡ Some schema) (writable : write_refusal writer space.0 type (primary_name index key) ≡ None) where
  abbrev whole : Judged X
  whole = in_entry writer before space.0 type index key rest

  abbrev to_entry : Schema → IndexDef → IndexDef → Key → Judged X
  to_entry schema def primary asked = reads_of (key_read space.0 index asked ∷ []) >>= λ _. rest schema primary (entry_with before space.0 primary def asked)

  abbrev to_key : Schema → IndexDef → IndexDef → Judged X
  to_key schema def primary = the_key def key >>= to_entry schema def primary

  abbrev to_primary : Schema → IndexDef → Judged X
  to_primary schema def = the_primary schema >>= to_key schema def

  abbrev to_index : Schema → Judged X
  to_index schema = the_unique_index space.0 schema index >>= to_primary schema

  abbrev to_writable : Schema → Judged X
  to_writable schema = unless (write_refusal writer space.0 type (primary_name index key)) >>= λ _. to_index schema

  module _ (old after_space after_indexes : Noted) (first : AddsReads old after_space (space_read space.0 ∷ [])) (second : AddsReads after_space after_indexes (index_read space.0 ∷ [])) where
    later : {P : Type 0} (last : Noted) → P ⊎ AddsReads after_space last (to_index schema).reads → P ⊎ AddsReads old last whole.reads
    later last noted =
        noted_later (the_space before space.0) to_writable old after_space schema last (space_there before space schema described)
        (subst (AddsReads old after_space) (sym (space_reads before space.0)) first)
        (quiet_later (unless (write_refusal writer space.0 type (primary_name index key))) (λ _. to_index schema) (unless_quiet _) after_space tt last (none_refuses _ writable) noted)

    noted_indexes : AddsReads after_space after_indexes (the_unique_index space.0 schema index).reads
    noted_indexes = subst (AddsReads after_space after_indexes) (sym (unique_index_reads space.0 schema index)) second

    -- there is no such index
    pub noted_no_index : (why : Refusal) → IsRefusedBy why (the_unique_index space.0 schema index) → (why ≡ OutOfMemory) ⊎ AddsReads old after_indexes whole.reads
    noted_no_index why refused =
        later after_indexes (noted_refusal (the_unique_index space.0 schema index) (to_primary schema) after_space after_indexes why refused noted_indexes)

    module _ (def : IndexDef) (there : (the_unique_index space.0 schema index).outcome ≡ Ok def) where
      in_index : {P : Type 0} (last : Noted) → P ⊎ AddsReads after_indexes last (to_primary schema def).reads → P ⊎ AddsReads old last whole.reads
      in_index last noted = later last (noted_later (the_unique_index space.0 schema index) (to_primary schema) after_space after_indexes def last there noted_indexes noted)

      -- nor a primary one
      pub noted_no_primary : (why : Refusal) → ((index_with 0 schema.indexes ≡ None) × (why ≡ IndexMissing (record { 0 = 0 }) schema.def.name)) ⊎ (why ≡ OutOfMemory)
          → (why ≡ OutOfMemory) ⊎ AddsReads old after_indexes whole.reads
      noted_no_primary why missing =
          in_index after_indexes (quiet_refusal (the_primary schema) (to_key schema def) (primary_quiet schema) after_indexes why (primary_missing schema why missing))

      module _ (primary : IndexDef) (is : index_with 0 schema.indexes ≡ Some primary) where
        in_primary : {P : Type 0} (last : Noted) → P ⊎ AddsReads after_indexes last (to_key schema def primary).reads → P ⊎ AddsReads old last whole.reads
        in_primary last noted =
            in_index last (quiet_later (the_primary schema) (to_key schema def) (primary_quiet schema) after_indexes primary last
            (is_found (IndexMissing (record { 0 = 0 }) schema.def.name) (index_with 0 schema.indexes) primary is) noted)

        -- the key is none of the index
        pub noted_no_key : (why : Refusal) → IsRefusedBy why (the_key def key) → (why ≡ OutOfMemory) ⊎ AddsReads old after_indexes whole.reads
        noted_no_key why refused = in_primary after_indexes (quiet_refusal (the_key def key) (to_entry schema def primary) refl after_indexes why refused)

        -- it is one
        pub noted_entry : (asked : Key) (after_key : Noted) → whole_key def.key key ≡ Ok asked → AddsReads after_indexes after_key (key_read space.0 index asked ∷ [])
            → IsNotedUpTo old after_key whole (rest schema primary (entry_with before space.0 primary def asked))
        noted_entry asked after_key whole_is third last noted =
            certain (in_primary last (quiet_later (the_key def key) (to_entry schema def primary) refl after_indexes asked last (ap (key_or_refusal (length def.key)) whole_is)
            (inr (noted_on (reads_of (key_read space.0 index asked ∷ [])) (λ _. rest schema primary (entry_with before space.0 primary def asked)) after_indexes after_key tt last refl third noted))))
          where
            certain : {N : Type 0} → ⊥ ⊎ N → N
            certain (inl none) = absurd none
            certain (inr noted) = noted

  -- so far it goes on
  pub reaches_entry : (def primary : IndexDef) (asked : Key) → (the_unique_index space.0 schema index).outcome ≡ Ok def → index_with 0 schema.indexes ≡ Some primary
      → whole_key def.key key ≡ Ok asked → whole.outcome ≡ (rest schema primary (entry_with before space.0 primary def asked)).outcome
  reaches_entry def primary asked there is whole_is =
      goes_on (the_space before space.0) to_writable schema (space_there before space schema described)
      ∙ goes_on (unless (write_refusal writer space.0 type (primary_name index key))) (λ _. to_index schema) tt (none_refuses _ writable)
      ∙ goes_on (the_unique_index space.0 schema index) (to_primary schema) def there
      ∙ goes_on (the_primary schema) (to_key schema def) primary (is_found (IndexMissing (record { 0 = 0 }) schema.def.name) (index_with 0 schema.indexes) primary is)
      ∙ goes_on (the_key def key) (to_entry schema def primary) asked (ap (key_or_refusal (length def.key)) whole_is)

-- ---- the tuple that was found, or none

module _ {X : Type 0} (whole : Judged X) (primary : IndexDef) (rest : Option Indexed → Judged X) (there : Option Indexed) where
  -- what the code has of it
  abbrev pub IsFound : Option Entry → Type 0
  IsFound found = MatchOption found (there ≡ None)
      (λ entry. (own : Key) × (there ≡ Some (own, entry.tuple.now)) × AreFit own × (entry.key ≡ comparable_of own) × (key_in primary.key entry.tuple.now ≡ Ok own))

  pub judged_found : (found : Option Entry) → whole.outcome ≡ (rest there).outcome → IsFound found → MatchOption found
      (whole.outcome ≡ (rest None).outcome)
      (λ entry. (own : Key) × (whole.outcome ≡ (rest (Some (own, entry.tuple.now))).outcome) × AreFit own × (entry.key ≡ comparable_of own)
      × (key_in primary.key entry.tuple.now ≡ Ok own))
  judged_found None reaches none = reaches ∙ ap (λ o. (rest o).outcome) none
  judged_found (Some entry) reaches (own, is, fit, bytes, has) = (own, reaches ∙ ap (λ o. (rest o).outcome) is, fit, bytes, has)

  pub noted_found : (old now : Noted) (found : Option Entry) → IsNotedUpTo old now whole (rest there) → IsFound found → MatchOption found
      (IsNotedUpTo old now whole (rest None))
      (λ entry. (own : Key) → key_in primary.key entry.tuple.now ≡ Ok own → IsNotedUpTo old now whole (rest (Some (own, entry.tuple.now))))
  noted_found old now None up_to none = subst (λ o. IsNotedUpTo old now whole (rest o)) none up_to
  noted_found old now (Some entry) up_to (own, is, fit, bytes, has) = λ other has_other.
      let same : own ≡ other = cc in
      subst (λ o. IsNotedUpTo old now whole (rest (Some (o, entry.tuple.now)))) same (subst (λ o. IsNotedUpTo old now whole (rest o)) is up_to)
