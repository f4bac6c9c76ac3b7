-- What the tests note whether a tuple's keys are free.
use Rattle.std.proofs.Common.{◌≡◌, ◌⊎◌, inl, inr, ℕ, List, [], ◌∷◌, Some, None, sym, subst, pos, ◌+◌, ◌/◌, ◌%◌, ◌<◌, ◌^◌, arith, ◌≢◌, zero, suc, drop, true, not, Option, Result, Ok, Err, ap, ◌∙◌}
use Rattle.std.specs.Prelude.{◌||◌, if◌then◌else◌}
use Rattle.std.proofs.lemmas.Bool.{ne_eqb}
use Rattle.std.specs.FinMap.{get}
use Rattle.std.specs.List.{AllByRecursion}
use Rattle.mx_base.specs.declared.ids.SpaceId.{SpaceId}
use Rattle.mx_base.specs.declared.refusal.Refusal.{Refusal}
use Rattle.mx_base.specs.declared.refusal.Refusal.TheVariants.{IndexMissing, OutOfMemory}
use Rattle.mx_schema.specs.declared.index_def.IndexDef.{IndexDef}
use Rattle.mx_schema.specs.declared.schema.Schema.{Schema}
use Rattle.mx_schema.specs.Catalogues.{index_with, schema_of}
use Rattle.mx_schema.specs.State.{State, tuples_in}
use Rattle.mx_write.specs.declared.writable.Writer.{Writer}
use Rattle.mx_write.specs.Checks.{tuple_fault}
use Rattle.mx_write.specs.Judged.{Judged, unless, ◌>>=◌, found, next_stage}
use Rattle.mx_write.specs.Lookup.{the_index, the_space, all_indexes, holder_of, other_indexes, own_key}
use Rattle.mx_write.specs.Notes.{AddsReads, IsNotedUpTo, Noted}
use Rattle.mx_write.specs.Reads.{index_read, space_read, key_read}
use Rattle.mx_write.specs.Stages.{Refuses, in_target, refusal_of}
use Rattle.mx_write.specs.Writable.{write_refusal}
use Rattle.mx_write.proofs.NoteLaws.{index_reads, noted_later, noted_refusal, quiet_later, quiet_on, quiet_refusal, space_reads, unless_quiet, made_quiet, noted_here, noted_on, quiet_here, then_quiet}
use Rattle.mx_write.proofs.StageLaws.{index_absent, index_there, none_refuses, refuses_so, space_there, goes_on, went_on}
use Rattle.mx_key.specs.Comparable.{comparable_of}
use Rattle.mx_key.specs.Keys.{Integer, Key}
use Rattle.mx_schema.proofs.DescribedLaws.{its_keyed}
use Rattle.mx_judge.specs.declared.scope.Target.{Target}
use Rattle.mx_write.specs.Descriptions.{description_fault, new_index_fault}
use Rattle.mx_write.specs.Insert.{inserts_taken}
use Rattle.mx_write.specs.Made.{Made, made}
use Rattle.mx_judge.specs.Scopes.{IsTarget}
use Rattle.mx_write.specs.Unique.{are_free, duplicate_refusal, held_refusal, is_free}
use Rattle.mx_write.specs.Update.{key_change, put_in_place}
use Rattle.mx_write.specs.Writes.{Insert, Write}
use Rattle.mx_judge.proofs.EntryStageLaws.{unique_is}
use Rattle.mx_write.proofs.UniqueLaws.{holder_is, number_is}

-- ---- what the stages note that writes have in common which put a tuple

module _ {X : Type 0} (writer : Writer) (before : State) (space : SpaceId) (type : ℕ) (tuple : List ℕ) (rest : Schema → IndexDef → Judged X)
    (old after_space after_indexes : Noted) (first : AddsReads old after_space (space_read space.0 ∷ [])) (second : AddsReads after_space after_indexes (index_read space.0 ∷ []))
    (schema : Schema) (described : schema_of before space.0 ≡ Some schema) (writable : write_refusal writer space.0 type (Some tuple) ≡ None) where
  abbrev whole : Judged X
  whole = in_target writer before space.0 type tuple rest

  abbrev to_tuple : Schema → IndexDef → Judged X
  to_tuple schema primary = unless (tuple_fault schema primary tuple) >>= λ _. rest schema primary

  abbrev to_index : Schema → Judged X
  to_index schema = the_index space.0 schema 0 >>= to_tuple schema

  abbrev to_writable : Schema → Judged X
  to_writable schema = unless (write_refusal writer space.0 type (Some tuple)) >>= λ _. to_index schema

  later : {P : Type 0} (last : Noted) → P ⊎ AddsReads after_space last (to_index schema).reads → P ⊎ AddsReads old last whole.reads
  later last noted =
      noted_later (the_space before space.0) to_writable old after_space schema last (space_there before space schema described)
      (subst (AddsReads old after_space) (sym (space_reads before space.0)) first)
      (quiet_later (unless (write_refusal writer space.0 type (Some tuple))) (λ _. to_index schema) (unless_quiet _) after_space tt last (none_refuses _ writable) noted)

  noted_indexes : AddsReads after_space after_indexes (the_index space.0 schema 0).reads
  noted_indexes = subst (AddsReads after_space after_indexes) (sym (index_reads space.0 schema 0)) second

  -- the space has no primary index
  pub noted_absent : (why : Refusal) → ((index_with 0 schema.indexes ≡ None) × (why ≡ IndexMissing (record { 0 = 0 }) schema.def.name)) ⊎ (why ≡ OutOfMemory)
      → (why ≡ OutOfMemory) ⊎ AddsReads old after_indexes whole.reads
  noted_absent why absent =
      later after_indexes (noted_refusal (the_index space.0 schema 0) (to_tuple schema) after_space after_indexes why (index_absent space.0 schema (record { 0 = 0 }) why absent) noted_indexes)

  module _ (primary : IndexDef) (there : index_with 0 schema.indexes ≡ Some primary) where
    in_index : {P : Type 0} (last : Noted) → P ⊎ AddsReads after_indexes last (to_tuple schema primary).reads → P ⊎ AddsReads old last whole.reads
    in_index last noted =
        later last (noted_later (the_index space.0 schema 0) (to_tuple schema) after_space after_indexes primary last (index_there space.0 schema (record { 0 = 0 }) primary there) noted_indexes noted)

    -- it doesn't take the tuple
    pub noted_untaken : (why : Refusal) → Refuses why (tuple_fault schema primary tuple) → (why ≡ OutOfMemory) ⊎ AddsReads old after_indexes whole.reads
    noted_untaken why refuses =
        in_index after_indexes (quiet_refusal (unless (tuple_fault schema primary tuple)) (λ _. rest schema primary) (unless_quiet _) after_indexes why (refuses_so _ why refuses))

    -- it takes it
    pub noted_target : tuple_fault schema primary tuple ≡ None → IsNotedUpTo old after_indexes whole (rest schema primary)
    noted_target takes last noted =
        certain (in_index last (inr (quiet_on (unless (tuple_fault schema primary tuple)) (λ _. rest schema primary) (unless_quiet _) after_indexes tt last (none_refuses _ takes) noted)))
      where
        certain : {N : Type 0} → ⊥ ⊎ N → N
        certain (inl none) = absurd none
        certain (inr noted) = noted

-- ---- the comparable bytes of a key of one number of 32 bits

module _ (number : ℕ) (fits : number < 2 ^ 32) where
  digit_8 : 0 ≡ (2 ^ 63 + number) / 18446744073709551616 % 256
  digit_8 = omega (arith, fits)

  digit_7 : 128 ≡ (2 ^ 63 + number) / 72057594037927936 % 256
  digit_7 = omega (arith, fits)

  digit_6 : 0 ≡ (2 ^ 63 + number) / 281474976710656 % 256
  digit_6 = omega (arith, fits)

  digit_5 : 0 ≡ (2 ^ 63 + number) / 1099511627776 % 256
  digit_5 = omega (arith, fits)

  digit_4 : 0 ≡ (2 ^ 63 + number) / 4294967296 % 256
  digit_4 = omega (arith, fits)

  digit_3 : number / 16777216 % 256 ≡ (2 ^ 63 + number) / 16777216 % 256
  digit_3 = omega (arith, fits)

  digit_2 : number / 65536 % 256 ≡ (2 ^ 63 + number) / 65536 % 256
  digit_2 = omega (arith, fits)

  digit_1 : number / 256 % 256 ≡ (2 ^ 63 + number) / 256 % 256
  digit_1 = omega (arith, fits)

  digit_0 : number % 256 ≡ (2 ^ 63 + number) % 256
  digit_0 = omega (arith, fits)

  pub number_bytes : 3 ∷ 0 ∷ 128 ∷ 0 ∷ 0 ∷ 0 ∷ number / 16777216 % 256 ∷ number / 65536 % 256 ∷ number / 256 % 256 ∷ number % 256 ∷ []
      ≡ comparable_of (Integer (pos number) ∷ [])
  number_bytes = λ i. 3 ∷ digit_8 i ∷ digit_7 i ∷ digit_6 i ∷ digit_5 i ∷ digit_4 i ∷ digit_3 i ∷ digit_2 i ∷ digit_1 i ∷ digit_0 i ∷ []

-- ---- what the tests note whether a tuple's keys are free

-- what each has, those from a place on have
all_dropped : (P : IndexDef → Type 0) (place : ℕ) (defs : List IndexDef) → AllByRecursion P defs → AllByRecursion P (drop place defs)
all_dropped P zero defs all = all
all_dropped P (suc place) [] all = tt
all_dropped P (suc place) (def ∷ defs) all = all_dropped P place defs all.1

-- an index of a space has its number there alone
pub there_at : (before : State) (target : Target) (place : ℕ) (def : IndexDef) (others : List IndexDef) → IsTarget before target
    → drop place target.schema.now.indexes ≡ def ∷ others → index_with def.id.0 target.schema.now.indexes ≡ Some def
there_at before target place def others is next =
    let indexes = target.schema.now.indexes in
    let keyed = (its_keyed before is.holds.sound target.scope.space.0 target.stored.space.now.schema is.stored.sees.state.holds.is).2 in
    let apart = subst (λ (s : Schema). AllByRecursion (λ d. index_with d.id.0 s.indexes ≡ Some d) s.indexes) (sym is.schema) keyed.apart in
    (subst (AllByRecursion (λ d. index_with d.id.0 indexes ≡ Some d)) next (all_dropped (λ d. index_with d.id.0 indexes ≡ Some d) place indexes apart)).0

module _ (before : State) (space : ℕ) (schema : Schema) (primary : IndexDef) (key : Option Key) (tuple : List ℕ) where
  abbrev free : IndexDef → Judged (Unit {0})
  free = is_free before space schema primary key tuple

  abbrev all_free : List IndexDef → Judged (Unit {0})
  all_free = are_free before space schema primary key tuple

  -- a unique index is tested before the others
  module _ (def : IndexDef) (others : List IndexDef) (unique : def.unique ≡ true) where
    pub tested_first : all_free (def ∷ others) ≡ (free def >>= λ _. all_free others)
    tested_first = ap (λ b. (if b then free def else found tt) >>= λ _. all_free others) (unique_is def unique)

    tested : def.id.0 ≢ 0 → all_free (other_indexes (def ∷ others)) ≡ (free def >>= λ _. all_free (other_indexes others))
    tested other =
        ap (λ b. all_free (if not b then def ∷ other_indexes others else other_indexes others)) (ne_eqb def.id.0 0 other)
        ∙ ap (λ b. (if b then free def else found tt) >>= λ _. all_free (other_indexes others)) (unique_is def unique)

    refused_by : (why : Refusal) → Some why ≡ refusal_of (free def).outcome → (free def).outcome ≡ Err why
    refused_by why is = by_outcome (free def).outcome is
      where
        by_outcome : (outcome : Result (Unit {0}) Refusal) → Some why ≡ refusal_of outcome → outcome ≡ Err why
        by_outcome (Ok found) e = absurd cc
        by_outcome (Err other) e = cc

    -- another tuple has its key, and the others aren't tested
    pub free_stops : def.id.0 ≢ 0 → (why : Refusal) → Some why ≡ refusal_of (free def).outcome → Some why ≡ refusal_of (all_free (other_indexes (def ∷ others))).outcome
    free_stops other why is =
        ap refusal_of (sym (ap (λ j. j.outcome) (tested other)
        ∙ ap (λ outcome. (next_stage (free def).reads outcome (λ _. all_free (other_indexes others))).outcome) (refused_by why is)))

    pub noted_stop : (old now : Noted) → def.id.0 ≢ 0 → (why : Refusal) → Some why ≡ refusal_of (free def).outcome → AddsReads old now (free def).reads
        → AddsReads old now (all_free (other_indexes (def ∷ others))).reads
    noted_stop old now other why is noted =
        subst (λ j. AddsReads old now j.reads) (sym (tested other)) (noted_here (free def) (λ _. all_free (other_indexes others)) old now why (refused_by why is) noted)

    -- it is free, and the others are tested
    pub free_next : def.id.0 ≢ 0 → None ≡ refusal_of (free def).outcome → (all_free (other_indexes (def ∷ others))).outcome ≡ (all_free (other_indexes others)).outcome
    free_next other is = ap (λ j. j.outcome) (tested other) ∙ goes_on (free def) (λ _. all_free (other_indexes others)) tt (went_on (free def) is)

    pub noted_next : (old now : Noted) → def.id.0 ≢ 0 → None ≡ refusal_of (free def).outcome → AddsReads old now (free def).reads
        → IsNotedUpTo old now (all_free (other_indexes (def ∷ others))) (all_free (other_indexes others))
    noted_next old now other is noted last rest =
        subst (λ j. AddsReads old last j.reads) (sym (tested other))
        (noted_on (free def) (λ _. all_free (other_indexes others)) old now tt last (went_on (free def) is) noted rest)

-- ---- the primary index, which an INSERT tests first

module _ (before : State) (space : ℕ) (schema : Schema) (primary : IndexDef) (tuple : List ℕ) (is : index_with 0 schema.indexes ≡ Some primary) (others : List IndexDef) (old now : Noted)
    (noted : AddsReads old now (key_read space primary.id.0 (own_key primary tuple) ∷ [])) where
  abbrev own_free : Judged (Unit {0})
  own_free = is_free before space schema primary None tuple primary

  abbrev to_others : Unit {0} → Judged (Unit {0})
  to_others _ = are_free before space schema primary None tuple others

  own_tested : are_free before space schema primary None tuple (primary ∷ others) ≡ (own_free >>= to_others)
  own_tested = ap (λ b. (if b || primary.unique then own_free else found tt) >>= to_others) (number_is 0 schema.indexes primary is)

  own_noted : AddsReads old now own_free.reads
  own_noted =
      subst (AddsReads old now)
      (ap (λ l. key_read space primary.id.0 (own_key primary tuple) ∷ l)
      (sym (unless_quiet (held_refusal before space schema primary None tuple primary (holder_of before space primary (own_key primary tuple)))))) noted

  abbrev by_holder : (holder : Option (List ℕ)) → Result (Unit {0}) Refusal
  by_holder holder = (unless (held_refusal before space schema primary None tuple primary holder)).outcome

  -- another tuple has the key
  pub noted_taken : (holder : List ℕ) → get (tuples_in before space) (own_key primary tuple) ≡ Some holder
      → AddsReads old now (are_free before space schema primary None tuple (primary ∷ others)).reads
  noted_taken holder there =
      subst (λ j. AddsReads old now j.reads) (sym own_tested)
      (noted_here own_free to_others old now (duplicate_refusal space schema primary (Some holder))
      (ap by_holder (holder_is before space schema primary tuple is (own_key primary tuple) ∙ there)) own_noted)

  -- none has it
  pub noted_free : get (tuples_in before space) (own_key primary tuple) ≡ None → (last : Noted) → AddsReads now last (are_free before space schema primary None tuple others).reads
      → AddsReads old last (are_free before space schema primary None tuple (primary ∷ others)).reads
  noted_free none last rest =
      subst (λ j. AddsReads old last j.reads) (sym own_tested)
      (noted_on own_free to_others old now tt last (ap by_holder (holder_is before space schema primary tuple is (own_key primary tuple) ∙ none)) own_noted rest)

-- ---- stages around the tests

-- a tuple that is added
pub noted_added : (before : State) (space : ℕ) (schema : Schema) (primary : IndexDef) (tuple : List ℕ) (old now : Noted) → description_fault before space tuple ≡ None
    → AddsReads old now (are_free before space schema primary None tuple (all_indexes primary schema)).reads → AddsReads old now (inserts_taken before space schema primary tuple).reads
noted_added before space schema primary tuple old now described noted =
    let last = λ (u : Unit {0}). made space (Insert tuple) (own_key primary tuple) (Some tuple) (tuple ∷ []) in
    let rest = λ (u : Unit {0}). unless (new_index_fault before space tuple) >>= last in
    let all = are_free before space schema primary None tuple (all_indexes primary schema) in
    quiet_on (unless (description_fault before space tuple)) (λ _. all >>= rest) (unless_quiet _) old tt now (none_refuses _ described)
    (subst (AddsReads old now) (sym (then_quiet all rest (λ u. then_quiet (unless (new_index_fault before space tuple)) last
    (λ v. made_quiet space (Insert tuple) (own_key primary tuple) (Some tuple) (tuple ∷ [])) ∙ unless_quiet (new_index_fault before space tuple)))) noted)

-- one that is put in the place of another
module _ (before : State) (space : ℕ) (schema : Schema) (primary : IndexDef) (write : Write) (own : Key) (tuple : List ℕ) (shown : List (List ℕ)) (old : Noted)
    (takes : tuple_fault schema primary tuple ≡ None) where
  abbrev tests : Judged (Unit {0})
  tests = are_free before space schema primary (Some own) tuple (other_indexes schema.indexes)

  abbrev to_made : Unit {0} → Judged Made
  to_made _ = made space write own (Some tuple) shown

  abbrev to_same : Judged Made
  to_same = unless (key_change schema (own_key primary tuple) own) >>= λ _. (tests >>= to_made)

  pub noted_other_key : (why : Refusal) → key_change schema (own_key primary tuple) own ≡ Some why → AddsReads old old (put_in_place before space schema primary write own tuple shown).reads
  noted_other_key why changes =
      quiet_on (unless (tuple_fault schema primary tuple)) (λ _. to_same) (unless_quiet _) old tt old (none_refuses _ takes)
      (quiet_here (unless (key_change schema (own_key primary tuple) own)) (λ _. (tests >>= to_made)) (unless_quiet _) old why (ap (λ f. (unless f).outcome) changes))

  pub noted_same_key : (now : Noted) → key_change schema (own_key primary tuple) own ≡ None → AddsReads old now tests.reads
      → AddsReads old now (put_in_place before space schema primary write own tuple shown).reads
  noted_same_key now same noted =
      quiet_on (unless (tuple_fault schema primary tuple)) (λ _. to_same) (unless_quiet _) old tt now (none_refuses _ takes)
      (quiet_on (unless (key_change schema (own_key primary tuple) own)) (λ _. (tests >>= to_made)) (unless_quiet _) old tt now (none_refuses _ same)
      (subst (AddsReads old now) (sym (then_quiet tests to_made (λ u. made_quiet space write own (Some tuple) shown))) noted))

-- one that the space doesn't take
pub noted_not_taken : (before : State) (space : ℕ) (schema : Schema) (primary : IndexDef) (write : Write) (own : Key) (tuple : List ℕ) (shown : List (List ℕ)) (old : Noted) (why : Refusal)
    → Refuses why (tuple_fault schema primary tuple) → (why ≡ OutOfMemory) ⊎ AddsReads old old (put_in_place before space schema primary write own tuple shown).reads
noted_not_taken before space schema primary write own tuple shown old why refuses =
    let rest = λ (u : Unit {0}). unless (key_change schema (own_key primary tuple) own) >>= λ _. (are_free before space schema primary (Some own) tuple (other_indexes schema.indexes) >>= λ _. made space write own (Some tuple) shown) in
    quiet_refusal (unless (tuple_fault schema primary tuple)) rest (unless_quiet _) old why (refuses_so _ why refuses)
