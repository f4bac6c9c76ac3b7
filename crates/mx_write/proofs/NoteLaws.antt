-- What was noted, stage by stage.
use Rattle.std.proofs.Common.{◌≡◌, ◌⊎◌, inl, inr, ℕ, Bool, true, false, List, [], ◌∷◌, ◌++◌, Option, Some, None, Result, Ok, Err, refl, sym, ap, ◌∙◌, subst}
use Rattle.std.specs.Prelude.{length, nat_lt, if◌then◌else◌}
use Rattle.std.proofs.lemmas.List.{append-nil, append_assoc}
use Rattle.std.specs.List.{AllZip}
use Rattle.mx_base.specs.declared.refusal.Refusal.{Refusal}
use Rattle.mx_base.specs.declared.refusal.Refusal.TheVariants.{IndexMissing, OutOfMemory, SpaceMissing, TransactionTooLong}
use Rattle.mx_key.specs.Arrays.{key_array}
use Rattle.mx_key.specs.Keys.{Key}
use Rattle.mx_row.specs.Rows.{delete_type, max_body_size, row_body_text}
use Rattle.mx_schema.specs.declared.index_def.IndexDef.{IndexDef}
use Rattle.mx_schema.specs.declared.schema.Schema.{Schema}
use Rattle.mx_schema.specs.Catalogues.{index_with, schema_of}
use Rattle.mx_schema.specs.Picks.{Indexed}
use Rattle.mx_schema.specs.State.{State}
use Rattle.mx_tracker.specs.declared.read.Read as noted
use Rattle.mx_write.specs.declared.writable.Writer.{Writer}
use Rattle.mx_write.specs.Delete.{delete_found}
use Rattle.mx_write.specs.Descriptions.{drop_fault}
use Rattle.mx_write.specs.Judged.{Judged, found, found_or, next_stage, stopped, unless, ◌>>=◌}
use Rattle.mx_write.specs.Lookup.{the_index, the_primary, the_space, the_unique_index, unless_unique}
use Rattle.mx_write.specs.Made.{Made, made, row_with}
use Rattle.mx_write.specs.Stages.{IsRefusedBy}
use Rattle.mx_write.specs.Notes.{AddsReads, IsNotedUpTo, Noted, NotesJudged, SpellsRead}
use Rattle.mx_write.specs.Reads.{Read, index_read, space_read}
use Rattle.mx_write.specs.Writable.{write_refusal}
use Rattle.mx_write.specs.Writes.{Delete, Write}
use Rattle.mx_write.proofs.StageLaws.{came_by}

-- ---- notes of reads in a row

zip-append : (one other : List noted.Read) (first second : List Read) → AllZip SpellsRead one first → AllZip SpellsRead other second
    → AllZip SpellsRead (one ++ other) (first ++ second)
zip-append [] other [] second none rest = rest
zip-append [] other (read ∷ first) second none rest = absurd none
zip-append (coded ∷ one) other [] second none rest = absurd none
zip-append (coded ∷ one) other (read ∷ first) second (spells, all) rest = (spells, zip-append one other first second all rest)

-- nothing is noted
pub adds_nothing : (now : Noted) → AddsReads now now []
adds_nothing None = refl
adds_nothing (Some earlier) = ([], ap Some (sym (append-nil earlier)), tt)

-- some reads, and then others
pub adds_both : (old now last : Noted) (reads more : List Read) → AddsReads old now reads → AddsReads now last more → AddsReads old last (reads ++ more)
adds_both None now last reads more none rest = subst (λ n. AddsReads n last more) none rest
adds_both (Some earlier) now last reads more (coded, is, spell) rest = by_rest (subst (λ n. AddsReads n last more) is rest)
  where
    by_rest : AddsReads (Some (earlier ++ coded)) last more → AddsReads (Some earlier) last (reads ++ more)
    by_rest (others, are, spell_more) = (coded ++ others, are ∙ ap Some (append_assoc earlier coded others), zip-append coded others reads more spell spell_more)

-- ---- a stage, and the others after it

module _ {X Y : Type 0} (judged : Judged X) (stage : X → Judged Y) (old now : Noted) where
  -- it goes on with what was found
  pub noted_on : (x : X) (last : Noted) → judged.outcome ≡ Ok x → AddsReads old now judged.reads → AddsReads now last (stage x).reads
      → AddsReads old last (judged >>= stage).reads
  noted_on x last is first rest =
      subst (λ outcome. AddsReads old last (next_stage judged.reads outcome stage).reads) (sym is) (adds_both old now last judged.reads (stage x).reads first rest)

  -- it ends where this stage refuses
  pub noted_here : (why : Refusal) → judged.outcome ≡ Err why → AddsReads old now judged.reads → AddsReads old now (judged >>= stage).reads
  noted_here why is first = subst (λ outcome. AddsReads old now (next_stage judged.reads outcome stage).reads) (sym is) first

  pub noted_refusal : (why : Refusal) → IsRefusedBy why judged → AddsReads old now judged.reads → (why ≡ OutOfMemory) ⊎ AddsReads old now (judged >>= stage).reads
  noted_refusal why (inl is) first = inr (noted_here why is first)
  noted_refusal why (inr none) first = inl none

  -- and where a later one does
  pub noted_later : {P : Type 0} (x : X) (last : Noted) → judged.outcome ≡ Ok x → AddsReads old now judged.reads → P ⊎ AddsReads now last (stage x).reads
      → P ⊎ AddsReads old last (judged >>= stage).reads
  noted_later x last is first (inl p) = inl p
  noted_later x last is first (inr rest) = inr (noted_on x last is first rest)

-- the same of a stage that reads nothing
module _ {X Y : Type 0} (judged : Judged X) (stage : X → Judged Y) (quiet : judged.reads ≡ []) (now : Noted) where
  none_noted : AddsReads now now judged.reads
  none_noted = subst (AddsReads now now) (sym quiet) (adds_nothing now)

  pub quiet_on : (x : X) (last : Noted) → judged.outcome ≡ Ok x → AddsReads now last (stage x).reads → AddsReads now last (judged >>= stage).reads
  quiet_on x last is = noted_on judged stage now now x last is none_noted

  pub quiet_here : (why : Refusal) → judged.outcome ≡ Err why → AddsReads now now (judged >>= stage).reads
  quiet_here why is = noted_here judged stage now now why is none_noted

  pub quiet_refusal : (why : Refusal) → IsRefusedBy why judged → (why ≡ OutOfMemory) ⊎ AddsReads now now (judged >>= stage).reads
  quiet_refusal why refused = noted_refusal judged stage now now why refused none_noted

  pub quiet_later : {P : Type 0} (x : X) (last : Noted) → judged.outcome ≡ Ok x → P ⊎ AddsReads now last (stage x).reads → P ⊎ AddsReads now last (judged >>= stage).reads
  quiet_later x last is = noted_later judged stage now now x last is none_noted

-- the same of stages after this one that read nothing
pub then_quiet : {X Y : Type 0} (judged : Judged X) (stage : X → Judged Y) → ((x : X) → (stage x).reads ≡ []) → (judged >>= stage).reads ≡ judged.reads
then_quiet {X = X} judged stage quiet = by_outcome judged.outcome
  where
    by_outcome : (outcome : Result X Refusal) → (next_stage judged.reads outcome stage).reads ≡ judged.reads
    by_outcome (Err why) = refl
    by_outcome (Ok x) = ap (λ l. judged.reads ++ l) (quiet x) ∙ append-nil judged.reads

-- two stages that read nothing, and then others
module _ {X Y Z : Type 0} (judged : Judged X) (stage : X → Judged Y) (rest : Y → Judged Z) (quiet : judged.reads ≡ []) (each : (x : X) → (stage x).reads ≡ []) (now : Noted) where
  abbrev in_three : Judged Z
  in_three = judged >>= λ x. (stage x >>= rest)

  pub quiet_before : (why : Refusal) → IsRefusedBy why (judged >>= stage) → (why ≡ OutOfMemory) ⊎ AddsReads now now in_three.reads
  quiet_before why (inr none) = inl none
  quiet_before why (inl is) = by_outcome judged.outcome refl is
    where
      by_outcome : (outcome : Result X Refusal) → judged.outcome ≡ outcome → (next_stage judged.reads outcome stage).outcome ≡ Err why
          → (why ≡ OutOfMemory) ⊎ AddsReads now now in_three.reads
      by_outcome (Err other) e is = inr (quiet_here judged (λ x. stage x >>= rest) quiet now other e)
      by_outcome (Ok x) e is = inr (quiet_on judged (λ x. stage x >>= rest) quiet now x now e (quiet_here (stage x) rest (each x) now why is))

  pub quiet_through : {P : Type 0} (y : Y) (last : Noted) → (judged >>= stage).outcome ≡ Ok y → P ⊎ AddsReads now last (rest y).reads → P ⊎ AddsReads now last in_three.reads
  quiet_through y last is noted =
      let (x, first, second) = came_by judged stage y is in
      quiet_later judged (λ x. stage x >>= rest) quiet now x last first (quiet_later (stage x) rest (each x) now y last second noted)

-- what a stage notes after earlier ones
pub noted_result : {A X Y : Type 0} (old now last : Noted) (result : Result A Refusal) (whole : Judged X) (rest : Judged Y) → IsNotedUpTo old now whole rest
    → NotesJudged now last result rest → NotesJudged old last result whole
noted_result old now last result whole rest up_to (inl none) = inl none
noted_result old now last result whole rest up_to (inr noted) = inr (up_to last noted)

-- what was found as another result
pub noted_ok : {A B X : Type 0} (old new : Noted) (found : A) (other : B) (judged : Judged X) → NotesJudged old new (Ok found) judged → NotesJudged old new (Ok other) judged
noted_ok old new found other judged (inl none) = absurd cc
noted_ok old new found other judged (inr noted) = inr noted

-- a refusal of what was found as one of another result
pub noted_err : {A B X : Type 0} (old new : Noted) (why : Refusal) (judged : Judged X) → NotesJudged {A = A} old new (Err why) judged → NotesJudged {A = B} old new (Err why) judged
noted_err old new why judged (inl none) = let same : why ≡ OutOfMemory = cc in inl (ap (λ w. Err w) same)
noted_err old new why judged (inr noted) = inr noted

-- a refusal as a result
pub as_result : {A N : Type 0} (why : Refusal) → (why ≡ OutOfMemory) ⊎ N → (◌≡◌ {A = Result A Refusal} (Err why) (Err OutOfMemory)) ⊎ N
as_result why (inl none) = inl (ap (λ w. Err w) none)
as_result why (inr noted) = inr noted

-- ---- what one stage reads

pub made_quiet : (space : ℕ) (write : Write) (key : Key) (tuple : Option (List ℕ)) (shown : List (List ℕ)) → (made space write key tuple shown).reads ≡ []
made_quiet space write key tuple shown = by_test (nat_lt max_body_size (length (row_body_text (row_with space write (key_array key)))))
  where
    by_test : (long : Bool)
        → (if long then stopped {X = Made} TransactionTooLong
        else found {X = Made} (record { row = Some (row_with space write (key_array key)); change = Some (record { space = space; key = key; tuple = tuple }); shown = shown })).reads ≡ []
    by_test true = refl
    by_test false = refl

pub unless_quiet : (fault : Option Refusal) → (unless fault).reads ≡ []
unless_quiet None = refl
unless_quiet (Some why) = refl

found_quiet : {X : Type 0} (why : Refusal) (there : Option X) → (found_or why there).reads ≡ []
found_quiet why None = refl
found_quiet why (Some x) = refl

pub primary_quiet : (schema : Schema) → (the_primary schema).reads ≡ []
primary_quiet schema = found_quiet (IndexMissing (record { 0 = 0 }) schema.def.name) (index_with 0 schema.indexes)

pub space_reads : (before : State) (space : ℕ) → (the_space before space).reads ≡ space_read space ∷ []
space_reads before space = ap (λ l. space_read space ∷ l) (found_quiet (SpaceMissing (record { 0 = space })) (schema_of before space))

pub index_reads : (space : ℕ) (schema : Schema) (index : ℕ) → (the_index space schema index).reads ≡ index_read space ∷ []
index_reads space schema index =
    ap (λ l. index_read space ∷ l) (found_quiet (IndexMissing (record { 0 = index }) schema.def.name) (index_with index schema.indexes))

pub unique_index_reads : (space : ℕ) (schema : Schema) (index : ℕ) → (the_unique_index space schema index).reads ≡ index_read space ∷ []
unique_index_reads space schema index = by_index (index_with index schema.indexes)
  where
    unique_quiet : (def : IndexDef) (fault : Option Refusal) → (unless fault >>= λ _. found_or OutOfMemory (Some def)).reads ≡ []
    unique_quiet def None = refl
    unique_quiet def (Some why) = refl

    by_index : (there : Option IndexDef)
        → (next_stage (index_read space ∷ (found_or (IndexMissing (record { 0 = index }) schema.def.name) there).reads)
        (found_or (IndexMissing (record { 0 = index }) schema.def.name) there).outcome (λ def. unless (unless_unique schema def) >>= λ _. found_or OutOfMemory (Some def))).reads
        ≡ index_read space ∷ []
    by_index None = refl
    by_index (Some def) = ap (λ l. index_read space ∷ l) (unique_quiet def (unless_unique schema def))

-- a DELETE reads nothing but the key
delete_quiet : (writer : Writer) (before : State) (space index : ℕ) (key : List ℕ) (entry : Option Indexed) → (delete_found writer before space index key entry).reads ≡ []
delete_quiet writer before space index key None = refl
delete_quiet writer before space index key (Some (own, old)) =
    let last = λ (u : Unit {0}). made space (Delete index key) own None (old ∷ []) in
    then_quiet (unless (write_refusal writer space delete_type (Some old))) (λ _. unless (drop_fault before space old) >>= last)
    (λ u. then_quiet (unless (drop_fault before space old)) last (λ v. made_quiet space (Delete index key) own None (old ∷ [])) ∙ unless_quiet (drop_fault before space old))
    ∙ unless_quiet (write_refusal writer space delete_type (Some old))

pub delete_noted : (writer : Writer) (before : State) (space index : ℕ) (key : List ℕ) (entry : Option Indexed) (now : Noted)
    → AddsReads now now (delete_found writer before space index key entry).reads
delete_noted writer before space index key entry now = subst (AddsReads now now) (sym (delete_quiet writer before space index key entry)) (adds_nothing now)
