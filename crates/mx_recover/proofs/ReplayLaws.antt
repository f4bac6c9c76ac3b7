-- What a transaction, a block and a header make of what memory holds.
use Rattle.std.proofs.Common.{◌≡◌, ◌⊎◌, ℕ, ◌+◌, ◌≤◌, min, List, ◌∷◌, [], ◌++◌, length, take, drop, Option, Some, None, IfSome, refl, sym, ap, ◌∙◌, subst, inl, inr, arith, zero, suc, ◌-◌, ◌<◌, Bool, true, false, ◌&&◌, ◌==◌, Result, Ok, Err}
use Rattle.std.proofs.lemmas.List.{length-append, length-drop, length-take-le, take_all, get_or-set_other}
use Rattle.std.proofs.Math.Seq.{take-append_seam, drop-append_seam, take-add}
use Rattle.std.specs.Prelude.{slice_index_or, slice_set, ◌||◌, unwrap_or, IfOk, MatchOption, if◌then◌else◌, not}
use Rattle.std.specs.List.{list_any}
use Rattle.std.specs.Cmp.Lexicographic.{bytes_decides}
use Rattle.std.proofs.lemmas.Bool.{and_from, and_parts, eqb-true, cond-true, cond-false}
use Rattle.std.proofs.lemmas.Grind.{same_number_lists}
use Rattle.std.proofs.lemmas.List.Elements.{All-set}
use Rattle.std.proofs.Math.ListN.{length-set}
use Rattle.std.specs.declared.alloc.AllocError.{AllocError}
use Rattle.mx_outside.specs.Disks.{File, Disk, OfFile, ReadsAt}
use Rattle.mx_recover.specs.Load.{ReadsOn}
use Rattle.mx_xlog.specs.declared.head.Head.{Head}
use Rattle.mx_xlog.specs.Headers.{IsHead}
use Rattle.mx_vclock.specs.Vclocks.{IsVclock, Covers, max_lsn}
use Rattle.mx_xlog.specs.declared.block.Block.{Block}
use Rattle.mx_xlog.specs.declared.block.Block.TheVariants.{Rows, End, Empty, Torn}
use Rattle.mx_xlog.specs.Blocks.{StandsAt, block_of}
use Rattle.mx_xlog.specs.Reading.{block_at, blocks_of}
use Rattle.mx_xlog.proofs.ReadingLaws.{blocks_stand, end_stands, empty_stands, torn_stands, blocks_of_none}
use Rattle.mx_model.specs.declared.ids.Ids.{Ids}
use Rattle.mx_directory.specs.declared.damage.Damage.{Damage}
use Rattle.mx_directory.specs.declared.damage.DamageKind.TheVariants.{Head as HeadDamage, Gap}
use Rattle.mx_row.specs.declared.tx.Tx.{Tx}
use Rattle.mx_row.specs.declared.row.Row.{Row}
use Rattle.mx_space.specs.Stored.{Holds}
use Rattle.mx_schema.specs.State.{State}
use Rattle.mx_row.specs.declared.row_ref.RowRef.{RowRef}
use Rattle.mx_row.specs.Views.{row_value, row_values}
use Rattle.mx_recover.specs.declared.apply.ApplyFault.{ApplyFault}
use Rattle.mx_recover.specs.declared.apply.ApplyFault.TheVariants.{Row as RefusedRow, NoMemory}
use Rattle.mx_recover.specs.Applied.{IsApplyFault}
use Rattle.mx_model.specs.Transactions.{is_schema_row}
use Rattle.mx_recover.proofs.AppliedLaws.{not_taken}
use Rattle.mx_model.specs.Answers.{state_after_rows}
use Rattle.mx_row.specs.Clocks.{clock_after_one, follows, last_lsn}
use Rattle.mx_row.specs.Rows.{IsTransaction}
use Rattle.mx_directory.specs.Directories.{after_transaction, after_block, after_blocks, block_reached, damaged_row, is_shared, schema_is_alone, takes_rows, ids_or, ids_in, head_fits, after_head}
use Rattle.mx_xlog.specs.Files.{FileRead}
use Rattle.mx_files.specs.Names.{same_bytes}
use Rattle.mx_recover.specs.declared.replay.Recovered.{Recovered}
use Rattle.mx_recover.specs.declared.fault.RecoverFault.{RecoverFault}
use Rattle.mx_recover.specs.declared.fault.RecoverFault.TheVariants.{Damaged}
use Rattle.mx_recover.specs.Recovered.{StandsFor, AreIds}
use Rattle.std.specs.FinMap as finite
use Rattle.mx_space.specs.declared.state.State as coded
use Rattle.mx_directory.specs.Directories as files

-- ---- what a piece more makes of the bytes of a file that were read

-- the first bytes of a file were read, up to a place of it
pub record IsLoaded (bytes : List ℕ) (at size : ℕ) (file : File) : Type 0 where
  pub whole : size ≡ length file.bytes
  pub front : bytes ≡ take at file.bytes

-- what holds of a file, and of the same one later
pub of_both : (P Q R : File → Type 0) (before now : Option (List Disk)) (name : List ℕ) → now ≡ before → OfFile before name P → OfFile now name Q
    → ((file : File) → P file → Q file → R file) → OfFile before name R
of_both P Q R before now name same first second both = by_states before first (subst (λ states. OfFile states name Q) same second)
  where
    by_file : (found : Option File) → IfSome found P → IfSome found Q → IfSome found R
    by_file None p q = tt
    by_file (Some file) p q = both file p q

    by_states : (states : Option (List Disk)) → OfFile states name P → OfFile states name Q → OfFile states name R
    by_states None p q = tt
    by_states (Some []) p q = tt
    by_states (Some (disk ∷ past)) p q = by_file (finite.get disk.now name) p q

pub of_one : (P R : File → Type 0) (states : Option (List Disk)) (name : List ℕ) → OfFile states name P
    → ((file : File) → P file → R file) → OfFile states name R
of_one P R states name is next = of_both P P R states states name refl is is (λ file p q. next file p)

front_is : (count : ℕ) (front more : List ℕ) → length front ≡ count → take count (front ++ more) ≡ front
front_is count front more long = ap (λ n. take n (front ++ more)) (sym long) ∙ take-append_seam front more

-- bytes that were read into the back of a buffer
pub placed : (file : File) (from len count result : ℕ) (front before after rest : List ℕ)
    → length front ≡ from → length before + from ≡ len → length after ≡ length before → result ≡ min count (length before)
    → ReadsAt file from before after count → ReadsOn file from (take len ((front ++ after) ++ rest)) result
placed file from len count result front before after rest starts all kept is reads =
    let room = reads.room in
    let there = reads.there in
    let same : result ≡ count = omega arith in
    let long : length (front ++ after) ≡ len = length-append front after ∙ omega arith in
    let buffer : take len ((front ++ after) ++ rest) ≡ front ++ after = front_is len (front ++ after) rest long in
    let back : drop from (front ++ after) ≡ after = ap (λ n. drop n (front ++ after)) (sym starts) ∙ drop-append_seam front after in
    let piece = take count (drop from file.bytes) in
    let fits : count ≤ length (drop from file.bytes) = omega (arith, length-drop from file.bytes) in
    let taken : take count after ≡ piece =
    ap (take count) reads.bytes ∙ front_is count piece (drop count before) (length-take-le count (drop from file.bytes) fits) in
    record {
      there = omega arith;
      same = ap (λ xs. take result (drop from xs)) buffer ∙ ap (take result) back ∙ ap (λ n. take n after) same ∙ taken
          ∙ ap (λ n. take n (drop from file.bytes)) (sym same);
      some = λ none. by_cause (ap length buffer ∙ long) (reads.some (sym same ∙ none));
    }
  where
    by_cause : length (take len ((front ++ after) ++ rest)) ≡ len → (length before ≡ 0) ⊎ (length file.bytes ≤ from)
        → (length (take len ((front ++ after) ++ rest)) ≤ from) ⊎ (length file.bytes ≤ from)
    by_cause long (inl no_room) = inl (omega arith)
    by_cause long (inr no_byte) = inr no_byte

-- a piece more
pub one_more : (file : File) (at from count size room : ℕ) (bytes more resized read cut : List ℕ)
    → from ≡ at → length bytes ≡ at → at ≤ room → resized ≡ take room bytes ++ more → take from read ≡ take from resized
    → cut ≡ take (from + count) read → IsLoaded bytes at size file → ReadsOn file from read count → IsLoaded cut (at + count) size file
one_more file at from count size room bytes more resized read cut begins long fits longer kept is loaded reads =
    let old : take from resized ≡ bytes =
    ap (take from) (longer ∙ ap (λ xs. xs ++ more) (take_all room bytes (omega arith))) ∙ front_is from bytes more (omega arith) in
    record {
      whole = loaded.whole;
      front = is ∙ take-add from count read
          ∙ (λ i. kept i ++ reads.same i)
          ∙ ap (λ xs. xs ++ take count (drop from file.bytes)) (old ∙ loaded.front ∙ ap (λ n. take n file.bytes) (sym begins))
          ∙ sym (take-add from count file.bytes)
          ∙ ap (λ n. take (n + count) file.bytes) begins;
    }

-- ---- a flag that says whether there is something

module _ {X : Type 0} (P : X → Type 0) where
  pub was_taken : (found : Option X) (flag : Bool) → flag ≡ true → MatchOption found (flag ≡ false) (λ x. (flag ≡ true) × P x)
      → (x : X) × (found ≡ Some x) × P x
  was_taken None flag is other = absurd cc
  was_taken (Some x) flag is both = (x, refl, both.1)

  pub was_refused : (found : Option X) (flag : Bool) → flag ≡ false → MatchOption found (flag ≡ false) (λ x. (flag ≡ true) × P x)
      → found ≡ None
  was_refused None flag is other = refl
  was_refused (Some x) flag is both = let other = both.0 in absurd cc

  pub none_taken : (found : Option X) → found ≡ None → MatchOption found (false ≡ false) (λ x. (false ≡ true) × P x)
  none_taken None is = refl
  none_taken (Some x) is = absurd cc

  pub one_taken : (found : Option X) (x : X) → found ≡ Some x → P x → MatchOption found (true ≡ false) (λ x. (true ≡ true) × P x)
  one_taken found x is holds = subst (λ o. MatchOption o (true ≡ false) (λ x. (true ≡ true) × P x)) (sym is) (refl, holds)

pub some_left : (bytes : List ℕ) (flag : Bool) → flag ≡ (length bytes == 0) → flag ≡ false → bytes ≡ [] → ⊥
some_left [] flag is other none = absurd cc
some_left (byte ∷ bytes) flag is other none = absurd cc

pub none_left : (bytes : List ℕ) (flag : Bool) → flag ≡ (length bytes == 0) → flag ≡ true → bytes ≡ []
none_left [] flag is empty = refl
none_left (byte ∷ bytes) flag is empty =
    let zero_long : suc (length bytes) ≡ 0 = eqb-true (suc (length bytes)) 0 (sym is ∙ empty) in
    absurd (omega arith)

-- ---- vclocks that cover one another

same_from_covers : (clock other : List ℕ) → IsVclock clock → IsVclock other → Covers clock other → Covers other clock → clock ≡ other
same_from_covers clock other sound sound' above below =
    same_number_lists clock other (sound.whole ∙ sym sound'.whole)
    (λ id within. let few : id < 32 = omega (arith, sound.whole) in omega (arith, above id few, below id few))

differ : (clock other : List ℕ) → (clock ≡ other → ⊥) → false ≡ same_bytes clock other
differ clock other apart = by_test (same_bytes clock other) refl
  where
    by_test : (test : Bool) → same_bytes clock other ≡ test → false ≡ test
    by_test true is = absurd (apart ((bytes_decides clock other).0 is))
    by_test false is = refl

covers_itself : (clock other : List ℕ) → clock ≡ other → Covers clock other
covers_itself clock other is = subst (Covers clock) is (λ id few. omega arith)

pub covered : (clock other : List ℕ) (flag : Bool) → IsVclock clock → IsVclock other → Covers clock other
    → (flag ≡ true → Covers other clock) → (Covers other clock → flag ≡ true) → flag ≡ same_bytes clock other
covered clock other true sound sound' above to from =
    sym ((bytes_decides clock other).1 (same_from_covers clock other sound sound' above (to refl)))
covered clock other false sound sound' above to from =
    differ clock other (λ is. let yes = from (covers_itself other clock (sym is)) in cc)

-- ---- transactions

and_false : (b : Bool) → (b && false) ≡ false
and_false true = refl
and_false false = refl

not_zero : (number : ℕ) → not (number == 0) ≡ true → ¬ (number ≡ 0)
not_zero zero test is = absurd cc
not_zero (suc number) test is = omega (arith, is)

-- the transaction comes next, so far as its numbers and spaces tell
abbrev pub is_due : List ℕ → Tx → Bool
is_due clock tx = is_shared tx && follows clock tx && schema_is_alone tx

module _ (old new : Recovered) (before : files.Reached) (stands : StandsFor old before) (tx : Tx) (sound : IsTransaction tx)
    (due : is_due before.clock tx ≡ true) (clock : new.clock ≡ slice_set old.clock tx.replica.0 (last_lsn tx)) (ids : new.ids ≡ old.ids)
    (takes : takes_rows before.state tx.rows ≡ true) (holds : Holds new.state (state_after_rows before.state tx.rows)) where
  shared : is_shared tx ≡ true
  shared = (and_parts _ _ (and_parts _ _ due).0).0

  most : last_lsn tx ≤ max_lsn
  most = sound.lsns.1

  stands_after : StandsFor new (record before {
    state = state_after_rows before.state tx.rows;
    clock = clock_after_one before.clock tx;
    transactions = before.transactions ++ tx ∷ [];
  })
  stands_after = record {
    ids = ids ∙ stands.ids;
    holds = holds;
    clock = clock ∙ ap (λ (c : List ℕ). slice_set c tx.replica.0 (last_lsn tx)) stands.clock;
    sound = record {
      whole = length-set before.clock tx.replica.0 (last_lsn tx) ∙ stands.sound.whole;
      bounded = All-set (λ lsn. lsn ≤ max_lsn) before.clock tx.replica.0 (last_lsn tx) most stands.sound.bounded;
    };
    nothing = get_or-set_other before.clock tx.replica.0 0 (last_lsn tx) 0 (λ is. not_zero tx.replica.0 shared (sym is)) ∙ stands.nothing;
    whose = stands.whose;
  }

  -- it follows, and memory has what its rows make of the state
  pub taken_rows : MatchOption (after_transaction tx before) (true ≡ false) (λ after. (true ≡ true) × StandsFor new after)
  taken_rows = one_taken (StandsFor new) (after_transaction tx before) _ (cond-true _ _ _ (and_from _ _ due takes)) stands_after

-- a transaction that isn't taken
module _ (new : Recovered) (before : files.Reached) (tx : Tx) where
  abbrev Refused : Type 0
  Refused = MatchOption (after_transaction tx before) (false ≡ false) (λ after. (false ≡ true) × StandsFor new after)

  -- it doesn't come next
  pub refused_tx : is_due before.clock tx ≡ false → Refused
  refused_tx other =
      none_taken (StandsFor new) (after_transaction tx before) (cond-false _ _ _ (ap (λ b. b && takes_rows before.state tx.rows) other))

  -- the state refuses a row
  pub refused_row : takes_rows before.state tx.rows ≡ false → Refused
  refused_row other =
      none_taken (StandsFor new) (after_transaction tx before)
      (cond-false _ _ _ (ap (λ b. is_due before.clock tx && b) other ∙ and_false (is_due before.clock tx)))

-- ---- blocks

module _ (bytes : List ℕ) (at from to : ℕ) (stands : StandsAt bytes at (Rows from to)) where
  -- where the block's data lies
  pub places : (at < to) × (from ≤ to) × (to ≤ length bytes) × ((at + 19) + length (take (to - from) (drop from bytes)) ≡ to)
  places =
      let front : length (block_of stands.0) ≡ 19 + length stands.0 = omega arith in
      let all : length (drop at bytes) ≡ length (block_of stands.0) + length stands.1.0 =
      ap length stands.1.2 ∙ length-append (block_of stands.0) stands.1.0 in
      let left = length-drop at bytes in
      let left' = length-drop from bytes in
      let begin : from ≡ at + 19 = stands.2 in
      let end : to ≡ from + length stands.0 = stands.3 in
      let within : to ≤ length bytes = omega arith in
      let few = length-take-le (to - from) (drop from bytes) (omega arith) in
      (omega arith, omega arith, within, omega arith)

module _ (name bytes : List ℕ) (at from to : ℕ) (now : files.Reached) (stands : StandsAt bytes at (Rows from to)) where
  abbrev rows : List ℕ
  rows = take (to - from) (drop from bytes)

  first_block : after_blocks name at (blocks_of (drop at bytes)) now
      ≡ block_reached name at (after_blocks name ((at + 19) + length rows) (blocks_of (drop to bytes))) (after_block rows now)
  first_block = ap (λ blocks. after_blocks name at blocks now) (blocks_stand bytes at from to stands)

  -- its rows are taken
  pub block_taken : (next : files.Reached) → after_block rows now ≡ Some next
      → after_blocks name at (blocks_of (drop at bytes)) now ≡ after_blocks name to (blocks_of (drop to bytes)) next
  block_taken next is =
      first_block
      ∙ ap (block_reached name at (after_blocks name ((at + 19) + length rows) (blocks_of (drop to bytes)))) is
      ∙ ap (λ place. after_blocks name place (blocks_of (drop to bytes)) next) (places bytes at from to stands).3

  -- its rows are refused
  pub block_refused : after_block rows now ≡ None → after_blocks name at (blocks_of (drop at bytes)) now ≡ damaged_row name at
  block_refused is = first_block ∙ ap (block_reached name at (after_blocks name ((at + 19) + length rows) (blocks_of (drop to bytes)))) is

-- no block stands at the place
pub blocks_end : (name bytes : List ℕ) (at : ℕ) (now : files.Reached) (block : Block) → StandsAt bytes at block
    → ((from to : ℕ) → ¬ (block ≡ Rows from to)) → after_blocks name at (blocks_of (drop at bytes)) now ≡ Ok now
blocks_end name bytes at now block stands other =
    ap (λ blocks. after_blocks name at blocks now) (blocks_of_none (drop at bytes) (none_stands block stands other))
  where
    none_stands : (block : Block) → StandsAt bytes at block → ((from to : ℕ) → ¬ (block ≡ Rows from to)) → block_at (drop at bytes) ≡ None
    none_stands (Rows from to) stands other = absurd (other from to refl)
    none_stands End stands other = end_stands bytes at stands
    none_stands Empty stands other = empty_stands bytes at stands
    none_stands (Torn place) stands other = torn_stands bytes at place stands

abbrev fails : {A : Type 0} → RecoverFault → Result A RecoverFault
fails fault = Err fault

-- the fault that was returned is this damage's
pub same_damage : {A : Type 0} (fault : RecoverFault) (wanted told : Damage) → fault ≡ Damaged wanted
    → fails {A = A} fault ≡ fails {A = A} (Damaged told) → wanted ≡ told
same_damage fault wanted told is same = cc

-- ---- headers

-- what the files so far recover to, of a node that is known after this header
abbrev pub known_by : Head → files.Reached → files.Reached
known_by head before = record before { ids = Some (ids_or (ids_in head) before.ids) }

abbrev head_told : (fits same : Bool) → List ℕ → FileRead → files.Reached → Result files.Reached Damage
head_told fits same name file reached =
    if not fits then Err (record { file = name; at = 0; kind = HeadDamage })
    else if not same then Err (record { file = name; at = 0; kind = Gap reached.clock file.head.clock })
    else after_blocks name file.size file.blocks (known_by file.head reached)

module _ (name : List ℕ) (file : FileRead) (reached : files.Reached) where
  pub head_refused : head_fits name file.head reached ≡ false → after_head name file reached ≡ Err (record { file = name; at = 0; kind = HeadDamage })
  head_refused other = ap (λ fits. head_told fits (same_bytes reached.clock file.head.clock) name file reached) other

  pub gap_told : head_fits name file.head reached ≡ true → same_bytes reached.clock file.head.clock ≡ false
      → after_head name file reached ≡ Err (record { file = name; at = 0; kind = Gap reached.clock file.head.clock })
  gap_told fits other =
      ap (λ fits. head_told fits (same_bytes reached.clock file.head.clock) name file reached) fits
      ∙ ap (λ same. head_told true same name file reached) other

  pub head_taken : head_fits name file.head reached ≡ true → same_bytes reached.clock file.head.clock ≡ true
      → after_head name file reached ≡ after_blocks name file.size file.blocks (known_by file.head reached)
  head_taken fits is =
      ap (λ fits. head_told fits (same_bytes reached.clock file.head.clock) name file reached) fits
      ∙ ap (λ same. head_told true same name file reached) is

known_ids : (ids : Ids) (found : Option Ids) → unwrap_or found ids ≡ ids_or ids found
known_ids ids None = refl
known_ids ids (Some found) = refl

known_whose : (ids : Ids) (found : Option Ids) → ids.me < 32 → AreIds found → AreIds (Some (ids_or ids found))
known_whose ids None few whose = few
known_whose ids (Some found) few whose = whose

-- memory that knows the node's identifiers
pub begun : (old new : Recovered) (before : files.Reached) (head : Head) → StandsFor old before → head.replica < 32
    → new.ids ≡ Some (unwrap_or old.ids (ids_in head)) → new.state ≡ old.state → new.clock ≡ old.clock → StandsFor new (known_by head before)
begun old new before head stands few ids state clock = record {
  ids = ids ∙ ap (λ o. Some o) (known_ids (ids_in head) old.ids ∙ ap (ids_or (ids_in head)) stands.ids);
  holds = subst (λ memory. Holds memory before.state) (sym state) stands.holds;
  clock = clock ∙ stands.clock;
  sound = stands.sound;
  nothing = stands.nothing;
  whose = known_whose (ids_in head) before.ids few stands.whose;
}

-- two vclocks as memory has them
pub same_here : (memory : Recovered) (before : files.Reached) (head : Head) (flag told : Bool) → StandsFor memory before → IsHead head
    → (IsVclock memory.clock → IsVclock head.clock → flag ≡ same_bytes memory.clock head.clock) → flag ≡ told
    → same_bytes before.clock head.clock ≡ told
same_here memory before head flag told stands fits same is =
    ap (λ clock. same_bytes clock head.clock) (sym stands.clock) ∙ sym (same (subst IsVclock (sym stands.clock) stands.sound) fits.sound) ∙ is

-- what isn't out of memory is refused
pub refused_told : (P : Bool → Type 0) (result : Result Bool AllocError) (fault : ApplyFault)
    → IfOk result (λ taken. (taken ≡ false) × (fault ≡ NoMemory → ⊥)) → ((fault ≡ NoMemory → ⊥) → P false) → IfOk result P
refused_told P (Ok taken) fault both shows = subst P (sym both.0) (shows both.1)
refused_told P (Err error) fault both shows = tt

-- rows of which one was refused
pub not_applied : (before : State) (all : List Row) (memory : coded.State) (fault : ApplyFault) → IsApplyFault before all memory fault
    → (fault ≡ NoMemory → ⊥) → takes_rows before all ≡ false
not_applied before _ memory (RefusedRow place refusal) (applied, row, there, refused) other = not_taken before _ place row refusal there refused
not_applied before all memory NoMemory some other = absurd (other refl)

-- ---- rows of the schema

abbrev row_at : List RowRef → ℕ → RowRef → Row
row_at rows place default = row_value (slice_index_or rows place default)

pub schema_row_found : (rows : List RowRef) (place : ℕ) (default : RowRef) → place < length rows → is_schema_row (row_at rows place default) ≡ true
    → list_any is_schema_row (row_values rows) ≡ true
schema_row_found [] place default within is = absurd (omega arith)
schema_row_found (row ∷ rows) zero default within is = ap (λ (b : Bool). b || list_any is_schema_row (row_values rows)) is
schema_row_found (row ∷ rows) (suc place) default within is =
    ap (λ (b : Bool). is_schema_row (row_value row) || b) (schema_row_found rows place default (omega arith) is) ∙ or_true (is_schema_row (row_value row))
  where
    or_true : (b : Bool) → (b || true) ≡ true
    or_true true = refl
    or_true false = refl

no_schema_row : (rows : List RowRef) (place : ℕ) (default : RowRef) → place < length rows → list_any is_schema_row (row_values (take place rows)) ≡ false
    → is_schema_row (row_at rows place default) ≡ false → list_any is_schema_row (row_values (take (suc place) rows)) ≡ false
no_schema_row [] place default within none is = absurd (omega arith)
no_schema_row (row ∷ rows) zero default within none is = ap (λ (b : Bool). b || false) is
no_schema_row (row ∷ rows) (suc place) default within none is =
    let both = or_none (is_schema_row (row_value row)) (list_any is_schema_row (row_values (take place rows))) none in
    ap (λ (b : Bool). b || list_any is_schema_row (row_values (take (suc place) rows))) both.0
    ∙ no_schema_row rows place default (omega arith) both.1 is
  where
    or_none : (b c : Bool) → (b || c) ≡ false → (b ≡ false) × (c ≡ false)
    or_none true c e = absurd cc
    or_none false c e = (refl, e)

pub still_no_schema_row : (rows : List RowRef) (place : ℕ) (default : RowRef) → place < length rows
    → list_any is_schema_row (row_values (take place rows)) ≡ false → is_schema_row (row_at rows place default) ≡ false
    → list_any is_schema_row (row_values (take (place + 1) rows)) ≡ false
still_no_schema_row rows place default within none is =
    let next : place + 1 ≡ suc place = omega arith in
    ap (λ (count : ℕ). list_any is_schema_row (row_values (take count rows))) next ∙ no_schema_row rows place default within none is
