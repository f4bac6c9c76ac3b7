-- A directory that was made durable, and the journal that was begun in it.
use Rattle.std.proofs.Common.{◌≡◌, ◌<◌, ℕ, Bool, true, false, List, [], ◌∷◌, length, sum, take, Any, Option, Some, None, is_some, IsSome, Result, Ok, Err, refl, sym, ap, ◌∙◌, subst, ◌⊎◌, inl, inr}
use Rattle.std.specs.Prelude.{IfSome, IfOk, if◌then◌else◌}
use Rattle.std.specs.Option.{option_map, unwrap_or}
use Rattle.std.specs.Ordering.{nat_cmp}
use Rattle.std.specs.Cmp.Lexicographic.{slice_cmp, bytes_decides}
use Rattle.std.specs.FinMap as finite
use Rattle.std.specs.FinMap.{get-empty}
use Rattle.mx_vclock.specs.Vclocks.{IsVclock}
use Rattle.mx_xlog.specs.declared.head.Head.{Head}
use Rattle.mx_xlog.specs.Headers.{header_of}
use Rattle.mx_outside.specs.Disks.{Disk, File, IfKnown, KnownAlike, synced_file, or_none}
use Rattle.mx_model.specs.declared.ids.Ids.{Ids}
use Rattle.mx_directory.specs.Directories.{Named, Reached, ReadAll, Continues, IsDirectoryState, ids_in, ids_or, directory_state}
use Rattle.mx_xlog.specs.Files.{ReadsAs}
use Rattle.mx_files.specs.Names.{is_journal, is_snapshot, is_draft, journal_name, same_bytes}
use Rattle.mx_files.proofs.NameLaws.{draft-is_journal, draft-is_snapshot, draft_is_no_snapshot, journal_name-is_journal, snapshot_is_no_journal}
use Rattle.mx_directory.proofs.DirectoryLaws.{names_same}
use Rattle.mx_directory.proofs.BeginLaws.{begins_again, newest_now}
use Rattle.mx_journal.specs.declared.journal.Journal.{Journal}
use Rattle.mx_journal.specs.Written.{IsWritten, IsNewest, Created, name_of, draft_name_of, Waits}
use Rattle.mx_images.specs.Changes.{IsNow}
use Rattle.mx_recover.specs.Durability.{HasNoDraft, MadeDurable}
use Rattle.mx_images.proofs.DiskLaws.{only_one}
use Rattle.mx_images.proofs.ToldLaws.{told_weaker, told_both, told_now}
use Rattle.mx_engine.specs.Standing.{EngineStandsFor}
use Rattle.mx_recover.specs.declared.replay.Recovered as memory
use Rattle.mx_store.specs.declared.opening.Opened.{Opened}
use Rattle.mx_recover.specs.Recovered.{StandsFor, AreIds}
use Rattle.mx_recover.specs.Replay.{IsDurableAt}
use Rattle.mx_model.specs.Bases.{Base}
use Rattle.mx_store.specs.Stores.{IsBaseOf, JournalHas, base_of}
use Rattle.mx_images.specs.Fair.{AllDurable}
use Rattle.mx_store.proofs.TakingLaws.{draft_differs}

-- A directory that was made durable.

read_still : (before : Option File) (after : Option File) (P : List ℕ → Type 0) → after ≡ option_map (λ file. synced_file file.bytes) before
    → IfSome before (λ (f : File). P f.bytes) → IfSome after (λ (f : File). P f.bytes)
read_still None after P is read = rw is tt
read_still (Some file) after P is read = rw is read

reads_one : (before after : Disk) → MadeDurable before after → (name : List ℕ) (P : List ℕ → Type 0)
    → IfSome (finite.get before.now name) (λ (f : File). P f.bytes) → IfSome (finite.get after.now name) (λ (f : File). P f.bytes)
reads_one before after durable name P read = by_kind (is_journal name) (is_draft name) refl refl
  where
    by_kind : (journal draft : Bool) → is_journal name ≡ journal → is_draft name ≡ draft → IfSome (finite.get after.now name) (λ (f : File). P f.bytes)
    by_kind true draft is other = read_still (finite.get before.now name) (finite.get after.now name) P (durable.journals name is) read
    by_kind false true other is = rw (durable.drafts name is) tt
    by_kind false false other is = rw (durable.others name other is) read

reads_still : (before after : Disk) → MadeDurable before after → (journals : List Named) → ReadAll before.now journals → ReadAll after.now journals
reads_still before after durable [] reads = tt
reads_still before after durable (file ∷ journals) reads = (
  reads_one before after durable file.0 (λ bytes. ReadsAs bytes file.1) reads.0,
  reads_still before after durable journals reads.1,
)

is_some_still : (found : Option File) → is_some (option_map (λ file. synced_file file.bytes) found) ≡ is_some found
is_some_still None = refl
is_some_still (Some file) = refl

snapshot_same : (before after : Disk) → MadeDurable before after → (q : List ℕ) → is_snapshot q ≡ true → finite.get after.now q ≡ finite.get before.now q
snapshot_same before after durable q snapshot = by_draft (is_draft q) refl
  where
    by_draft : (b : Bool) → is_draft q ≡ b → finite.get after.now q ≡ finite.get before.now q
    by_draft true is = let other = draft_is_no_snapshot q is in absurd cc
    by_draft false is = durable.others q (snapshot_is_no_journal q snapshot) is

-- it recovers to what it did before
pub durable_stands : (before after : Disk) (reached : Reached) → MadeDurable before after → IsDirectoryState before.now (Ok reached)
    → IsDirectoryState after.now (Ok reached)
durable_stands before after reached durable state =
    let names = names_same is_journal after.now before.now (λ q journal. ap is_some (durable.journals q journal) ∙ is_some_still (finite.get before.now q)) in
    let snapshots = names_same is_snapshot after.now before.now (λ q snapshot. ap is_some (snapshot_same before after durable q snapshot)) in record {
      journals = state.journals;
      names = state.names ∙ sym names;
      each = reads_still before after durable state.journals state.each;
      is = state.is ∙ ap (λ found. directory_state found state.journals) (sym snapshots);
    }

synced_whole : (found : Option File) (file : File) → option_map (λ (f : File). synced_file f.bytes) found ≡ Some file → file.synced ≡ length file.bytes
synced_whole None file is = absurd cc
synced_whole (Some was) file is =
    let same : synced_file was.bytes ≡ file = cc in
    subst (λ (f : File). f.synced ≡ length f.bytes) same refl

pub none_older : (disk : Disk) (name : List ℕ) → disk.older ≡ finite.empty → finite.get disk.older name ≡ None
none_older disk name older = ap (λ names. finite.get names name) older ∙ get-empty (slice_cmp nat_cmp) name

pub durable_whole : (before after : Disk) → MadeDurable before after → AllDurable after
durable_whole before after durable name file journal found = (
  synced_whole (finite.get before.now name) file (sym (durable.journals name journal) ∙ found),
  none_older after name durable.older,
)

-- A journal begun in it.

-- no file is newer, now or after a crash
pub is_newest : (disk : Disk) (reached : Reached) (name : List ℕ) → name ≡ journal_name (sum reached.clock) → IsDirectoryState disk.now (Ok reached)
    → disk.older ≡ finite.empty → IsNewest name disk
is_newest disk reached name named is older other kind any later =
    let now : is_some (finite.get disk.now other) ≡ true =
    only_one IsSome (finite.get disk.now other) (subst (λ names. Any IsSome (finite.get disk.now other ∷ or_none names)) (none_older disk other older) any) in
    newest_now disk.now reached is other kind now (ap (λ n. slice_cmp nat_cmp (take 20 other) (take 20 n)) (sym named) ∙ later)

no_draft : (q draft : List ℕ) → is_journal draft ≡ false → is_snapshot draft ≡ false → (is_journal q ≡ true) ⊎ (is_snapshot q ≡ true) → same_bytes q draft ≡ false
no_draft q draft no_journal no_snapshot kind = by_test (same_bytes q draft) refl kind
  where
    by_test : (b : Bool) → same_bytes q draft ≡ b → (is_journal q ≡ true) ⊎ (is_snapshot q ≡ true) → same_bytes q draft ≡ false
    by_test false differs kind = differs
    by_test true same (inl journal) = let other : is_journal q ≡ false = ap is_journal ((bytes_decides q draft).0 same) ∙ no_journal in absurd cc
    by_test true same (inr snapshot) = let other : is_snapshot q ≡ false = ap is_snapshot ((bytes_decides q draft).0 same) ∙ no_snapshot in absurd cc

-- journals and snapshots but the new one are as they were
pub created_same : (head : Head) (before now : Disk) → Created head before now → (q : List ℕ) → (is_journal q ≡ true) ⊎ (is_snapshot q ≡ true)
    → finite.get now.now q ≡ (if same_bytes q (name_of head) then Some (synced_file (header_of head)) else finite.get before.now q)
created_same head before now made q kind =
    made.files q
    ∙ ap (λ b. if same_bytes q (name_of head) then Some (synced_file (header_of head)) else if b then None else finite.get before.now q)
    (no_draft q (draft_name_of head) (draft-is_journal (sum head.clock)) (draft-is_snapshot (sum head.clock)) kind)

pub created_on_disk : (head : Head) (before now : Disk) → Created head before now → AllDurable before → AllDurable now
created_on_disk head before now made all name file journal found = (
  by_test (same_bytes name (name_of head)) refl (sym (created_same head before now made name (inl journal)) ∙ found),
  none_older now name made.older,
)
  where
    by_test : (b : Bool) → same_bytes name (name_of head) ≡ b
        → (if b then Some (synced_file (header_of head)) else finite.get before.now name) ≡ Some file → file.synced ≡ length file.bytes
    by_test true same is =
        let new : synced_file (header_of head) ≡ file = cc in
        subst (λ (f : File). f.synced ≡ length f.bytes) new refl
    by_test false differs is = (all name file journal is).0

-- no file waits for its name then
created_no_draft : (head : Head) (before now : Disk) → Created head before now → HasNoDraft before → HasNoDraft now
created_no_draft head before now made none name draft =
    made.files name
    ∙ ap (λ b. if b then Some (synced_file (header_of head)) else if same_bytes name (draft_name_of head) then None else finite.get before.now name)
    (draft_differs name (name_of head) draft (journal_name-is_journal (sum head.clock)))
    ∙ by_test (same_bytes name (draft_name_of head))
  where
    by_test : (b : Bool) → (if b then None else finite.get before.now name) ≡ None
    by_test true = refl
    by_test false = none name draft

its_ids : (first : Ids) (ids : Option Ids) → (ids ≡ None) ⊎ (ids ≡ Some (ids_or first ids))
its_ids first None = inl refl
its_ids first (Some ids) = inr refl

pub begun_continues : (ids : Ids) (head : Head) (before now : Disk) (reached : Reached) → IsVclock reached.clock → head.clock ≡ reached.clock
    → IsDirectoryState before.now (Ok reached) → Created head before now → Continues (base_of ids reached) (name_of head) now.now
begun_continues ids head before now reached sound clock is made =
    let named : journal_name (sum reached.clock) ≡ name_of head = ap (λ c. journal_name (sum c)) (sym clock) in
    subst (λ name. Continues (base_of ids reached) name now.now) named
    (begins_again before.now now.now reached (base_of ids reached) (synced_file (header_of head)) is refl refl refl (its_ids ids reached.ids) sound
    (λ q kind. created_same head before now made q kind
    ∙ ap (λ name. if same_bytes q name then Some (synced_file (header_of head)) else finite.get before.now q) (sym named)))

-- The same where the directory tells its files.

pub durable_at : (memory : memory.Recovered) (found : Reached) (before middle after : Option (List Disk)) → StandsFor memory found
    → IfKnown before (λ disk past. IsDirectoryState disk.now (Ok found)) → middle ≡ before → KnownAlike middle after
    → IfKnown middle (λ disk past. IsNow after (MadeDurable disk)) → IsDurableAt memory found after
durable_at memory found before middle after stands is same alike durable = record {
  stands = stands;
  told = told_now middle after (λ disk. IsDirectoryState disk.now (Ok found) × AllDurable disk × (disk.older ≡ finite.empty) × HasNoDraft disk) alike
      (told_both middle
      (λ disk past state now. (now.0, now.1, now.2, (durable_stands disk now.0 found now.3 state, durable_whole disk now.0 now.3, now.3.older, now.3.drafts)))
      (subst (λ states. IfKnown states (λ disk past. IsDirectoryState disk.now (Ok found))) (sym same) is) durable);
}

pub newest_told : (states : Option (List Disk)) (memory : memory.Recovered) (found : Reached) → IsDurableAt memory found states
    → IfKnown states (λ disk past. IsNewest (journal_name (sum memory.clock)) disk)
newest_told states memory found s = told_weaker states
    (λ disk past told. is_newest disk found (journal_name (sum memory.clock)) (ap (λ clock. journal_name (sum clock)) s.stands.clock) told.0 told.2)
    s.told

pub kept_ids : (first : Ids) (ids found : Option Ids) → ids ≡ found → unwrap_or ids first ≡ ids_or first found
kept_ids first None found is = ap (ids_or first) is
kept_ids first (Some its) found is = ap (ids_or first) is

pub known_few : (first : Ids) (ids found : Option Ids) → first.me < 32 → ids ≡ found → AreIds found → (unwrap_or ids first).me < 32
known_few first None found few is whose = few
known_few first (Some its) found few is whose = subst AreIds (sym is) whose

-- what the journal has that was begun
pub begun : (whose : Ids) (memory : memory.Recovered) (found : Reached) (before after : Option (List Disk)) (journal : Journal) (head : Head)
    → IsDurableAt memory found before → KnownAlike before after
    → IfKnown before (λ disk past. IsNow after (λ now. IsWritten journal now [] × Created head disk now))
    → journal.head ≡ head → journal.clock ≡ head.clock → Waits journal [] → head.clock ≡ memory.clock → ids_in head ≡ ids_or whose found.ids
    → JournalHas (base_of whose found) [] journal after
begun whose memory found before after journal head s alike made its clock waits of ids =
    let starts : head.clock ≡ found.clock = of ∙ s.stands.clock in record {
      begins = ap (λ h. h.clock) its ∙ starts;
      whose = ap ids_in its ∙ ids;
      clock = clock ∙ starts;
      waits = waits;
      written = told_now before after
          (λ disk. IsWritten journal disk [] × Continues (base_of whose found) (name_of journal.head) disk.now × AllDurable disk
          × (disk.older ≡ finite.empty) × HasNoDraft disk)
          alike
          (told_both before
          (λ disk past told now. (
            now.0,
            now.1,
            now.2,
            (
              now.3.0,
              subst (λ h. Continues (base_of whose found) (name_of h) now.0.now) (sym its)
                  (begun_continues whose head disk now.0 found s.stands.sound starts told.0 now.3.1),
              created_on_disk head disk now.0 now.3.1 told.1,
              now.3.1.older,
              created_no_draft head disk now.0 now.3.1 told.3,
            ),
          ))
          s.told made);
    }

pub opens : {E : Type 0} (result : Result Opened E) (ids : Ids) (found : Reached) (before read after : Option (List Disk)) → read ≡ before
    → IfKnown read (λ disk past. IsDirectoryState disk.now (Ok found))
    → IfOk result (λ opened. EngineStandsFor opened.engine (base_of ids found) [] × JournalHas (base_of ids found) [] opened.journal after)
    → IfOk result (λ opened. (base : Base) × IsBaseOf ids base before × EngineStandsFor opened.engine base [] × JournalHas base [] opened.journal after)
opens (Ok opened) ids found before read after same is made = (
  base_of ids found,
  told_weaker before (λ disk past state. (found, state, refl))
      (subst (λ states. IfKnown states (λ disk past. IsDirectoryState disk.now (Ok found))) same is),
  made.0,
  made.1,
)
opens (Err error) ids found before read after same is made = tt
