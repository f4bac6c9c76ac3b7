-- What a crash leaves of a directory that was made durable, and of one in which a journal is being begun.
use Rattle.std.proofs.Common.{◌≡◌, ℕ, ◌≤◌, Bool, true, false, List, [], ◌∷◌, length, sum, take, Option, Some, None, Ok, refl, sym, ap, ◌∙◌, subst, ◌⊎◌, inl, inr, arith}
use Rattle.std.specs.Prelude.{⊤, IfSome, if◌then◌else◌}
use Rattle.std.specs.List.{filter, AllByRecursion}
use Rattle.std.proofs.lemmas.List.{take_all}
use Rattle.std.specs.Option.{unwrap_or}
use Rattle.std.specs.Ordering.{nat_cmp}
use Rattle.std.specs.Cmp.Lexicographic.{slice_cmp, bytes_decides}
use Rattle.std.specs.FinMap as finite
use Rattle.std.specs.FinMap.{get-empty}
use mathlib.Core.List.{IsPrefix}
use Rattle.mx_outside.specs.Disks.{Disk, File, Files, IfKnown, KnownAlike, Leaves}
use Rattle.mx_outside.specs.Moments.{Moments}
use Rattle.mx_xlog.specs.declared.head.Head.{Head}
use Rattle.mx_model.specs.declared.ids.Ids.{Ids}
use Rattle.mx_row.specs.declared.tx.Tx.{Tx}
use Rattle.mx_model.specs.Transactions.{state_after}
use Rattle.mx_row.specs.Clocks.{clock_after}
use Rattle.mx_model.specs.Bases.{Base}
use Rattle.mx_directory.specs.Directories.{Named, Reached, ReadAll, Origin, IsDirectoryState, ids_in, ids_or, nothing_yet, directory_state}
use Rattle.mx_xlog.specs.Files.{ReadsAs}
use Rattle.mx_files.specs.Names.{is_journal, is_snapshot, journal_name, same_bytes, counts}
use Rattle.mx_files.proofs.NameLaws.{journal_name-is_journal}
use Rattle.mx_directory.proofs.DirectoryLaws.{names_same, stands_after}
use Rattle.mx_directory.proofs.WalkLaws.{Passed}
use Rattle.mx_directory.proofs.BeginLaws.{sound, begins_again, reached_is_sound}
use Rattle.mx_directory.proofs.OnceLaws.{one_state, counted_once, front_longer, survive_longer}
use Rattle.mx_images.specs.Fair.{IsFair, IsFairEnd, AllDurable, LeavesNoOther}
use Rattle.mx_journal.specs.Crashes.{HasBegun, MayBegin, read_of}
use Rattle.mx_images.specs.Changes.{SameBut, SameContents}
use Rattle.mx_journal.specs.Written.{name_of}
use Rattle.mx_journal.proofs.BlockLaws.{none_grouped}
use Rattle.mx_images.proofs.ToldLaws.{told_both, told_then, told_weaker, where_told}
use Rattle.mx_images.proofs.MomentLaws.{Steps, no_moments, weaker, weaker_from}
use Rattle.mx_recover.specs.declared.replay.Recovered as memory
use Rattle.mx_recover.specs.Durability.{HasNoDraft}
use Rattle.mx_recover.specs.Replay.{IsDurableAt}
use Rattle.mx_directory.specs.Survival.{StandsAfter, Survive, NoFewerSurvive, ReadsMost, FollowFrom, Recovers}
use Rattle.mx_directory.proofs.ImageLaws.{fair_now, leaves_some, read_in_image, journal_counts, snapshot_counts, WasRead, all_were_read}
use Rattle.mx_directory.proofs.ReadLaws.{ReadMost, clean_reads_most}
use Rattle.mx_recover.proofs.LeavingLaws.{LeaveNoOther}
use Rattle.mx_store.proofs.OpenLaws.{kept_ids}

-- ---- the files of a durable directory

-- after any crash the directory recovers these transactions
abbrev AllStand : Origin → List Tx → Disk → Type 0
AllStand origin earlier disk = (image : Files) → IsFair disk image → StandsAfter origin earlier image

module _ (disk : Disk) (found : Reached) (whole : AllDurable disk) (durable : disk.older ≡ finite.empty) (stands : IsDirectoryState disk.now (Ok found)) where
  left_of : (image : Files) → IsFair disk image → (name : List ℕ) → counts name ≡ true → Leaves IsFairEnd (finite.get disk.now name) (finite.get image name)
  left_of image fair name counted =
      fair_now disk image name (ap (λ names. finite.get names name) durable ∙ get-empty (slice_cmp nat_cmp) name) fair counted

  all_synced : (name : List ℕ) → is_journal name ≡ true → (was : Option File) → finite.get disk.now name ≡ was
      → IfSome was (λ (file : File). file.synced ≡ length file.bytes)
  all_synced name is None there = tt
  all_synced name is (Some file) there = (whole name file is there).0

  one_again : (image : Files) → IsFair disk image → (file : Named) → is_journal file.0 ≡ true → WasRead file
      → IfSome (finite.get disk.now file.0) (λ (f : File). ReadsAs f.bytes file.1) → IfSome (finite.get image file.0) (λ (f : File). ReadsAs f.bytes file.1)
  one_again image fair (name, read) journal (header, is) reads =
      let left = left_of image fair name (journal_counts name journal) in
      let was = subst (λ r. IfSome (finite.get disk.now name) (λ (f : File). ReadsAs f.bytes r)) is reads in
      subst (λ r. IfSome (finite.get image name) (λ (f : File). ReadsAs f.bytes r)) (sym is)
      (read_in_image (finite.get disk.now name) (finite.get image name) header (all_synced name journal (finite.get disk.now name) refl) was left)

  all_again : (image : Files) → IsFair disk image → (files : List Named) → AllByRecursion WasRead files
      → AllByRecursion (λ (file : Named). Passed found file.0) files → ReadAll disk.now files → ReadAll image files
  all_again image fair [] headers passed reads = tt
  all_again image fair (file ∷ files) headers passed reads = (
    one_again image fair file (ap is_journal passed.0.named ∙ journal_name-is_journal passed.0.signature) headers.0 reads.0,
    all_again image fair files headers.1 passed.1 reads.1,
  )

  names_again : (image : Files) → IsFair disk image → (kind : List ℕ → Bool) → ((name : List ℕ) → kind name ≡ true → counts name ≡ true)
      → filter kind (finite.keys image) ≡ filter kind (finite.keys disk.now)
  names_again image fair kind counted = names_same kind image disk.now
      (λ name is. leaves_some (finite.get disk.now name) (finite.get image name) (left_of image fair name (counted name is)))

  -- whatever a crash leaves of a durable directory stands for what it stands for
  pub found_again : (image : Files) → IsFair disk image → IsDirectoryState image (Ok found)
  found_again image fair =
      let s = sound disk.now found stands in
      let journals = names_again image fair is_journal journal_counts in
      let snapshots = names_again image fair is_snapshot snapshot_counts in record {
        journals = s.journals;
        names = s.names ∙ sym journals;
        each = all_again image fair s.journals (all_were_read s.journals nothing_yet found s.after) s.on_way.names s.each;
        is = sym s.after ∙ ap (λ names. directory_state names s.journals) (sym (snapshots ∙ s.none));
      }

  -- A journal is being begun in it, with the identifiers that it has, or with these where it has none.
  module _ (head : Head) (first : Ids) (begins : head.clock ≡ found.clock) (kind : head.snapshot ≡ false) (ids : ids_in head ≡ ids_or first found.ids) where
    abbrev going_on : Base
    going_on = record { state = found.state; clock = found.clock; ids = ids_or first found.ids; earlier = found.transactions }

    -- whatever a crash leaves with the new journal stands for the same
    pub begun_again : (image : Files) → HasBegun head disk image
        → IsDirectoryState image (Ok (record found { ids = Some (ids_or first found.ids) }))
    begun_again image (was, fair, same, (groups, are, file, there, read)) =
        let reads = subst (λ some. ReadsAs file.bytes (Some (read_of head some))) (none_grouped groups are) read in
        let named : name_of head ≡ journal_name (sum found.clock) = ap (λ clock. journal_name (sum clock)) begins in
        let before = found_again was fair in
        let goes_on = begins_again was image found going_on file before refl refl refl (its_ids found.ids) (reached_is_sound was found before)
        (λ q counted. subst (λ name. finite.get image q ≡ (if same_bytes q name then Some file else finite.get was q)) named
        (as_before was image file same there q (by_kind q counted) (same_bytes q (name_of head)) refl)) in
        stands_after going_on (journal_name (sum found.clock)) image file _ _ goes_on (ap (finite.get image) (sym named) ∙ there) reads kind
        ((bytes_decides (journal_name (sum found.clock)) (name_of head)).1 (sym named)) begins ids refl
      where
        its_ids : (ids : Option Ids) → (ids ≡ None) ⊎ (ids ≡ Some (ids_or first ids))
        its_ids None = inl refl
        its_ids (Some ids) = inr refl

        by_kind : (q : List ℕ) → (is_journal q ≡ true) ⊎ (is_snapshot q ≡ true) → counts q ≡ true
        by_kind q (inl journal) = journal_counts q journal
        by_kind q (inr snapshot) = snapshot_counts q snapshot

        as_before : (was image : Files) (file : File) → SameBut (name_of head) was image → finite.get image (name_of head) ≡ Some file
            → (q : List ℕ) → counts q ≡ true → (b : Bool) → same_bytes q (name_of head) ≡ b
            → finite.get image q ≡ (if same_bytes q (name_of head) then Some file else finite.get was q)
        as_before was image file same there q counted true is =
            ap (finite.get image) ((bytes_decides q (name_of head)).0 is) ∙ there ∙ ap (λ b. if b then Some file else finite.get was q) (sym is)
        as_before was image file same there q counted false differs =
            same q counted differs ∙ ap (λ b. if b then Some file else finite.get was q) (sym differs)

    -- so it stands for the same transactions
    stands_still : {origin : Origin} (earlier : List Tx) → StandsAfter origin earlier disk.now → (files : Files) (reached : Reached)
        → IsDirectoryState files (Ok reached) → reached.state ≡ found.state → reached.clock ≡ found.clock → reached.transactions ≡ found.transactions
        → StandsAfter origin earlier files
    stands_still earlier after files reached is state clock made =
        let same = one_state disk.now found after.reached stands after.stands in
        record { reached = reached; stands = is; made = made ∙ same.2 ∙ after.made; state = state ∙ same.0 ∙ after.state; clock = clock ∙ same.1 ∙ after.clock }

    all_stand : {origin : Origin} (earlier : List Tx) → StandsAfter origin earlier disk.now → (next : Disk) → MayBegin head disk next
        → AllStand origin earlier next
    all_stand {origin} earlier after next may image fair = by_image (may image fair)
      where
        by_image : IsFair disk image ⊎ HasBegun head disk image → StandsAfter origin earlier image
        by_image (inl before) = stands_still earlier after image found (found_again image before) refl refl refl
        by_image (inr begun) = stands_still earlier after image _ (begun_again image begun) refl refl refl

-- ---- the states while a journal is begun

pub all_taken : (earlier : List Tx) → take (length earlier) earlier ≡ earlier
all_taken earlier = take_all (length earlier) earlier (omega arith)

module _ {origin : Origin} (earlier transactions : List Tx) (front : IsPrefix earlier transactions) (follow : FollowFrom origin transactions) where
  all_survive : (disk : Disk) → AllStand origin earlier disk → Survive origin transactions (length earlier) disk
  all_survive disk all = survive_longer earlier transactions (length earlier) disk front
      (λ image fair. (length earlier, omega arith, omega arith, subst (λ txs. StandsAfter origin txs image) (sym (all_taken earlier)) (all image fair)))

  -- these are so many of them all
  earlier_taken : (earlier ≡ take (length earlier) transactions) × (length earlier ≤ length transactions)
  earlier_taken =
      let longer = front_longer earlier transactions (length earlier) front (omega arith) in
      (sym (all_taken earlier) ∙ longer.0, longer.1)

  no_fewer : (older newer : Disk) → AllStand origin earlier older → AllStand origin earlier newer → (head : Head) → MayBegin head older newer
      → NoFewerSurvive origin transactions older newer
  no_fewer older newer before now head may least survive image fair =
      let taken = earlier_taken in
      let short = taken.1 in
      let (was, its) = left_before (may image fair) in
      let found = survive was its in
      let enough = found.1 in
      let same : length earlier ≡ found.0 = counted_once transactions (length earlier) found.0 was short found.2
      (subst (λ txs. StandsAfter origin txs was) taken.0 (before was its)) found.3 in
      (length earlier, omega arith, short, subst (λ txs. StandsAfter origin txs image) taken.0 (now image fair))
    where
      left_before : IsFair older image ⊎ HasBegun head older image → (was : Files) × IsFair older was
      left_before (inl before) = (image, before)
      left_before (inr (was, before, others, begun)) = (was, before)

  pub begins_survive : (memory : memory.Recovered) (found : Reached) (old new : Option (List Disk)) (head : Head) (own first : Ids)
      → IsDurableAt memory found old → head.clock ≡ memory.clock → head.snapshot ≡ false → ids_in head ≡ unwrap_or memory.ids own → own ≡ first
      → IfKnown old (λ disk past. StandsAfter origin earlier disk.now) → IfKnown old (λ disk past. Moments (MayBegin head disk) (MayBegin head) new disk past)
      → IfKnown old (λ disk past. Moments (Survive origin transactions (length earlier)) (NoFewerSurvive origin transactions) new disk past)
  begins_survive memory found old new head own first s clock kind ids its after moments = told_both old from_start s.told (told_both old both after moments)
    where
      Known : Disk → List Disk → Type 0
      Known disk past = StandsAfter origin earlier disk.now × Moments (MayBegin head disk) (MayBegin head) new disk past

      both : (disk : Disk) (past : List Disk) → StandsAfter origin earlier disk.now → Moments (MayBegin head disk) (MayBegin head) new disk past → Known disk past
      both disk past one other = (one, other)

      from_start : (disk : Disk) (past : List Disk) → IsDirectoryState disk.now (Ok found) × AllDurable disk × (disk.older ≡ finite.empty) × HasNoDraft disk → Known disk past
          → Moments (Survive origin transactions (length earlier)) (NoFewerSurvive origin transactions) new disk past
      from_start disk past durable known =
          let all = all_stand disk found durable.1 durable.2 durable.0 head first (clock ∙ s.stands.clock) kind
          (ids ∙ ap (unwrap_or memory.ids) its ∙ kept_ids first memory.ids found.ids s.stands.ids) earlier known.0 in
          weaker_from (λ next may. (all next may, all_survive next (all next may)))
          (λ older newer before may step. no_fewer older newer before (all newer may) head step) new disk past (all disk (λ image fair. inl fair)) known.1

-- ---- the states while a directory is opened

-- what doesn't speak of the disk is known after a call as before it
told_across : (X : Type 0) (before after : Option (List Disk)) → KnownAlike before after → IfKnown before (λ disk past. X) → IfKnown after (λ disk past. X)
told_across X before after alike known = told_then before after (λ disk past. X) alike
    (told_weaker before (λ disk past is. where_told after (λ disk past. X) (λ disk past told. is)) known)

-- the directory recovers the same transactions when it is made durable
pub made_durable_after : {origin : Origin} (earlier : List Tx) (memory : memory.Recovered) (found : Reached) (old read middle after : Option (List Disk))
    → read ≡ old → middle ≡ read → KnownAlike middle after → Recovers origin earlier old → IfKnown read (λ disk past. IsDirectoryState disk.now (Ok found))
    → IsDurableAt memory found after → IfKnown after (λ disk past. StandsAfter origin earlier disk.now)
made_durable_after {origin} earlier memory found old read middle after same still alike recovers is s =
    told_both after stands s.told
    (told_across Comes middle after alike
    (subst (λ states. IfKnown states (λ disk past. Comes)) (sym (still ∙ same))
    (told_both old comes recovers.told (subst (λ states. IfKnown states (λ disk past. IsDirectoryState disk.now (Ok found))) same is))))
  where
    Comes : Type 0
    Comes = (found.state ≡ state_after origin.state earlier) × (found.clock ≡ clock_after origin.clock earlier) × (found.transactions ≡ earlier)

    comes : (disk : Disk) (past : List Disk) → StandsAfter origin earlier disk.now × Survive origin earlier 0 disk → IsDirectoryState disk.now (Ok found) → Comes
    comes disk past known is =
        let same = one_state disk.now found known.0.reached is known.0.stands in
        (same.0 ∙ known.0.state, same.1 ∙ known.0.clock, same.2 ∙ known.0.made)

    stands : (disk : Disk) (past : List Disk) → IsDirectoryState disk.now (Ok found) × AllDurable disk × (disk.older ≡ finite.empty) × HasNoDraft disk → Comes
        → StandsAfter origin earlier disk.now
    stands disk past durable came = record { reached = found; stands = durable.0; made = came.2; state = came.0; clock = came.1 }

-- what has so many has none or more
pub some_survive : (origin : Origin) (transactions : List Tx) (least : ℕ) (old new : Option (List Disk))
    → IfKnown old (λ disk past. Moments (Survive origin transactions least) (NoFewerSurvive origin transactions) new disk past)
    → IfKnown old (λ disk past. Moments (Survive origin transactions 0) (NoFewerSurvive origin transactions) new disk past)
some_survive origin transactions least old new = told_weaker old (λ disk past.
    weaker (λ next survive image fair. let found = survive image fair in (found.0, omega arith, found.2, found.3)) (λ older newer survive step. step) new disk past)

-- a call that changed nothing
pub unchanged_survive : (origin : Origin) (transactions : List Tx) (old new : Option (List Disk)) → new ≡ old
    → IfKnown old (λ disk past. Moments (Survive origin transactions 0) (NoFewerSurvive origin transactions) new disk past)
unchanged_survive origin transactions old new same =
    subst (λ states. IfKnown old (λ disk past. Moments (Survive origin transactions 0) (NoFewerSurvive origin transactions) states disk past)) (sym same)
    (no_moments (λ start. Survive origin transactions 0) (NoFewerSurvive origin transactions) old)

-- and calls since which a crash leaves nothing new
pub left_survive : {origin : Origin} (earlier transactions : List Tx) (old middle new : Option (List Disk)) → IsPrefix earlier transactions → middle ≡ old
    → Recovers origin earlier old → LeaveNoOther middle new
    → IfKnown old (λ disk past. Moments (Survive origin transactions 0) (NoFewerSurvive origin transactions) new disk past)
left_survive {origin} earlier transactions old middle new front same recovers leave =
    told_both old by_steps recovers.told
    (subst (λ states. LeaveNoOther states new) same leave)
  where
    by_steps : (disk : Disk) (past : List Disk) → StandsAfter origin earlier disk.now × Survive origin earlier 0 disk
        → Moments (LeavesNoOther disk) LeavesNoOther new disk past
        → Moments (Survive origin transactions 0) (NoFewerSurvive origin transactions) new disk past
    by_steps disk past known =
        let before = survive_longer earlier transactions 0 disk front known.1 in
        weaker (λ next leaves image fair. before image (leaves image fair)) (λ older newer leaves step least survive image fair. survive image (step image fair))
        new disk past

-- ---- what the directory reads as while it is opened

-- a call that changed nothing
pub unchanged_reads : (origin : Origin) (transactions : List Tx) (old new : Option (List Disk)) → new ≡ old → ReadMost origin transactions old new
unchanged_reads origin transactions old new same =
    subst (ReadMost origin transactions old) (sym same) (no_moments (λ start. ReadsMost origin transactions) (λ older newer. ⊤) old)

-- calls that clean it
pub durable_reads : {origin : Origin} (earlier transactions : List Tx) (old middle new : Option (List Disk)) → IsPrefix earlier transactions → middle ≡ old
    → Recovers origin earlier old → LeaveNoOther middle new → Steps (λ older newer. SameContents older.now newer.now) middle new
    → ReadMost origin transactions old new
durable_reads {origin} earlier transactions old middle new front same recovers leave reads =
    clean_reads_most origin earlier transactions old new front recovers.told (subst (λ states. LeaveNoOther states new) same leave)
    (subst (λ states. Steps (λ older newer. SameContents older.now newer.now) states new) same reads)
