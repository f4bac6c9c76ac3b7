-- What a crash leaves of a directory whose journal is written to.
use Rattle.std.proofs.Common.{◌≡◌, ℕ, zero, suc, ◌+◌, ◌-◌, ◌≤◌, Bool, true, false, cond, List, [], ◌∷◌, ◌++◌, length, map, sum, take, drop, Option, Some, None, Ok, refl, sym, ap, ◌∙◌, subst, arith}
use Rattle.std.specs.Prelude.{⊤, is_some, IfSome}
use Rattle.std.specs.List.{filter, AllByRecursion}
use Rattle.std.specs.FinMap as finite
use Rattle.std.specs.FinMap.{get-empty}
use Rattle.std.specs.Ordering.{nat_cmp}
use Rattle.std.specs.Cmp.Lexicographic.{slice_cmp, bytes_decides}
use Rattle.std.proofs.lemmas.List.{append-nil, drop_at, length-append, take_at, take-append-le}
use mathlib.Core.List.{IsPrefix}
use Rattle.mx_outside.specs.Disks.{Disk, File, Files, Leaves, synced_file}
use Rattle.mx_outside.specs.Moments.{Moments}
use Rattle.mx_xlog.specs.declared.head.Head.{Head}
use Rattle.mx_xlog.specs.Headers.{IsHeader, header_of}
use Rattle.mx_xlog.specs.Reading.{blocks_of}
use Rattle.mx_xlog.proofs.ReadingLaws.{blocks_of_nothing}
use Rattle.mx_row.specs.declared.tx.Tx.{Tx}
use Rattle.mx_schema.specs.State.{State}
use Rattle.mx_model.specs.Answers.{state_after_rows}
use Rattle.mx_model.specs.Transactions.{state_after}
use Rattle.mx_row.specs.Clocks.{clock_after, clock_after_one}
use Rattle.mx_row.specs.Rows.{transactions_text}
use Rattle.mx_directory.specs.Directories.{Named, ReadAll, Origin, AllFollow, Continues, IsDirectoryState, ids_in, origin_of, reached_at}
use Rattle.mx_xlog.specs.Files.{ReadsAs}
use Rattle.mx_files.specs.Names.{is_journal, is_snapshot, same_bytes, counts}
use Rattle.mx_model.specs.Bases.{Base}
use Rattle.mx_files.proofs.NameLaws.{journal_name-is_journal}
use Rattle.mx_model.proofs.JournalLaws.{state_after-append}
use Rattle.mx_row.proofs.ClockLaws.{clock_after-append}
use Rattle.mx_directory.proofs.DirectoryLaws.{after_blocks_again, at_base, continues_same, names_of, names_same, reached_after, same_itself, stands_after}
use Rattle.mx_journal.proofs.BlockLaws.{blocks_again}
use Rattle.mx_journal.specs.declared.journal.Journal.{Journal}
use Rattle.mx_images.specs.Fair.{IsFairEnd, IsFair, AllDurable}
use Rattle.mx_journal.specs.Crashes.{HasFile, HasAtLeast, HasMost, NoFewer, read_of}
use Rattle.mx_journal.specs.Groups.{AreGroups, blocks_text}
use Rattle.mx_journal.specs.Written.{IsWritten, file_text, name_of}
use Rattle.mx_images.specs.Changes.{SameOthers}
use Rattle.mx_images.proofs.MomentLaws.{both_moments, weaker, weaker_from}
use Rattle.mx_directory.specs.Survival.{StandsAfter, Survive, NoFewerSurvive, IsOfNode, ReadsMost, FollowFrom, ComeTo}
use Rattle.mx_directory.proofs.OnceLaws.{counted_once}
use Rattle.mx_directory.proofs.ImageLaws.{fair_now, leaves_some, reads_again, left_whole, read_in_image, journal_counts, snapshot_counts, WasRead, all_were_read}

-- ---- the journals beside the one that is written to

all_pass : (p : List ℕ → Bool) (names : List (List ℕ)) → AllByRecursion (λ name. p name ≡ true) (filter p names)
all_pass p [] = tt
all_pass p (name ∷ names) = by_test (all_pass p names) (p name) refl
  where
    by_test : AllByRecursion (λ name. p name ≡ true) (filter p names) → (b : Bool) → p name ≡ b
        → AllByRecursion (λ name. p name ≡ true) (cond b (name ∷ filter p names) (filter p names))
    by_test others true is = (is, others)
    by_test others false is = others

of_names : (P : List ℕ → Type 0) (files : List Named) (more : List (List ℕ)) → AllByRecursion P (names_of files ++ more)
    → AllByRecursion (λ (file : Named). P file.0) files
of_names P [] more all = tt
of_names P (file ∷ files) more all = (all.0, of_names P files more all.1)

module _ (name : List ℕ) (disk now : Disk) (image : Files) (synced : AllDurable disk) (no_older : disk.older ≡ finite.empty)
    (same : SameOthers name disk now) (fair : IsFair now image) where
  -- what a crash leaves of another file
  left_of : (other : List ℕ) → counts other ≡ true → same_bytes other name ≡ false
      → Leaves IsFairEnd (finite.get disk.now other) (finite.get image other)
  left_of other is differs =
      subst (λ was. Leaves IsFairEnd was (finite.get image other)) (same.files other differs)
      (fair_now now image other (ap (λ older. finite.get older other) (same.older ∙ no_older) ∙ get-empty (slice_cmp nat_cmp) other) fair is)

  all_synced : (other : List ℕ) → is_journal other ≡ true → (was : Option File) → finite.get disk.now other ≡ was
      → IfSome was (λ (file : File). file.synced ≡ length file.bytes)
  all_synced other is None there = tt
  all_synced other is (Some file) there = (synced other file is there).0

  reads_in_image : (files : List Named) → AllByRecursion (λ (file : Named). is_journal file.0 ≡ true) files
      → AllByRecursion (λ (file : Named). same_bytes file.0 name ≡ false) files → AllByRecursion WasRead files → ReadAll disk.now files
      → ReadAll image files
  reads_in_image [] journals others were reads = tt
  reads_in_image (file ∷ files) journals others were reads =
      let (read, is) = were.0 in (
        subst (λ found. IfSome (finite.get image file.0) (λ (f : File). ReadsAs f.bytes found)) (sym is)
            (read_in_image (finite.get disk.now file.0) (finite.get image file.0) read
            (all_synced file.0 journals.0 (finite.get disk.now file.0) refl)
            (subst (λ found. IfSome (finite.get disk.now file.0) (λ (f : File). ReadsAs f.bytes found)) is reads.0)
            (left_of file.0 (journal_counts file.0 journals.0) others.0)),
        reads_in_image files journals.1 others.1 were.1 reads.1,
      )

  there_in_image : is_some (finite.get disk.now name) ≡ true → is_some (finite.get image name) ≡ true → (other : List ℕ) → counts other ≡ true
      → is_some (finite.get image other) ≡ is_some (finite.get disk.now other)
  there_in_image was there other is = by_test (same_bytes other name) refl
    where
      by_test : (b : Bool) → same_bytes other name ≡ b → is_some (finite.get image other) ≡ is_some (finite.get disk.now other)
      by_test true own =
          let key : other ≡ name = (bytes_decides other name).0 own in
          ap (λ k. is_some (finite.get image k)) key ∙ there ∙ sym was ∙ ap (λ k. is_some (finite.get disk.now k)) (sym key)
      by_test false differs = leaves_some (finite.get disk.now other) (finite.get image other) (left_of other is differs)

  -- what a crash leaves goes on from the same base
  pub continues_in_image : (base : Base) → Continues base name disk.now → is_some (finite.get disk.now name) ≡ true
      → is_some (finite.get image name) ≡ true → Continues base name image
  continues_in_image base c was there =
      let same_there = there_in_image was there in
      let journals : filter is_journal (finite.keys image) ≡ filter is_journal (finite.keys disk.now) =
      names_same is_journal image disk.now (λ q is. same_there q (journal_counts q is)) in
      let snapshots : filter is_snapshot (finite.keys image) ≡ filter is_snapshot (finite.keys disk.now) =
      names_same is_snapshot image disk.now (λ q is. same_there q (snapshot_counts q is)) in
      let are_journals = subst (AllByRecursion (λ q. is_journal q ≡ true)) c.names (all_pass is_journal (finite.keys disk.now)) in
      record {
        earlier = c.earlier;
        origin = c.origin;
        reached = c.reached;
        begins = ap origin_of snapshots ∙ c.begins;
        names = journals ∙ c.names;
        others = c.others;
        reads = reads_in_image c.earlier (of_names (λ q. is_journal q ≡ true) c.earlier (name ∷ []) are_journals) c.others
            (all_were_read c.earlier (reached_at c.origin) c.reached c.reaches) c.reads;
        reaches = c.reaches;
        ids = c.ids;
        state = c.state;
        clock = c.clock;
        transactions = c.transactions;
      }

-- ---- the journal's own file

-- a file whose transactions are durable has them after any crash
pub has_written : (journal : Journal) (disk : Disk) (txs waits : List Tx) → IsWritten journal disk txs
    → HasAtLeast journal.head (txs ++ waits) (length txs) disk
has_written journal disk txs waits written image fair =
    let head = journal.head in
    let groups = written.groups in
    let text = file_text head groups in
    let size = length (header_of head) in
    let own = journal_counts (name_of head) (journal_name-is_journal (sum head.clock)) in
    let (end, ends, is) = subst (λ was. Leaves IsFairEnd was (finite.get image (name_of head))) written.file
    (fair_now disk image (name_of head) written.no_older fair own) in
    let header : IsHeader text head size = record { fits = written.fits; sized = refl; begins = (blocks_text groups, refl) } in
    let blocks : map transactions_text groups ≡ blocks_of (drop size text) =
    sym (ap blocks_of (drop_at (header_of head) (blocks_text groups) size refl ∙ sym (append-nil (blocks_text groups)))
    ∙ blocks_again groups [] written.grouped.fit blocks_of_nothing) in
    let all : take (length txs) (txs ++ waits) ≡ txs = take_at txs waits (length txs) refl in (
      length txs,
      omega arith,
      omega (arith, length-append txs waits),
      (
        groups,
        subst (AreGroups groups) (sym all) written.grouped,
        synced_file (text ++ end),
        left_whole (synced_file text) end _ refl is,
        reads_again (synced_file text) (read_of head groups) end refl (header, blocks) ends,
      ),
    )

-- ---- what the directory recovers to

pub all_follow-take : (now : State) (clock : List ℕ) (txs : List Tx) (count : ℕ) → AllFollow now clock txs → AllFollow now clock (take count txs)
all_follow-take now clock txs zero all = tt
all_follow-take now clock [] (suc count) all = tt
all_follow-take now clock (tx ∷ txs) (suc count) all =
    (all.0, all.1, all.2, all.3, all.4, all_follow-take (state_after_rows now tx.rows) (clock_after_one clock tx) txs count all.5)

take_behind : {X : Type 0} (xs ys : List X) (count : ℕ) → take (length xs + count) (xs ++ ys) ≡ xs ++ take count ys
take_behind [] ys count = ap (λ (n : ℕ). take n ys) (omega arith)
take_behind (x ∷ xs) ys count =
    let one : suc (length xs) + count ≡ suc (length xs + count) = omega arith in
    ap (λ (n : ℕ). take n (x ∷ (xs ++ ys))) one ∙ ap (λ l. x ∷ l) (take_behind xs ys count)

-- The journal of this head goes on from the base, and it is for these transactions.
pub record GoesOn (base : Base) (head : Head) (txs : List Tx) (disk : Disk) : Type 0 where
  pub begins : head.clock ≡ base.clock
  pub whose : ids_in head ≡ base.ids
  pub kind : head.snapshot ≡ false
  pub there : is_some (finite.get disk.now (name_of head)) ≡ true
  pub continues : Continues base (name_of head) disk.now
  pub synced : AllDurable disk
  pub no_older : disk.older ≡ finite.empty
  pub follow : AllFollow base.state base.clock txs

-- to the base came the earlier transactions from the origin, and those of the journal are the first ones of all after them
pub record Served (origin : Origin) (base : Base) (head : Head) (txs earlier transactions : List Tx) (disk : Disk) : Type 0 where
  pub goes : GoesOn base head txs disk
  pub comes : ComeTo origin earlier base
  pub front : IsPrefix (earlier ++ txs) transactions
  pub from_origin : FollowFrom origin transactions

-- no other file changed, and after any crash the journal's file has so many transactions at least
abbrev pub IsMoment : Head → List Tx → ℕ → Disk → Disk → Type 0
IsMoment head txs least disk now = SameOthers (name_of head) disk now × HasAtLeast head txs least now

-- at each moment of a call of the journal; the file as it reads has at least what a crash leaves of it
abbrev pub Writes : Head → List Tx → ℕ → Disk → Option (List Disk) → List Disk → Type 0
Writes head txs least disk new past =
    Moments (IsMoment head txs least disk) (NoFewer head txs) new disk past × Moments (HasMost head txs) (λ older newer. ⊤) new disk past

pub as_it_was : (name : List ℕ) (disk : Disk) → SameOthers name disk disk
as_it_was name disk = record { files = λ other differs. refl; older = refl }

module _ (base : Base) (head : Head) (txs : List Tx) (disk : Disk) (goes : GoesOn base head txs disk) where
  -- files that go on from the base, where the journal's has the first ones of its transactions
  recovers_in : (image : Files) (count : ℕ) → Continues base (name_of head) image → HasFile head (take count txs) image
      → IsDirectoryState image (Ok (reached_after (at_base base) (take count txs)))
  recovers_in image count continues (groups, are, file, there, reads) =
      let some = take count txs in
      let name = name_of head in
      let follow = subst (AllFollow base.state base.clock) (sym are.together) (all_follow-take base.state base.clock txs count goes.follow) in
      stands_after base name image file (read_of head groups) (Ok (reached_after (at_base base) some)) continues there reads goes.kind (same_itself name)
      goes.begins goes.whose
      (after_blocks_again name (length (header_of head)) groups (at_base base) follow ∙ ap (λ txs. Ok (reached_after (at_base base) txs)) are.together)

  -- what a crash leaves of a moment goes on from the base
  image_goes_on : (now : Disk) (image : Files) (made : List Tx) → SameOthers (name_of head) disk now → IsFair now image → HasFile head made image
      → Continues base (name_of head) image
  image_goes_on now image made same fair has =
      continues_in_image (name_of head) disk now image goes.synced goes.no_older same fair base goes.continues goes.there (ap is_some has.3)

  -- so it is of the base's node
  pub moment_is_of : (least : ℕ) (now : Disk) → IsMoment head txs least disk now → IsOfNode base.ids now
  moment_is_of least now (same, has) image fair =
      let (count, enough, few, file) = has image fair in (
        reached_after (at_base base) (take count txs),
        recovers_in image count (image_goes_on now image (take count txs) same fair file) file,
        refl,
      )

module _ {origin : Origin} (base : Base) (head : Head) (txs earlier transactions : List Tx) (disk : Disk)
    (served : Served origin base head txs earlier transactions disk) where
  front_of_all : (count : ℕ) → count ≤ length txs
      → (take (length earlier + count) transactions ≡ earlier ++ take count txs) × (length earlier + count ≤ length transactions)
  front_of_all count few =
      let (rest, is) = served.front in
      let within : length earlier + count ≤ length (earlier ++ txs) = omega (arith, length-append earlier txs) in (
        sym (ap (take (length earlier + count)) is) ∙ take-append-le (length earlier + count) (earlier ++ txs) rest within ∙ take_behind earlier txs count,
        subst (λ (l : List Tx). length earlier + count ≤ length l) is (omega (arith, length-append (earlier ++ txs) rest)),
      )

  -- files that go on from the base, where the journal's has the first ones of its transactions
  pub image_stands : (image : Files) (count : ℕ) → Continues base (name_of head) image → count ≤ length txs → HasFile head (take count txs) image
      → StandsAfter origin (take (length earlier + count) transactions) image
  image_stands image count continues few has =
      let some = take count txs in
      let all = sym (front_of_all count few).0 in
      record {
        reached = reached_after (at_base base) some;
        stands = recovers_in base head txs disk served.goes image count continues has;
        made = ap (λ before. before ++ some) served.comes.made ∙ all;
        state = ap (λ state. state_after state some) (sym served.comes.state) ∙ sym (state_after-append origin.state earlier some)
            ∙ ap (state_after origin.state) all;
        clock = ap (λ clock. clock_after clock some) (sym served.comes.clock) ∙ sym (clock_after-append origin.clock earlier some)
            ∙ ap (clock_after origin.clock) all;
      }

  moment_stands : (now : Disk) (image : Files) (count : ℕ) → SameOthers (name_of head) disk now → IsFair now image → count ≤ length txs
      → HasFile head (take count txs) image → StandsAfter origin (take (length earlier + count) transactions) image
  moment_stands now image count same fair few has =
      image_stands image count (image_goes_on base head txs disk served.goes now image (take count txs) same fair has) few has

  -- the earlier ones survive, and what the journal's file has
  pub survives : (now : Disk) (least : ℕ) → IsMoment head txs least disk now → Survive origin transactions (length earlier + least) now
  survives now least (same, has) image fair =
      let (count, enough, few, file) = has image fair in (
        length earlier + count,
        omega (arith, enough),
        (front_of_all count few).1,
        moment_stands now image count same fair few file,
      )

  -- a bound for the directory is one for the journal's file
  bound_of_file : (now : Disk) (least bound : ℕ) → IsMoment head txs least disk now → Survive origin transactions bound now
      → HasAtLeast head txs (bound - length earlier) now
  bound_of_file now least bound (same, has) survive image fair =
      let (count, enough, few, file) = has image fair in
      let (number, above, within, stands) = survive image fair in
      let same_number : number ≡ length earlier + count =
      counted_once transactions number (length earlier + count) image within (front_of_all count few).1 stands
      (moment_stands now image count same fair few file) in
      (count, omega (arith, above, same_number), few, file)

  survive_less : (now : Disk) (least less : ℕ) → less ≤ least → Survive origin transactions least now → Survive origin transactions less now
  survive_less now least less below survive image fair =
      let (count, enough, few, stands) = survive image fair in
      (count, omega (arith, below, enough), few, stands)

  -- where the journal's file has no fewer, no fewer survive
  pub no_fewer_survive : (older newer : Disk) (least : ℕ) → IsMoment head txs least disk older → IsMoment head txs least disk newer
      → NoFewer head txs older newer → NoFewerSurvive origin transactions older newer
  no_fewer_survive older newer least before after keeps bound survive =
      let file = keeps (bound - length earlier) (bound_of_file older least bound before survive) in
      survive_less newer (length earlier + (bound - length earlier)) bound (omega arith) (survives newer (bound - length earlier) (after.0, file))

  -- the directory reads as the earlier ones, and what the journal's file has
  moment_reads : (now : Disk) → SameOthers (name_of head) disk now → HasMost head txs now → ReadsMost origin transactions now
  moment_reads now same has =
      let front = front_of_all has.count has.within in
      let goes_on = continues_same base (name_of head) disk.now now.now served.goes.continues same.files served.goes.there (ap is_some has.has.3) in
      record {
        count = length earlier + has.count;
        within = front.1;
        reads = image_stands now.now has.count goes_on has.within has.has;
        most = λ image fair.
            let (fewer, few, file) = has.most image fair in
            (length earlier + fewer, omega (arith, few), moment_stands now image fewer same fair (omega (arith, few, has.within)) file);
      }

  -- what the journal's calls leave meanwhile
  pub lasting : (least : ℕ) (new : Option (List Disk)) (past : List Disk) → HasAtLeast head txs least disk
      → Moments (IsMoment head txs least disk) (NoFewer head txs) new disk past
      → Moments (Survive origin transactions 0) (NoFewerSurvive origin transactions) new disk past
  lasting least new past has =
      weaker_from (λ now moment. (moment, survive_less now (length earlier + least) 0 (omega arith) (survives now least moment)))
      (λ older newer before after. no_fewer_survive older newer least before after) new disk past (as_it_was (name_of head) disk, has)

  pub reading : (least : ℕ) (new : Option (List Disk)) (past : List Disk) → Writes head txs least disk new past
      → Moments (ReadsMost origin transactions) (λ older newer. ⊤) new disk past
  reading least new past (moments, reads) =
      weaker (λ now here. moment_reads now here.0.0 here.1) (λ older newer here step. tt) new disk past
      (both_moments (IsMoment head txs least disk) (HasMost head txs) (NoFewer head txs) (λ older newer. ⊤) new disk past moments reads)
