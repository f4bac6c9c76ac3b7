-- What a directory recovers to whose journal was ended in order.
use Rattle.std.proofs.Common.{◌≡◌, ℕ, List, [], ◌∷◌, ◌++◌, length, sym, ap, ◌∙◌, subst, arith, Bool, true, false, map, take, drop, None, Ok, refl}
use Rattle.std.specs.Prelude.{Option, is_some, sum}
use Rattle.std.specs.Cmp.Lexicographic.{bytes_decides}
use Rattle.std.proofs.lemmas.List.{append_assoc, drop_at, take_all}
use Rattle.mx_outside.specs.Disks.{Disk, IfKnown, File, KnownAlike, synced_file}
use Rattle.mx_model.specs.Bases.{Base}
use Rattle.mx_model.specs.Histories.{History, IsLegal, clock_of, state_of, journal_of}
use Rattle.mx_serial.specs.Order.{Step, order_in}
use Rattle.mx_images.proofs.ToldLaws.{told_weaker, told_both, told_now}
use Rattle.mx_node.specs.declared.single.Single.{Single}
use Rattle.mx_node.specs.Inputs.{InputUnit}
use Rattle.mx_node.specs.Connections.{came_on}
use Rattle.mx_node.specs.Order.{departures_from}
use Rattle.mx_node.specs.Starts.{Start}
use Rattle.mx_directory.specs.Survival.{Lasts}
use Rattle.mx_node.specs.Serving.{DirectoryHolds, EndedNode, HasSession, Serves, left_from}
use Rattle.mx_node.specs.Tables.{session_at}
use Rattle.mx_node.proofs.TableLaws.{left_from-journal, left_from-order, left_from-state, left_from-clock, left_from-told, left_from-since}
use Rattle.mx_msgpack.proofs.Options.{same_some}
use Rattle.mx_xlog.specs.Headers.{header_of}
use Rattle.mx_xlog.specs.Blocks.{end_marker}
use Rattle.mx_xlog.specs.Reading.{blocks_of}
use Rattle.mx_xlog.proofs.ReadingLaws.{blocks_of_marker}
use Rattle.mx_row.specs.declared.tx.Tx.{Tx}
use Rattle.mx_model.specs.Transactions.{state_after}
use Rattle.mx_row.specs.Clocks.{clock_after}
use Rattle.mx_row.specs.Rows.{transactions_of, transactions_text}
use Rattle.mx_directory.specs.Directories.{AllFollow}
use Rattle.mx_files.specs.Names.{journal_name, same_bytes}
use Rattle.mx_model.proofs.HistoryLaws.{base_of_ledger}
use Rattle.mx_directory.proofs.DirectoryLaws.{after_blocks_again, at_base, continues_same, reached_after, same_itself, stands_after}
use Rattle.mx_journal.proofs.BlockLaws.{blocks_again}
use Rattle.mx_engine.specs.declared.engine.Engine.{Engine}
use Rattle.mx_journal.specs.declared.journal.Journal.{Journal}
use Rattle.mx_journal.specs.Crashes.{read_of}
use Rattle.mx_journal.specs.Written.{IsWritten, HasEnded, file_text, name_of}
use Rattle.mx_journal.specs.Groups.{AreGroups, blocks_text}
use Rattle.mx_images.specs.Changes.{IsNow, SameOthers}
use Rattle.mx_images.specs.Fair.{AllDurable}
use Rattle.mx_store.specs.Stores.{taken_of}
use Rattle.mx_store.proofs.StoreLaws.{lasts_longer}
use Rattle.mx_store.proofs.TakingLaws.{IsOnDisk, no_draft_still}
use Rattle.mx_node.specs.Ready.{Ready}
use Rattle.std.specs.FinMap as finite
use Rattle.mx_node.proofs.OrderLaws.{are_order, order_of, whole_order_are}

-- ---- what is left once the open connections left and the journal was ended

-- a directory keeps what a history has come to
keeps_same : (base : Base) (history other : History) (disk : Disk) → state_of base history ≡ state_of base other → clock_of base history ≡ clock_of base other
    → journal_of base history ≡ journal_of base other → DirectoryHolds base history disk
    → DirectoryHolds base other disk
keeps_same base history other disk state clock journal keeps = record {
  reached = keeps.reached;
  stands = keeps.stands;
  ids = keeps.ids;
  state = keeps.state ∙ state;
  clock = keeps.clock ∙ clock;
  synced = keeps.synced;
  transactions = keeps.transactions ∙ ap (λ txs. base.earlier ++ txs) journal;
  names = keeps.names;
  drafts = keeps.drafts;
  marker = keeps.marker;
}

module _ (start : Start) (server : Single) (units : List InputUnit) (history : History) (old new : Option (List Disk))
    (serves : Serves start server units history old) where
  order_at_the_end : order_in (left_from 0 server.sessions.items history) ≡ order_of units ++ departures_from 0 (length server.sessions.items) units
  order_at_the_end =
      let sessions = server.sessions.items in
      left_from-order 0 sessions units history
      (λ number place is within.
      let same : place ≡ number = omega (arith, is) in
      subst (λ (n : ℕ). HasSession number (came_on number units) (session_at sessions n)) (sym same)
      (serves.sessions number (omega (arith, is, within, serves.table))))
      ∙ ap (λ (l : List Step). l ++ departures_from 0 (length sessions) units) (are_order units (order_in history) serves.order)

  pub closed : IsLegal start.base (left_from 0 server.sessions.items history) → Lasts start.base history old new
      → IfKnown new (λ disk past. DirectoryHolds start.base history disk) → EndedNode start units history old new
  closed legal lasts keeps =
      let sessions = server.sessions.items in
      let all = left_from 0 sessions history in
      let since = left_from-since 0 sessions history in
      record {
        history = all;
        since = since;
        legal = legal;
        order = whole_order_are units (order_in all)
            (order_at_the_end ∙ ap (λ (n : ℕ). order_of units ++ departures_from 0 n units) serves.table);
        told = left_from-told start.base 0 sessions history;
        lasts = subst (λ (h : History). Lasts start.base h old new) (sym since.1) (lasts_longer start.base since.0 history old new lasts);
        keeps = told_weaker new
            (λ disk past kept. keeps_same start.base history all disk (sym (left_from-state start.base 0 sessions history))
            (sym (left_from-clock start.base 0 sessions history)) (sym (left_from-journal start.base 0 sessions history)) kept) keeps;
      }

-- ---- what a directory recovers to whose journal was ended in order

-- the file of a journal that was ended
abbrev pub ended_text : Journal → List (List Tx) → List ℕ
ended_text journal groups = file_text journal.head groups ++ end_marker

-- the journal was ended with these transactions: its file has them and the marker, and no other file changed
abbrev pub IsEnded : Journal → List Tx → Disk → Disk → Type 0
IsEnded journal transactions before now = HasEnded journal.head transactions now × SameOthers (name_of journal.head) before now

behind_header : (journal : Journal) (groups : List (List Tx)) (transactions : List Tx) → AreGroups groups transactions
    → map transactions_text groups ≡ blocks_of (drop (length (header_of journal.head)) (ended_text journal groups))
behind_header journal groups transactions are =
    let header = header_of journal.head in
    let blocks = blocks_text groups in
    sym (ap (λ l. blocks_of (drop (length header) l)) (append_assoc header blocks end_marker)
    ∙ ap blocks_of (drop_at header (blocks ++ end_marker) (length header) refl)
    ∙ blocks_again groups end_marker are.fit blocks_of_marker)

all_on_disk : (journal : Journal) (transactions : List Tx) (before now : Disk) → IsWritten journal before transactions
    → IsEnded journal transactions before now
    → AllDurable before → AllDurable now
all_on_disk journal transactions before now written ((groups, are, there_now), others) all name file kind there =
    by_test (same_bytes name (name_of journal.head)) refl
  where
    by_test : (b : Bool) → same_bytes name (name_of journal.head) ≡ b → (file.synced ≡ length file.bytes) × (finite.get now.older name ≡ None)
    by_test true same =
        let key : name ≡ name_of journal.head = (bytes_decides name (name_of journal.head)).0 same in
        let its : file ≡ synced_file (ended_text journal groups) =
        same_some file (synced_file (ended_text journal groups)) (sym there ∙ ap (finite.get now.now) key ∙ there_now) in (
          subst (λ (f : File). f.synced ≡ length f.bytes) (sym its) refl,
          ap (λ o. finite.get o name) others.older ∙ ap (finite.get before.older) key ∙ written.no_older,
        )
    by_test false other =
        let was = all name file kind (sym (others.files name other) ∙ there) in
        (was.0, ap (λ o. finite.get o name) others.older ∙ was.1)

-- the directory recovers to what the history has come to
ended_keeps : (base : Base) (history : History) (engine : Engine) (journal : Journal) (states : Option (List Disk)) (before now : Disk)
    → AllFollow base.state base.clock (journal_of base history) → Ready base history engine journal states
    → IsOnDisk base journal (taken_of base history) before → IsEnded journal (taken_of base history) before now → DirectoryHolds base history now
ended_keeps base history engine journal states before now follow ready (written, continues, synced, no_older, none) ((groups, are, there), others) =
    let has = ready.behind.has in
    let taken = taken_of base history in
    let all_taken : taken ≡ journal_of base history =
    ap (λ n. take n (journal_of base history)) ready.taken ∙ take_all (length (journal_of base history)) (journal_of base history) (omega arith) in
    let follows : AllFollow base.state base.clock (transactions_of groups) =
    subst (AllFollow base.state base.clock) (sym (are.together ∙ all_taken)) follow in
    let name = name_of journal.head in
    let text = ended_text journal groups in
    let size = length (header_of journal.head) in
    let rest = blocks_text groups ++ end_marker in
    let split : text ≡ header_of journal.head ++ rest = append_assoc (header_of journal.head) (blocks_text groups) end_marker in
    let goes_on = continues_same base name before.now now.now continues others.files (ap is_some written.file) (ap is_some there) in
    let reached = reached_after (at_base base) (journal_of base history) in
    let same = sym (base_of_ledger base history) in
    record {
      reached = reached;
      stands = stands_after base name now.now (synced_file text) (read_of journal.head groups) (Ok reached) goes_on there
          (record { fits = written.fits; sized = refl; begins = (rest, split) }, behind_header journal groups taken are)
          written.kind (same_itself name) has.begins has.whose
          (after_blocks_again name size groups (at_base base) follows ∙ ap (λ txs. Ok (reached_after (at_base base) txs)) (are.together ∙ all_taken));
      ids = refl;
      state = ap (λ (b : Base). state_after b.state (journal_of base history)) same;
      clock = ap (λ (b : Base). clock_after b.clock (journal_of base history)) same;
      transactions = refl;
      synced = all_on_disk journal taken before now written ((groups, are, there), others) synced;
      names = others.older ∙ no_older;
      drafts = no_draft_still journal.head before now others none;
      marker = record {
        earlier = map (λ file. file.0) goes_on.earlier;
        last = goes_on.names ∙ ap (λ (clock : List ℕ). map (λ file. file.0) goes_on.earlier ++ journal_name (sum clock) ∷ []) has.begins;
        text = file_text journal.head groups;
        ends = ap (λ (clock : List ℕ). finite.get now.now (journal_name (sum clock))) (sym has.begins) ∙ there;
      };
    }

-- so it does once the journal of a server that is ready was ended
pub end_keeps : (base : Base) (history : History) (engine : Engine) (journal : Journal) (states after : Option (List Disk))
    → AllFollow base.state base.clock (journal_of base history) → Ready base history engine journal states → KnownAlike states after
    → ((transactions : List Tx) → IfKnown states (λ disk past. IsWritten journal disk transactions → IsNow after (IsEnded journal transactions disk)))
    → IfKnown after (λ disk past. DirectoryHolds base history disk)
end_keeps base history engine journal states after follow ready alike ended =
    told_now states after (DirectoryHolds base history) alike
    (told_both states
    (λ disk past was shown.
    let (now, earlier, same, is) = shown was.0 in
    (now, earlier, same, ended_keeps base history engine journal states disk now follow ready was is))
    ready.behind.has.written (ended (taken_of base history)))
