-- Which names a directory has, and what its journals recover to when one more is begun or written.
use Rattle.std.proofs.Common.{◌≡◌, ℕ, List, [], ◌∷◌, Some, None, refl, ap, ◌∙◌, ◌+◌, ◌&&◌, ◌++◌, length, map, Option, Ok, sym, Bool, true, false, cond, not, T, sum, subst, ◌⊎◌, inl, inr}
use Rattle.std.specs.List.{AllByRecursion, filter}
use Rattle.std.proofs.lemmas.Bool.{and_from, cond-true, eq-eqb}
use Rattle.std.proofs.lemmas.List.{append-nil, append_assoc}
use Rattle.std.specs.Prelude.{is_some, Result, Err, IfSome, if◌then◌else◌}
use Rattle.std.specs.Ordering.{nat_cmp, eq_by_cmp, is_lt}
use Rattle.std.specs.declared.cmp.Ordering.{Ordering}
use Rattle.std.specs.declared.cmp.Ordering.TheVariants.{Equal}
use Rattle.std.specs.Cmp.Lexicographic.{slice_cmp, bytes_decides, nat_list_cmp_total}
use Rattle.std.specs.FinMap.{entries_sorted, get-entries, slice_cmp-IsAntisymmetric, nat_cmp-IsAntisymmetric}
use Rattle.std.specs.FinMap.Entries.{find, is_sorted, below_all, where_key, is_sorted-where_key, find-where_key, same_entries}
use Rattle.mx_msgpack.specs.Readers.{in_front, all_from}
use Rattle.mx_msgpack.proofs.ReaderLaws.{all_from_none, all_from_some}
use Rattle.mx_row.specs.declared.tx.Tx.{Tx}
use Rattle.mx_row.specs.Rows.{transaction_at, only_whole, transactions_in, IsTransaction, transactions_text, transactions_of}
use Rattle.mx_directory.specs.Directories.{Reached, after_transaction, then_all, after_transactions, after_read, after_block, is_shared, schema_is_alone, takes_rows, block_reached, after_blocks, AllFollow, Named, Continues, ReadAll, IsDirectoryState, ids_in, same_id, are_its_ids, ids_or, head_fits, reached_at, origin_of, after_origin, after_head, after_file, after_files, and_then}
use Rattle.mx_row.proofs.BehindLaws.{transaction_at-Advances}
use Rattle.mx_schema.specs.State.{State}
use Rattle.mx_model.specs.Answers.{state_after_rows}
use Rattle.mx_model.specs.Transactions.{state_after}
use Rattle.mx_row.specs.Clocks.{clock_after_one, clock_after, follows}
use Rattle.mx_row.proofs.ClockLaws.{clock_after-append}
use Rattle.mx_row.proofs.GroupLaws.{transactions_again}
use Rattle.mx_model.proofs.JournalLaws.{state_after-append}
use Rattle.uuid.specs.Text.{hyphenated_text, lower}
use Rattle.mx_xlog.specs.declared.head.Head.{Head}
use Rattle.mx_outside.specs.Disks.{File, Files}
use Rattle.mx_model.specs.declared.ids.Ids.{Ids}
use Rattle.mx_directory.specs.declared.damage.Damage.{Damage}
use Rattle.mx_model.specs.Bases.{Base}
use Rattle.mx_xlog.specs.Files.{FileRead, ReadsAs}
use Rattle.mx_files.specs.Names.{is_journal, is_snapshot, journal_name, same_bytes}
use Rattle.mx_model.proofs.EachLaws.{each_of_both}
use Rattle.std.specs.FinMap as finite

-- ---- a block's data read one transaction after the other

-- no bytes remain
pub after_block-nil : (reached : Reached) → after_block [] reached ≡ Some reached
unfolding after_block transactions_in
after_block-nil reached = refl

read_first : (transaction : Tx) (found : List Tx × List ℕ) (reached next : Reached) → after_transaction transaction reached ≡ Some next
    → after_read (only_whole (in_front transaction found)) reached ≡ after_read (only_whole found) next
read_first transaction (others, []) reached next step = ap (then_all (after_transactions others)) step
read_first transaction (others, byte ∷ rest) reached next step = refl

read_refused : (transaction : Tx) (found : List Tx × List ℕ) (reached : Reached) → after_transaction transaction reached ≡ None
    → after_read (only_whole (in_front transaction found)) reached ≡ None
read_refused transaction (others, []) reached step = ap (then_all (after_transactions others)) step
read_refused transaction (others, byte ∷ rest) reached step = refl

module _ (bytes rest : List ℕ) (transaction : Tx) (reached : Reached) (read : transaction_at bytes ≡ Some (transaction, rest)) where
  first_read : after_block bytes reached ≡ after_read (only_whole (in_front transaction (all_from transaction_at rest))) reached
  unfolding after_block transactions_in
  first_read =
      ap (λ found. after_read (only_whole found) reached) (all_from_some transaction_at transaction_at-Advances bytes (transaction, rest) read)

  -- the transaction that stands first, and then those after it
  pub after_block-step : (next : Reached) → after_transaction transaction reached ≡ Some next → after_block bytes reached ≡ after_block rest next
  unfolding after_block transactions_in
  after_block-step next step = first_read ∙ read_first transaction (all_from transaction_at rest) reached next step

  -- it doesn't follow, or the state refuses it
  pub after_block-refused : after_transaction transaction reached ≡ None → after_block bytes reached ≡ None
  after_block-refused step = first_read ∙ read_refused transaction (all_from transaction_at rest) reached step

-- no transaction stands first
pub after_block-unread : (bytes : List ℕ) (reached : Reached) → transaction_at bytes ≡ None → ¬ (bytes ≡ []) → after_block bytes reached ≡ None
unfolding after_block transactions_in
after_block-unread [] reached none some = absurd (some refl)
after_block-unread (byte ∷ rest) reached none some =
    ap (λ found. after_read (only_whole found) reached) (all_from_none transaction_at transaction_at-Advances (byte ∷ rest) none)

-- ---- blocks of transactions are read as these transactions, and a file goes up to the last of them

-- transactions that follow can be written
pub are_transactions : (now : State) (clock : List ℕ) (transactions : List Tx) → AllFollow now clock transactions → AllByRecursion IsTransaction transactions
are_transactions now clock [] all = tt
are_transactions now clock (transaction ∷ others) all =
    (all.0, are_transactions (state_after_rows now transaction.rows) (clock_after_one clock transaction) others all.5)

all_follow-split : (now : State) (clock : List ℕ) (xs ys : List Tx) → AllFollow now clock (xs ++ ys)
    → AllFollow now clock xs × AllFollow (state_after now xs) (clock_after clock xs) ys
all_follow-split now clock [] ys all = (tt, all)
all_follow-split now clock (x ∷ xs) ys all =
    let parts = all_follow-split (state_after_rows now x.rows) (clock_after_one clock x) xs ys all.5 in
    ((all.0, all.1, all.2, all.3, all.4, parts.0), parts.1)

-- ---- what a file's blocks recover to

-- after transactions
abbrev pub reached_after : Reached → List Tx → Reached
reached_after reached transactions =
    record reached {
      state = state_after reached.state transactions;
      clock = clock_after reached.clock transactions;
      transactions = reached.transactions ++ transactions;
    }

abbrev reached_with : Reached → List Tx → Reached
reached_with reached transactions = record reached { transactions = transactions }

-- after none all is as it was
nothing_reached : (reached : Reached) → reached ≡ reached_after reached []
nothing_reached reached = ap (reached_with reached) (sym (append-nil reached.transactions))

each_reached : (transactions : List Tx) (reached : Reached) → AllFollow reached.state reached.clock transactions
    → after_transactions transactions reached ≡ Some (reached_after reached transactions)
each_reached [] reached all = ap (λ (r : Reached). Some r) (nothing_reached reached)
each_reached (transaction ∷ others) reached (is, shared, next, alone, takes, all) =
    let both = and_from (is_shared transaction && follows reached.clock transaction && schema_is_alone transaction) (takes_rows reached.state transaction.rows)
    (and_from (is_shared transaction && follows reached.clock transaction) (schema_is_alone transaction)
    (and_from (is_shared transaction) (follows reached.clock transaction) shared next) alone) takes in
    let one : after_transaction transaction reached ≡ Some (reached_after reached (transaction ∷ [])) = cond-true _ _ _ both in
    ap (then_all (after_transactions others)) one ∙ each_reached others (reached_after reached (transaction ∷ [])) all
    ∙ ap (λ txs. Some (reached_with (reached_after reached (transaction ∷ others)) txs)) (append_assoc reached.transactions (transaction ∷ []) others)

-- a block of transactions that follow, and whose rows the state takes
pub block_again : (transactions : List Tx) (reached : Reached) → AllFollow reached.state reached.clock transactions
    → after_block (transactions_text transactions) reached ≡ Some (reached_after reached transactions)
unfolding after_block
block_again transactions reached all =
    ap (λ (read : Option (List Tx)). after_read read reached)
    (transactions_again transactions (are_transactions reached.state reached.clock transactions all))
    ∙ each_reached transactions reached all

-- blocks of groups of them
pub after_blocks_again : (name : List ℕ) (at : ℕ) (groups : List (List Tx)) (reached : Reached) → AllFollow reached.state reached.clock (transactions_of groups)
    → after_blocks name at (map transactions_text groups) reached ≡ Ok (reached_after reached (transactions_of groups))
after_blocks_again name at [] reached all = ap (λ (r : Reached). Ok r) (nothing_reached reached)
after_blocks_again name at (group ∷ groups) reached all =
    let behind = (at + 19) + length (transactions_text group) in
    let rest = transactions_of groups in
    let (first, others) = all_follow-split reached.state reached.clock group rest all in
    let state = sym (state_after-append reached.state group rest) in
    let clock = sym (clock_after-append reached.clock group rest) in
    let made = append_assoc reached.transactions group rest in
    let same : reached_after (reached_after reached group) rest ≡ reached_after reached (group ++ rest) =
    (λ i. record reached { state = state i; clock = clock i; transactions = made i }) in
    ap (block_reached name at (after_blocks name behind (map transactions_text groups))) (block_again group reached first)
    ∙ after_blocks_again name behind groups (reached_after reached group) others
    ∙ ap (λ (r : Reached). Ok r) same

-- ---- which names a directory has, and what its journals recover to when one more is begun or written

-- the order of names
abbrev pub by_name : List ℕ → List ℕ → Ordering
by_name = slice_cmp nat_cmp

-- the names of files of a directory, and of files that were read
abbrev pub names_in : List (List ℕ × File) → List (List ℕ)
names_in es = map (λ (e : List ℕ × File). e.0) es

abbrev pub names_of : List Named → List (List ℕ)
names_of files = map (λ (file : Named). file.0) files

abbrev Marked : Type 0
Marked = List (List ℕ × Bool)

-- the keys alone
marks : List (List ℕ × File) → Marked
marks [] = []
marks (e ∷ es) = (e.0, true) ∷ marks es

find-marks : (q : List ℕ) (es : List (List ℕ × File)) → find by_name q (marks es) ≡ cond (is_some (find by_name q es)) (Some true) None
unfolding marks
find-marks q [] = refl
find-marks q (e ∷ es) = by_test (find-marks q es) (eq_by_cmp by_name q e.0)
  where
    by_test : find by_name q (marks es) ≡ cond (is_some (find by_name q es)) (Some true) None
        → (b : Bool) → cond b (Some true) (find by_name q (marks es)) ≡ cond (is_some (cond b (Some e.1) (find by_name q es))) (Some true) None
    by_test others true = refl
    by_test others false = others

below_all-marks : (x : List ℕ) (es : List (List ℕ × File)) → below_all by_name x (marks es) ≡ below_all by_name x es
unfolding marks
below_all-marks x [] = refl
below_all-marks x (e ∷ es) = ap (λ b. is_lt (slice_cmp nat_cmp x e.0) && b) (below_all-marks x es)

is_sorted-marks : (es : List (List ℕ × File)) → is_sorted by_name (marks es) ≡ is_sorted by_name es
unfolding marks
is_sorted-marks [] = refl
is_sorted-marks (e ∷ es) = λ i. below_all-marks e.0 es i && is_sorted-marks es i

keys-marks : (es : List (List ℕ × File)) → map (λ (e : List ℕ × Bool). e.0) (marks es) ≡ names_in es
unfolding marks
keys-marks [] = refl
keys-marks (e ∷ es) = ap (λ ks. e.0 ∷ ks) (keys-marks es)

-- lists in order in which the same keys are found have the same keys
pub same_names : (one other : List (List ℕ × File)) → T (is_sorted by_name one) → T (is_sorted by_name other)
    → ((q : List ℕ) → is_some (find by_name q one) ≡ is_some (find by_name q other))
    → names_in one ≡ names_in other
same_names one other sorted_one sorted_other same =
    let marked : marks one ≡ marks other = same_entries by_name nat_list_cmp_total (slice_cmp-IsAntisymmetric nat_cmp-IsAntisymmetric)
    (marks one) (marks other)
    (subst T (sym (is_sorted-marks one)) sorted_one) (subst T (sym (is_sorted-marks other)) sorted_other)
    (λ q. find-marks q one ∙ ap (λ b. cond b (Some true) None) (same q) ∙ sym (find-marks q other)) in
    sym (keys-marks one) ∙ ap (map (λ e. e.0)) marked ∙ keys-marks other

pub keys-where_key : (p : List ℕ → Bool) (es : List (List ℕ × File))
    → names_in (where_key by_name p es) ≡ filter p (names_in es)
keys-where_key p [] = refl
keys-where_key p (e ∷ es) = by_test (keys-where_key p es) (p e.0)
  where
    by_test : names_in (where_key by_name p es) ≡ filter p (names_in es)
        → (b : Bool) → names_in (cond b (e ∷ where_key by_name p es) (where_key by_name p es))
        ≡ cond b (e.0 ∷ filter p (names_in es)) (filter p (names_in es))
    by_test others true = ap (λ ks. e.0 ∷ ks) others
    by_test others false = others

same_key : (q x : List ℕ) → slice_cmp nat_cmp q x ≡ Equal → q ≡ x
same_key q x tied = slice_cmp-IsAntisymmetric nat_cmp-IsAntisymmetric q x tied

pub find-where : (p : List ℕ → Bool) (q : List ℕ) (es : List (List ℕ × File))
    → find by_name q (where_key by_name p es) ≡ cond (p q) (find by_name q es) None
find-where p q es = find-where_key by_name p q (λ x tied. ap p (sym (same_key q x tied))) es

some_where : (b : Bool) (one other : Option File) → (b ≡ true → is_some one ≡ is_some other) → is_some (cond b one None) ≡ is_some (cond b other None)
some_where true one other same = same refl
some_where false one other same = refl

-- directories with the same names of a kind list them alike
pub names_same : (p : List ℕ → Bool) (one other : Files) → ((q : List ℕ) → p q ≡ true → is_some (finite.get one q) ≡ is_some (finite.get other q))
    → filter p (finite.keys one) ≡ filter p (finite.keys other)
names_same p one other same =
    let first = finite.entries one in
    let second = finite.entries other in
    sym (keys-where_key p first)
    ∙ same_names (where_key by_name p first) (where_key by_name p second)
    (is_sorted-where_key by_name p first (entries_sorted one)) (is_sorted-where_key by_name p second (entries_sorted other))
    (λ q.
    ap is_some (find-where p q first)
    ∙ some_where (p q) (find by_name q first) (find by_name q second)
    (λ is. ap is_some (sym (get-entries one q)) ∙ same q is ∙ ap is_some (get-entries other q))
    ∙ ap is_some (sym (find-where p q second)))
    ∙ keys-where_key p second

-- directories with the same names list them alike
pub keys_same : (one other : Files) → ((q : List ℕ) → is_some (finite.get one q) ≡ is_some (finite.get other q)) → finite.keys one ≡ finite.keys other
keys_same one other same =
    same_names (finite.entries one) (finite.entries other) (entries_sorted one) (entries_sorted other)
    (λ q. ap is_some (sym (get-entries one q)) ∙ same q ∙ ap is_some (get-entries other q))

-- A journal that grows.

-- what is found under one name alone changes nothing of which names there are
there_too : (name : List ℕ) (before after : Files)
    → ((other : List ℕ) → same_bytes other name ≡ false → finite.get after other ≡ finite.get before other)
    → is_some (finite.get before name) ≡ true → is_some (finite.get after name) ≡ true
    → (q : List ℕ) → is_some (finite.get after q) ≡ is_some (finite.get before q)
there_too name before after others was is q = by_test (same_bytes q name) refl
  where
    by_test : (b : Bool) → same_bytes q name ≡ b → is_some (finite.get after q) ≡ is_some (finite.get before q)
    by_test true same =
        let key : q ≡ name = (bytes_decides q name).0 same in
        ap (λ k. is_some (finite.get after k)) key ∙ is ∙ sym was ∙ ap (λ k. is_some (finite.get before k)) (sym key)
    by_test false other = ap is_some (others q other)

pub reads_same : (name : List ℕ) (before after : Files) (earlier : List Named)
    → ((other : List ℕ) → same_bytes other name ≡ false → finite.get after other ≡ finite.get before other)
    → AllByRecursion (λ (file : Named). same_bytes file.0 name ≡ false) earlier → ReadAll before earlier → ReadAll after earlier
reads_same name before after [] same others reads = tt
reads_same name before after (file ∷ earlier) same others reads = (
  subst (λ found. IfSome found (λ (f : File). ReadsAs f.bytes file.1)) (sym (same file.0 others.0)) reads.0,
  reads_same name before after earlier same others.1 reads.1,
)

-- what is written to the newest journal doesn't change what it continues
pub continues_same : (base : Base) (name : List ℕ) (before after : Files) → Continues base name before
    → ((other : List ℕ) → same_bytes other name ≡ false → finite.get after other ≡ finite.get before other)
    → is_some (finite.get before name) ≡ true → is_some (finite.get after name) ≡ true → Continues base name after
continues_same base name before after c others was is =
    let keys : finite.keys after ≡ finite.keys before = keys_same after before (there_too name before after others was is) in
    record {
      earlier = c.earlier;
      origin = c.origin;
      reached = c.reached;
      begins = ap (λ names. origin_of (filter is_snapshot names)) keys ∙ c.begins;
      names = ap (filter is_journal) keys ∙ c.names;
      others = c.others;
      reads = reads_same name before after c.earlier others c.others c.reads;
      reaches = c.reaches;
      ids = c.ids;
      state = c.state;
      clock = c.clock;
      transactions = c.transactions;
    }

-- The newest journal after those before it.

pub after_files-append : (files more : List Named) (reached : Reached)
    → after_files (files ++ more) reached ≡ and_then (after_files more) (after_files files reached)
after_files-append [] more reached = refl
after_files-append (file ∷ files) more reached = by_first (after_files-append files more) (after_file file reached)
  where
    by_first : ((next : Reached) → after_files (files ++ more) next ≡ and_then (after_files more) (after_files files next))
        → (outcome : Result Reached Damage)
        → and_then (after_files (files ++ more)) outcome ≡ and_then (after_files more) (and_then (after_files files) outcome)
    by_first others (Ok next) = others next
    by_first others (Err damage) = refl

then_nothing : (outcome : Result Reached Damage) → and_then (after_files []) outcome ≡ outcome
then_nothing (Ok reached) = refl
then_nothing (Err damage) = refl

pub same_itself : (xs : List ℕ) → same_bytes xs xs ≡ true
same_itself xs = (bytes_decides xs xs).1 refl

pub same_id-itself : (id : List ℕ) → same_id id id ≡ true
same_id-itself id = same_itself (hyphenated_text lower id)

pub are_its_own : (head : Head) → are_its_ids (Some (ids_in head)) head ≡ true
are_its_own head =
    ap (λ b. (b && same_id head.instance head.instance) && same_id head.set head.set) (eq-eqb head.replica head.replica refl)
    ∙ ap (λ b. b && same_id head.set head.set) (same_id-itself head.instance)
    ∙ same_id-itself head.set

pub are_ids_of : (ids : Option Ids) (head : Head) → (ids ≡ None) ⊎ (ids ≡ Some (ids_in head)) → are_its_ids ids head ≡ true
are_ids_of ids head (inl none) = ap (λ found. are_its_ids found head) none
are_ids_of ids head (inr its) = ap (λ found. are_its_ids found head) its ∙ are_its_own head

three_true : (a b c : Bool) → a ≡ false → b ≡ true → c ≡ true → ((not a && b) && c) ≡ true
three_true true b c p q r = absurd cc
three_true false true c p q r = r
three_true false false c p q r = absurd cc

passes : (fits same : Bool) (misfit gap after : Result Reached Damage) → fits ≡ true → same ≡ true
    → (if not fits then misfit else if not same then gap else after) ≡ after
passes true true misfit gap after p q = refl
passes true false misfit gap after p q = absurd cc
passes false same misfit gap after p q = absurd cc

-- what a file of this head goes on from
abbrev pub begun : Head → Reached → Reached
begun head before = record before { ids = Some (ids_or (ids_in head) before.ids) }

-- a file whose head fits begins where the others end
pub after_head-fits : (name : List ℕ) (file : FileRead) (reached : Reached) → file.head.snapshot ≡ false
    → same_bytes name (journal_name (sum file.head.clock)) ≡ true → are_its_ids reached.ids file.head ≡ true
    → same_bytes reached.clock file.head.clock ≡ true
    → after_head name file reached ≡ after_blocks name file.size file.blocks (begun file.head reached)
after_head-fits name file reached journal named ids clock =
    passes (head_fits name file.head reached) (same_bytes reached.clock file.head.clock) _ _ _ (three_true _ _ _ journal named ids) clock

pub append_all : (P : Named → Type 0) (earlier : List Named) (last : Named) → AllByRecursion P earlier → P last → AllByRecursion P (earlier ++ last ∷ [])
append_all P earlier last all is = each_of_both P earlier (last ∷ []) all (is, tt)

pub map-append : (earlier more : List Named) → names_of (earlier ++ more) ≡ names_of earlier ++ names_of more
map-append [] more = refl
map-append (file ∷ earlier) more = ap (λ names. file.0 ∷ names) (map-append earlier more)

-- what a file of a base's node goes on from
abbrev pub at_base : Base → Reached
at_base base = record { ids = Some base.ids; state = base.state; clock = base.clock; transactions = base.earlier }

-- the directory recovers to the base and what the newest journal has
pub stands_after : (base : Base) (name : List ℕ) (files : Files) (file : File) (read : FileRead) (outcome : Result Reached Damage)
    → Continues base name files → finite.get files name ≡ Some file → ReadsAs file.bytes (Some read) → read.head.snapshot ≡ false
    → same_bytes name (journal_name (sum read.head.clock)) ≡ true → read.head.clock ≡ base.clock → ids_in read.head ≡ base.ids
    → after_blocks name read.size read.blocks (at_base base) ≡ outcome
    → IsDirectoryState files outcome
stands_after base name files file read outcome c there reads journal named clock ids after =
    let last : Named = (name, Some read) in
    let fits : are_its_ids c.reached.ids read.head ≡ true = are_ids_of c.reached.ids read.head (by_ids c.ids) in
    let begins : same_bytes c.reached.clock read.head.clock ≡ true = (bytes_decides c.reached.clock read.head.clock).1 (c.clock ∙ sym clock) in
    let its : ids_or (ids_in read.head) c.reached.ids ≡ base.ids = kept c.reached.ids c.ids in
    let state = c.state in
    let reached = c.clock in
    let made = c.transactions in record {
      journals = c.earlier ++ last ∷ [];
      names = map-append c.earlier (last ∷ []) ∙ sym c.names;
      each = append_all _ c.earlier last c.reads (subst (λ found. IfSome found (λ (f : File). ReadsAs f.bytes (Some read))) (sym there) reads);
      is = sym after
          ∙ (λ i. after_blocks name read.size read.blocks (record { ids = Some (sym its i); state = sym state i; clock = sym reached i; transactions = sym made i }))
          ∙ sym (after_head-fits name read c.reached journal named fits begins)
          ∙ sym (then_nothing (after_head name read c.reached))
          ∙ ap (and_then (after_files (last ∷ []))) (sym c.reaches)
          ∙ sym (after_files-append c.earlier (last ∷ []) (reached_at c.origin))
          ∙ ap (after_origin (c.earlier ++ last ∷ [])) (sym c.begins);
    }
  where
    by_ids : (c.reached.ids ≡ None) ⊎ (c.reached.ids ≡ Some base.ids) → (c.reached.ids ≡ None) ⊎ (c.reached.ids ≡ Some (ids_in read.head))
    by_ids (inl none) = inl none
    by_ids (inr its) = inr (its ∙ ap Some (sym ids))

    kept : (found : Option Ids) → (found ≡ None) ⊎ (found ≡ Some base.ids) → ids_or (ids_in read.head) found ≡ base.ids
    kept found (inl none) = ap (ids_or (ids_in read.head)) none ∙ ids
    kept found (inr its) = ap (ids_or (ids_in read.head)) its
