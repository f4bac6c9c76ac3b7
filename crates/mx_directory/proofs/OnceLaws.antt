-- A directory recovers to one state only, and has the transactions of one list.
use Rattle.std.proofs.Common.{◌≡◌, ℕ, ◌+◌, ◌≤◌, Bool, true, false, not, cond, ◌&&◌, List, [], ◌∷◌, ◌++◌, length, sum, take, refl, sym, ap, ◌∙◌, subst, arith}
use Rattle.std.specs.Prelude.{⊤, ◌==◌, Option, Some, None, is_some, Result, Ok, Err, IfSome, if◌then◌else◌}
use Rattle.std.specs.List.{filter, AllByRecursion}
use Rattle.std.specs.Ordering.{eq_by_cmp}
use Rattle.std.specs.FinMap.{get-entries}
use Rattle.std.specs.FinMap.Entries.{find}
use Rattle.std.proofs.lemmas.Map.Text.{is_eq-slice_cmp}
use Rattle.std.proofs.lemmas.List.{length-append, length-take, take-append-le}
use Rattle.mx_xlog.specs.declared.head.Head.{Head}
use Rattle.mx_xlog.proofs.FileLaws.{one_reading, some_reading}
use Rattle.mx_outside.specs.Disks.{File, Files, Disk}
use Rattle.mx_model.specs.declared.ids.Ids.{Ids}
use Rattle.mx_directory.specs.declared.damage.Damage.{Damage}
use Rattle.mx_directory.specs.declared.damage.DamageKind.TheVariants.{Gap}
use Rattle.mx_row.specs.declared.tx.Tx.{Tx}
use Rattle.mx_schema.specs.State.{State}
use Rattle.mx_schema.proofs.AloneLaws.{each_follows}
use Rattle.mx_model.specs.Answers.{state_after_rows}
use Rattle.mx_row.specs.Clocks.{clock_after_one, follows}
use Rattle.mx_row.specs.Rows.{transactions_in}
use Rattle.mx_directory.specs.Directories.{Named, Reached, ReadAll, Origin, IsDirectoryState, SameIds, SameOutcome, AllFollow, are_its_ids, ids_in, ids_or, head_fits, reached_at, is_shared, schema_is_alone, takes_rows, after_transaction, then_all, after_transactions, after_read, after_block, block_reached, after_blocks, after_head, after_file, and_then, after_files, origin_of, after_origin, directory_state}
use Rattle.mx_xlog.specs.Files.{FileRead, ReadsAs, SameHead, SameFile, SameRead}
use Rattle.mx_files.specs.Names.{is_journal, is_snapshot, journal_name, same_bytes}
use Rattle.mx_directory.proofs.DirectoryLaws.{by_name, names_in, names_of, same_itself}
use Rattle.mx_model.proofs.EachLaws.{each_kept}
use mathlib.Core.List.{IsPrefix}
use Rattle.mx_directory.specs.Survival.{StandsAfter, Survive, FollowFrom}
use Rattle.std.specs.FinMap as finite

-- ---- what is alike but for the bytes of identifiers

record Alike (one other : Reached) : Type 0 where
  ids : SameIds one.ids other.ids
  state : one.state ≡ other.state
  clock : one.clock ≡ other.clock
  made : one.transactions ≡ other.transactions

abbrev MayBeAlike : Option Reached → Option Reached → Type 0
MayBeAlike None None = ⊤
MayBeAlike None (Some other) = ⊥
MayBeAlike (Some one) None = ⊥
MayBeAlike (Some one) (Some other) = Alike one other

abbrev SameEnd : Result Reached Damage → Result Reached Damage → Type 0
SameEnd (Ok one) (Ok other) = Alike one other
SameEnd (Ok one) (Err damage) = ⊥
SameEnd (Err damage) (Ok other) = ⊥
SameEnd (Err damage) (Err other) = damage ≡ other

-- ---- two readings of one file

-- the file that is found under a name reads alike
found_once : (found : Option File) (one other : Option FileRead) → is_some found ≡ true → IfSome found (λ (file : File). ReadsAs file.bytes one)
    → IfSome found (λ (file : File). ReadsAs file.bytes other) → SameRead one other
found_once None one other there first second = absurd cc
found_once (Some file) one other there first second = one_reading file.bytes one other first second

-- ---- what alike files make of what was reached

either_way : (test same : Bool) (one other : Reached) → test ≡ same → Alike one other
    → MayBeAlike (if test then Some one else None) (if same then Some other else None)
either_way true true one other is alike = alike
either_way true false one other is alike = absurd cc
either_way false true one other is alike = absurd cc
either_way false false one other is alike = tt

transaction_alike : (transaction : Tx) (one other : Reached) → Alike one other
    → MayBeAlike (after_transaction transaction one) (after_transaction transaction other)
transaction_alike transaction one other alike =
    let state = alike.state in
    let clock = alike.clock in
    either_way (is_shared transaction && follows one.clock transaction && schema_is_alone transaction && takes_rows one.state transaction.rows)
    (is_shared transaction && follows other.clock transaction && schema_is_alone transaction && takes_rows other.state transaction.rows)
    _ _
    (λ i. is_shared transaction && follows (clock i) transaction && schema_is_alone transaction && takes_rows (state i) transaction.rows)
    (record {
      ids = alike.ids;
      state = ap (λ s. state_after_rows s transaction.rows) state;
      clock = ap (λ c. clock_after_one c transaction) clock;
      made = ap (λ txs. txs ++ transaction ∷ []) alike.made;
    })

transactions_alike : (transactions : List Tx) (one other : Reached) → Alike one other
    → MayBeAlike (after_transactions transactions one) (after_transactions transactions other)
transactions_alike [] one other alike = alike
transactions_alike (transaction ∷ others) one other alike =
    by_first (transactions_alike others) (after_transaction transaction one) (after_transaction transaction other) (transaction_alike transaction one other alike)
  where
    by_first : ((x y : Reached) → Alike x y → MayBeAlike (after_transactions others x) (after_transactions others y))
        → (a b : Option Reached) → MayBeAlike a b → MayBeAlike (then_all (after_transactions others) a) (then_all (after_transactions others) b)
    by_first rest None None same = tt
    by_first rest None (Some y) same = absurd same
    by_first rest (Some x) None same = absurd same
    by_first rest (Some x) (Some y) same = rest x y same

read_alike : (transactions : Option (List Tx)) (one other : Reached) → Alike one other
    → MayBeAlike (after_read transactions one) (after_read transactions other)
read_alike None one other alike = tt
read_alike (Some transactions) one other alike = transactions_alike transactions one other alike

block_alike : (bytes : List ℕ) (one other : Reached) → Alike one other → MayBeAlike (after_block bytes one) (after_block bytes other)
unfolding after_block
block_alike bytes one other alike = read_alike (transactions_in bytes) one other alike

blocks_alike : (name : List ℕ) (at : ℕ) (blocks : List (List ℕ)) (one other : Reached) → Alike one other
    → SameEnd (after_blocks name at blocks one) (after_blocks name at blocks other)
blocks_alike name at [] one other alike = alike
blocks_alike name at (bytes ∷ blocks) one other alike =
    let later = (at + 19) + length bytes in
    by_block later (blocks_alike name later blocks) (after_block bytes one) (after_block bytes other) (block_alike bytes one other alike)
  where
    by_block : (later : ℕ) → ((x y : Reached) → Alike x y → SameEnd (after_blocks name later blocks x) (after_blocks name later blocks y))
        → (a b : Option Reached) → MayBeAlike a b
        → SameEnd (block_reached name at (after_blocks name later blocks) a) (block_reached name at (after_blocks name later blocks) b)
    by_block later rest None None same = refl
    by_block later rest None (Some y) same = absurd same
    by_block later rest (Some x) None same = absurd same
    by_block later rest (Some x) (Some y) same = rest x y same

ids_alike : (one other : Option Ids) (head same : Head) → SameIds one other → SameHead head same → are_its_ids one head ≡ are_its_ids other same
ids_alike None None head same ids heads = refl
ids_alike None (Some other) head same ids heads = absurd ids
ids_alike (Some one) None head same ids heads = absurd ids
ids_alike (Some one) (Some other) head same ids heads =
    let me = ids.0 in
    let instance = ids.1 in
    let set = ids.2 in
    let replica = heads.replica in
    let its_instance = heads.instance in
    let its_set = heads.set in
    λ i. (me i == replica i) && same_bytes (instance i) (its_instance i) && same_bytes (set i) (its_set i)

kept_alike : (one other : Option Ids) (head same : Head) → SameIds one other → SameHead head same
    → SameIds (Some (ids_or (ids_in head) one)) (Some (ids_or (ids_in same) other))
kept_alike None None head same ids heads = (heads.replica, heads.instance, heads.set)
kept_alike None (Some other) head same ids heads = absurd ids
kept_alike (Some one) None head same ids heads = absurd ids
kept_alike (Some one) (Some other) head same ids heads = ids

three_ways : (fits its_fits meets its_meets : Bool) (misfit gap its_gap : Damage) (after its_after : Result Reached Damage) → fits ≡ its_fits → meets ≡ its_meets
    → gap ≡ its_gap → SameEnd after its_after
    → SameEnd (if not fits then Err misfit else if not meets then Err gap else after) (if not its_fits then Err misfit else if not its_meets then Err its_gap else its_after)
three_ways true true true true misfit gap its_gap after its_after p q gaps afters = afters
three_ways true true false false misfit gap its_gap after its_after p q gaps afters = gaps
three_ways true true true false misfit gap its_gap after its_after p q gaps afters = absurd cc
three_ways true true false true misfit gap its_gap after its_after p q gaps afters = absurd cc
three_ways false false meets its_meets misfit gap its_gap after its_after p q gaps afters = refl
three_ways true false meets its_meets misfit gap its_gap after its_after p q gaps afters = absurd cc
three_ways false true meets its_meets misfit gap its_gap after its_after p q gaps afters = absurd cc

head_alike : (name : List ℕ) (file same : FileRead) (one other : Reached) → SameFile file same → Alike one other
    → SameEnd (after_head name file one) (after_head name same other)
head_alike name file same one other files alike =
    let heads = files.head in
    let ids = ids_alike one.ids other.ids file.head same.head alike.ids heads in
    let snapshot = heads.snapshot in
    let begins = heads.clock in
    let clock = alike.clock in
    let size = files.size in
    let blocks = files.blocks in
    let begun : Reached → FileRead → Reached = λ reached read. record reached { ids = Some (ids_or (ids_in read.head) reached.ids) } in
    let goes_on : Alike (begun one file) (begun other same) = record { ids = kept_alike one.ids other.ids file.head same.head alike.ids heads; state = alike.state; clock = alike.clock; made = alike.made } in
    three_ways (head_fits name file.head one) (head_fits name same.head other) (same_bytes one.clock file.head.clock) (same_bytes other.clock same.head.clock)
    _ _ _ _ _
    (λ i. not (snapshot i) && same_bytes name (journal_name (sum (begins i))) && ids i)
    (λ i. same_bytes (clock i) (begins i))
    (λ i. record { file = name; at = 0; kind = Gap (clock i) (begins i) })
    (subst (SameEnd (after_blocks name file.size file.blocks (begun one file)))
    (λ i. after_blocks name (size i) (blocks i) (begun other same))
    (blocks_alike name file.size file.blocks (begun one file) (begun other same) goes_on))

file_alike : (name : List ℕ) (file same : Option FileRead) (one other : Reached) → SameRead file same → Alike one other
    → SameEnd (after_file (name, file) one) (after_file (name, same) other)
file_alike name None None one other files alike = refl
file_alike name None (Some same) one other files alike = absurd files
file_alike name (Some file) None one other files alike = absurd files
file_alike name (Some file) (Some same) one other files alike = head_alike name file same one other files alike

-- ---- the files of a directory

abbrev pub IsListed : Files → List ℕ → Type 0
IsListed files name = is_some (finite.get files name) ≡ true

is_there : (value : File) (same : Bool) (found : Option File) → same ≡ true → is_some (cond same (Some value) found) ≡ true
is_there value true found is = refl
is_there value false found is = absurd cc

still_there : (value : File) (same : Bool) (found : Option File) → is_some found ≡ true → is_some (cond same (Some value) found) ≡ true
still_there value true found is = refl
still_there value false found is = is

all_still : (e : List ℕ × File) (es : List (List ℕ × File)) (names : List (List ℕ))
    → AllByRecursion (λ name. is_some (find by_name name es) ≡ true) names → AllByRecursion (λ name. is_some (find by_name name (e ∷ es)) ≡ true) names
all_still e es [] all = tt
all_still e es (name ∷ names) all = (still_there e.1 (eq_by_cmp by_name name e.0) (find by_name name es) all.0, all_still e es names all.1)

all_found : (es : List (List ℕ × File)) → AllByRecursion (λ name. is_some (find by_name name es) ≡ true) (names_in es)
all_found [] = tt
all_found (e ∷ es) = (
  is_there e.1 (eq_by_cmp by_name e.0 e.0) (find by_name e.0 es) (is_eq-slice_cmp e.0 e.0 ∙ same_itself e.0),
  all_still e es (names_in es) (all_found es),
)

pub all_there : (files : Files) (p : List ℕ → Bool) → AllByRecursion (IsListed files) (filter p (finite.keys files))
all_there files p =
    each_kept (IsListed files) p (finite.keys files)
    (each_follows (λ name. is_some (find by_name name (finite.entries files)) ≡ true) (IsListed files) (λ name found. ap is_some (get-entries files name) ∙ found)
    (finite.keys files) (all_found (finite.entries files)))

same_parts : (x y : List ℕ) (xs ys : List (List ℕ)) → x ∷ xs ≡ y ∷ ys → (x ≡ y) × (xs ≡ ys)
same_parts x y xs ys is = (cc, cc)

none_there : (name : List ℕ) (names : List (List ℕ)) → [] ≡ name ∷ names → ⊥
none_there name names is = cc

-- journals that were read from the same files
journals_alike : (files : Files) (journals others : List Named) (one other : Reached)
    → names_of journals ≡ names_of others → AllByRecursion (IsListed files) (names_of journals)
    → ReadAll files journals → ReadAll files others → Alike one other
    → SameEnd (after_files journals one) (after_files others other)
journals_alike files [] [] one other names there reads its_reads alike = alike
journals_alike files [] (next ∷ others) one other names there reads its_reads alike = absurd (none_there next.0 (names_of others) names)
journals_alike files (journal ∷ journals) [] one other names there reads its_reads alike = absurd (none_there journal.0 (names_of journals) (sym names))
journals_alike files ((name, read) ∷ journals) ((again, same) ∷ others) one other names there reads its_reads alike =
    let parts = same_parts name again (names_of journals) (names_of others) names in
    let its_read = subst (λ n. IfSome (finite.get files n) (λ (file : File). ReadsAs file.bytes same)) (sym parts.0) its_reads.0 in
    let reads_same = found_once (finite.get files name) read same there.0 reads.0 its_read in
    let first : SameEnd (after_file (name, read) one) (after_file (again, same) other) =
    subst (λ n. SameEnd (after_file (name, read) one) (after_file (n, same) other)) parts.0 (file_alike name read same one other reads_same alike) in
    by_first
    (λ x y alike. journals_alike files journals others x y parts.1 there.1 reads.1 its_reads.1 alike)
    (after_file (name, read) one) (after_file (again, same) other) first
  where
    by_first : ((x y : Reached) → Alike x y → SameEnd (after_files journals x) (after_files others y))
        → (a b : Result Reached Damage) → SameEnd a b
        → SameEnd (and_then (after_files journals) a) (and_then (after_files others) b)
    by_first rest (Ok x) (Ok y) first = rest x y first
    by_first rest (Ok x) (Err damage) first = absurd first
    by_first rest (Err damage) (Ok y) first = absurd first
    by_first rest (Err damage) (Err same) first = first

same_outcome : (one other : Result Reached Damage) → SameEnd one other → SameOutcome one other
same_outcome (Ok one) (Ok other) same = (same.ids, same.state, same.clock, same.made)
same_outcome (Ok one) (Err damage) same = same
same_outcome (Err damage) (Ok other) same = same
same_outcome (Err damage) (Err other) same = same

-- a directory recovers to one state only
pub stands_once : (files : Files) (one other : Result Reached Damage) → IsDirectoryState files one → IsDirectoryState files other → SameOutcome one other
stands_once files one other first second =
    same_outcome one other
    (subst (λ o. SameEnd o other) (sym first.is)
    (subst (SameEnd (directory_state snapshots first.journals)) (sym second.is) (by_origin (origin_of snapshots))))
  where
    snapshots : List (List ℕ)
    snapshots = filter is_snapshot (finite.keys files)

    by_origin : (origin : Result Origin Damage) → SameEnd (after_origin first.journals origin) (after_origin second.journals origin)
    by_origin (Err damage) = refl
    by_origin (Ok origin) =
        journals_alike files first.journals second.journals (reached_at origin) (reached_at origin) (first.names ∙ sym second.names)
        (subst (AllByRecursion (IsListed files)) (sym first.names) (all_there files is_journal))
        first.each second.each (record { ids = tt; state = refl; clock = refl; made = refl })

-- every file that is there reads as something
pub each_read : (files : Files) (names : List (List ℕ)) → AllByRecursion (IsListed files) names
    → (journals : List Named) × (names_of journals ≡ names) × ReadAll files journals
each_read files [] there = ([], refl, tt)
each_read files (name ∷ names) there =
    let others = each_read files names there.1 in
    let first = found_read (finite.get files name) in
    ((name, first.0) ∷ others.0, ap (λ rest. name ∷ rest) others.1, (first.1, others.2))
  where
    found_read : (found : Option File) → (read : Option FileRead) × IfSome found (λ (file : File). ReadsAs file.bytes read)
    found_read None = (None, tt)
    found_read (Some file) = some_reading file.bytes

-- where it recovers to a state and a vclock, they are the only ones, and so are its transactions
pub one_state : (files : Files) (one other : Reached) → IsDirectoryState files (Ok one) → IsDirectoryState files (Ok other)
    → (one.state ≡ other.state) × (one.clock ≡ other.clock) × (one.transactions ≡ other.transactions)
one_state files one other first second =
    let (ids, state, clock, made) = stands_once files (Ok one) (Ok other) first second in
    (state, clock, made)

-- ---- how many transactions a directory recovers to

-- a directory recovers to a prefix of these of one length only
pub counted_once : {origin : Origin} (transactions : List Tx) (m n : ℕ) (files : Files) → m ≤ length transactions
    → n ≤ length transactions → StandsAfter origin (take m transactions) files → StandsAfter origin (take n transactions) files → m ≡ n
counted_once transactions m n files first second one other =
    let (state, clock, same) = one_state files one.reached other.reached one.stands other.stands in
    let long = ap length (sym one.made ∙ same ∙ other.made) in
    omega (arith, long, first, second, length-take m transactions, length-take n transactions)

-- a prefix of a prefix is one of them all
pub front_longer : (earlier transactions : List Tx) (count : ℕ) → IsPrefix earlier transactions → count ≤ length earlier
    → (take count earlier ≡ take count transactions) × (count ≤ length transactions)
front_longer earlier transactions count (rest, is) few = (
  sym (take-append-le count earlier rest few) ∙ ap (take count) is,
  subst (λ (txs : List Tx). count ≤ length txs) is (omega (arith, length-append earlier rest)),
)

-- a bound for a prefix is one for them all
pub survive_longer : {origin : Origin} (earlier transactions : List Tx) (least : ℕ) (disk : Disk) → IsPrefix earlier transactions
    → Survive origin earlier least disk → Survive origin transactions least disk
survive_longer {origin} earlier transactions least disk front survive image fair =
    let found = survive image fair in
    let longer = front_longer earlier transactions found.0 front found.2 in
    (found.0, found.1, longer.1, subst (λ txs. StandsAfter origin txs image) longer.0 found.3)
