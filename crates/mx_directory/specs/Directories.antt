-- What the journals of a directory recover to, or what is damaged in them.
use Rattle.std.specs.Prelude.{◌≡◌, ◌⊎◌, ⊤, ℕ, ◌+◌, Bool, true, false, not, ◌&&◌, ◌||◌, List, [], ◌∷◌, ◌++◌, length, map, sum, replicate, Option, Some, None, Result, Ok, Err, is_none, ◌==◌, IfSome, if◌then◌else◌}
use Rattle.std.specs.List.{filter, last_or, AllByRecursion}
use Rattle.std.specs.FinMap as finite
use Rattle.uuid.specs.Text.{hyphenated_text, lower}
use Rattle.mx_vclock.specs.Vclocks.{replicas}
use Rattle.mx_xlog.specs.declared.head.Head.{Head}
use Rattle.mx_outside.specs.Disks.{File, Files}
use Rattle.mx_model.specs.declared.ids.Ids.{Ids}
use Rattle.mx_directory.specs.declared.damage.Damage.{Damage}
use Rattle.mx_directory.specs.declared.damage.DamageKind.TheVariants.{Head as HeadDamage, Gap, Row as RowDamage}
use Rattle.mx_schema.specs.Bootstrap.{first_state}
use Rattle.mx_schema.specs.State.{State}
use Rattle.mx_row.specs.declared.row.Row.{Row}
use Rattle.mx_model.specs.Answers.{state_after_rows}
use Rattle.mx_model.specs.Judge.{row_refusal}
use Rattle.mx_row.specs.declared.tx.Tx.{Tx}
use Rattle.mx_row.specs.Clocks.{clock_after_one, follows}
use Rattle.mx_row.specs.Rows.{IsTransaction, transactions_in}
use Rattle.mx_model.specs.Bases.{Base}
use Rattle.mx_model.specs.Transactions.{is_schema_commit}
use Rattle.mx_files.specs.Names.{is_journal, is_snapshot, journal_name, same_bytes}
use Rattle.mx_xlog.specs.Files.{FileRead, ReadsAs}

-- a file's name, and the file as it reads
abbrev pub Named : Type 0
Named = List ℕ × Option FileRead

-- what the files so far recover to, and the transactions that they have, in order; the identifiers are those of the first file
pub record Reached : Type 0 where
  pub ids : Option Ids
  pub state : State
  pub clock : List ℕ
  pub transactions : List Tx

-- where recovery begins: a state and its vclock
pub record Origin : Type 0 where
  pub state : State
  pub clock : List ℕ

-- a new database
abbrev pub new_database : Origin
new_database = record { state = first_state; clock = replicate replicas 0 }

-- what an origin without files recovers to
abbrev pub reached_at : Origin → Reached
reached_at origin = record { ids = None; state = origin.state; clock = origin.clock; transactions = [] }

-- what a directory without files recovers to
abbrev pub nothing_yet : Reached
nothing_yet = reached_at new_database

abbrev pub ids_in : Head → Ids
ids_in head = record { me = head.replica; instance = head.instance; set = head.set }

-- the text of an identifier is this one's
abbrev pub SameText : List ℕ → List ℕ → Type 0
SameText id other = hyphenated_text lower id ≡ hyphenated_text lower other

-- two identifiers have the same text
abbrev pub same_id : List ℕ → List ℕ → Bool
same_id id other = same_bytes (hyphenated_text lower id) (hyphenated_text lower other)

abbrev pub are_its_ids : Option Ids → Head → Bool
are_its_ids None head = true
are_its_ids (Some ids) head = (ids.me == head.replica) && same_id ids.instance head.instance && same_id ids.set head.set

abbrev pub ids_or : Ids → Option Ids → Ids
ids_or ids None = ids
ids_or ids (Some found) = found

-- the header is a journal's, and fits the file's name and the files before it
abbrev pub head_fits : List ℕ → Head → Reached → Bool
head_fits name head reached = not head.snapshot && same_bytes name (journal_name (sum head.clock)) && are_its_ids reached.ids head

-- the state takes the row: as a write it isn't refused
abbrev pub takes_row : State → Row → Bool
takes_row state row = is_none (row_refusal state row)

-- the state takes the rows, each after those before it
abbrev pub takes_rows : State → List Row → Bool
takes_rows state [] = true
takes_rows state (row ∷ rows) = takes_row state row && takes_rows (state_after_rows state (row ∷ [])) rows

-- A row of the replica id 0 is local, and stands in no journal yet.
abbrev pub is_shared : Tx → Bool
is_shared transaction = not (transaction.replica.0 == 0)

-- a row that describes a space or an index is the only one of its transaction
abbrev pub schema_is_alone : Tx → Bool
schema_is_alone transaction = (length transaction.rows == 1) || not (is_schema_commit transaction)

abbrev pub after_transaction : Tx → Reached → Option Reached
after_transaction transaction reached =
    let next = record reached {
      state = state_after_rows reached.state transaction.rows;
      clock = clock_after_one reached.clock transaction;
      transactions = reached.transactions ++ transaction ∷ [];
    } in
    if is_shared transaction && follows reached.clock transaction && schema_is_alone transaction && takes_rows reached.state transaction.rows
    then Some next else None

abbrev pub then_all : (Reached → Option Reached) → Option Reached → Option Reached
then_all others None = None
then_all others (Some reached) = others reached

abbrev pub after_transactions : List Tx → Reached → Option Reached
after_transactions [] reached = Some reached
after_transactions (transaction ∷ others) reached = then_all (after_transactions others) (after_transaction transaction reached)

abbrev pub after_read : Option (List Tx) → Reached → Option Reached
after_read None reached = None
after_read (Some transactions) reached = after_transactions transactions reached

-- after a block of this data; nothing where its rows aren't transactions that follow, or the state refuses one
unfoldable pub after_block : List ℕ → Reached → Option Reached
after_block bytes reached = after_read (transactions_in bytes) reached

abbrev pub damaged_row : List ℕ → ℕ → Result Reached Damage
damaged_row name at = Err (record { file = name; at = at; kind = RowDamage })

abbrev pub block_reached : List ℕ → ℕ → (Reached → Result Reached Damage) → Option Reached → Result Reached Damage
block_reached name at others None = damaged_row name at
block_reached name at others (Some reached) = others reached

-- after blocks that stand from this place of a file on
abbrev pub after_blocks : List ℕ → ℕ → List (List ℕ) → Reached → Result Reached Damage
after_blocks name at [] reached = Ok reached
after_blocks name at (bytes ∷ blocks) reached =
    block_reached name at (after_blocks name ((at + 19) + length bytes) blocks) (after_block bytes reached)

abbrev pub after_head : List ℕ → FileRead → Reached → Result Reached Damage
after_head name file reached =
    if not (head_fits name file.head reached) then Err (record { file = name; at = 0; kind = HeadDamage })
    else if not (same_bytes reached.clock file.head.clock) then Err (record { file = name; at = 0; kind = Gap reached.clock file.head.clock })
    else after_blocks name file.size file.blocks (record reached { ids = Some (ids_or (ids_in file.head) reached.ids) })

-- after a file, which has to begin at the vclock reached
abbrev pub after_file : Named → Reached → Result Reached Damage
after_file (name, None) reached = Err (record { file = name; at = 0; kind = HeadDamage })
after_file (name, Some file) reached = after_head name file reached

abbrev pub and_then : (Reached → Result Reached Damage) → Result Reached Damage → Result Reached Damage
and_then others (Err damage) = Err damage
and_then others (Ok reached) = others reached

abbrev pub after_files : List Named → Reached → Result Reached Damage
after_files [] reached = Ok reached
after_files (file ∷ files) reached = and_then (after_files files) (after_file file reached)

-- the origin that a snapshot gives, and a new database where there is none; a snapshot can't be read yet
abbrev pub origin_by : Option (List ℕ) → Result Origin Damage
origin_by None = Ok new_database
origin_by (Some name) = Err (record { file = name; at = 0; kind = HeadDamage })

-- the origin by the snapshots of these names, the newest of which counts
abbrev pub origin_of : List (List ℕ) → Result Origin Damage
origin_of snapshots = origin_by (last_or None snapshots)

abbrev pub after_origin : List Named → Result Origin Damage → Result Reached Damage
after_origin journals (Err damage) = Err damage
after_origin journals (Ok origin) = after_files journals (reached_at origin)

-- what the snapshots of these names and these journals recover to
abbrev pub directory_state : List (List ℕ) → List Named → Result Reached Damage
directory_state snapshots journals = after_origin journals (origin_of snapshots)

-- each of these files as it reads, where it is there
abbrev pub ReadAll : Files → List Named → Type 0
ReadAll files journals = AllByRecursion (λ journal. IfSome (finite.get files journal.0) (λ (file : File). ReadsAs file.bytes journal.1)) journals

-- what the files of a directory recover to, or the first damage in them: its journals count in name order, each as it reads
pub record IsDirectoryState (files : Files) (outcome : Result Reached Damage) : Type 0 where
  pub journals : List Named
  pub names : map (λ journal. journal.0) journals ≡ filter is_journal (finite.keys files)
  pub each : ReadAll files journals
  pub is : outcome ≡ directory_state (filter is_snapshot (finite.keys files)) journals

-- The journals but the one of this name, which comes after them all, recover to the base; they are its node's, where there
-- are any.
pub record Continues (base : Base) (name : List ℕ) (files : Files) : Type 0 where
  pub earlier : List Named
  pub origin : Origin
  pub reached : Reached
  pub begins : origin_of (filter is_snapshot (finite.keys files)) ≡ Ok origin
  pub names : filter is_journal (finite.keys files) ≡ map (λ file. file.0) earlier ++ name ∷ []
  pub others : AllByRecursion (λ file. same_bytes file.0 name ≡ false) earlier
  pub reads : ReadAll files earlier
  pub reaches : after_files earlier (reached_at origin) ≡ Ok reached
  pub ids : (reached.ids ≡ None) ⊎ (reached.ids ≡ Some base.ids)
  pub state : reached.state ≡ base.state
  pub clock : reached.clock ≡ base.clock
  pub transactions : reached.transactions ≡ base.earlier

-- each of these transactions can be written, is no local one, has the next lsns after those before it, has a row of the schema
-- only alone, and the state takes its rows
abbrev pub AllFollow : State → List ℕ → List Tx → Type 0
AllFollow state clock [] = ⊤
AllFollow state clock (tx ∷ txs) =
    IsTransaction tx × (is_shared tx ≡ true) × (follows clock tx ≡ true) × (schema_is_alone tx ≡ true)
    × (takes_rows state tx.rows ≡ true) × AllFollow (state_after_rows state tx.rows) (clock_after_one clock tx) txs

-- no identifiers, or those of the same texts
abbrev pub SameIds : Option Ids → Option Ids → Type 0
SameIds (Some one) (Some other) = (one.me ≡ other.me) × SameText one.instance other.instance × SameText one.set other.set
SameIds None None = ⊤
SameIds _ _ = ⊥

-- the same identifiers, state, vclock and transactions, or the same damage
abbrev pub SameOutcome : Result Reached Damage → Result Reached Damage → Type 0
SameOutcome (Ok one) (Ok other) = SameIds one.ids other.ids × (one.state ≡ other.state) × (one.clock ≡ other.clock) × (one.transactions ≡ other.transactions)
SameOutcome (Ok one) (Err damage) = ⊥
SameOutcome (Err damage) (Ok other) = ⊥
SameOutcome (Err damage) (Err other) = damage ≡ other
