-- Histories: the steps that a database made since it was opened, and which histories are legal.
use Rattle.std.specs.Prelude.{◌≡◌, ⊤, ℕ, suc, false, List, [], ◌∷◌, ◌++◌, length, drop, max, if◌then◌else◌}
use Rattle.std.specs.List.{Contains}
use Rattle.mx_base.specs.declared.ids.TxnName.{TxnName}
use Rattle.mx_request.specs.declared.request.Ask.{Ask}
use Rattle.mx_request.specs.declared.request.Ask.TheVariants as ask
use Rattle.mx_row.specs.declared.tx.Tx.{Tx}
use Rattle.mx_row.specs.Clocks.{clock_after}
use Rattle.mx_schema.specs.Sound.{IsSound}
use Rattle.mx_schema.specs.State.{State}
use Rattle.mx_model.specs.declared.reply.Reply.{Reply}
use Rattle.mx_model.specs.declared.reply.Reply.TheVariants.{Empty, Refused}
use Rattle.mx_model.specs.Bases.{Base, CanBeAsked, is_out_of_memory}
use Rattle.mx_model.specs.StreamHistories.{Disconnected, Requested, streams_with}
use Rattle.mx_model.specs.Streams.{IsTold, Streams, outcome_of}
use Rattle.mx_model.specs.Transactions.{state_after}

-- One step: a request with its name and reply; a disconnect; transactions that were taken to be written, with the number of
-- steps before; the confirmation that all commits among so many steps are durable; and a look, which changes nothing.
pub data Entry : Type 0 where
  Asked : TxnName → Ask → Reply → Entry
  Left : (connection : ℕ) → Entry
  Took : (transactions : List Tx) (upto : ℕ) → Entry
  Confirmed : (upto : ℕ) → Entry
  Looked : Entry

-- the newest entry first
abbrev pub History : Type 0
History = List Entry

-- what a history has come to
pub record Ledger : Type 0 where
  -- what the requests and disconnects have come to: what the database was when it was opened, the journal, and the open transactions
  pub streams : Streams
  -- how many steps there were
  pub steps : ℕ
  -- how many transactions of the journal were taken to be written
  pub taken : ℕ
  -- the number of steps before each take, the newest first
  pub takes : List ℕ
  -- among how many steps all commits are durable
  pub durable : ℕ

-- the state and the vclock after a ledger
abbrev pub ledger_state : Ledger → State
ledger_state ledger = state_after ledger.streams.base.state ledger.streams.journal

abbrev pub ledger_clock : Ledger → List ℕ
ledger_clock ledger = clock_after ledger.streams.base.clock ledger.streams.journal

-- the ledger with what one step changes of it, but for the number of steps
abbrev pub ledger_with : Ledger → Entry → Ledger
ledger_with ledger (Asked name (ask.Request request) reply) = record ledger { streams = streams_with ledger.streams (Requested name request reply) }
ledger_with ledger (Left connection) = record ledger { streams = streams_with ledger.streams (Disconnected connection) }
ledger_with ledger (Took transactions upto) = record ledger { taken = length ledger.streams.journal; takes = upto ∷ ledger.takes }
ledger_with ledger (Confirmed upto) = record ledger { durable = max ledger.durable upto }
ledger_with ledger _ = ledger

abbrev pub ledger_after : Ledger → Entry → Ledger
ledger_after ledger entry = record (ledger_with ledger entry) { steps = suc ledger.steps }

-- what a history has come to, from the base
abbrev pub ledger_of : Base → History → Ledger
ledger_of base [] = record { streams = record { base = base; journal = []; transactions = [] }; steps = 0; taken = 0; takes = []; durable = 0 }
ledger_of base (entry ∷ earlier) = ledger_after (ledger_of base earlier) entry

-- the transactions that a history committed
abbrev pub journal_of : Base → History → List Tx
journal_of base history = (ledger_of base history).streams.journal

-- the state after a history, and its vclock
abbrev pub state_of : Base → History → State
state_of base history = ledger_state (ledger_of base history)

abbrev pub clock_of : Base → History → List ℕ
clock_of base history = ledger_clock (ledger_of base history)

-- the reply that the ledger demands; to a request that was refused beforehand, its refusal
abbrev pub reply_to : Ledger → TxnName → Ask → Reply
reply_to ledger name (ask.Refused refusal) = Refused refusal
reply_to ledger name ask.Leave = Empty
reply_to ledger name (ask.Request request) = (outcome_of ledger.streams name request).reply

-- The request can be asked, and the reply is the one that the ledger demands, or out of memory where memory is asked for; a disconnect has
-- no reply.
abbrev pub IsReply : Ledger → TxnName → Ask → Reply → Type 0
IsReply ledger name (ask.Refused refusal) reply = reply ≡ Refused refusal
IsReply ledger name ask.Leave reply = ⊥
IsReply ledger name (ask.Request request) reply = CanBeAsked request × IsTold ledger.streams name request reply

-- The entry is what the history before it demands: a take has what no earlier one took, and a confirmation names an earlier
-- take.
abbrev pub Follows : Ledger → Entry → Type 0
Follows ledger (Asked name ask reply) = IsReply ledger name ask reply
Follows ledger (Took transactions upto) = (transactions ≡ drop ledger.taken ledger.streams.journal) × (upto ≡ ledger.steps)
Follows ledger (Confirmed upto) = Contains ledger.takes upto
Follows ledger _ = ⊤

-- The base is sound, and each entry is what the entries before it demand.
abbrev pub IsLegal : Base → History → Type 0
IsLegal base [] = IsSound base.state
IsLegal base (entry ∷ earlier) = IsLegal base earlier × Follows (ledger_of base earlier) entry

-- a connection disconnects
abbrev pub leaving : (connection : ℕ) → TxnName × Ask
leaving connection = (record { conn = record { 0 = connection }; stream = record { 0 = 0 } }, ask.Leave)

abbrev pub entry_asks : Entry → List (TxnName × Ask)
entry_asks (Asked name ask reply) = (name, ask) ∷ []
entry_asks (Left connection) = leaving connection ∷ []
entry_asks _ = []

-- the requests and the disconnects, oldest first
abbrev pub asks_in : History → List (TxnName × Ask)
asks_in [] = []
asks_in (entry ∷ earlier) = asks_in earlier ++ entry_asks entry

-- the step didn't run out of memory
abbrev pub HadMemory : Entry → Type 0
HadMemory (Asked name ask reply) = is_out_of_memory reply ≡ false
HadMemory _ = ⊤

-- no step ran out of memory
abbrev pub HasMemory : History → Type 0
HasMemory [] = Unit {0}
HasMemory (entry ∷ earlier) = HasMemory earlier × HadMemory entry

-- the history as if requests that were answered out of memory hadn't been asked
abbrev pub remembered : History → History
remembered [] = []
remembered (Asked name ask reply ∷ earlier) =
    if is_out_of_memory reply then remembered earlier else Asked name ask reply ∷ remembered earlier
remembered (entry ∷ earlier) = entry ∷ remembered earlier

abbrev pub asking_in : Entry → List Entry
asking_in (Asked name ask reply) = Asked name ask reply ∷ []
asking_in (Left connection) = Left connection ∷ []
asking_in _ = []

-- the steps that were asked for
abbrev pub asking : History → History
asking [] = []
asking (entry ∷ earlier) = asking_in entry ++ asking earlier

-- the step that is asked for, with the reply that the ledger demands
abbrev pub step_for : Ledger → TxnName × Ask → Entry
step_for ledger (name, ask.Request request) = Asked name (ask.Request request) (reply_to ledger name (ask.Request request))
step_for ledger (name, ask.Refused refusal) = Asked name (ask.Refused refusal) (Refused refusal)
step_for ledger (name, ask.Leave) = Left name.conn.0

-- the history of these asks, each with the reply that those before it demand
abbrev pub history_from : Base → History → List (TxnName × Ask) → History
history_from base earlier [] = earlier
history_from base earlier (asked ∷ others) = history_from base (step_for (ledger_of base earlier) asked ∷ earlier) others
