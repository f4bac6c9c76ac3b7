-- What one step more makes of a history, and that a history whose steps all had memory is that of its asks.
use Rattle.std.proofs.Common.{◌≡◌, inl, inr, suc, ◌≤◌, Bool, true, false, List, [], ◌∷◌, ◌++◌, length, drop, refl, sym, ap, ◌∙◌, append-nil, length-append, subst, arith}
use Rattle.std.specs.Prelude.{if◌then◌else◌}
use Rattle.std.proofs.lemmas.List.{drop-append-le}
use Rattle.mx_base.specs.declared.refusal.Refusal.TheVariants.{OutOfMemory}
use Rattle.mx_base.specs.declared.ids.TxnName.{TxnName}
use Rattle.mx_request.specs.declared.request.Ask.{Ask}
use Rattle.mx_request.specs.declared.request.Ask.TheVariants as ask
use Rattle.mx_request.specs.declared.request.Request.{Request}
use Rattle.mx_row.specs.declared.tx.Tx.{Tx}
use Rattle.mx_model.specs.declared.reply.Reply.{Reply}
use Rattle.mx_model.specs.declared.reply.Reply.TheVariants.{Refused}
use Rattle.mx_model.specs.Bases.{Base, is_out_of_memory}
use Rattle.mx_model.specs.Histories.{Asked, Left, Took, Confirmed, Looked, History, Ledger, ledger_of, ledger_with, journal_of, state_of, reply_to, IsReply, IsLegal, asks_in, HasMemory, remembered, asking, leaving, step_for, history_from}
use Rattle.mx_model.specs.HistoryStreams.{streams_in}
use Rattle.mx_model.specs.StreamHistories.{Disconnected, IsLegalStreams, Requested, streams_of, streams_with}
use Rattle.mx_model.specs.Streams.{IsTold, Streams, commit_with, outcome_of, streams_after, streams_left, told_as}
use Rattle.mx_model.specs.Transactions.{state_after}
use Rattle.mx_model.proofs.StreamSteps.{base_stays}

-- one ask more is one entry more
pub history_from-append : (base : Base) (earlier : History) (asks : List (TxnName × Ask)) (asked : TxnName × Ask)
    → history_from base earlier (asks ++ asked ∷ [])
    ≡ step_for (ledger_of base (history_from base earlier asks)) asked ∷ history_from base earlier asks
history_from-append base earlier [] asked = refl
history_from-append base earlier (first ∷ others) asked =
    history_from-append base (step_for (ledger_of base earlier) first ∷ earlier) others asked

told_refusal : (reply : Reply) → reply ≡ Refused OutOfMemory → is_out_of_memory reply ≡ true
told_refusal reply told = ap is_out_of_memory told

-- a reply that isn't out of memory is the one that the ledger demands
pub reply_is_demanded : (ledger : Ledger) (name : TxnName) (ask : Ask) (reply : Reply)
    → IsReply ledger name ask reply → is_out_of_memory reply ≡ false → reply ≡ reply_to ledger name ask
reply_is_demanded ledger name (ask.Refused refusal) reply told memory = told
reply_is_demanded ledger name ask.Leave reply told memory = absurd told
reply_is_demanded ledger name (ask.Request request) reply (can, inl told) memory = told
reply_is_demanded ledger name (ask.Request request) reply (can, inr (may, told)) memory = let want = told_refusal reply told in absurd cc

-- a history counts its steps
pub steps_of_ledger : (base : Base) (history : History) → (ledger_of base history).steps ≡ length history
steps_of_ledger base [] = refl
steps_of_ledger base (entry ∷ earlier) = ap suc (steps_of_ledger base earlier)

-- ---- its requests and disconnects

-- it comes to what these come to
pub streams_of_history : (base : Base) (history : History) → (ledger_of base history).streams ≡ streams_of base (streams_in history)
streams_of_history base [] = refl
streams_of_history base (Asked name (ask.Request request) reply ∷ earlier) =
    ap (λ streams. streams_with streams (Requested name request reply)) (streams_of_history base earlier)
streams_of_history base (Asked name (ask.Refused refusal) reply ∷ earlier) = streams_of_history base earlier
streams_of_history base (Asked name ask.Leave reply ∷ earlier) = streams_of_history base earlier
streams_of_history base (Left connection ∷ earlier) = ap (λ streams. streams_left streams connection) (streams_of_history base earlier)
streams_of_history base (Took transactions upto ∷ earlier) = streams_of_history base earlier
streams_of_history base (Confirmed upto ∷ earlier) = streams_of_history base earlier
streams_of_history base (Looked ∷ earlier) = streams_of_history base earlier

-- and they are legal where it is
pub streams_legal : (base : Base) (history : History) → IsLegal base history → IsLegalStreams base (streams_in history)
streams_legal base [] legal = legal
streams_legal base (Asked name (ask.Request request) reply ∷ earlier) legal = (
  streams_legal base earlier legal.0,
  (legal.1.0, subst (λ streams. IsTold streams name request reply) (streams_of_history base earlier) legal.1.1),
)
streams_legal base (Asked name (ask.Refused refusal) reply ∷ earlier) legal = streams_legal base earlier legal.0
streams_legal base (Asked name ask.Leave reply ∷ earlier) legal = streams_legal base earlier legal.0
streams_legal base (Left connection ∷ earlier) legal = (streams_legal base earlier legal.0, tt)
streams_legal base (Took transactions upto ∷ earlier) legal = streams_legal base earlier legal.0
streams_legal base (Confirmed upto ∷ earlier) legal = streams_legal base earlier legal.0
streams_legal base (Looked ∷ earlier) legal = streams_legal base earlier legal.0

-- what a history came to began with its base
pub base_of_ledger : (base : Base) (history : History) → (ledger_of base history).streams.base ≡ base
base_of_ledger base history = ap (λ (streams : Streams). streams.base) (streams_of_history base history) ∙ base_stays base (streams_in history)

-- so its state and its vclock are those after its journal
pub state_of_journal : (base : Base) (history : History) → state_of base history ≡ state_after base.state (journal_of base history)
state_of_journal base history = ap (λ (b : Base). state_after b.state (journal_of base history)) (base_of_ledger base history)

abbrev pub commits_told : Streams → TxnName → Request → Reply → List Tx
commits_told streams name asked reply = if is_out_of_memory reply then [] else commit_with streams (outcome_of streams name asked).rows

abbrev pub commits_of : Ledger → TxnName → Ask → Reply → List Tx
commits_of ledger name (ask.Request request) reply = commits_told ledger.streams name request reply
commits_of ledger name _ reply = []

pub journal_told : (streams : Streams) (name : TxnName) (asked : Request) (reply : Reply)
    → (streams_with streams (Requested name asked reply)).journal ≡ streams.journal ++ commits_told streams name asked reply
journal_told streams name asked reply = by_test (is_out_of_memory reply)
  where
    by_test : (b : Bool) → (if b then streams else streams_after streams name (told_as reply (outcome_of streams name asked))).journal
        ≡ streams.journal ++ (if b then [] else commit_with streams (outcome_of streams name asked).rows)
    by_test true = sym (append-nil streams.journal)
    by_test false = refl

-- the journal has it behind the others
pub journal_of-asked : (base : Base) (name : TxnName) (asked : Ask) (reply : Reply) (history : History)
    → journal_of base (Asked name asked reply ∷ history) ≡ journal_of base history ++ commits_of (ledger_of base history) name asked reply
journal_of-asked base name (ask.Request request) reply history = journal_told (ledger_of base history).streams name request reply
journal_of-asked base name (ask.Refused refusal) reply history = sym (append-nil (journal_of base history))
journal_of-asked base name ask.Leave reply history = sym (append-nil (journal_of base history))

-- nothing else of the ledger changes
pub taken-asked : (ledger : Ledger) (name : TxnName) (asked : Ask) (reply : Reply) → (ledger_with ledger (Asked name asked reply)).taken ≡ ledger.taken
taken-asked ledger name (ask.Request request) reply = refl
taken-asked ledger name (ask.Refused refusal) reply = refl
taken-asked ledger name ask.Leave reply = refl

pub takes-asked : (ledger : Ledger) (name : TxnName) (asked : Ask) (reply : Reply) → (ledger_with ledger (Asked name asked reply)).takes ≡ ledger.takes
takes-asked ledger name (ask.Request request) reply = refl
takes-asked ledger name (ask.Refused refusal) reply = refl
takes-asked ledger name ask.Leave reply = refl

pub durable-asked : (ledger : Ledger) (name : TxnName) (asked : Ask) (reply : Reply) → (ledger_with ledger (Asked name asked reply)).durable ≡ ledger.durable
durable-asked ledger name (ask.Request request) reply = refl
durable-asked ledger name (ask.Refused refusal) reply = refl
durable-asked ledger name ask.Leave reply = refl

-- no more was taken than was committed
pub taken_within : (base : Base) (history : History) → (ledger_of base history).taken ≤ length (journal_of base history)
taken_within base [] = omega arith
taken_within base (Asked name asked reply ∷ earlier) =
    let before = taken_within base earlier in
    let same = taken-asked (ledger_of base earlier) name asked reply in
    let longer = ap length (journal_of-asked base name asked reply earlier)
    ∙ length-append (journal_of base earlier) (commits_of (ledger_of base earlier) name asked reply) in
    omega (arith, before, same, longer)
taken_within base (Left connection ∷ earlier) = taken_within base earlier
taken_within base (Took transactions upto ∷ earlier) = omega arith
taken_within base (Confirmed upto ∷ earlier) = taken_within base earlier
taken_within base (Looked ∷ earlier) = taken_within base earlier

-- the transactions that no take has
abbrev pub untaken : Ledger → List Tx
untaken ledger = drop ledger.taken ledger.streams.journal

pub untaken-asked : (base : Base) (name : TxnName) (asked : Ask) (reply : Reply) (history : History)
    → untaken (ledger_of base (Asked name asked reply ∷ history)) ≡ untaken (ledger_of base history) ++ commits_of (ledger_of base history) name asked reply
untaken-asked base name asked reply history =
    ap (λ taken. drop taken (journal_of base (Asked name asked reply ∷ history))) (taken-asked (ledger_of base history) name asked reply)
    ∙ ap (drop (ledger_of base history).taken) (journal_of-asked base name asked reply history)
    ∙ drop-append-le (ledger_of base history).taken (journal_of base history) (commits_of (ledger_of base history) name asked reply) (taken_within base history)

-- ---- replies are determined

-- steps look at the streams alone
pub step_by_streams : (one other : Ledger) (name : TxnName) (asked : Ask) → one.streams ≡ other.streams → step_for one (name, asked) ≡ step_for other (name, asked)
step_by_streams one other name (ask.Refused refusal) same = refl
step_by_streams one other name ask.Leave same = refl
step_by_streams one other name (ask.Request request) same =
    ap (λ (streams : Streams). Asked name (ask.Request request) (outcome_of streams name request).reply) same

pub streams_by_streams : (one other : Ledger) (name : TxnName) (asked : Ask) (reply : Reply) → one.streams ≡ other.streams
    → (ledger_with one (Asked name asked reply)).streams ≡ (ledger_with other (Asked name asked reply)).streams
streams_by_streams one other name (ask.Refused refusal) reply same = same
streams_by_streams one other name ask.Leave reply same = same
streams_by_streams one other name (ask.Request request) reply same = ap (λ (streams : Streams). streams_with streams (Requested name request reply)) same

-- the steps that nobody asked for change nothing of these
streams_in-asking : (history : History) → streams_in (asking history) ≡ streams_in history
streams_in-asking [] = refl
streams_in-asking (Asked name (ask.Request request) reply ∷ earlier) = ap (λ l. Requested name request reply ∷ l) (streams_in-asking earlier)
streams_in-asking (Asked name (ask.Refused refusal) reply ∷ earlier) = streams_in-asking earlier
streams_in-asking (Asked name ask.Leave reply ∷ earlier) = streams_in-asking earlier
streams_in-asking (Left connection ∷ earlier) = ap (λ l. Disconnected connection ∷ l) (streams_in-asking earlier)
streams_in-asking (Took transactions upto ∷ earlier) = streams_in-asking earlier
streams_in-asking (Confirmed upto ∷ earlier) = streams_in-asking earlier
streams_in-asking (Looked ∷ earlier) = streams_in-asking earlier

pub streams_of_asking : (base : Base) (history : History) → (ledger_of base (asking history)).streams ≡ (ledger_of base history).streams
streams_of_asking base history =
    streams_of_history base (asking history) ∙ ap (streams_of base) (streams_in-asking history) ∙ sym (streams_of_history base history)

pub journal_of_asking : (base : Base) (history : History) → journal_of base (asking history) ≡ journal_of base history
journal_of_asking base history = ap (λ (streams : Streams). streams.journal) (streams_of_asking base history)

-- a step with the reply that the ledger demands is the one for its ask
asked_step : (ledger : Ledger) (name : TxnName) (asked : Ask) (reply : Reply)
    → IsReply ledger name asked reply → is_out_of_memory reply ≡ false → Asked name asked reply ≡ step_for ledger (name, asked)
asked_step ledger name (ask.Refused refusal) reply told memory = ap (Asked name (ask.Refused refusal)) told
asked_step ledger name ask.Leave reply told memory = absurd told
asked_step ledger name (ask.Request request) reply told memory =
    ap (Asked name (ask.Request request)) (reply_is_demanded ledger name (ask.Request request) reply told memory)

-- replies are determined: the steps of a legal history, none of which was out of memory, are those of its asks
pub history_of_asks : (base : Base) (history : History)
    → IsLegal base history → HasMemory history → asking history ≡ history_from base [] (asks_in history)
history_of_asks base [] legal memory = refl
history_of_asks base (Asked name asked reply ∷ earlier) legal memory =
    let before = history_of_asks base earlier legal.0 memory.0 in
    let told = asked_step (ledger_of base earlier) name asked reply legal.1 memory.1 in
    let same = step_by_streams (ledger_of base earlier) (ledger_of base (asking earlier)) name asked (sym (streams_of_asking base earlier)) in
    ap (λ entry. entry ∷ asking earlier) (told ∙ same)
    ∙ ap (λ h. step_for (ledger_of base h) (name, asked) ∷ h) before
    ∙ sym (history_from-append base [] (asks_in earlier) (name, asked))
history_of_asks base (Left connection ∷ earlier) legal memory =
    ap (λ h. Left connection ∷ h) (history_of_asks base earlier legal.0 memory.0)
    ∙ sym (history_from-append base [] (asks_in earlier) (leaving connection))
history_of_asks base (Took transactions upto ∷ earlier) legal memory =
    history_of_asks base earlier legal.0 memory.0 ∙ ap (history_from base []) (sym (append-nil (asks_in earlier)))
history_of_asks base (Confirmed upto ∷ earlier) legal memory =
    history_of_asks base earlier legal.0 memory.0 ∙ ap (history_from base []) (sym (append-nil (asks_in earlier)))
history_of_asks base (Looked ∷ earlier) legal memory =
    history_of_asks base earlier legal.0 memory.0 ∙ ap (history_from base []) (sym (append-nil (asks_in earlier)))

-- a request that was told out of memory counts as not asked
forgotten_streams : (ledger : Ledger) (name : TxnName) (asked : Ask) (reply : Reply) → is_out_of_memory reply ≡ true
    → (ledger_with ledger (Asked name asked reply)).streams ≡ ledger.streams
forgotten_streams ledger name (ask.Refused refusal) reply none = refl
forgotten_streams ledger name ask.Leave reply none = refl
forgotten_streams ledger name (ask.Request request) reply none =
    ap (λ (lacks : Bool). if lacks then ledger.streams else streams_after ledger.streams name (told_as reply (outcome_of ledger.streams name request))) none

remembered_streams : (base : Base) (name : TxnName) (asked : Ask) (reply : Reply) (earlier : History)
    → (ledger_of base (remembered earlier)).streams ≡ (ledger_of base earlier).streams
    → (ledger_of base (remembered (Asked name asked reply ∷ earlier))).streams ≡ (ledger_of base (Asked name asked reply ∷ earlier)).streams
remembered_streams base name asked reply earlier same = by_memory (is_out_of_memory reply) refl
  where
    by_memory : (none : Bool) → is_out_of_memory reply ≡ none
        → (ledger_of base (if none then remembered earlier else Asked name asked reply ∷ remembered earlier)).streams ≡ (ledger_of base (Asked name asked reply ∷ earlier)).streams
    by_memory true none = same ∙ sym (forgotten_streams (ledger_of base earlier) name asked reply none)
    by_memory false some = streams_by_streams (ledger_of base (remembered earlier)) (ledger_of base earlier) name asked reply same

-- so it is as if it hadn't been asked
pub streams_of_remembered : (base : Base) (history : History) → (ledger_of base (remembered history)).streams ≡ (ledger_of base history).streams
streams_of_remembered base [] = refl
streams_of_remembered base (Asked name asked reply ∷ earlier) = remembered_streams base name asked reply earlier (streams_of_remembered base earlier)
streams_of_remembered base (Left connection ∷ earlier) = ap (λ (streams : Streams). streams_left streams connection) (streams_of_remembered base earlier)
streams_of_remembered base (Took transactions upto ∷ earlier) = streams_of_remembered base earlier
streams_of_remembered base (Confirmed upto ∷ earlier) = streams_of_remembered base earlier
streams_of_remembered base (Looked ∷ earlier) = streams_of_remembered base earlier

remembered_step : (base : Base) (name : TxnName) (asked : Ask) (reply : Reply) (earlier : History) → IsReply (ledger_of base earlier) name asked reply
    → asking (remembered earlier) ≡ history_from base [] (asks_in (remembered earlier))
    → asking (remembered (Asked name asked reply ∷ earlier)) ≡ history_from base [] (asks_in (remembered (Asked name asked reply ∷ earlier)))
remembered_step base name asked reply earlier follows before = by_memory (is_out_of_memory reply) refl
  where
    by_memory : (none : Bool) → is_out_of_memory reply ≡ none
        → asking (if none then remembered earlier else Asked name asked reply ∷ remembered earlier)
        ≡ history_from base [] (asks_in (if none then remembered earlier else Asked name asked reply ∷ remembered earlier))
    by_memory true none = before
    by_memory false some =
        let told = asked_step (ledger_of base earlier) name asked reply follows some in
        let same = step_by_streams (ledger_of base earlier) (ledger_of base (asking (remembered earlier))) name asked
        (sym (streams_of_asking base (remembered earlier) ∙ streams_of_remembered base earlier)) in
        ap (λ entry. entry ∷ asking (remembered earlier)) (told ∙ same)
        ∙ ap (λ h. step_for (ledger_of base h) (name, asked) ∷ h) before
        ∙ sym (history_from-append base [] (asks_in (remembered earlier)) (name, asked))

-- replies are determined by the asks, up to those that were answered out of memory
pub remembered_of_asks : (base : Base) (history : History) → IsLegal base history
    → asking (remembered history) ≡ history_from base [] (asks_in (remembered history))
remembered_of_asks base [] legal = refl
remembered_of_asks base (Asked name asked reply ∷ earlier) legal =
    remembered_step base name asked reply earlier legal.1 (remembered_of_asks base earlier legal.0)
remembered_of_asks base (Left connection ∷ earlier) legal =
    ap (λ h. Left connection ∷ h) (remembered_of_asks base earlier legal.0)
    ∙ sym (history_from-append base [] (asks_in (remembered earlier)) (leaving connection))
remembered_of_asks base (Took transactions upto ∷ earlier) legal =
    remembered_of_asks base earlier legal.0 ∙ ap (history_from base []) (sym (append-nil (asks_in (remembered earlier))))
remembered_of_asks base (Confirmed upto ∷ earlier) legal =
    remembered_of_asks base earlier legal.0 ∙ ap (history_from base []) (sym (append-nil (asks_in (remembered earlier))))
remembered_of_asks base (Looked ∷ earlier) legal =
    remembered_of_asks base earlier legal.0 ∙ ap (history_from base []) (sym (append-nil (asks_in (remembered earlier))))
