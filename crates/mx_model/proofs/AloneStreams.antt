-- All open transactions stand alone after a request whose commit is of bytes and whose statement, where it is one of theirs, stands alone.
use Rattle.std.proofs.Common.{◌≡◌, Bool, true, false, List, [], ◌∷◌, Some, refl, subst, ◌≢◌, ◌⊎◌, length, map, sym, ap, ◌∙◌, arith, ℕ, not, ◌++◌, append-nil}
use Rattle.std.specs.Prelude.{if◌then◌else◌, ⊤, ◌==◌}
use Rattle.std.specs.List.{AllByRecursion, AllZip}
use Rattle.mx_base.specs.declared.ids.TxnName.{TxnName}
use Rattle.mx_model.specs.Overlaps.{TransactionStep, Transaction, Doomed, place_by, place_read, standing, standing_after_step, state_after_first, statements_in}
use Rattle.mx_model.specs.Streams.{is_name, transaction_named, transaction_with, with_step, Becomes, Ends, Goes, Opens, Outcome, Stays, Streams, commit_with, open_after, streams_after, streams_left}
use Rattle.mx_base.specs.declared.refusal.Refusal.TheVariants.{Conflict}
use Rattle.mx_row.specs.declared.tx.Tx.{Tx}
use Rattle.mx_schema.specs.State.{State}
use Rattle.mx_model.specs.declared.ids.Ids.{Ids}
use Rattle.mx_model.specs.declared.reply.Reply.{Reply}
use Rattle.mx_model.specs.declared.reply.Reply.TheVariants.{Refused}
use Rattle.mx_model.specs.Alone.{IsToldAlone, StandsAlone, answers_alone, AllStandAlone, HaveBytes}
use Rattle.mx_model.specs.Frame.{IsDataStatement}
use Rattle.mx_model.specs.RunAlone.{answer_alone, run_alone, writes}
use Rattle.mx_model.specs.statements.Answer.{Answer}
use Rattle.mx_model.specs.statements.Statement.{Statement}
use Rattle.mx_model.proofs.OverlapSteps.{overlap_stays, standing_after, standing_at}
use Rattle.mx_row.specs.declared.row.Row.{Row}
use Rattle.mx_schema.proofs.AloneLaws.{each_follows}
use Rattle.mx_model.proofs.AlonePlaces.{commit_alone}
use Rattle.mx_model.proofs.AloneSound.{journal_sound}
use Rattle.mx_model.proofs.EachLaws.{each_kept, each_of_both}

-- ---- what each open transaction has: that of a name has it, and the others where that one goes on

-- the one of a name has it
pub named_has : (P : Transaction → Type 0) (name : TxnName) (all : List Transaction) (transaction : Transaction) → AllByRecursion P all → transaction_named name all ≡ Some transaction → P transaction
named_has P name [] transaction have is = absurd cc
named_has P name (one ∷ others) transaction have is = by_test (is_name one.name name) is (named_has P name others transaction have.1)
  where
    by_test : (b : Bool) → (if b then Some one else transaction_named name others) ≡ Some transaction → (transaction_named name others ≡ Some transaction → P transaction) → P transaction
    by_test true is rest = let same : one ≡ transaction = cc in subst P same have.0
    by_test false is rest = rest is

-- also where that one has gone on
pub each_with_step : (P : Transaction → Type 0) (name : TxnName) (step : TransactionStep) (all : List Transaction) → AllByRecursion P all
    → ((transaction : Transaction) → transaction_named name all ≡ Some transaction → P (transaction_with step transaction)) → AllByRecursion P (with_step name step all)
each_with_step P name step [] have goes = tt
each_with_step P name step (one ∷ others) have goes = by_test (is_name one.name name) goes (each_with_step P name step others have.1)
  where
    by_test : (b : Bool) → ((transaction : Transaction) → (if b then Some one else transaction_named name others) ≡ Some transaction → P (transaction_with step transaction))
        → (((transaction : Transaction) → transaction_named name others ≡ Some transaction → P (transaction_with step transaction)) → AllByRecursion P (with_step name step others))
        → AllByRecursion P (if b then transaction_with step one ∷ others else one ∷ with_step name step others)
    by_test true goes rest = (goes one refl, have.1)
    by_test false goes rest = (have.0, rest goes)

-- ---- a further statement of an open transaction that was answered alone, and a transaction that begins

-- a transaction that begins now
pub begins_alone : (ids : Ids) (base : State) (journal : List Tx) (name : TxnName) → StandsAlone ids base journal (record { name = name; begun = length journal; steps = [] })
unfolding run_alone
begins_alone ids base journal name = record {
  within = record { begun = omega arith; made = tt };
  plain = tt;
  reads = refl;
  told = tt;
  exact = λ still. refl;
}

module _ (ids : Ids) (base : State) (journal : List Tx) (transaction : Transaction) (statement : Statement) where
  -- what the statement is answered alone, at the transaction's place
  abbrev pub answer_now : Answer
  answer_now = answer_alone ids (state_after_first base journal (place_read base journal transaction)) statement (statements_in transaction.steps)

  abbrev pub step_now : Reply → TransactionStep
  step_now reply = record { statement = statement; after = length journal; reply = reply; reads = answer_now.reads }

  -- the transaction has it answered in front of its earlier ones
  answers_further : (reply : Reply) → answers_alone ids base journal (transaction_with (step_now reply) transaction) ≡ answer_now ∷ answers_alone ids base journal transaction
  unfolding run_alone
  answers_further reply =
      ap (λ overlap. (run_alone ids (state_after_first base journal (place_by (length journal) overlap)) (statement ∷ statements_in transaction.steps)).answers)
      (overlap_stays base journal (step_now reply) transaction refl)

  pub statement_alone : StandsAlone ids base journal transaction → IsDataStatement statement → (reply : Reply)
      → (reply ≡ answer_now.reply) ⊎ (reply ≡ Refused Conflict) → (standing ids base journal (writes statement.operation) transaction ≢ Doomed → reply ≡ answer_now.reply)
      → StandsAlone ids base journal (transaction_with (step_now reply) transaction)
  statement_alone alone plain reply told exact = record {
    within = record { begun = alone.within.begun; made = (omega arith, alone.within.made) };
    plain = (plain, alone.plain);
    reads = (λ i. answer_now.reads ∷ alone.reads i) ∙ ap (map (λ (answer : Answer). answer.reads)) (sym (answers_further reply));
    told = subst (AllZip IsToldAlone (step_now reply ∷ transaction.steps)) (sym (answers_further reply)) (told, alone.told);
    exact = λ still.
        let now : standing ids base journal (writes statement.operation) transaction ≢ Doomed =
        λ doomed. still (standing_after ids base journal (step_now reply) transaction refl ∙ sym (standing_at ids base journal (writes statement.operation) transaction) ∙ doomed) in
        let before : standing ids base journal false transaction ≢ Doomed =
        λ doomed. still (standing_after ids base journal (step_now reply) transaction refl ∙ ap (standing_after_step (writes statement.operation)) doomed) in
        (λ i. exact now i ∷ alone.exact before i) ∙ ap (map (λ (answer : Answer). answer.reply)) (sym (answers_further reply));
  }

-- ---- all open transactions stand alone after a request whose commit is of bytes and whose statement, where it is one of theirs, stands alone

-- a transaction that is open stands alone
abbrev pub Stands : Streams → Transaction → Type 0
Stands streams transaction = StandsAlone streams.base.ids streams.base.state streams.journal transaction

-- a transaction that goes on stands alone with its step
abbrev pub GoesAlone : Streams → TxnName → Becomes → Type 0
GoesAlone streams name Stays = ⊤
GoesAlone streams name Opens = ⊤
GoesAlone streams name (Goes step) =
    (transaction : Transaction) → transaction_named name streams.transactions ≡ Some transaction → Stands streams (transaction_with step transaction)
GoesAlone streams name Ends = ⊤

-- what a request comes to keeps all of them alone: it commits rows of bytes, and a transaction that goes on stands alone
abbrev pub IsKept : Streams → TxnName → Outcome → Type 0
IsKept streams name outcome = HaveBytes outcome.rows × GoesAlone streams name outcome.becomes

module _ (streams : Streams) (name : TxnName) (all : AllStandAlone streams) where
  abbrev ids : Ids
  ids = streams.base.ids

  abbrev base : State
  base = streams.base.state

  abbrev journal : List Tx
  journal = streams.journal

  each_after : (becomes : Becomes) → GoesAlone streams name becomes → AllByRecursion (Stands streams) (open_after journal name becomes streams.transactions)
  each_after Stays goes = all.each
  each_after Opens goes = (begins_alone ids base journal name, all.each)
  each_after (Goes step) goes = each_with_step (Stands streams) name step streams.transactions all.each goes
  each_after Ends goes = each_kept (Stands streams) (λ one. not (is_name one.name name)) streams.transactions all.each

  each_committed : (rows : List Row) → HaveBytes rows → (some : List Transaction) → AllByRecursion (Stands streams) some
      → AllByRecursion (StandsAlone ids base (journal ++ commit_with streams rows)) some
  each_committed [] bytes some each = subst (λ longer. AllByRecursion (StandsAlone ids base longer) some) (sym (append-nil journal)) each
  each_committed (row ∷ rows) bytes some each =
      each_follows (Stands streams) _ (λ one alone. commit_alone ids base journal _ one (journal_sound base journal all.sound all.bytes) bytes alone) some each

  committed_bytes : (rows : List Row) → HaveBytes rows → AllByRecursion (λ (commit : Tx). HaveBytes commit.rows) (commit_with streams rows)
  committed_bytes [] bytes = tt
  committed_bytes (row ∷ rows) bytes = (bytes, tt)

  pub kept_after : (outcome : Outcome) → IsKept streams name outcome → AllStandAlone (streams_after streams name outcome)
  kept_after outcome kept = record {
    sound = all.sound;
    bytes = each_of_both (λ (commit : Tx). HaveBytes commit.rows) journal (commit_with streams outcome.rows) all.bytes (committed_bytes outcome.rows kept.0);
    each = each_committed outcome.rows kept.0 (open_after journal name outcome.becomes streams.transactions) (each_after outcome.becomes kept.1);
  }

-- a connection that disconnects
pub kept_left : (streams : Streams) (connection : ℕ) → AllStandAlone streams → AllStandAlone (streams_left streams connection)
kept_left streams connection all = record {
  sound = all.sound;
  bytes = all.bytes;
  each = each_kept (Stands streams) (λ one. not (one.name.conn.0 == connection)) streams.transactions all.each;
}
