-- BEGIN: what it is told, and what is then kept of the transaction that begins.
use Rattle.std.proofs.Common.{◌≡◌, ℕ, suc, ◌<◌, ◌≤◌, true, false, List, [], ◌∷◌, ◌++◌, length, drop, Option, Some, None, refl, sym, ap, ◌∙◌, subst, arith, append-nil}
use Rattle.std.specs.Prelude.{◌==◌, nat_le, is_some, Result, Ok, Err}
use Rattle.std.proofs.Math.Seq.{drop-length}
use Rattle.std.specs.FinMap.{get, insert, len}
use Rattle.std.specs.List.{AllZip, filter}
use Rattle.mx_base.specs.declared.ids.TxnName.{TxnName}
use Rattle.mx_base.specs.declared.refusal.Refusal.{Refusal}
use Rattle.mx_base.specs.declared.refusal.Refusal.TheVariants.{AllOfConnectionOpen, AllTransactionsOpen, TransactionOpen}
use Rattle.mx_row.specs.declared.tx.Tx.{Tx}
use Rattle.mx_schema.specs.Catalogues.{schema_of}
use Rattle.mx_schema.specs.State.{State}
use Rattle.mx_txn.specs.declared.state.TxnState.{TxnState}
use Rattle.mx_txn.specs.declared.state.TxnState.TheVariants as txn
use Rattle.mx_txn.specs.Slots.{Txns, max_open}
use Rattle.mx_txn.proofs.StateLaws.{get-with_state_same}
use Rattle.mx_write.specs.Touches.{SpellsTouched}
use Rattle.mx_model.specs.declared.ids.Ids.{Ids}
use Rattle.mx_model.specs.declared.reply.Reply.{Reply}
use Rattle.mx_model.specs.declared.reply.Reply.TheVariants.{Empty, Refused}
use Rattle.mx_model.specs.Overlaps.{Active, Doomed, Standing, Transaction, View, first_overlap, overlap_of, standing_by, state_after_first}
use Rattle.mx_model.specs.RunAlone.{run_alone}
use Rattle.mx_model.specs.Streams.{Opens, Outcome, Streams, begins_beside, commit_with, max_transactions, max_transactions_of_connection, of_connection, open_after, standing_now, streams_after, told_alone, transaction_named}
use Rattle.mx_model.proofs.StreamOutcomes.{at_least, begins_all_full, begins_full, begins_new, begins_open, fewer}
use Rattle.mx_transactions.specs.declared.names.Named.{Named}
use Rattle.mx_transactions.specs.declared.work.Work.{Work}
use Rattle.mx_transactions.specs.Open.{HasRun, HasSlot, HasStanding, HoldsOpen, WritesNothing, IsOpen, AreInSlots, IsVacant, Open, SlotHas, SpellsKey, newest_state, slot_named}
use Rattle.mx_transactions.specs.OpenSteps.{FindsIn, TellsOpen, beside, empty_reply}
use Rattle.mx_transactions.proofs.OpenLaws.{all_stay, found, none_found, some_open}
use Rattle.mx_transactions.proofs.TableLaws.{begun_stay, with_begun}

-- ---- the same journal

-- what a slot has of a transaction says nothing of the others
beside_standing : (streams : Streams) (others : List Transaction) (all : Open) (transaction : Transaction) (has : SlotHas) (standing : Standing)
    → HasStanding streams all.kept transaction standing has → HasStanding (beside streams others) all.kept transaction standing has
beside_standing streams others all transaction has Active keeps = keeps
beside_standing streams others all transaction has (View place) keeps = keeps
beside_standing streams others all transaction has Doomed keeps = keeps

pub beside_open : (streams : Streams) (others : List Transaction) (all : Open) (names : List Named) (ones : List Transaction) → AllZip (IsOpen streams all) names ones
    → AllZip (IsOpen (beside streams others) all) names ones
beside_open streams others all [] [] keep = tt
beside_open streams others all [] (one ∷ ones) keep = absurd keep
beside_open streams others all (named ∷ names) [] keep = absurd keep
beside_open streams others all (named ∷ names) (one ∷ ones) (first, keep) = (
  record {
    name = first.name;
    has = first.has;
    is = first.is;
    keeps = beside_standing streams others all one first.has (standing_now streams false one) first.keeps;
  },
  beside_open streams others all names ones keep,
)

-- an outcome without rows leaves the journal
nothing_committed : (streams : Streams) (name : TxnName) (outcome : Outcome) → outcome.rows ≡ []
    → streams_after streams name outcome ≡ beside streams (open_after streams.journal name outcome.becomes streams.transactions)
nothing_committed streams name outcome none =
    ap (λ rows. record { base = streams.base; journal = streams.journal ++ commit_with streams rows; transactions = open_after streams.journal name outcome.becomes streams.transactions }) none
    ∙ ap (λ journal. record { base = streams.base; journal = journal; transactions = open_after streams.journal name outcome.becomes streams.transactions }) (append-nil streams.journal)

-- nothing becomes of the transaction
pub stays_told : (streams : Streams) (all : Open) (name : TxnName) (outcome : Outcome) (reply : Reply) (result : Result (Unit {0}) Refusal) → HoldsOpen streams all
    → outcome ≡ told_alone reply → empty_reply result ≡ reply → TellsOpen streams all name outcome result
stays_told streams all name outcome reply result holds same told = record {
  told = told ∙ ap (λ (o : Outcome). o.reply) (sym same);
  after = subst (λ (o : Outcome). HoldsOpen (streams_after streams name o) all) (sym same)
      (subst (λ (s : Streams). HoldsOpen s all) (sym (nothing_committed streams name (told_alone reply) refl)) holds);
}

-- it begins
pub begins_told : (streams : Streams) (all : Open) (name : TxnName) (outcome : Outcome) (result : Result (Unit {0}) Refusal)
    → HoldsOpen (beside streams (record { name = name; begun = length streams.journal; steps = [] } ∷ streams.transactions)) all
    → outcome ≡ record { reply = Empty; rows = []; becomes = Opens } → empty_reply result ≡ Empty → TellsOpen streams all name outcome result
begins_told streams all name outcome result holds same told = record {
  told = told ∙ ap (λ (o : Outcome). o.reply) (sym same);
  after = subst (λ (o : Outcome). HoldsOpen (streams_after streams name o) all) (sym same)
      (subst (λ (s : Streams). HoldsOpen s all) (sym (nothing_committed streams name (record { reply = Empty; rows = []; becomes = Opens }) refl)) holds);
}

-- ---- how many there are

pub same_number : (streams : Streams) (all : Open) (names : List Named) (ones : List Transaction) → AllZip (IsOpen streams all) names ones → length names ≡ length ones
same_number streams all [] [] keep = refl
same_number streams all [] (one ∷ ones) keep = absurd keep
same_number streams all (named ∷ names) [] keep = absurd keep
same_number streams all (named ∷ names) (one ∷ ones) (first, keep) = ap suc (same_number streams all names ones keep)

pub connection_counted : (streams : Streams) (all : Open) (connection : ℕ) (names : List Named) (ones : List Transaction) → AllZip (IsOpen streams all) names ones
    → length (filter (λ one. one.name.conn.0 == connection) names) ≡ length (of_connection connection ones)
connection_counted streams all connection names ones keep =
    same_number streams all (filter (λ one. one.name.conn.0 == connection) names) (of_connection connection ones) (some_open streams all (λ name. name.conn.0 == connection) names ones keep)

-- ---- the transaction that begins

-- no commit has overlapped it
pub none_overlaps : (base : State) (journal : List Tx) (transaction : Transaction) → transaction.begun ≡ length journal → overlap_of base journal transaction ≡ None
unfolding overlap_of
none_overlaps base journal transaction begun =
    let none : drop transaction.begun journal ≡ [] = ap (λ n. drop n journal) begun ∙ drop-length journal in
    ap (λ later. first_overlap (state_after_first base journal transaction.begun) transaction.begun later transaction.steps) none

-- nothing has run
nothing_run : (ids : Ids) (before : State) (work : Work) → WritesNothing work → HasRun before (run_alone ids before []) work []
unfolding run_alone
nothing_run ids before work idle = record {
  written = record {
    overlay = idle.overlay (schema_of before);
    rows = idle.rows;
    size = idle.size;
    puts = subst (λ puts. SpellsTouched before [] puts) (sym idle.puts) (λ read noted spells. refl);
    changed = subst (λ items. AllZip SpellsKey items []) (sym idle.changed) tt;
  };
  reads = tt;
}

module _ (streams : Streams) (all : Open) (named : Named) where
  abbrev pub fresh : Transaction
  fresh = record { name = named.name; begun = length streams.journal; steps = [] }

  fresh_open : (new : Open) (has : SlotHas) → HasSlot new named.slot (record has { state = Some (txn.Active (length streams.journal)) }) → IsVacant has → IsOpen streams new named fresh
  fresh_open new has is vacant = record {
    name = refl;
    has = record has { state = Some (txn.Active (length streams.journal)) };
    is = is;
    keeps =
        subst (λ overlap. HasStanding streams new.kept fresh (standing_by streams.base.ids streams.base.state streams.journal false [] overlap) (record has { state = Some (txn.Active (length streams.journal)) }))
        (sym (none_overlaps streams.base.state streams.journal fresh refl))
        (refl, subst (HasRun (newest_state streams) (run_alone streams.base.ids (newest_state streams) []) has.work) (sym vacant.reads) (nothing_run streams.base.ids (newest_state streams) has.work vacant.idle));
  }

  -- it is kept, and so are the others
  pub begun_open : AreInSlots all → HoldsOpen streams all → (vacant : get all.slots named.slot ≡ None) → (has : SlotHas) → HasSlot all named.slot has → IsVacant has
      → HoldsOpen (beside streams (fresh ∷ streams.transactions)) (with_begun all named (length streams.journal))
  begun_open table holds vacant has is idle =
      let new = with_begun all named (length streams.journal) in
      record {
        each = beside_open streams (fresh ∷ streams.transactions) new (named ∷ all.names) (fresh ∷ streams.transactions) (
          fresh_open new has
              (record { state = sym (get-with_state_same all.slots named.slot (Some (txn.Active (length streams.journal)))); work = is.work; reads = is.reads })
              idle,
          all_stay streams all new all.names streams.transactions (begun_stay all named (length streams.journal) vacant table) holds.each,
        );
        kept = holds.kept;
      }

-- ---- what BEGIN is told

-- nothing was found
pub none_there : (found wanted : Option ℕ) → is_some found ≡ false → found ≡ wanted → wanted ≡ None
none_there None wanted none is = sym is
none_there (Some slot) wanted none is = absurd cc

module _ (streams : Streams) (all : Open) (name : TxnName) (holds : HoldsOpen streams all) where
  abbrev told_by : Option Transaction → Outcome
  told_by present = begins_beside streams.transactions name.conn.0 present

  none_named : slot_named name all.names ≡ None → told_by (transaction_named name streams.transactions) ≡ told_by None
  none_named none = ap told_by (none_found streams all name all.names streams.transactions holds.each none)

  -- a transaction is open under the name
  pub begins_again : (found : Option ℕ) → found ≡ slot_named name all.names → is_some found ≡ true
      → TellsOpen streams all name (told_by (transaction_named name streams.transactions)) (Err TransactionOpen)
  begins_again None is some = absurd cc
  begins_again (Some slot) is some =
      let there = found streams all name all.names streams.transactions holds.each slot (sym is) in
      stays_told streams all name (told_by (transaction_named name streams.transactions)) (Refused TransactionOpen) (Err TransactionOpen) holds
      (begins_open streams name there.transaction there.named) refl

  module _ (none : slot_named name all.names ≡ None) (count : ℕ) (counts : count ≡ length (filter (λ one. one.name.conn.0 == name.conn.0) all.names)) where
    of_this : count ≡ length (of_connection name.conn.0 streams.transactions)
    of_this = counts ∙ connection_counted streams all name.conn.0 all.names streams.transactions holds.each

    few_of_this : count < max_transactions_of_connection → nat_le max_transactions_of_connection (length (of_connection name.conn.0 streams.transactions)) ≡ false
    few_of_this few = fewer max_transactions_of_connection (length (of_connection name.conn.0 streams.transactions)) (subst (λ n. n < max_transactions_of_connection) of_this few)

    -- as many are open on the connection as may be
    pub begins_beyond : max_transactions_of_connection ≤ count → TellsOpen streams all name (told_by (transaction_named name streams.transactions)) (Err AllOfConnectionOpen)
    begins_beyond many =
        stays_told streams all name (told_by (transaction_named name streams.transactions)) (Refused AllOfConnectionOpen) (Err AllOfConnectionOpen) holds
        (none_named none ∙ begins_full streams name (at_least max_transactions_of_connection (length (of_connection name.conn.0 streams.transactions)) (subst (λ n. max_transactions_of_connection ≤ n) of_this many))) refl

    in_slots : AreInSlots all → len all.slots ≡ length streams.transactions
    in_slots table = table.count ∙ same_number streams all all.names streams.transactions holds.each

    -- or in all
    pub begins_beyond_all : count < max_transactions_of_connection → AreInSlots all → len all.slots ≡ max_transactions
        → TellsOpen streams all name (told_by (transaction_named name streams.transactions)) (Err AllTransactionsOpen)
    begins_beyond_all few table full =
        let many : max_transactions ≤ length streams.transactions = subst (λ n. max_transactions ≤ n) (sym full ∙ in_slots table) (omega arith) in
        stays_told streams all name (told_by (transaction_named name streams.transactions)) (Refused AllTransactionsOpen) (Err AllTransactionsOpen) holds
        (none_named none ∙ begins_all_full streams name (few_of_this few) (at_least max_transactions (length streams.transactions) many)) refl

    -- it begins in a slot that was vacant
    pub begins_in : count < max_transactions_of_connection → AreInSlots all → len all.slots < max_transactions → (slot commits : ℕ) → slot < max_open → get all.slots slot ≡ None
        → commits ≡ length streams.journal → (names : List Named) (slots : Txns) → names ≡ record { name = name; slot = slot } ∷ all.names → slots ≡ insert all.slots slot (txn.Active commits)
        → TellsOpen streams (record { names = names; slots = slots; tracks = all.tracks; works = all.works; kept = all.kept }) name (told_by (transaction_named name streams.transactions)) (Ok tt)
    begins_in few table room slot commits within vacant is names slots names_are slots_are =
        let named : Named = record { name = name; slot = slot } in
        let (has, at, idle) = table.vacant slot within vacant in
        let new : record { names = names; slots = slots; tracks = all.tracks; works = all.works; kept = all.kept } ≡ with_begun all named commits =
        λ i. record { names = names_are i; slots = slots_are i; tracks = all.tracks; works = all.works; kept = all.kept } in
        begins_told streams (record { names = names; slots = slots; tracks = all.tracks; works = all.works; kept = all.kept }) name
        (told_by (transaction_named name streams.transactions)) (Ok tt)
        (subst (HoldsOpen (beside streams (fresh streams all named ∷ streams.transactions))) (sym (new ∙ ap (with_begun all named) is)) (begun_open streams all named table holds vacant has at idle))
        (none_named none ∙ begins_new streams name (few_of_this few) (fewer max_transactions (length streams.transactions) (subst (λ n. n < max_transactions) (in_slots table) room))) refl

-- ---- a transaction that is found

pub found_in : (streams : Streams) (all : Open) (name : TxnName) (slot : ℕ) (state : TxnState) → HoldsOpen streams all → slot_named name all.names ≡ Some slot → get all.slots slot ≡ Some state
    → FindsIn streams all name slot state
found_in streams all name slot state holds e at =
    let there = found streams all name all.names streams.transactions holds.each slot e in
    record { transaction = there.transaction; named = there.named; has = there.has; is = there.is; keeps = there.keeps; state = there.is.state ∙ at }
