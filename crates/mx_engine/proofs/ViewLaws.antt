-- Statements in place, and what is seen of a state under a transaction's own writes.
use Rattle.std.proofs.Common.{◌≡◌, ◌≢◌, ℕ, Bool, true, false, not, List, [], ◌∷◌, length, Option, Some, None, refl, sym, ap, ◌∙◌, subst, arith, inl, inr}
use Rattle.std.specs.Prelude.{MatchOption, ◌==◌, ◌&&◌, if◌then◌else◌, IsSome, slice_get}
use Rattle.std.specs.FinMap.{get}
use Rattle.std.specs.List.{filter}
use Rattle.std.specs.Option.{option_copied, option_map}
use Rattle.mx_base.specs.declared.ids.TxnName.{TxnName}
use Rattle.mx_tracker.specs.Tracks.{noted_reads}
use Rattle.mx_txn.specs.Slots.{max_open}
use Rattle.mx_model.specs.Alone.{AllStandAlone, StandsAlone}
use Rattle.mx_model.specs.Overlaps.{Transaction, View, state_after_first, statements_in}
use Rattle.mx_model.specs.Streams.{Streams, is_name, without_named, standing_now, state_read, statement_may_lack, states_in, step_of}
use Rattle.mx_transactions.specs.declared.names.Named.{Named}
use Rattle.mx_transactions.specs.Open.{HoldsOpen, Open, newest_state, slot_named, HasStanding, SlotHas}
use Rattle.mx_transactions.specs.OpenSteps.{AreMarks, KeepsMore, Moves, SpellsRows, StaysAt, ViewsAreKept, beside, ChangesTo, StandsOn}
use Rattle.mx_transactions.proofs.CommitLaws.{committed}
use Rattle.mx_engine.specs.Steps.{AnswersStatement, newest_run, IsActiveIn, IsOpenIn, IsReplyOf, SameButOpen, TellsOutcome}
use Rattle.mx_engine.proofs.CommitWorkLaws.{commit_of, work_moved}
use Rattle.mx_engine.proofs.WriteLaws.{none_moved}
use Rattle.mx_request.specs.declared.request.Request.{Request}
use Rattle.mx_schema.specs.Catalogues.{schema_of}
use Rattle.mx_space.specs.declared.state_view.StateView.{StateView}
use Rattle.mx_space.specs.OwnChanges.{HoldsOwnIn, HoldsView}
use Rattle.mx_space.specs.Stored.{Holds}
use Rattle.mx_judge.specs.declared.scope.Scope.{Scope}
use Rattle.mx_judge.specs.Scopes.{SeesState}
use Rattle.mx_write.specs.Writable.{describes_schema}
use Rattle.mx_write.specs.Writes.{Write, write_in}
use Rattle.mx_model.specs.statements.Statement.{Statement, statement_of, write_statement}
use Rattle.mx_model.specs.Bases.{writable_node}
use Rattle.mx_model.specs.RunAlone.{run_alone, writes}
use Rattle.mx_model.specs.declared.reply.Reply.{Reply}
use Rattle.mx_model.specs.declared.reply.Reply.TheVariants.{Refused}
use Rattle.mx_model.specs.Answers.{answer_in_space}
use Rattle.mx_model.specs.Frame.{IsDataStatement}
use Rattle.mx_model.specs.statements.Answer.{Answer}
use Rattle.mx_base.specs.declared.refusal.Refusal.TheVariants.{Conflict}
use Rattle.mx_schema.specs.State.{State}
use Rattle.mx_space.specs.KeptStates.{kept_at}
use Rattle.mx_model.specs.RunTouches.{changes_of}
use Rattle.mx_model.proofs.AloneSound.{journal_sound}
use Rattle.mx_model.proofs.MemoryLaws.{further_may_lack}
use Rattle.mx_engine.specs.declared.engine.Engine.{Engine}
use Rattle.mx_transactions.specs.declared.work.Work.{Work}
use Rattle.mx_transactions.proofs.OpenLaws.{run_stands}
use Rattle.mx_engine.proofs.StatementLaws.{view_answer}
use Rattle.mx_engine.proofs.StepLaws.{answer_read, becomes_doomed, dooming_outcome, keeps_view, tells_step, unchanged, view_outcome, with_open}
use Rattle.mx_tracker.specs.declared.touched.Touched as coded
use Rattle.mx_request.specs.declared.request.Request.TheVariants as request
use Rattle.mx_space.specs.declared.state.State as memory
use Rattle.mx_txn.specs.declared.state.TxnState.TheVariants as txn

-- ---- what a COMMIT makes of the other open transactions

-- without the only one there is none
only_one_left : (names : List Named) (name : TxnName) (slot : ℕ) → length names ≡ 1 → slot_named name names ≡ Some slot → filter (λ named. not (is_name named.name name)) names ≡ []
only_one_left [] name slot one named = absurd (omega (arith, one))
only_one_left (first ∷ second ∷ others) name slot one named = absurd (omega (arith, one))
only_one_left (first ∷ []) name slot one named = by (is_name first.name name) named
  where
    by : (is : Bool) → (if is then Some first.slot else None) ≡ Some slot → (if not is then first ∷ [] else []) ≡ []
    by true found = refl
    by false found = absurd cc

-- the open transactions after a COMMIT, where there may be no other
pub others_moved : (streams : Streams) (name : TxnName) (slot : ℕ) (one : Transaction) (start ready reserved third fourth : Open) (found : Option (List Bool)) (commits now : ℕ)
    → AllStandAlone streams → StandsAlone streams.base.ids streams.base.state streams.journal one → commits ≡ length streams.journal → now ≡ commits
    → MatchOption found (length start.names ≡ 1)
    (λ made. (keys : List coded.Touched) × SpellsRows (newest_state streams) (newest_run streams one).rows keys × AreMarks start made keys × ViewsAreKept ready made commits (Some slot))
    → slot_named name start.names ≡ Some slot → KeepsMore start ready → HoldsOpen streams ready → reserved ≡ ready
    → (HoldsOpen streams reserved → HoldsOpen (beside streams (without_named name streams.transactions)) third)
    → third.names ≡ filter (λ named. not (is_name named.name name)) reserved.names → get third.slots slot ≡ None → noted_reads third.tracks slot ≡ []
    → ((other : ℕ) → other ≢ slot → StaysAt reserved third other) → third.kept ≡ reserved.kept
    → MatchOption found (fourth ≡ third) (λ made. Moves third fourth made false now) → length third.works ≡ max_open
    → HoldsOpen (committed (beside streams (without_named name streams.transactions)) (commit_of streams (newest_run streams one).rows)) fourth
others_moved streams name slot one start ready reserved third fourth None commits now stand alone count now_is only named more holds same ended names gone forgotten stays kept stayed whole =
    let left = beside streams (without_named name streams.transactions) in
    let commit = commit_of streams (newest_run streams one).rows in
    let earlier = more.names in
    let none = names ∙ ap (λ (o : Open). filter (λ named. not (is_name named.name name)) o.names) same ∙ ap (filter (λ named. not (is_name named.name name))) earlier ∙ only_one_left start.names name slot only named in
    subst (HoldsOpen (committed left commit)) (sym stayed) (none_moved left commit third none (ended (subst (HoldsOpen streams) (sym same) holds)))
others_moved streams name slot one start ready reserved third fourth (Some marks) commits now stand alone count now_is (keys, spells, are, is_ready) named more holds same ended names gone forgotten stays kept moves whole =
    work_moved streams name slot one start ready reserved third fourth marks keys commits now stand alone count now_is spells are more is_ready holds same ended gone forgotten stays kept moves whole

-- ---- statements in place, and what is seen of a state under a transaction's own writes

-- a request that is a write is that statement
pub write_stated : (asked : Request) (space : ℕ) (write : Write) → write_in asked ≡ Some (space, write) → statement_of asked ≡ Some (write_statement (space, write))
write_stated (request.Select in_space index limit offset iterator key) space write is = absurd cc
write_stated other space write is = ap (option_map write_statement) is

-- what an open transaction's statements have come to stands on the newest state
pub newest_stands : (engine : Engine) (streams : Streams) (name : TxnName) (slot : ℕ) (one : Transaction) → AllStandAlone streams → IsActiveIn engine streams name slot one
    → StandsOn (newest_state streams) (newest_run streams one)
newest_stands engine streams name slot one all active =
    run_stands streams.base.ids (newest_state streams) (statements_in one.steps) (journal_sound streams.base.state streams.journal all.sound all.bytes) active.is_open.alone.plain

-- the newest state, with the overlay of what a transaction has written, shows the state of its run
pub newest_shown : (engine : Engine) (streams : Streams) (name : TxnName) (slot : ℕ) (one : Transaction) → AllStandAlone streams → IsActiveIn engine streams name slot one
    → (work : Work) → slice_get engine.open.works slot ≡ Some work → (view : StateView) → view.state.now ≡ engine.state → option_copied view.over ≡ Some work.overlay
    → HoldsView view (newest_run streams one).state
newest_shown engine streams name slot one all active work has view state over =
    let stands = newest_stands engine streams name slot one all active in
    let same : active.is_open.kept.work ≡ work = let both : Some active.is_open.kept.work ≡ Some work = sym active.is_open.is.work ∙ has in cc in
    record {
      base = newest_state streams;
      own = changes_of (newest_run streams one).answers;
      holds = subst (λ s. Holds s (newest_state streams)) (sym state) active.is_open.has.holds;
      over = subst (λ o. HoldsOwnIn (schema_of (newest_state streams)) o (changes_of (newest_run streams one).answers)) (sym (over ∙ ap (λ (w : Work). Some w.overlay) (sym same)))
          active.run.written.overlay;
      is = stands.own;
      sound = stands.sound;
      plain = stands.plain;
    }

-- a write that is of no row that describes a space or an index is judged over it
pub sees_state : (before : State) (scope : Scope) → HoldsView scope.view before → describes_schema scope.space.0 ≡ false → SeesState before scope
sees_state before scope holds plain = record { holds = holds; alone = λ describes. let wrong : true ≡ false = sym describes ∙ plain in absurd cc }

-- ---- where a commit has overlapped the transaction

module _ (old : Engine) (streams : Streams) (name : TxnName) (slot : ℕ) (one : Transaction) (is : IsOpenIn old streams name slot one) (place : ℕ)
    (view : standing_now streams false one ≡ View place) (statement : Statement) (plain : IsDataStatement statement) where
  its_view : (is.kept.state ≡ Some (txn.View place)) × IsSome (kept_at place old.open.kept)
  its_view = subst (λ how. HasStanding streams old.open.kept one how is.kept) view is.keeps

  -- a SELECT, which found what the kept state has
  pub tells_view : AllStandAlone streams → writes statement.operation ≡ false → (reply : Reply)
      → ((state : State) (kept : memory.State) → kept_at place old.open.kept ≡ Some kept → Holds kept state
      → IsReplyOf reply (answer_in_space state statement.space statement.operation)) → AnswersStatement old old streams name (states_in streams one statement) reply
  tells_view all read reply says = by_kept (kept_at place old.open.kept) refl its_view.1
    where
      may_lack : statement_may_lack (states_in streams one statement) ≡ true
      may_lack =
          ap statement_may_lack (view_outcome streams one statement plain place view read)
          ∙ further_may_lack streams (run_alone streams.base.ids (state_read streams one) (statements_in one.steps)) statement
          (ap (λ (b : Bool). b && not (streams.base.ids.me == writable_node)) read)

      tells : IsReplyOf reply (answer_in_space (state_after_first streams.base.state streams.journal place) statement.space statement.operation)
          → AnswersStatement old old streams name (states_in streams one statement) reply
      tells (inr lacks) = inr (may_lack, lacks, record { has = is.has; pending = refl; schema = refl })
      tells (inl told) =
          let answer = answer_read streams one statement in
          let step = step_of streams statement answer answer.reply in
          inl (tells_step old old streams name slot one is (with_open old old.open) (unchanged old.open slot) is.kept is.is step
          (keeps_view streams old.open.kept one step refl is.kept place view read its_view.0 its_view.1) (states_in streams one statement) reply
          (view_outcome streams one statement plain place view read)
          (told ∙ sym (ap (λ (a : Answer). a.reply) (view_answer streams one all is.alone place view statement read))))

      by_kept : (o : Option memory.State) → kept_at place old.open.kept ≡ o → IsSome (kept_at place old.open.kept)
          → AnswersStatement old old streams name (states_in streams one statement) reply
      by_kept None none there = let nothing = subst IsSome none there in absurd cc
      by_kept (Some kept) some there =
          tells (says (state_after_first streams.base.state streams.journal place) kept some (is.has.transactions.kept place kept some).1)

  -- a write, which dooms it
  pub tells_dooming : writes statement.operation ≡ true → (new : Engine) → SameButOpen old new → (by : ℕ) (now : SlotHas) → now.state ≡ Some (txn.Aborted by)
      → ChangesTo old.open new.open slot now → TellsOutcome old new streams name (states_in streams one statement) (Refused Conflict)
  tells_dooming write new same by now state changes =
      let step = step_of streams statement (answer_read streams one statement) (Refused Conflict) in
      tells_step old new streams name slot one is same changes.changes now changes.has step
      (becomes_doomed streams new.open.kept one step refl now place view write by state) (states_in streams one statement) (Refused Conflict)
      (dooming_outcome streams one statement plain place view write) refl
