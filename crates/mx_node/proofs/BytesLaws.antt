-- Bytes of a connection, as the calls take them: they come, what was committed is written out, and the replies leave.
use Rattle.std.proofs.Common.{◌≡◌, ℕ, ◌<◌, ◌≤◌, Bool, true, false, List, [], ◌∷◌, ◌++◌, length, set, Some, None, refl, sym, ap, ◌∙◌, subst, arith}
use Rattle.std.specs.Prelude.{Option, is_some, not, ◌&&◌, if◌then◌else◌}
use mathlib.Core.Bool.{true≢false}
use mathlib.Core.List.{IsPrefix}
use Rattle.std.proofs.lemmas.List.{append-nil, append_assoc, get_or-set_same, set-set}
use Rattle.mx_outside.specs.Disks.{Disk}
use Rattle.mx_row.specs.declared.tx.Tx.{Tx}
use Rattle.mx_frame.specs.Packets.{rest_of}
use Rattle.mx_session.specs.declared.job.Job.{Job}
use Rattle.mx_session.specs.Jobs.{ends, jobs_of}
use Rattle.mx_session.specs.Sessions.{SessionState, first_front, next_of}
use Rattle.mx_model.specs.Bases.{Base}
use Rattle.mx_model.specs.Histories.{Confirmed, History, IsLegal, Took, ledger_of}
use Rattle.mx_serial.specs.Order.{Step, order_in}
use Rattle.mx_engine.specs.declared.engine.Engine.{Engine}
use Rattle.mx_journal.specs.declared.journal.Journal.{Journal}
use Rattle.mx_directory.specs.Survival.{Lasts}
use Rattle.mx_store.specs.Stores.{StepsSurvive}
use Rattle.mx_engine.specs.Standing.{EngineStandsFor}
use Rattle.mx_link.specs.Links.{Answer, HasLink, IsNoJob}
use Rattle.mx_link.proofs.LinkLaws.{link_begins}
use Rattle.mx_node.specs.declared.jobs.Arrival.{Arrival}
use Rattle.mx_node.specs.declared.out_units.OutUnit.{OutUnit}
use Rattle.mx_node.specs.declared.single.Single.{Single}
use Rattle.mx_node.specs.Answering.{AnswersBeforeEnd, AnswersBytes, IsArrival, PutsSession, Releases, TakesBytes, all_sent, closed_where, let_leave, session_of}
use Rattle.mx_node.specs.Connections.{came_on}
use Rattle.mx_node.specs.Inputs.{InputUnit, Bytes, max_connection}
use Rattle.mx_node.specs.Interrupted.{IsInterrupted}
use Rattle.mx_node.specs.Order.{AreStepsOf, departure_where, written_out}
use Rattle.mx_node.specs.Outputs.{sent_on}
use Rattle.mx_node.specs.Ready.{AnswersJobs, Behind, Ready}
use Rattle.mx_node.specs.Serving.{Serves}
use Rattle.mx_node.specs.Starts.{Start}
use Rattle.mx_node.specs.Tables.{session_at}
use Rattle.mx_node.proofs.BreakLaws.{unit_steps}
use Rattle.mx_node.proofs.CameLaws.{Came, all_taken, answered_all, answered_nothing, came, came_behind, came_breaks, ended_so, none_leaves, nothing_held, nothing_waits, quiet_session}
use Rattle.mx_node.proofs.KeepLaws.{ready_keeps}
use Rattle.mx_node.proofs.LastingLaws.{Only, breaks_among, breaks_now}
use Rattle.mx_node.proofs.OrderLaws.{are_order, order_are-push, order_by, order_by-open}
use Rattle.mx_node.proofs.RepliesLaws.{replies_of_order}
use Rattle.mx_node.proofs.ServerLaws.{Answered, Meets, did, meets}

-- bytes were taken where the session that was found is that of the connection
pub takes_found : (old new : Single) (on : ℕ) (bytes : List ℕ) (arrival : Arrival) (found later : SessionState) → found ≡ session_of old on
    → PutsSession on later old new
    → ((base : Base) (history : History) (answers : List Answer) (greeting came gone : List ℕ) → EngineStandsFor old.engine base history
    → HasLink base history answers greeting came gone found → AnswersBytes new.engine base history answers greeting (came ++ bytes) gone found later)
    → IsNoJob (next_of later) → (found.ended ≡ true → (later ≡ found) × (new.engine ≡ old.engine)) → IsArrival found later arrival
    → TakesBytes on bytes old new arrival
takes_found old new on bytes arrival found later same puts answers all after arrives = record {
  session = later;
  puts = puts;
  answers = λ base history made greeting came gone stands link.
      subst (λ (s : SessionState). AnswersBytes new.engine base history made greeting (came ++ bytes) gone s later) same
      (answers base history made greeting came gone stands (subst (HasLink base history made greeting came gone) (sym same) link));
  all = all;
  after_end = λ over. let (still, engine) = after (ap (λ (s : SessionState). s.ended) same ∙ over) in (still ∙ same, engine);
  arrives = subst (λ (s : SessionState). IsArrival s later arrival) same arrives;
}

module _ (start : Start) (old taken : Single) (units : List InputUnit) (history : History) (on : ℕ) (bytes : List ℕ) (arrival : Arrival)
    (before : Option (List Disk)) (serves : Serves start old units history before) (known : on ≤ max_connection) (some : 0 < length bytes)
    (takes : TakesBytes on bytes old taken arrival) where
  abbrev base : Base
  base = start.base

  abbrev session : SessionState
  session = session_of old on

  abbrev later : SessionState
  later = takes.session

  abbrev jobs : List Job
  jobs = jobs_of session.connection (session.rest ++ bytes)

  abbrev Steps : List Step → Type 0
  Steps = AreStepsOf (units ++ Bytes on bytes ∷ [])

  met : Meets start on (came_on on units) bytes session
  met = meets start on (came_on on units) bytes (session_at old.sessions.items on) old.greeting some serves.greeting (serves.sessions on known)

  answered : session.ended ≡ false → AnswersBytes taken.engine base history [] session.out (session.rest ++ bytes) [] session later
  answered going = takes.answers base history [] session.out session.rest [] serves.ready.behind.stands (link_begins base history session going met.idle)

  pub all_came : session.ended ≡ false → Came base history taken.engine jobs session later
  all_came going = came base history taken.engine session later bytes going met.idle (answered going) takes.all

  says : arrival.ends ≡ (if session.ended then false else ends session.connection (session.rest ++ bytes))
  says = by_end session.ended refl
    where
      by_end : (b : Bool) → session.ended ≡ b → arrival.ends ≡ (if b then false else ends session.connection (session.rest ++ bytes))
      by_end true over = takes.arrives.1 ∙ ap (λ (b : Bool). not b && later.ended) over
      by_end false going =
          takes.arrives.1 ∙ ap (λ (b : Bool). not b && later.ended) going
          ∙ ended_so base history taken.engine session later bytes going met.idle (answered going) takes.all

  -- the calls for the bytes are done
  alone : (last : Single) (after : Option (List Disk)) (left : SessionState) (output : List OutUnit)
      → Answered base history old.engine last.engine old.journal last.journal before after session left bytes arrival.ends → output ≡ sent_on on left.out
      → last.sessions.items ≡ set old.sessions.items on (Some (all_sent left)) → last.greeting ≡ old.greeting
      → AnswersBeforeEnd start units history on bytes old last before after output arrival.ends
  alone last after left output all writes table greeting =
      let order = are_order units (order_in history) serves.order in
      let done = did start units history on bytes old.engine last.engine old.journal last.journal before after session left arrival.ends serves.ready
      (replies_of_order base units history order on) met all in
      record {
        history = done.history;
        since = done.since;
        lasts = done.lasts;
        ready = done.ready;
        order = order_are-push units (Bytes on bytes) (order_in done.history ++ departure_where on arrival.ends)
            (done.order ∙ ap (λ (l : List Step). l ++ order_by units (Bytes on bytes)) order);
        writes = ap (λ (l : List OutUnit). l ++ closed_where on arrival.ends) writes ∙ done.writes;
        session = all_sent left;
        attends = done.attends;
        table = table;
        greeting = greeting;
      }

  -- where replies wait the connection hadn't ended
  is_open : arrival.waits ≡ true → session.ended ≡ false
  is_open waits = by_end session.ended refl
    where
      by_end : (b : Bool) → session.ended ≡ b → b ≡ false
      by_end true over =
          let none : is_some (first_front later.waiting) ≡ false =
          ap (λ (s : SessionState). is_some (first_front s.waiting)) (takes.after_end over).0
          ∙ ap (λ l. is_some (first_front l)) met.idle in
          absurd (true≢false (sym waits ∙ takes.arrives.0 ∙ none))
      by_end false going = refl

  -- ---- where no reply waits

  module _ (quiet : arrival.waits ≡ false) (released : Single) (durable : ℕ) (output : List OutUnit) (releases : Releases durable on later taken released [] output) where
    none_waits : is_some (first_front later.waiting) ≡ false
    none_waits = sym takes.arrives.0 ∙ quiet

    same_engine : released.engine ≡ taken.engine
    same_engine = releases.engine

    same_journal : released.journal ≡ old.journal
    same_journal = releases.puts.journal ∙ takes.puts.journal

    quiet_all : session.ended ≡ false → AnswersJobs base history released.engine released.journal before before jobs session.out (let_leave durable later).out
    quiet_all going =
        let c = all_came going in
        let is = none_leaves base history taken.engine jobs session later c none_waits durable in
        subst (λ (s : SessionState). AnswersJobs base history released.engine released.journal before before jobs session.out s.out) (sym is)
        (subst (λ (e : Engine). AnswersJobs base history e released.journal before before jobs session.out later.out) (sym same_engine)
        (subst (λ (j : Journal). AnswersJobs base history taken.engine j before before jobs session.out later.out) (sym same_journal)
        (answered_nothing base history taken.engine jobs session later c none_waits old.engine old.journal before serves.ready)))

    dropped : session.ended ≡ true
        → (let_leave durable later ≡ session) × (released.engine ≡ old.engine) × (released.journal ≡ old.journal) × (before ≡ before)
    dropped over =
        let (same, engine) = takes.after_end over in (
          ap (let_leave durable) same ∙ quiet_session session durable met.idle,
          same_engine ∙ engine,
          same_journal,
          refl,
        )

    pub alone_quiet : AnswersBeforeEnd start units history on bytes old released before before output arrival.ends
    alone_quiet =
        alone released before (let_leave durable later) output (record {
          says = says;
          dropped = dropped;
          answers = quiet_all;
          taken = λ going.
              let c = all_came going in
              all_taken base history taken.engine session later bytes going met.idle (answered going) takes.all durable
              (ap (λ (s : SessionState). s.waiting) (none_leaves base history taken.engine jobs session later c none_waits durable)
              ∙ nothing_waits base history taken.engine jobs session later c none_waits);
        }) releases.sent (releases.puts.sessions ∙ ap (λ (l : List (Option SessionState)). set l on (Some (all_sent (let_leave durable later)))) takes.puts.sessions
        ∙ set-set old.sessions.items on (Some later) (Some (all_sent (let_leave durable later)))) (releases.puts.greeting ∙ takes.puts.greeting)

  -- ---- where replies wait

  module _ (waits : arrival.waits ≡ true) where
    pub came_all : Came base history taken.engine jobs session later
    came_all = all_came (is_open waits)

    pub behind_now : Behind base (came_all.more ++ history) taken.engine taken.journal before
    behind_now =
        subst (λ (j : Journal). Behind base (came_all.more ++ history) taken.engine j before) (sym takes.puts.journal)
        (came_behind base history taken.engine jobs session later came_all old.engine old.journal before serves.ready.behind)

    -- the steps of the jobs come first among those of the unit
    begin : IsPrefix (order_in history ++ written_out jobs) (order_in history ++ order_by units (Bytes on bytes))
    begin =
        let so_far = came_on on units in
        let going = is_open waits in
        let last = departure_where on (ends on (rest_of so_far ++ bytes)) in
        let same : jobs ≡ jobs_of on (rest_of so_far ++ bytes) =
        ap (λ (n : ℕ). jobs_of n (session.rest ++ bytes)) met.whose ∙ ap (λ (l : List ℕ). jobs_of on (l ++ bytes)) (met.rest going) in (
          last,
          append_assoc (order_in history) (written_out jobs) last
              ∙ ap (λ (l : List Step). order_in history ++ l)
              (ap (λ (l : List Job). written_out l ++ last) same ∙ sym (order_by-open units on so_far bytes refl (sym met.ended ∙ going))),
        )

    among : (after : Option (List Disk)) → IsInterrupted base history (Only (order_in history ++ written_out jobs)) before after
        → IsInterrupted base history Steps before after
    among after breaks =
        breaks_among base history (order_in history ++ written_out jobs) Steps (order_in history ++ order_by units (Bytes on bytes)) before after begin
        (unit_steps start old units history (Bytes on bytes) before serves) breaks

    -- what was committed couldn't be written out
    pub broken_turn : (after : Option (List Disk)) → Lasts base (came_all.more ++ history) before after → IsInterrupted base history Steps before after
    broken_turn after lasts =
        among after
        (came_breaks base history taken.engine jobs session later came_all before after serves.ready.behind.stands.legal
        (ready_keeps base history old.engine old.journal before serves.ready) lasts)

    module _ (turned : Single) (after : Option (List Disk)) (txs : List Tx) (upto : ℕ)
        (ready : Ready base (Confirmed upto ∷ Took txs upto ∷ (came_all.more ++ history)) turned.engine turned.journal after)
        (lasts : Lasts base (came_all.more ++ history) before after) (same : turned.sessions.items ≡ taken.sessions.items)
        (greeting : turned.greeting ≡ taken.greeting) where
      abbrev durable : ℕ
      durable = (ledger_of base (Confirmed upto ∷ Took txs upto ∷ (came_all.more ++ history))).durable

      some_wait : is_some (first_front later.waiting) ≡ true
      some_wait = sym takes.arrives.0 ∙ waits

      turned_all : AnswersJobs base history turned.engine turned.journal before after jobs session.out (let_leave durable later).out
      turned_all = answered_all base history taken.engine jobs session later came_all turned.engine turned.journal before after txs upto durable some_wait ready lasts refl

      -- the replies couldn't be sent
      pub broken_release : IsInterrupted base history Steps before after
      broken_release =
          let since = turned_all.since in
          let order = order_in history ++ written_out jobs in
          among after
          (breaks_now base since.0 history order before after
          (subst (λ (h : History). IsLegal base h) since.1 turned_all.ready.behind.stands.legal)
          (subst (λ (h : History). IsPrefix (order_in h) order) since.1 ([], append-nil (order_in turned_all.history) ∙ turned_all.order))
          (subst (λ (h : History). Lasts base h before after) since.1 turned_all.lasts)
          (subst (λ (h : History). StepsSurvive base h h after) since.1
          (ready_keeps base turned_all.history turned.engine turned.journal after turned_all.ready)))

      pub there_now : session_at turned.sessions.items on ≡ Some later
      there_now =
          ap (λ (l : List (Option SessionState)). session_at l on) (same ∙ takes.puts.sessions)
          ∙ get_or-set_same old.sessions.items on (Some later) None (omega (arith, known, serves.table))

      module _ (released : Single) (output : List OutUnit) (releases : Releases durable on later turned released [] output) where
        released_all : AnswersJobs base history released.engine released.journal before after jobs session.out (let_leave durable later).out
        released_all =
            subst (λ (e : Engine). AnswersJobs base history e released.journal before after jobs session.out (let_leave durable later).out) (sym releases.engine)
            (subst (λ (j : Journal). AnswersJobs base history turned.engine j before after jobs session.out (let_leave durable later).out) (sym releases.puts.journal)
            turned_all)

        pub alone_turned : AnswersBeforeEnd start units history on bytes old released before after output arrival.ends
        alone_turned =
            let going = is_open waits in
            alone released after (let_leave durable later) output (record {
              says = says;
              dropped = λ over. absurd (true≢false (sym over ∙ going));
              answers = λ _. released_all;
              taken = λ on.
                  all_taken base history taken.engine session later bytes on met.idle (answered on) takes.all durable
                  (nothing_held base history taken.engine jobs session later came_all turned.engine turned.journal before after txs upto durable some_wait ready lasts refl);
            }) releases.sent
            (releases.puts.sessions
            ∙ ap (λ (l : List (Option SessionState)). set l on (Some (all_sent (let_leave durable later)))) (same ∙ takes.puts.sessions)
            ∙ set-set old.sessions.items on (Some later) (Some (all_sent (let_leave durable later))))
            (releases.puts.greeting ∙ greeting ∙ takes.puts.greeting)

  -- the session that bytes find, where none waits
  pub there_taken : session_at taken.sessions.items on ≡ Some later
  there_taken =
      ap (λ (l : List (Option SessionState)). session_at l on) takes.puts.sessions
      ∙ get_or-set_same old.sessions.items on (Some later) None (omega (arith, known, serves.table))

  -- the engine stands for some history
  pub stands_taken : (now : History) × EngineStandsFor taken.engine base now
  stands_taken = by_end session.ended refl
    where
      by_end : (b : Bool) → session.ended ≡ b → (now : History) × EngineStandsFor taken.engine base now
      by_end true over =
          (history, subst (λ (e : Engine). EngineStandsFor e base history) (sym (takes.after_end over).1) serves.ready.behind.stands)
      by_end false going = let c = all_came going in (c.more ++ history, c.stands)
