-- What a server has done once it has answered a unit.
use Rattle.std.proofs.Common.{◌≡◌, ◌≢◌, ℕ, ◌<◌, ◌≤◌, Bool, true, false, not, List, [], ◌∷◌, ◌++◌, length, set, map, Some, None, inl, inr, ◌⊎◌, refl, sym, ap, ◌∙◌, subst, arith}
use Rattle.std.specs.Prelude.{Option, IfSome, unwrap_or, ◌==◌, if◌then◌else◌}
use Rattle.std.proofs.lemmas.Bool.{cases_lt, eqb-true, eqb-false}
use Rattle.std.proofs.lemmas.List.{append-nil, append_assoc, length-append, length-set, get_or-set_same, get_or-set_other, set-get_or, get_or_past}
use Rattle.mx_outside.specs.Disks.{Disk}
use Rattle.mx_frame.specs.Packets.{rest_of}
use Rattle.mx_frame.proofs.FrameLaws.{rest_of-append}
use Rattle.mx_session.specs.declared.job.Job.{Job}
use Rattle.mx_session.specs.Jobs.{ends, jobs_of}
use Rattle.mx_session.specs.Sessions.{SessionState}
use Rattle.mx_model.specs.Bases.{Base}
use Rattle.mx_model.specs.Histories.{History, Left}
use Rattle.mx_serial.specs.Replies.{told_now}
use Rattle.mx_serial.specs.Order.{Step, order_in}
use Rattle.mx_serial.specs.ReplyStream.{packets_of_replies}
use Rattle.mx_engine.specs.declared.engine.Engine.{Engine}
use Rattle.mx_engine.specs.Standing.{EngineStandsFor}
use Rattle.mx_journal.specs.declared.journal.Journal.{Journal}
use Rattle.mx_node.specs.declared.single.Single.{Single}
use Rattle.mx_node.specs.Inputs.{InputUnit, Bytes, Close, connection_of, max_connection}
use Rattle.mx_node.specs.Connections.{came_after, came_on, is_open, AreOf}
use Rattle.mx_node.specs.Order.{departure_where, written_out}
use Rattle.mx_link.specs.Asks.{sync_of}
use Rattle.mx_node.specs.Starts.{Start, start_greeting}
use Rattle.mx_node.specs.Outputs.{sent_on, closed_on, output_for}
use Rattle.mx_node.specs.declared.out_units.OutUnit.{OutUnit}
use Rattle.mx_node.specs.Ready.{Ready, AnswersJobs, TakenAll}
use Rattle.mx_node.specs.Answering.{AnswersBeforeEnd, OnlyEngine, all_sent, closed_where}
use Rattle.mx_directory.specs.Survival.{Lasts}
use Rattle.mx_node.specs.Serving.{Attends, CanServe, HasSession, Serves, AnswersUnit}
use Rattle.mx_node.specs.Tables.{IsTable, goes_on, opened, session_at}
use Rattle.mx_link.proofs.PieceLaws.{ends-nothing, ends-piece, ends-stays, rest_of-nothing}
use Rattle.mx_node.proofs.ConnectionLaws.{came_elsewhere, came_here, none_came, came_on-push}
use Rattle.mx_store.proofs.StoreLaws.{has_still, lasts_longer, lasts_none}
use Rattle.mx_node.proofs.OrderLaws.{are_order, order_are-push, order_by, order_of, order_by-ended, order_by-nothing, order_by-open, order_of_more, order_of-push}
use Rattle.mx_node.proofs.OutputLaws.{opening, opening-ended, output_for-ended, output_for-left, output_for-nothing, output_for-open}
use Rattle.mx_node.proofs.RepliesLaws.{HasReplies, jobs_now-open, jobs_of-whose, replies_of_order, same_twice}
use Rattle.mx_node.proofs.TableLaws.{left_by, left_by-order, left_by-since, there_where}

-- ---- a table in which one place changed

table_same : (sessions : List (Option SessionState)) (connection : ℕ) (slot : Option SessionState) → IsTable sessions → IsTable (set sessions connection slot)
table_same sessions connection slot table = length-set sessions connection slot ∙ table

-- what holds of the sessions of all connections still does, where it does of the new one
pub each_session : (P : ℕ → Option SessionState → Type 0) (sessions : List (Option SessionState)) (on : ℕ) (slot : Option SessionState) → on < length sessions
    → P on slot → (number : ℕ) → (number ≢ on → P number (session_at sessions number)) → P number (session_at (set sessions on slot) number)
each_session P sessions on slot within new number others = by_test (number == on) refl
  where
    by_test : (same : Bool) → (number == on) ≡ same → P number (session_at (set sessions on slot) number)
    by_test true is =
        let same : number ≡ on = eqb-true number on is in
        subst (λ (n : ℕ). P n (session_at (set sessions on slot) n)) (sym same) (subst (P on) (sym (get_or-set_same sessions on slot None within)) new)
    by_test false is =
        let other : number ≢ on = eqb-false number on is in
        subst (P number) (sym (get_or-set_other sessions on number slot None other)) (others other)

-- ---- a connection that leaves

pub ready_left : (base : Base) (history : History) (old new : Engine) (journal : Journal) (states : Option (List Disk)) (on : ℕ)
    → Ready base history old journal states → EngineStandsFor new base (Left on ∷ history) → Ready base (Left on ∷ history) new journal states
ready_left base history old new journal states on ready stands = record {
  behind = record {
    stands = stands;
    has = has_still base (Left on ∷ []) history journal states stands.legal tt ready.behind.has;
  };
  taken = ready.taken;
  gate = ready.gate;
}

-- the same where it perhaps left
ready_told : (base : Base) (history : History) (old new : Engine) (journal : Journal) (states : Option (List Disk)) (on : ℕ) (ended : Bool)
    → Ready base history old journal states → EngineStandsFor new base (if ended then Left on ∷ history else history)
    → Ready base (left_by on (not ended) history) new journal states
ready_told base history old new journal states on true ready stands = ready_left base history old new journal states on ready stands
ready_told base history old new journal states on false ready stands = record {
  behind = record { stands = stands; has = ready.behind.has };
  taken = ready.taken;
  gate = ready.gate;
}

-- ---- one unit more

-- What the answering of a unit gave, and what is in its connection's place now.
pub record Gave (start : Start) (old new : Single) (units : List InputUnit) (earlier : History) (unit : InputUnit) (output : List OutUnit) (before after : Option (List Disk)) : Type 0 where
  pub history : History
  pub since : (more : History) × (history ≡ more ++ earlier)
  pub lasts : Lasts start.base history before after
  pub ready : Ready start.base history new.engine new.journal after
  pub order : order_in history ≡ order_in earlier ++ order_by units unit
  pub writes : output ≡ output_for start units earlier unit history
  pub greeting : new.greeting ≡ old.greeting
  pub slot : Option SessionState
  pub table : new.sessions.items ≡ set old.sessions.items (connection_of unit) slot
  pub has : HasSession (connection_of unit) (came_after (connection_of unit) (came_on (connection_of unit) units) unit) slot

module _ (start : Start) (old new : Single) (units : List InputUnit) (earlier : History) (unit : InputUnit) (output : List OutUnit) (before after : Option (List Disk))
    (serves : Serves start old units earlier before) (known : connection_of unit ≤ max_connection)
    (gave : Gave start old new units earlier unit output before after) where
  session_now : (connection : ℕ) → connection ≤ max_connection
      → HasSession connection (came_on connection (units ++ unit ∷ [])) (session_at new.sessions.items connection)
  session_now connection within =
      let on = connection_of unit in
      let sessions = old.sessions.items in
      let inside : on < length sessions = omega (arith, known, serves.table) in
      let one = each_session (λ number found. HasSession number (came_after number (came_on number units) unit) found) sessions on gave.slot inside gave.has
      connection (λ other.
      subst (λ (came : List ℕ). HasSession connection came (session_at sessions connection)) (sym (came_elsewhere unit connection (came_on connection units) other))
      (serves.sessions connection within)) in
      subst (λ (came : List ℕ). HasSession connection came (session_at new.sessions.items connection)) (sym (came_on-push connection units unit))
      (subst (λ (l : List (Option SessionState)). HasSession connection (came_after connection (came_on connection units) unit) (session_at l connection))
      (sym gave.table) one)

  order_more : order_in gave.since.0 ≡ order_by units unit
  order_more = order_of_more gave.history gave.since.0 earlier (order_by units unit) gave.since.1 gave.order

  serves_now : Serves start new (units ++ unit ∷ []) gave.history after
  serves_now = record {
    greeting = gave.greeting ∙ serves.greeting;
    ready = gave.ready;
    order = order_are-push units unit (order_in gave.history)
        (gave.order ∙ ap (λ (l : List Step). l ++ order_by units unit) (are_order units (order_in earlier) serves.order));
    table = ap length gave.table ∙ table_same old.sessions.items (connection_of unit) gave.slot serves.table;
    sessions = session_now;
  }

  pub took : AnswersUnit start new units earlier unit output before after
  took = record {
    more = gave.since.0;
    history = gave.history;
    since = gave.since.1;
    order = order_more;
    lasts = gave.lasts;
    serves = serves_now;
    is = gave.writes;
  }

-- ---- a unit without bytes

pub gave_nothing : (start : Start) (server : Single) (units : List InputUnit) (history : History) (on : ℕ) (states : Option (List Disk))
    → Serves start server units history states → on ≤ max_connection → Gave start server server units history (Bytes on []) [] states states
gave_nothing start server units history on states serves known =
    let came = came_on on units in
    let slot = session_at server.sessions.items on in
    record {
      history = history;
      since = ([], refl);
      lasts = lasts_none start.base history states;
      ready = serves.ready;
      order = sym (append-nil (order_in history)) ∙ ap (λ (l : List Step). order_in history ++ l) (sym (order_by-nothing units on));
      writes = sym (output_for-nothing start units history on);
      greeting = refl;
      slot = slot;
      table = sym (set-get_or server.sessions.items on None);
      has = subst (λ (l : List ℕ). HasSession on l slot) (sym (came_here on came [] ∙ append-nil came)) (serves.sessions on known);
    }

nothing_in : (bytes : List ℕ) → (length bytes == 0) ≡ true → bytes ≡ []
nothing_in [] is = refl
nothing_in (byte ∷ bytes) is = let none = eqb-true (length (byte ∷ bytes)) 0 is in absurd (omega (arith, none))

pub some_in : (bytes : List ℕ) → (length bytes == 0) ≡ false → 0 < length bytes
some_in [] is = absurd cc
some_in (byte ∷ bytes) is = omega arith

pub took_nothing : (start : Start) (server : Single) (units : List InputUnit) (history : History) (on : ℕ) (bytes : List ℕ) (output : List OutUnit) (states : Option (List Disk))
    → Serves start server units history states → on ≤ max_connection → (length bytes == 0) ≡ true → output ≡ []
    → AnswersUnit start server units history (Bytes on bytes) output states states
took_nothing start server units history on bytes output states serves known none silent =
    subst (λ (l : List ℕ). AnswersUnit start server units history (Bytes on l) output states states) (sym (nothing_in bytes none))
    (subst (λ (l : List OutUnit). AnswersUnit start server units history (Bytes on []) l states states) (sym silent)
    (took start server server units history (Bytes on []) [] states states serves known (gave_nothing start server units history on states serves known)))

-- ---- a close

module _ (start : Start) (old new : Single) (units : List InputUnit) (earlier : History) (on : ℕ) (states : Option (List Disk)) (stays : Bool) where
  -- the connection leaves, unless it wasn't there
  pub gave_close : Serves start old units earlier states → is_open on (came_on on units) ≡ not stays
      → Ready start.base (left_by on stays earlier) new.engine new.journal states → new.greeting ≡ old.greeting
      → new.sessions.items ≡ set old.sessions.items on None → Gave start old new units earlier (Close on) [] states states
  gave_close serves there ready greeting table = record {
    history = left_by on stays earlier;
    since = left_by-since on stays earlier (left_by on stays earlier) ([], refl);
    lasts = lasts_none start.base (left_by on stays earlier) states;
    ready = ready;
    order = left_by-order on stays (is_open on (came_on on units)) earlier there;
    writes = refl;
    greeting = greeting;
    slot = None;
    table = table;
    has = subst (λ (l : List ℕ). HasSession on l None) (sym (none_came on (came_on on units))) refl;
  }

-- a close was taken: what the table says of its connection is what the units do
pub took_close : (start : Start) (old new : Single) (units : List InputUnit) (earlier : History) (on : ℕ) (states : Option (List Disk)) (stays : Bool)
    (places : List (Option SessionState)) (output : List OutUnit) → Serves start old units earlier states → on ≤ max_connection → places ≡ old.sessions.items
    → goes_on (session_at places on) ≡ not stays → Ready start.base (left_by on stays earlier) new.engine new.journal states → new.greeting ≡ old.greeting
    → new.sessions.items ≡ set old.sessions.items on None → output ≡ [] → AnswersUnit start new units earlier (Close on) output states states
took_close start old new units earlier on states stays places output serves known same goes ready greeting table silent =
    let there : is_open on (came_on on units) ≡ not stays =
    there_where on (came_on on units) (session_at old.sessions.items on) (serves.sessions on known)
    ∙ ap (λ (l : List (Option SessionState)). goes_on (session_at l on)) (sym same) ∙ goes in
    subst (λ (l : List OutUnit). AnswersUnit start new units earlier (Close on) l states states) (sym silent)
    (took start old new units earlier (Close on) [] states states serves known
    (gave_close start old new units earlier on states stays serves there ready greeting table))

-- ---- bytes

-- what was added to nothing
pub added_to_nothing : (all first more : List OutUnit) → all ≡ first ++ more → first ≡ [] → all ≡ more
added_to_nothing all first more is none = is ∙ ap (λ (l : List OutUnit). l ++ more) none

-- The session that bytes find: those before them are answered, and the greeting is to be sent where they are the first ones.
pub record Meets (start : Start) (on : ℕ) (came bytes : List ℕ) (session : SessionState) : Type 0 where
  pub whose : session.connection ≡ on
  pub idle : session.waiting ≡ []
  pub sends : session.out ≡ opening start came bytes
  pub ended : session.ended ≡ ends on came
  pub rest : session.ended ≡ false → session.rest ≡ rest_of came

pub meets : (start : Start) (on : ℕ) (came bytes : List ℕ) (slot : Option SessionState) (greeting : List ℕ) → 0 < length bytes
    → greeting ≡ start_greeting start → HasSession on came slot → Meets start on came bytes (unwrap_or slot (opened on greeting))
meets start on came [] slot greeting some greets has = absurd (omega (arith, some))
meets start on [] (byte ∷ bytes) None greeting some greets has = record {
  whose = refl;
  idle = refl;
  sends = greets;
  ended = sym (ends-nothing on);
  rest = λ goes_on. sym rest_of-nothing;
}
meets start on [] (byte ∷ bytes) (Some session) greeting some greets has = absurd cc
meets start on (first ∷ came) (byte ∷ bytes) None greeting some greets has = absurd has
meets start on (first ∷ came) (byte ∷ bytes) (Some session) greeting some greets has = record {
  whose = has.whose;
  idle = has.idle;
  sends = has.sent;
  ended = has.ended;
  rest = has.rest;
}

-- what the answering of bytes made of a session, an engine, a journal and a directory
pub record Answered (base : Base) (earlier : History) (was now : Engine) (old new : Journal) (before after : Option (List Disk))
    (session later : SessionState) (bytes : List ℕ) (ended : Bool) : Type 0 where
  pub says : ended ≡ (if session.ended then false else ends session.connection (session.rest ++ bytes))
  pub dropped : session.ended ≡ true → (later ≡ session) × (now ≡ was) × (new ≡ old) × (after ≡ before)
  pub answers : session.ended ≡ false
      → AnswersJobs base earlier now new before after (jobs_of session.connection (session.rest ++ bytes)) session.out later.out
  pub taken : session.ended ≡ false → TakenAll (record session { rest = session.rest ++ bytes }) later

-- what was done for bytes, but for the end of their connection
pub record Did (start : Start) (units : List InputUnit) (earlier : History) (on : ℕ) (bytes : List ℕ) (engine : Engine) (journal : Journal)
    (before after : Option (List Disk)) (later : SessionState) (ended : Bool) : Type 0 where
  pub history : History
  pub since : (more : History) × (history ≡ more ++ earlier)
  pub lasts : Lasts start.base history before after
  pub ready : Ready start.base history engine journal after
  pub order : order_in history ++ departure_where on ended ≡ order_in earlier ++ order_by units (Bytes on bytes)
  pub writes : sent_on on later.out ++ closed_where on ended ≡ output_for start units earlier (Bytes on bytes) history
  pub attends : Attends on (came_on on units ++ bytes) (record later { out = [] })

module _ (start : Start) (units : List InputUnit) (earlier : History) (on : ℕ) (bytes : List ℕ) (was now : Engine) (old new : Journal)
    (before after : Option (List Disk)) (session later : SessionState) (ended : Bool) (ready : Ready start.base earlier was old before)
    (had : HasReplies start.base on (came_on on units) earlier)
    (met : Meets start on (came_on on units) bytes session) (answered : Answered start.base earlier was now old new before after session later bytes ended) where
  -- bytes after the end are dropped
  did_after_end : session.ended ≡ true → Did start units earlier on bytes now new before after later ended
  did_after_end over =
      let (same, same_engine, same_journal, same_states) = answered.dropped over in
      let is_over : ends on (came_on on units) ≡ true = sym met.ended ∙ over in
      let goes_on : ended ≡ false = answered.says ∙ ap (λ (b : Bool). if b then false else ends session.connection (session.rest ++ bytes)) over in
      let nothing : later.out ≡ [] = ap (λ (s : SessionState). s.out) same ∙ met.sends ∙ opening-ended start on (came_on on units) bytes is_over in
      record {
        history = earlier;
        since = ([], refl);
        lasts = subst (Lasts start.base earlier before) (sym same_states) (lasts_none start.base earlier before);
        ready = subst (λ (e : Engine). Ready start.base earlier e new after) (sym same_engine)
            (subst (λ (j : Journal). Ready start.base earlier was j after) (sym same_journal) (subst (Ready start.base earlier was old) (sym same_states) ready));
        order = ap (λ (b : Bool). order_in earlier ++ departure_where on b) goes_on
            ∙ ap (λ (l : List Step). order_in earlier ++ l) (sym (order_by-ended units on (came_on on units) bytes refl is_over));
        writes = ap (λ (l : List ℕ). sent_on on l ++ closed_where on ended) nothing ∙ ap (closed_where on) goes_on
            ∙ sym (output_for-ended start units on (came_on on units) bytes refl earlier is_over);
        attends = record {
          whose = ap (λ (s : SessionState). s.connection) same ∙ met.whose;
          idle = ap (λ (s : SessionState). s.waiting) same ∙ met.idle;
          sent = refl;
          ended = ap (λ (s : SessionState). s.ended) same ∙ over ∙ sym (ends-stays on (came_on on units) bytes is_over);
          rest = λ not_over. let not_so : true ≡ false = sym over ∙ ap (λ (s : SessionState). s.ended) (sym same) ∙ not_over in absurd cc;
        };
      }

  all_bytes : session.ended ≡ false → session.rest ++ bytes ≡ rest_of (came_on on units) ++ bytes
  all_bytes goes_on = ap (λ (l : List ℕ). l ++ bytes) (met.rest goes_on)

  all_jobs : session.ended ≡ false → jobs_of session.connection (session.rest ++ bytes) ≡ jobs_of on (rest_of (came_on on units) ++ bytes)
  all_jobs goes_on = ap (λ (n : ℕ). jobs_of n (session.rest ++ bytes)) met.whose ∙ ap (jobs_of on) (all_bytes goes_on)

  all_ends : session.ended ≡ false → ends session.connection (session.rest ++ bytes) ≡ ends on (rest_of (came_on on units) ++ bytes)
  all_ends goes_on = ap (λ (n : ℕ). ends n (session.rest ++ bytes)) met.whose ∙ ap (ends on) (all_bytes goes_on)

  attends_on : session.ended ≡ false → Attends on (came_on on units ++ bytes) (record later { out = [] })
  attends_on goes_on =
      let taken = answered.taken goes_on in
      let open_before : ends on (came_on on units) ≡ false = sym met.ended ∙ goes_on in
      record {
        whose = taken.whose ∙ met.whose;
        idle = taken.idle;
        sent = refl;
        ended = taken.ended ∙ all_ends goes_on ∙ sym (ends-piece on (came_on on units) bytes open_before);
        rest = λ still. taken.rest still ∙ ap rest_of (all_bytes goes_on) ∙ sym (rest_of-append (came_on on units) bytes);
      }

  -- the jobs of an open connection are answered
  did_open : session.ended ≡ false → Did start units earlier on bytes now new before after later ended
  did_open goes_on =
      let answers = answered.answers goes_on in
      let open_before : ends on (came_on on units) ≡ false = sym met.ended ∙ goes_on in
      let jobs = jobs_of on (rest_of (came_on on units) ++ bytes) in
      let same_jobs = all_jobs goes_on in
      let same_end : ended ≡ ends on (rest_of (came_on on units) ++ bytes) =
      answered.says ∙ ap (λ (b : Bool). if b then false else ends session.connection (session.rest ++ bytes)) goes_on ∙ all_ends goes_on in
      let told : told_now start.base on answers.history ≡ told_now start.base on earlier ++ answers.replies =
      answers.told on (subst (AreOf on) (sym same_jobs) (jobs_of-whose on (rest_of (came_on on units) ++ bytes))) in
      let each : length answers.replies ≡ length jobs = answers.each ∙ ap length same_jobs in
      let so_far : length (told_now start.base on earlier) ≡ length (jobs_of on (came_on on units)) =
      had ∙ ap length (jobs_now-open on (came_on on units) open_before) in
      let output : later.out ≡ opening start (came_on on units) bytes ++ packets_of_replies (map sync_of jobs) answers.replies =
      answers.output ∙ ap (λ (l : List ℕ). l ++ packets_of_replies (map sync_of (jobs_of session.connection (session.rest ++ bytes))) answers.replies) met.sends
      ∙ ap (λ (l : List Job). opening start (came_on on units) bytes ++ packets_of_replies (map sync_of l) answers.replies) same_jobs in
      record {
        history = answers.history;
        since = answers.since;
        lasts = answers.lasts;
        ready = answers.ready;
        order = ap (λ (l : List Step). l ++ departure_where on ended)
            (answers.order ∙ ap (λ (l : List Job). order_in earlier ++ written_out l) same_jobs)
            ∙ append_assoc (order_in earlier) (written_out jobs) (departure_where on ended)
            ∙ ap (λ (b : Bool). order_in earlier ++ (written_out jobs ++ departure_where on b)) same_end
            ∙ ap (λ (l : List Step). order_in earlier ++ l) (sym (order_by-open units on (came_on on units) bytes refl open_before));
        writes = ap (λ (l : List ℕ). sent_on on l ++ closed_where on ended) output
            ∙ ap (λ (b : Bool). sent_on on (opening start (came_on on units) bytes ++ packets_of_replies (map sync_of jobs) answers.replies)
            ++ closed_where on b) same_end
            ∙ sym (output_for-open start units on (came_on on units) bytes refl earlier answers.history answers.replies open_before so_far told each);
        attends = attends_on goes_on;
      }

  pub did : Did start units earlier on bytes now new before after later ended
  did = by_end session.ended refl
    where
      by_end : (b : Bool) → session.ended ≡ b → Did start units earlier on bytes now new before after later ended
      by_end true over = did_after_end over
      by_end false goes_on = did_open goes_on

has_some : (on : ℕ) (bytes : List ℕ) (session : SessionState) → 0 < length bytes → Attends on bytes session → HasSession on bytes (Some session)
has_some on [] session some attends = absurd (omega (arith, some))
has_some on (byte ∷ bytes) session some attends = attends

since_both : (first earlier all : History) → (more : History) × (first ≡ more ++ earlier) → (more : History) × (all ≡ more ++ first)
    → (more : History) × (all ≡ more ++ earlier)
since_both first earlier all (more, is) (later, on) = (later ++ more, on ∙ ap (λ (l : History). later ++ l) is ∙ sym (append_assoc later more earlier))

lasts_since : (base : Base) (first all : History) (before after : Option (List Disk)) → (more : History) × (all ≡ more ++ first) → Lasts base first before after
    → Lasts base all before after
lasts_since base first all before after (more, is) lasts =
    subst (λ (h : History). Lasts base h before after) (sym is) (lasts_longer base more first before after lasts)

-- what bytes brought was answered, and the connection left, where they ended it
pub took_bytes : (start : Start) (old new last : Single) (units : List InputUnit) (earlier : History) (on : ℕ) (bytes : List ℕ) (first output : List OutUnit)
    (before after : Option (List Disk)) (ended : Bool) → Serves start old units earlier before → on ≤ max_connection → 0 < length bytes
    → (done : AnswersBeforeEnd start units earlier on bytes old new before after first ended)
    → EngineStandsFor last.engine start.base (if ended then Left on ∷ done.history else done.history)
    → output ≡ first ++ closed_where on ended → OnlyEngine new last → AnswersUnit start last units earlier (Bytes on bytes) output before after
took_bytes start old new last units earlier on bytes first output before after ended serves known some done stands writes only =
    let came = came_on on units in
    let all = left_by on (not ended) done.history in
    let since = left_by-since on (not ended) done.history all ([], refl) in
    let longer : 0 < length (came ++ bytes) = omega (arith, some, length-append came bytes) in
    let steps : order_in done.history ++ departure_where on ended ≡ order_of units ++ order_by units (Bytes on bytes) =
    are_order (units ++ Bytes on bytes ∷ []) (order_in done.history ++ departure_where on ended) done.order ∙ order_of-push units (Bytes on bytes) in
    took start old last units earlier (Bytes on bytes) output before after serves known (record {
      history = all;
      since = since_both done.history earlier all done.since since;
      lasts = lasts_since start.base done.history all before after since done.lasts;
      ready = subst (λ (j : Journal). Ready start.base all last.engine j after) (sym only.journal)
          (ready_told start.base done.history new.engine last.engine new.journal after on ended done.ready stands);
      order = left_by-order on (not ended) ended done.history (same_twice ended) ∙ steps
          ∙ ap (λ (l : List Step). l ++ order_by units (Bytes on bytes)) (sym (are_order units (order_in earlier) serves.order));
      writes = writes ∙ done.writes ∙ sym (output_for-left start units earlier (Bytes on bytes) on (not ended) done.history);
      greeting = only.greeting ∙ done.greeting;
      slot = Some done.session;
      table = only.sessions ∙ done.table;
      has = subst (λ (l : List ℕ). HasSession on l (Some done.session)) (sym (came_here on came bytes)) (has_some on (came ++ bytes) done.session longer done.attends);
    })
