-- What keeps a server one that can be asked: each session stays one that agrees with the history.
use Rattle.std.proofs.Common.{◌≡◌, ◌≢◌, ℕ, ◌<◌, ◌≤◌, List, [], ◌∷◌, ◌++◌, length, set, drop, take, Some, None, inl, inr, ◌⊎◌, refl, sym, ap, ◌∙◌, subst, arith}
use Rattle.std.specs.Prelude.{Option, IfSome, unwrap_or}
use Rattle.std.proofs.lemmas.Bool.{cases_lt}
use Rattle.std.proofs.lemmas.List.{drop_all, get_or_past, length-set}
use Rattle.mx_outside.specs.Disks.{Disk}
use Rattle.mx_row.specs.declared.tx.Tx.{Tx}
use Rattle.mx_session.specs.Sessions.{SessionState}
use Rattle.mx_model.specs.Bases.{Base}
use Rattle.mx_model.specs.Histories.{Confirmed, History, Left, Took, ledger_of}
use Rattle.mx_engine.specs.Standing.{EngineStandsFor}
use Rattle.mx_engine.specs.declared.engine.Engine.{Engine}
use Rattle.mx_journal.specs.declared.journal.Journal.{Journal}
use Rattle.mx_link.proofs.LinkLaws.{link_grows, link_opens, link_releases, link_sends}
use Rattle.mx_store.specs.Stores.{JournalHas}
use Rattle.mx_store.proofs.StoreLaws.{has_still}
use Rattle.mx_node.specs.declared.jobs.Arrival.{Arrival}
use Rattle.mx_node.specs.declared.single.Single.{Single}
use Rattle.mx_node.specs.Inputs.{max_connection}
use Rattle.mx_node.specs.Connections.{came_on}
use Rattle.mx_node.specs.Answering.{OnlyEngine, TakesBytes, all_sent, let_leave}
use Rattle.mx_node.specs.Ready.{Behind, Ready}
use Rattle.mx_node.specs.Serving.{CanServe, HasSession, IsLinked, Serves}
use Rattle.mx_node.specs.Starts.{Start}
use Rattle.mx_node.specs.Tables.{opened, session_at}
use Rattle.mx_node.proofs.CameLaws.{answers_take_none}
use Rattle.mx_node.proofs.ServerLaws.{each_session}

abbrev AreLinked : Base → History → Option SessionState → Type 0
AreLinked base history slot = IfSome slot (IsLinked base history)

linked_grows : (base : Base) (more history : History) (slot : Option SessionState) → AreLinked base history slot → AreLinked base (more ++ history) slot
linked_grows base more history None linked = tt
linked_grows base more history (Some session) (answers, greeting, came, gone, link) =
    (answers, greeting, came, gone, link_grows base history answers greeting came gone session link more)

linked_or_opened : (base : Base) (history : History) (slot : Option SessionState) (connection : ℕ) (greeting : List ℕ) → AreLinked base history slot
    → IsLinked base history (unwrap_or slot (opened connection greeting))
linked_or_opened base history None connection greeting linked =
    ([], greeting, [], [], link_opens base history connection greeting (opened connection greeting) refl)
linked_or_opened base history (Some session) connection greeting linked = linked

-- a node on which nothing came yet can be asked
pub can_serve : (start : Start) (server : Single) (history : History) (states : Option (List Disk)) → Serves start server [] history states → CanServe server states
can_serve start server history states serves = record {
  base = start.base;
  history = history;
  behind = serves.ready.behind;
  table = serves.table;
  links = λ connection. by_place connection (cases_lt connection (length server.sessions.items));
}
  where
    by_place : (connection : ℕ) → (connection < length server.sessions.items) ⊎ (length server.sessions.items ≤ connection)
        → AreLinked start.base history (session_at server.sessions.items connection)
    by_place connection (inl within) =
        subst (AreLinked start.base history) (sym (serves.sessions connection (omega (arith, within, serves.table)))) tt
    by_place connection (inr past) = subst (AreLinked start.base history) (sym (get_or_past server.sessions.items connection None past)) tt

module _ (old new : Single) (before after : Option (List Disk)) (serves : CanServe old before) where
  -- the history went on, and no session changed
  still : (more : History) → Behind serves.base (more ++ serves.history) new.engine new.journal after → new.sessions.items ≡ old.sessions.items → CanServe new after
  still more behind same = record {
    base = serves.base;
    history = more ++ serves.history;
    behind = behind;
    table = ap length same ∙ serves.table;
    links = λ connection.
        subst (λ (l : List (Option SessionState)). AreLinked serves.base (more ++ serves.history) (session_at l connection)) (sym same)
        (linked_grows serves.base more serves.history (session_at old.sessions.items connection) (serves.links connection));
  }

  -- and one did
  pub still_but : (more : History) (on : ℕ) (slot : Option SessionState) → Behind serves.base (more ++ serves.history) new.engine new.journal after
      → on ≤ max_connection → new.sessions.items ≡ set old.sessions.items on slot → AreLinked serves.base (more ++ serves.history) slot → CanServe new after
  still_but more on slot behind known table linked =
      let sessions = old.sessions.items in
      let within : on < length sessions = omega (arith, known, serves.table) in
      record {
        base = serves.base;
        history = more ++ serves.history;
        behind = behind;
        table = ap length table ∙ length-set sessions on slot ∙ serves.table;
        links = λ connection.
            subst (λ (l : List (Option SessionState)). AreLinked serves.base (more ++ serves.history) (session_at l connection)) (sym table)
            (each_session (λ _ found. AreLinked serves.base (more ++ serves.history) found) sessions on slot within linked connection
            (λ _. linked_grows serves.base more serves.history (session_at sessions connection) (serves.links connection)));
      }

-- bytes came
pub serves_taken : (old new : Single) (states : Option (List Disk)) (on : ℕ) (bytes : List ℕ) (arrival : Arrival) → on ≤ max_connection
    → TakesBytes on bytes old new arrival → CanServe old states → CanServe new states
serves_taken old new states on bytes arrival known takes serves =
    let base = serves.base in
    let history = serves.history in
    let (answers, greeting, came, gone, link) =
    linked_or_opened base history (session_at old.sessions.items on) on old.greeting (serves.links on) in
    let answered = takes.answers base history answers greeting came gone serves.behind.stands link in
    still_but old new states states serves answered.more on (Some takes.session) (record {
      stands = answered.at;
      has = subst (λ (j : Journal). JournalHas base (answered.more ++ history) j states) (sym takes.puts.journal)
          (has_still base answered.more history old.journal states answered.at.legal
          (answers_take_none base history answered.made answered.more answered.are) serves.behind.has);
    }) known takes.puts.sessions (answers ++ answered.made, greeting, came ++ bytes, gone, answered.link)

-- what was committed was written out
pub serves_turned : (old new : Single) (before after : Option (List Disk)) (serves : CanServe old before)
    → ((txs : List Tx) × (upto : ℕ) × Ready serves.base (Confirmed upto ∷ Took txs upto ∷ serves.history) new.engine new.journal after)
    → new.sessions.items ≡ old.sessions.items → CanServe new after
serves_turned old new before after serves (txs, upto, ready) same = still old new before after serves (Confirmed upto ∷ Took txs upto ∷ []) ready.behind same

-- the connection of a place left
pub serves_left : (old new : Single) (states : Option (List Disk)) (on : ℕ) → OnlyEngine old new
    → ((base : Base) (history : History) → EngineStandsFor old.engine base history → EngineStandsFor new.engine base (Left on ∷ history))
    → CanServe old states → CanServe new states
serves_left old new states on only left serves =
    let stands = left serves.base serves.history serves.behind.stands in
    still old new states states serves (Left on ∷ []) (record {
      stands = stands;
      has = subst (λ (j : Journal). JournalHas serves.base (Left on ∷ serves.history) j states) (sym only.journal)
          (has_still serves.base (Left on ∷ []) serves.history old.journal states stands.legal tt serves.behind.has);
    }) only.sessions

-- a session was forgotten, and its connection left or not
pub serves_forgotten : (old new : Single) (states : Option (List Disk)) (on : ℕ) → on ≤ max_connection → new.engine ≡ old.engine → new.journal ≡ old.journal
    → new.sessions.items ≡ set old.sessions.items on None → CanServe old states → CanServe new states
serves_forgotten old new states on known engine journal table serves =
    still_but old new states states serves [] on None (record {
      stands = subst (λ (e : Engine). EngineStandsFor e serves.base serves.history) (sym engine) serves.behind.stands;
      has = subst (λ (j : Journal). JournalHas serves.base serves.history j states) (sym journal) serves.behind.has;
    }) known table tt

pub serves_closed : (old new : Single) (states : Option (List Disk)) (on : ℕ) → on ≤ max_connection
    → ((base : Base) (history : History) → EngineStandsFor old.engine base history → EngineStandsFor new.engine base (Left on ∷ history))
    → new.journal ≡ old.journal → new.sessions.items ≡ set old.sessions.items on None → CanServe old states → CanServe new states
serves_closed old new states on known left journal table serves =
    let stands = left serves.base serves.history serves.behind.stands in
    still_but old new states states serves (Left on ∷ []) on None (record {
      stands = stands;
      has = subst (λ (j : Journal). JournalHas serves.base (Left on ∷ serves.history) j states) (sym journal)
          (has_still serves.base (Left on ∷ []) serves.history old.journal states stands.legal tt serves.behind.has);
    }) known table tt

-- replies were let go, and bytes were sent
linked_released : (base : Base) (history : History) (session : SessionState) (durable : ℕ) → durable ≡ (ledger_of base history).durable
    → IsLinked base history session → IsLinked base history (all_sent (let_leave durable session))
linked_released base history session durable is (answers, greeting, came, gone, link) =
    let left = let_leave durable session in
    let count = length left.out in
    let none : drop count left.out ≡ [] = drop_all count left.out (omega arith) in
    let released = link_releases base history answers greeting came gone session link durable left (omega (arith, is)) refl in (
      answers,
      greeting,
      came,
      gone ++ take count left.out,
      link_sends base history answers greeting came gone left released count (all_sent left) (λ i. record left { out = sym none i }),
    )

pub serves_released : (old new : Single) (states : Option (List Disk)) (on durable : ℕ) (place : Option SessionState) → on ≤ max_connection
    → ((base : Base) (history : History) → EngineStandsFor old.engine base history → durable ≡ (ledger_of base history).durable)
    → new.engine ≡ old.engine → new.journal ≡ old.journal → new.sessions.items ≡ set old.sessions.items on place
    → ((session : SessionState) → session_at old.sessions.items on ≡ Some session → place ≡ Some (all_sent (let_leave durable session)))
    → (session_at old.sessions.items on ≡ None → place ≡ None) → CanServe old states → CanServe new states
serves_released old new states on durable place known is engine journal table sent none serves =
    still_but old new states states serves [] on place (record {
      stands = subst (λ (e : Engine). EngineStandsFor e serves.base serves.history) (sym engine) serves.behind.stands;
      has = subst (λ (j : Journal). JournalHas serves.base serves.history j states) (sym journal) serves.behind.has;
    }) known table (by_place (session_at old.sessions.items on) refl (serves.links on))
  where
    by_place : (slot : Option SessionState) → session_at old.sessions.items on ≡ slot → AreLinked serves.base serves.history slot
        → AreLinked serves.base serves.history place
    by_place None there linked = subst (AreLinked serves.base serves.history) (sym (none there)) tt
    by_place (Some session) there linked =
        subst (AreLinked serves.base serves.history) (sym (sent session there))
        (linked_released serves.base serves.history session durable (is serves.base serves.history serves.behind.stands) linked)
