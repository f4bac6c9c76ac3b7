-- How a run ends whose units were all answered: the connections depart, and the journal is ended.
use Rattle.std.proofs.Common.{◌≡◌, ℕ, List, [], ◌++◌, Option, refl, sym, ap, ◌∙◌, subst}
use Rattle.std.specs.Prelude.{true, false, Some, Result, Ok, Err, OnOk, OnErr, IsSomeAnd}
use Rattle.std.proofs.lemmas.List.{append-nil}
use Rattle.mx_outside.specs.Disks.{Disk, IfKnown}
use Rattle.mx_node.specs.declared.out_units.OutUnit.{OutUnit}
use Rattle.mx_model.specs.Histories.{History, HasMemory, IsLegal}
use Rattle.mx_serial.specs.Replies.{told_in}
use Rattle.mx_serial.specs.Order.{order_in}
use Rattle.mx_directory.specs.Survival.{Lasts}
use Rattle.mx_node.specs.declared.single.Single.{Single}
use Rattle.mx_node.specs.Inputs.{InputUnit}
use Rattle.mx_node.specs.Outputs.{AnswersAll}
use Rattle.mx_node.specs.Starts.{Start}
use Rattle.mx_node.specs.Interrupted.{IsInterrupted}
use Rattle.mx_node.specs.Serving.{DirectoryHolds, Serves, EndedNode}
use Rattle.mx_node.proofs.AnsweringLaws.{determined, memory_before}
use Rattle.mx_node.proofs.KeepLaws.{ready_keeps, keep_unreplied}
use Rattle.mx_store.proofs.StoreLaws.{lasts_on}
use Rattle.mx_node.specs.Order.{AreWholeSteps}
use Rattle.mx_node.proofs.LastingLaws.{breaks_after}
use Rattle.mx_top.specs.Units.{units_of}
use Rattle.mx_top.specs.Stops.{IsDiskStop, are_in_order}
use Rattle.mx_top.specs.TraceOutput.{units_text}
use Rattle.mx_top.specs.Runs.{AtCompletion, AnswersRead, Held, IsOnlyOutput, IsOutput, OutputSeen}
use Rattle.mx_top.specs.declared.status.Status.{Status}
use Rattle.mx_top.specs.declared.status.Status.TheVariants as status
use Rattle.mx_top.specs.declared.stop.Stop.{Stop}
use Rattle.mx_top.specs.declared.stop.Stop.TheVariants.{BadInput, ReadFault, WriteFault, DiskFault, NoMemory}
use Rattle.mx_top.specs.Progress.{EndSeen, UnitsSeen, Wrote, WroteAll, status_of}
use Rattle.mx_top.proofs.ProgressLaws.{IsWhole, stopped_after, disk_fault, no_memory, answers_read_at}
use Rattle.mx_node.proofs.OrderLaws.{are_whole_order, whole_order_are, whole_order_of}

-- a server that served these units closes so, where it doesn't fail
abbrev pub Closes : (ended : Result (Unit {0}) Stop) (server : Single) (states now : Option (List Disk)) → Type 0
Closes ended server states now = (start : Start) (units : List InputUnit) (history : History) → Serves start server units history states
    → OnOk ended (EndedNode start units history states now)

-- and stops so, where it fails
abbrev pub Breaks : (ended : Result (Unit {0}) Stop) (server : Single) (states now : Option (List Disk)) → Type 0
Breaks ended server states now = (start : Start) (units : List InputUnit) (history : History) → Serves start server units history states
    → OnErr ended (IsInterrupted start.base history (AreWholeSteps units) states now)

-- at a status that is a completion all of it is said, and all of the output is there
pub record IsComplete (status : Status) : Type 1 where
  pub late : (P : Type 0) → P → AtCompletion status P
  pub whole : (start : Start) (units : List InputUnit) (history : History) (sent : List OutUnit) (before : List ℕ) (passed passed_now : Option (List ℕ))
      → IsOutput status start units history sent before (units_text sent) passed passed_now

pub well_formed : IsComplete status.Ok
well_formed = record { late = λ P shown. shown; whole = λ start units history sent before passed passed_now. refl }

pub malformed : (at : ℕ) → IsComplete (status.BadInput at)
malformed at = record { late = λ P shown. shown; whole = λ start units history sent before passed passed_now. refl }

-- no other output is due, where memory was there
only_output : (start : Start) (units : List InputUnit) (more answered : History) (sent : List OutUnit) → IsLegal start.base answered
    → AnswersAll start units answered sent → HasMemory (more ++ answered) → IsOnlyOutput start units (units_text sent)
only_output start units more answered sent legal answers memory = λ other others other_legal other_memory other_answers.
    ap units_text (determined start units answered other sent others legal (memory_before more answered memory) answers other_legal other_memory other_answers)

-- all units were answered, and then the connections departed and the journal was ended
pub completed : (status : Status) → IsComplete status → (start : Start) (input : List ℕ) (left : Option (List ℕ)) (server : Single)
    (output output_now : Held) (first states now : Option (List Disk))
    → ((rest : List ℕ) → left ≡ Some rest → AnswersRead status (units_of input).0 input rest)
    → (wrote : Wrote start server (units_of input).0 output output_now first states)
    → EndedNode start (units_of input).0 wrote.history states now → UnitsSeen status start input left output output_now first now
completed status is start input left server output output_now first states now consumed wrote closed =
    let base = start.base in
    let units = (units_of input).0 in
    let answered = wrote.history in
    let more = closed.since.0 in
    let whole : closed.history ≡ more ++ answered = closed.since.1 in
    let legal = subst (λ (h : History). IsLegal base h) whole closed.legal in
    let order : order_in (more ++ answered) ≡ whole_order_of units = ap order_in (sym whole) ∙ are_whole_order units (order_in closed.history) closed.order in
    let lasts : Lasts base (more ++ answered) states now = subst (λ (h : History). Lasts base h states now) whole closed.lasts in
    let told : told_in start.base (more ++ answered) ≡ told_in start.base answered = ap (told_in start.base) (sym whole) ∙ closed.told in
    let (stopped, same_steps) = breaks_after base more answered (whole_order_of units) (AreWholeSteps units) first now (whole_order_are units (whole_order_of units) refl) legal
    ([], append-nil (order_in (more ++ answered)) ∙ order) (lasts_on base more answered first states now wrote.lasts lasts)
    (keep_unreplied base more answered states now told (ready_keeps base answered server.engine server.journal states wrote.serves.ready) lasts) in
    record {
      units = units;
      others = [];
      all = append-nil units;
      consumed = consumed;
      answered = answered;
      sent = wrote.sent;
      answers = wrote.answers;
      gate = wrote.serves.ready.gate;
      stopped = stopped;
      complete = is.late _ (
        refl,
        whole_order_are units (order_in (stopped.later ++ answered)) (ap (λ (h : History). order_in (h ++ answered)) same_steps ∙ order),
      );
      holds = is.late _ (subst (λ (h : History). IfKnown now (λ disk past. DirectoryHolds base h disk))
          (whole ∙ ap (λ (h : History). h ++ answered) (sym same_steps)) closed.keeps);
      written = λ before was.
          subst (λ o. IsSomeAnd o (λ after. OutputSeen status start units answered (stopped.later ++ answered) wrote.sent before after output.passed output_now.passed))
          (sym (wrote.written before was)) (record {
            written = units_text wrote.sent;
            output = refl;
            is = is.whole start units answered wrote.sent before output.passed output_now.passed;
            determined = is.late _ (only_output start units stopped.later answered wrote.sent wrote.serves.ready.behind.stands.legal wrote.answers);
          });
    }

-- all units were answered, but the journal couldn't be ended
pub unfinished : (status : Status) → IsWhole status → (start : Start) (input : List ℕ) (left : Option (List ℕ)) (server : Single)
    (output output_now : Held) (first states now : Option (List Disk))
    → ((rest : List ℕ) → left ≡ Some rest → AnswersRead status (units_of input).0 input rest)
    → (wrote : Wrote start server (units_of input).0 output output_now first states)
    → IsInterrupted start.base wrote.history (AreWholeSteps (units_of input).0) states now
    → UnitsSeen status start input left output output_now first now
unfinished status is start input left server output output_now first states now consumed wrote stops =
    let units = (units_of input).0 in
    stopped_after status is start input left server units [] output output_now first states now (append-nil units) consumed wrote stops

-- ---- the end of the units

-- where they ended in order, all of them were answered
wrote_in_order : (ended : Result (Unit {0}) Stop) → are_in_order ended ≡ true → (start : Start) (input : List ℕ) (left : Option (List ℕ)) (server : Single)
    (output output_now : Held) (first states : Option (List Disk)) → EndSeen ended start input left server output output_now first states
    → WroteAll start input left server output output_now first states
wrote_in_order (Ok done) is start input left server output output_now first states seen = seen
wrote_in_order (Err (BadInput at)) is start input left server output output_now first states seen = seen
wrote_in_order (Err ReadFault) is start input left server output output_now first states seen = absurd cc
wrote_in_order (Err WriteFault) is start input left server output output_now first states seen = absurd cc
wrote_in_order (Err DiskFault) is start input left server output output_now first states seen = absurd cc
wrote_in_order (Err NoMemory) is start input left server output output_now first states seen = absurd cc

-- then the server was closed
pub seen_in_order : (ended : Result (Unit {0}) Stop) → are_in_order ended ≡ true → (done : Unit {0}) (start : Start) (input : List ℕ) (left : Option (List ℕ))
    (server : Single) (output output_now : Held) (first states now : Option (List Disk)) → Closes (Ok done) server states now
    → EndSeen ended start input left server output output_now first states → UnitsSeen (status_of ended) start input left output output_now first now
seen_in_order ended is done start input left server output output_now first states now closes seen =
    by_end ended is (wrote_in_order ended is start input left server output output_now first states seen)
  where
    by_end : (ended : Result (Unit {0}) Stop) → are_in_order ended ≡ true → WroteAll start input left server output output_now first states
        → UnitsSeen (status_of ended) start input left output output_now first now
    by_end (Ok d) is all =
        completed status.Ok well_formed start input left server output output_now first states now all.consumed all.wrote
        (closes start (units_of input).0 all.wrote.history all.wrote.serves)
    by_end (Err (BadInput at)) is all =
        completed (status.BadInput at) (malformed at) start input left server output output_now first states now
        (answers_read_at (status.BadInput at) (λ P. tt) (units_of input).0 input left all.consumed) all.wrote
        (closes start (units_of input).0 all.wrote.history all.wrote.serves)
    by_end (Err ReadFault) is all = absurd cc
    by_end (Err WriteFault) is all = absurd cc
    by_end (Err DiskFault) is all = absurd cc
    by_end (Err NoMemory) is all = absurd cc

-- or a fault of the directory or a failed allocation stopped that
pub seen_unclosed : (ended : Result (Unit {0}) Stop) → are_in_order ended ≡ true → (why : Stop) (start : Start) (input : List ℕ) (left : Option (List ℕ))
    (server : Single) (output output_now : Held) (first states now : Option (List Disk)) → IsDiskStop why → Breaks (Err why) server states now
    → EndSeen ended start input left server output output_now first states
    → UnitsSeen (status_of (Err why)) start input left output output_now first now
seen_unclosed ended is why start input left server output output_now first states now stops breaks seen =
    by_cause why stops breaks (wrote_in_order ended is start input left server output output_now first states seen)
  where
    by_cause : (why : Stop) → IsDiskStop why → Breaks (Err why) server states now → WroteAll start input left server output output_now first states
        → UnitsSeen (status_of (Err why)) start input left output output_now first now
    by_cause (BadInput at) stops breaks all = absurd stops
    by_cause ReadFault stops breaks all = absurd stops
    by_cause WriteFault stops breaks all = absurd stops
    by_cause DiskFault stops breaks all =
        unfinished status.DiskFault disk_fault start input left server output output_now first states now
        (answers_read_at status.DiskFault (λ P. tt) (units_of input).0 input left all.consumed) all.wrote
        (breaks start (units_of input).0 all.wrote.history all.wrote.serves)
    by_cause NoMemory stops breaks all =
        unfinished status.NoMemory no_memory start input left server output output_now first states now
        (answers_read_at status.NoMemory (λ P. tt) (units_of input).0 input left all.consumed) all.wrote
        (breaks start (units_of input).0 all.wrote.history all.wrote.serves)

-- where they didn't end in order, that was the end
pub seen_as_it_is : (ended : Result (Unit {0}) Stop) → are_in_order ended ≡ false → (start : Start) (input : List ℕ) (left : Option (List ℕ)) (server : Single)
    (output output_now : Held) (first states : Option (List Disk)) → EndSeen ended start input left server output output_now first states
    → UnitsSeen (status_of ended) start input left output output_now first states
seen_as_it_is (Ok done) is start input left server output output_now first states seen = absurd cc
seen_as_it_is (Err (BadInput at)) is start input left server output output_now first states seen = absurd cc
seen_as_it_is (Err ReadFault) is start input left server output output_now first states seen = seen
seen_as_it_is (Err WriteFault) is start input left server output output_now first states seen = seen
seen_as_it_is (Err DiskFault) is start input left server output output_now first states seen = seen
seen_as_it_is (Err NoMemory) is start input left server output output_now first states seen = seen
